-- Two runs in which a unit met the same, and a WRITE that fits.
use Rattle.std.proofs.Common.{◌≡◌, ◌≢◌, ℕ, ◌≤◌, true, false, [], List, length, take, Result, Ok, refl, sym, ap, subst}
use Rattle.std.proofs.Common.{◌∙◌, arith}
use Rattle.std.specs.Prelude.{◌==◌, ◌+◌, ◌*◌, Bool}
use Rattle.std.proofs.lemmas.Bool.Decides.{nat_tests}
use Rattle.ar_disks.specs.declared.address.Host.{Host}
use Rattle.ar_scsi.specs.declared.command.Command.{Command}
use Rattle.ar_scsi.specs.declared.command.Command.TheVariants.{Write}
use Rattle.ar_scsi.specs.declared.reply.Reply.{Reply}
use Rattle.ar_scsi.specs.declared.reply.Status.TheVariants.{Busy}
use Rattle.ar_scsi.specs.declared.sense.Sense.{Sense}
use Rattle.ar_scsi.specs.Reading.{reading}
use Rattle.ar_scsi.specs.Reply.{good}
use Rattle.ar_unit.specs.Sectors.{Sector, written}
use Rattle.ar_unit.specs.Unit.{UnitState, Present, UnitEntry, Answered, answer, obeyed, unit_run, is_past_end, leaving}
use Rattle.ar_unit.specs.Unit.{IsServed}
use Rattle.ar_volume.specs.Image.{ArrayState, is_broken, image, image_at}
use Rattle.ar_volume.proofs.Images.{image_here}
use Rattle.ar_core.specs.declared.event.EventOf.TheVariants.{Cmd as CmdEvent}
use Rattle.ar_core.specs.declared.event.OutcomeOf.TheVariants.{Cmd as CmdOutcome}
use Rattle.ar_core.specs.Run.{IsIsolated, own, unit_before}
use Rattle.ar_core.specs.Step.{Steps, addr_in}
use Rattle.ar_core.specs.Laws.{RunOf, IsAlikeAt, IsShapedAlikeAt, IsAnsweredSoundly, IsAnsweredBroken, IsWriteWithin}
use Rattle.ar_unit.specs.Broken.{Shape, shape_of, broken_answer}
use Rattle.ar_unit.proofs.Laws.{broken_answer-is}
use Rattle.ar_volume.specs.Sectors.{Address}
use Rattle.ar_core.proofs.Isolation.{unit_run-shape}

-- what a unit is that began so and met these
pub same_reply : (one other : RunOf) (k j : ℕ) (host : Host) (lun : ℕ) (cdb payload : List ℕ)
    (reply reported_to : Reply)
    → IsIsolated one.first one.turns one.states → IsIsolated other.first other.turns other.states
    → IsAlikeAt (host.number, lun) one k other j
    → IsAnsweredSoundly one k host lun cdb payload reply → IsAnsweredSoundly other j host lun cdb payload reported_to
    → reply ≡ reported_to
same_reply one other k j host lun cdb payload reply reported_to isolated apart alike here there =
    let before : unit_before one.first (host.number, lun) one.turns k
    ≡ unit_before other.first (host.number, lun) other.turns j =
    ap (λ (u : UnitState). unit_run u (own (host.number, lun) (take k one.turns))) alike.begun
    ∙ ap (λ (es : List UnitEntry). unit_run (image other.first (host.number, lun)) es) alike.met in
    isolated.sound k host lun cdb payload reply here.new here.answered here.after here.sound
    ∙ ap (λ (u : UnitState). (answer u cdb payload).reply) before
    ∙ sym (apart.sound j host lun cdb payload reported_to there.new there.answered there.after there.sound)

-- the same of arrays that have lost their data, by the shape with which the unit began
pub same_broken_reply : (one other : RunOf) (k j : ℕ) (host : Host) (lun : ℕ) (cdb payload : List ℕ)
    (reply reported_to : Reply)
    → IsIsolated one.first one.turns one.states → IsIsolated other.first other.turns other.states
    → IsShapedAlikeAt (host.number, lun) one k other j
    → IsAnsweredBroken one k host lun cdb payload reply → IsAnsweredBroken other j host lun cdb payload reported_to
    → reply ≡ reported_to
same_broken_reply one other k j host lun cdb payload reply reported_to isolated apart alike here there =
    let a : Address = (host.number, lun) in
    let before : shape_of (unit_before one.first a one.turns k) ≡ shape_of (unit_before other.first a other.turns j) =
    unit_run-shape (own a (take k one.turns)) (image one.first a) (image other.first a) alike.begun
    ∙ ap (λ (es : List UnitEntry). shape_of (unit_run (image other.first a) es)) alike.met in
    isolated.broken k host lun cdb payload reply here.new here.answered here.after here.broken
    ∙ sym (broken_answer-is (unit_before one.first a one.turns k) cdb payload)
    ∙ ap (λ (s : Shape). broken_answer s cdb (length payload)) before
    ∙ broken_answer-is (unit_before other.first a other.turns j) cdb payload
    ∙ sym (apart.broken j host lun cdb payload reported_to there.new there.answered there.after there.broken)

-- the range doesn't end past the unit, and the data are as long as it asks
within : (n lba count : ℕ) → lba + count ≤ n → is_past_end n lba count ≡ false
within n lba count few = grind (arith, nat_tests)

as_long : (n m : ℕ) → n ≡ m → (n == m) ≡ true
as_long n m same = grind (arith, nat_tests)

-- the table's answer to a WRITE that fits
fits : (sectors : List Sector) (lba count : ℕ) (fua : Bool) (payload : List ℕ) → lba + count ≤ length sectors
    → length payload ≡ count * 512
    → obeyed sectors false (Ok (Write lba count fua)) payload
    ≡ leaving (Present (written sectors lba count payload) false) (good [])
unfolding obeyed
fits sectors lba count fua payload inside len =
    rw (within (length sectors) lba count inside) (rw (as_long (length payload) (count * 512) len) refl)

reported_to : (sectors : List Sector) (cdb payload : List ℕ) (command : Result Command Sense) → reading cdb ≡ command
    → answer (Present sectors false) cdb payload ≡ obeyed sectors false command payload
unfolding answer
reported_to sectors cdb payload command is = ap (λ (c : Result Command Sense). obeyed sectors false c payload) is

-- an answer without bytes was given, whatever memory was refused
given : (old new : UnitState) (state : UnitState) (reply : Reply) → IsServed old (leaving state (good [])) reply new
    → (reply ≡ good []) × (new ≡ state)
given old new state reply served = (served.given.answered (not_busy), served.left not_busy)
  where
    not_busy : reply.status ≢ Busy
    not_busy is = served.given.memory is refl

pub write_done : (old new : ArrayState) (host : Host) (lun : ℕ) (cdb payload : List ℕ) (reply : Reply)
    (sectors : List Sector) (lba count : ℕ)
    → Steps old (CmdEvent host lun cdb payload) (CmdOutcome reply) new → is_broken new ≡ false
    → IsWriteWithin old (host.number, lun) cdb payload sectors lba count
    → (reply ≡ good []) × (image new (host.number, lun) ≡ Present (written sectors lba count payload) false)
write_done old new host lun cdb payload reply sectors lba count steps sound write =
    let addr = addr_in host lun in
    let unit : image_at old addr ≡ Present sectors false = sym (image_here (image_at old) addr) ∙ write.unit in
    let table : answer (image_at old addr) cdb payload
    ≡ leaving (Present (written sectors lba count payload) false) (good []) =
    ap (λ (u : UnitState). answer u cdb payload) unit
    ∙ reported_to sectors cdb payload (Ok (Write lba count write.fua)) write.command
    ∙ fits sectors lba count write.fua payload write.inside write.data_len in
    let served =
    subst (λ (t : Answered). IsServed (image_at old addr) t reply (image_at new addr)) table
    (steps.answers.sound sound) in
    let done = given (image_at old addr) (image_at new addr) (Present (written sectors lba count payload) false) reply
    served in
    (done.0, image_here (image_at new) addr ∙ done.1)
