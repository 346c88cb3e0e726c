-- What a replay makes of its unit, by its fields.
use Rattle.std.proofs.Common.{◌≡◌, ◌⊎◌, ◌<◌, ◌≤◌, ◌+◌, ◌-◌, ◌*◌, ℕ, Bool, true, false, eqb, List, ◌++◌, length}
use Rattle.std.proofs.Common.{take, drop, Result, Ok, Err, Some, None, refl, sym, ap, ◌∙◌, arith, inl, inr}
use Rattle.std.specs.Prelude.{replicate, max}
use Rattle.std.proofs.Math.ListN.{length-replicate}
use Rattle.std.proofs.lemmas.Bool.{true≢false, le-ltb, lt-ltb, eq-eqb, ne_eqb}
use Rattle.std.proofs.lemmas.List.{take_all, drop-drop}
use borrow.Rule.Slice.PartMut.{put_mid}
use Rattle.ar_scsi.specs.declared.command.Command.{Command}
use Rattle.ar_scsi.specs.declared.command.Command.TheVariants.{TestReady, Inquiry, Capacity, Read, Write}
use Rattle.ar_scsi.specs.declared.sense.Sense.{Sense}
use Rattle.ar_scsi.specs.Field.{operation_code}
use Rattle.ar_scsi.specs.Reading.{reading}
use Rattle.ar_unit.specs.Plain.{state_of}
use Rattle.ar_unit.specs.Sectors.{Sector, cut, zero_sectors}
use Rattle.ar_unit.specs.Unit.{UnitState, Present, Answered, Grow, after, answer, obeyed, write_answer, unmap_answer}
use Rattle.ar_unit.specs.Unit.{unmap_obeyed}
use Rattle.ar_unit.proofs.Laws.{length-cut, zeros_written}
use Rattle.ar_record.proofs.Fields.{some_is}
use Rattle.ar_compaction.specs.Replaying.{ReplayState, range_in}
use Rattle.ar_compaction.proofs.Cutting.{cut-append, cut-written}
use Rattle.ar_compaction.proofs.Zeros.{cut-zeros}

abbrev pub replay_of : ℕ × ℕ → UnitState → ReplayState
replay_of a unit = record { addr = a; unit = unit }

-- ---- commands

obeyed_other : (sectors : List Sector) (attention : Bool) (command : Result Command Sense) (bytes : List ℕ)
    → range_in command ≡ None → (obeyed sectors attention command bytes).state ≡ Present sectors attention
unfolding obeyed
obeyed_other sectors attention (Err sense) bytes e = refl
obeyed_other sectors attention (Ok TestReady) bytes e = refl
obeyed_other sectors attention (Ok (Inquiry len)) bytes e = refl
obeyed_other sectors attention (Ok Capacity) bytes e = refl
obeyed_other sectors attention (Ok (Read lba count)) bytes e = refl
obeyed_other sectors attention (Ok (Write lba count fua)) bytes e = absurd cc

obeyed_write : (sectors : List Sector) (attention : Bool) (command : Result Command Sense) (bytes : List ℕ)
    (lba count : ℕ)
    → range_in command ≡ Some (lba, count)
    → (obeyed sectors attention command bytes).state ≡ (write_answer sectors attention lba count bytes).state
unfolding obeyed
obeyed_write sectors attention (Err sense) bytes lba count e = absurd cc
obeyed_write sectors attention (Ok TestReady) bytes lba count e = absurd cc
obeyed_write sectors attention (Ok (Inquiry len)) bytes lba count e = absurd cc
obeyed_write sectors attention (Ok Capacity) bytes lba count e = absurd cc
obeyed_write sectors attention (Ok (Read l n)) bytes lba count e = absurd cc
obeyed_write sectors attention (Ok (Write l n fua)) bytes lba count e =
    ap (λ (p : ℕ × ℕ). (write_answer sectors attention p.0 p.1 bytes).state) (some_is (l, n) (lba, count) e)

-- no unit is there
pub command_absent : (a : ℕ × ℕ) (present : Bool) (sectors : List Sector) (attention : Bool) (cdb bytes : List ℕ)
    → present ≡ false
    → replay_of a (state_of present sectors attention)
    ≡ replay_of a (answer (state_of present sectors attention) cdb bytes).state
unfolding answer
command_absent a true sectors attention cdb bytes e = absurd (true≢false e)
command_absent a false sectors attention cdb bytes e = refl

-- the UNIT ATTENTION is reported
pub command_reported : (a : ℕ × ℕ) (present : Bool) (sectors : List Sector) (attention : Bool) (cdb bytes : List ℕ)
    → present ≡ true → attention ≡ true → eqb (operation_code cdb) 0x12 ≡ false
    → replay_of a (state_of present sectors false)
    ≡ replay_of a (answer (state_of present sectors attention) cdb bytes).state
unfolding answer
command_reported a false sectors attention cdb bytes e f g = absurd (true≢false (sym e))
command_reported a true sectors false cdb bytes e f g = absurd (true≢false (sym f))
command_reported a true sectors true cdb bytes e f g = rw g refl

-- the command is executed
abbrev pub IsObeyed : Bool → List ℕ → Type 0
IsObeyed attention cdb = (attention ≡ false) ⊎ (eqb (operation_code cdb) 0x12 ≡ true)

answer_obeyed : (sectors : List Sector) (attention : Bool) (cdb bytes : List ℕ) → IsObeyed attention cdb
    → answer (Present sectors attention) cdb bytes ≡ obeyed sectors attention (reading cdb) bytes
unfolding answer
answer_obeyed sectors false cdb bytes which = refl
answer_obeyed sectors true cdb bytes (inl e) = absurd (true≢false e)
answer_obeyed sectors true cdb bytes (inr e) = rw e refl

pub command_other : (a : ℕ × ℕ) (present : Bool) (sectors : List Sector) (attention : Bool) (cdb bytes : List ℕ)
    → present ≡ true → IsObeyed attention cdb → range_in (reading cdb) ≡ None
    → replay_of a (state_of present sectors attention)
    ≡ replay_of a (answer (state_of present sectors attention) cdb bytes).state
command_other a false sectors attention cdb bytes e which none = absurd (true≢false (sym e))
command_other a true sectors attention cdb bytes e which none =
    ap (replay_of a) (sym (ap (λ (x : Answered). x.state) (answer_obeyed sectors attention cdb bytes which)
    ∙ obeyed_other sectors attention (reading cdb) bytes none))

pub command_write : (a : ℕ × ℕ) (present : Bool) (sectors new : List Sector) (attention : Bool) (cdb bytes : List ℕ)
    (lba count : ℕ) → present ≡ true → IsObeyed attention cdb → range_in (reading cdb) ≡ Some (lba, count)
    → Present new attention ≡ (write_answer sectors attention lba count bytes).state
    → replay_of a (state_of present new attention)
    ≡ replay_of a (answer (state_of present sectors attention) cdb bytes).state
command_write a false sectors new attention cdb bytes lba count e which is made = absurd (true≢false (sym e))
command_write a true sectors new attention cdb bytes lba count e which is made =
    ap (replay_of a) (made ∙ sym (ap (λ (x : Answered). x.state) (answer_obeyed sectors attention cdb bytes which)
    ∙ obeyed_write sectors attention (reading cdb) bytes lba count is))

-- ---- bytes that are written

-- a part of the bytes written over
pub mid_is : (lba count k : ℕ) (bytes sent : List ℕ) → k ≡ count * 512
    → put_mid (lba * 512) k bytes sent ≡ take (lba * 512) bytes ++ (sent ++ drop ((lba + count) * 512) bytes)
mid_is lba count k bytes sent e =
    let far : lba * 512 + k ≡ (lba + count) * 512 = omega (arith, e) in
    ap (λ (l : List ℕ). take (lba * 512) bytes ++ (sent ++ l))
    (drop-drop k (lba * 512) bytes ∙ ap (λ (n : ℕ). drop n bytes) far)

-- past the end
pub write_past : (n : ℕ) (bytes : List ℕ) (attention : Bool) (lba count : ℕ) (sent : List ℕ) → n < lba + count
    → Present (cut 512 n bytes) attention ≡ (write_answer (cut 512 n bytes) attention lba count sent).state
write_past n bytes attention lba count sent past =
    let outside = lt-ltb (length (cut 512 n bytes)) (lba + count) (omega (arith, length-cut 512 n bytes, past)) in
    rw outside refl

-- with another number of bytes
pub write_short : (n : ℕ) (bytes : List ℕ) (attention : Bool) (lba count : ℕ) (sent : List ℕ) → lba + count ≤ n
    → (length sent ≡ count * 512 → ⊥)
    → Present (cut 512 n bytes) attention ≡ (write_answer (cut 512 n bytes) attention lba count sent).state
write_short n bytes attention lba count sent within other =
    let inside = le-ltb (length (cut 512 n bytes)) (lba + count) (omega (arith, length-cut 512 n bytes, within)) in
    let wrong = ne_eqb (length sent) (count * 512) other in
    rw (inside, wrong) refl

pub write_done : (n : ℕ) (bytes : List ℕ) (attention : Bool) (lba count : ℕ) (sent : List ℕ)
    → length bytes ≡ n * 512 → lba + count ≤ n → length sent ≡ count * 512
    → Present (cut 512 n (take (lba * 512) bytes ++ (sent ++ drop ((lba + count) * 512) bytes))) attention
    ≡ (write_answer (cut 512 n bytes) attention lba count sent).state
write_done n bytes attention lba count sent len within sent_len =
    let inside = le-ltb (length (cut 512 n bytes)) (lba + count) (omega (arith, length-cut 512 n bytes, within)) in
    let whole = eq-eqb (length sent) (count * 512) sent_len in
    rw (inside, whole)
    (ap (λ (l : List Sector). Present l attention) (cut-written n lba count bytes sent len within sent_len))

-- ---- discards

pub discard_past : (n : ℕ) (bytes : List ℕ) (lba count : ℕ) → n < lba + count
    → Present (cut 512 n bytes) false ≡ (unmap_obeyed (cut 512 n bytes) lba count).state
discard_past n bytes lba count past =
    write_past n bytes false lba count (replicate (count * 512) 0) past
    ∙ sym (ap (λ (a : Answered). a.state) (zeros_written (cut 512 n bytes) lba count))

pub discard_done : (n : ℕ) (bytes : List ℕ) (lba count : ℕ) → length bytes ≡ n * 512 → lba + count ≤ n
    → Present (cut 512 n (take (lba * 512) bytes ++ (replicate (count * 512) 0 ++ drop ((lba + count) * 512) bytes)))
    false
    ≡ (unmap_obeyed (cut 512 n bytes) lba count).state
discard_done n bytes lba count len within =
    write_done n bytes false lba count (replicate (count * 512) 0) len within (length-replicate (count * 512) 0)
    ∙ sym (ap (λ (a : Answered). a.state) (zeros_written (cut 512 n bytes) lba count))

pub unmap_absent : (a : ℕ × ℕ) (present : Bool) (sectors : List Sector) (attention : Bool) (lba count : ℕ)
    → present ≡ false
    → replay_of a (state_of present sectors attention)
    ≡ replay_of a (unmap_answer (state_of present sectors attention) lba count).state
unmap_absent a true sectors attention lba count e = absurd (true≢false e)
unmap_absent a false sectors attention lba count e = refl

pub unmap_reported : (a : ℕ × ℕ) (present : Bool) (sectors : List Sector) (attention : Bool) (lba count : ℕ)
    → present ≡ true → attention ≡ true
    → replay_of a (state_of present sectors false)
    ≡ replay_of a (unmap_answer (state_of present sectors attention) lba count).state
unmap_reported a false sectors attention lba count e f = absurd (true≢false (sym e))
unmap_reported a true sectors false lba count e f = absurd (true≢false (sym f))
unmap_reported a true sectors true lba count e f = refl

pub unmap_obeys : (a : ℕ × ℕ) (present : Bool) (sectors new : List Sector) (attention : Bool) (lba count : ℕ)
    → present ≡ true → attention ≡ false → Present new false ≡ (unmap_obeyed sectors lba count).state
    → replay_of a (state_of present new attention)
    ≡ replay_of a (unmap_answer (state_of present sectors attention) lba count).state
unmap_obeys a false sectors new attention lba count e f made = absurd (true≢false (sym e))
unmap_obeys a true sectors new true lba count e f made = absurd (true≢false f)
unmap_obeys a true sectors new false lba count e f made = ap (replay_of a) made

-- ---- creation and growth

pub made_zeros : (a : ℕ × ℕ) (n : ℕ) (bytes : List ℕ) → bytes ≡ replicate (n * 512) 0
    → replay_of a (Present (cut 512 n bytes) false) ≡ replay_of a (Present (zero_sectors n) false)
made_zeros a n bytes is =
    ap (λ (l : List Sector). replay_of a (Present l false)) (ap (λ (l : List ℕ). cut 512 n l) is ∙ cut-zeros n)

-- zeros appended
cut-grown : (n more : ℕ) (bytes : List ℕ) → length bytes ≡ n * 512
    → cut 512 (n + more) (bytes ++ replicate (more * 512) 0) ≡ cut 512 n bytes ++ zero_sectors more
cut-grown n more bytes len =
    cut-append n more bytes (replicate (more * 512) 0) len
    ∙ ap (λ (l : List Sector). cut 512 n bytes ++ l) (cut-zeros more)

pub grown_zeros : (a : ℕ × ℕ) (present : Bool) (n to m : ℕ) (bytes new : List ℕ) (attention : Bool)
    → present ≡ true → length bytes ≡ n * 512 → m ≡ max to n
    → new ≡ take (m * 512) bytes ++ replicate (m * 512 - length bytes) 0
    → replay_of a (state_of present (cut 512 m new) true)
    ≡ replay_of a (after (state_of present (cut 512 n bytes) attention) (Grow to))
grown_zeros a false n to m bytes new attention e len most is = absurd (true≢false (sym e))
grown_zeros a true n to m bytes new attention e len most is =
    let more : ℕ = to - n in
    let sum : m ≡ n + more = omega (arith, most) in
    let added : m * 512 - length bytes ≡ more * 512 = omega (arith, len, sum) in
    let all : take (m * 512) bytes ≡ bytes = take_all (m * 512) bytes (omega (arith, len, sum)) in
    let asked : to - length (cut 512 n bytes) ≡ more = omega (arith, length-cut 512 n bytes) in
    let now : new ≡ bytes ++ replicate (more * 512) 0 =
    is ∙ ap (λ (l : List ℕ). l ++ replicate (m * 512 - length bytes) 0) all
    ∙ ap (λ (k : ℕ). bytes ++ replicate k 0) added in
    ap (λ (l : List Sector). replay_of a (Present l true))
    (ap (λ (l : List ℕ). cut 512 m l) now
    ∙ ap (λ (k : ℕ). cut 512 k (bytes ++ replicate (more * 512) 0)) sum
    ∙ cut-grown n more bytes len
    ∙ ap (λ (k : ℕ). cut 512 n bytes ++ zero_sectors k) (sym asked))
