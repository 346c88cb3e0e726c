-- A command to one address, and the images of all.
use Rattle.std.proofs.Common.{◌≡◌, ◌≢◌, ◌≤◌, ◌*◌, ℕ, Bool, true, false, cond, ◌&&◌, not, IsTrue, Option, Some, None}
use Rattle.std.proofs.Common.{is_some, List, [], ◌∷◌, length, take, refl, sym, ap, subst, ◌∙◌, inl, inr, true≢false}
use Rattle.std.specs.Prelude.{◌==◌}
use Rattle.std.specs.Map.{lookup}
use Rattle.std.specs.Option.{unwrap_or}
use Rattle.std.proofs.lemmas.Bool.{eqb-true}
use Rattle.ar_disks.specs.declared.address.Addr.{Addr}
use Rattle.ar_disks.specs.declared.address.Host.{Host}
use Rattle.ar_scsi.specs.declared.sense.Sense.{Sense}
use Rattle.ar_scsi.specs.Field.{operation_code, allocation_length}
use Rattle.ar_scsi.specs.Reading.{reading}
use Rattle.ar_scsi.specs.Reply.{good as good_of, check}
use Rattle.ar_scsi.specs.Data.{inquiry_data}
use Rattle.ar_core.proofs.Short.{absent_few, check_few, given_few}
use Rattle.ar_scsi.specs.Sense.{capacity_data_has_changed, internal_target_failure, logical_unit_not_supported}
use Rattle.ar_scsi.specs.declared.reply.Reply.{Reply}
use Rattle.ar_scsi.specs.declared.reply.Status.{Status}
use Rattle.ar_scsi.specs.declared.reply.Status.TheVariants.{Good, CheckCondition, Busy}
use Rattle.ar_unit.specs.Unit.{UnitState, Absent, Present, Answered, Cmd, UnitEntry, answer, absent_reply, obeyed}
use Rattle.ar_unit.specs.Unit.{leaving, after, unit_run, IsGiven, IsServed}
use Rattle.ar_unit.specs.Broken.{Shape, shape_of, shape_after, needs_blocks, broken_answer, broken_obeyed}
use Rattle.ar_unit.proofs.Failures.{answer_other}
use Rattle.ar_unit.proofs.Laws.{after-shape, inquiry-needs_none}
use Rattle.ar_disks.specs.Addresses.{same_addr}
use Rattle.ar_book.specs.Tables.{UnitTableState, Tables, no_unit, has_unit, unit_in}
use Rattle.ar_book.specs.Changes.{unmarked}
use Rattle.ar_book.proofs.AfterMake.{unmarked_sectors}
use Rattle.ar_disks.proofs.Addresses.{addr_tells}
use Rattle.ar_book.proofs.Presence.{unmarked_there}
use Rattle.ar_book.proofs.UnitLemmas.{unit_same, unit_other}
use Rattle.ar_store.specs.Calls.{IsAccessed}
use Rattle.ar_store.specs.Placing.{SameUnits}
use Rattle.ar_store.proofs.Changes.{units_refl}
use Rattle.ar_store.proofs.Fills.{accessed_refl}
use Rattle.ar_core.specs.declared.event.EventOf.TheVariants.{Cmd as CmdEvent}
use Rattle.ar_core.specs.declared.event.OutcomeOf.TheVariants.{Cmd as CmdOutcome}
use Rattle.ar_volume.specs.Sectors.{address_of, sectors_in, unit_block}
use Rattle.ar_volume.specs.Image.{ArrayState, is_broken, geometry_of, with_book, seen_at, length_at, attention_at}
use Rattle.ar_volume.specs.Image.{unit_sectors, image_at}
use Rattle.ar_volume.specs.Laws.{reads_refl}
use Rattle.ar_volume.specs.Seen.{IsUnit, SamePlaces, SameSeen, present_at}
use Rattle.ar_core.specs.Served.{Serves, Settles, ExecutesCommand}
use Rattle.ar_core.specs.Step.{Steps, MovesNothing, addr_in, reported_to, once_reported_to, is_busy, entry_at}
use Rattle.ar_volume.specs.Storing.{ReadsBlock, ReadsFirst}
use Rattle.ar_core.proofs.Serving.{first_none}
use Rattle.ar_core.proofs.Causes.{cause_follows}
use Rattle.ar_core.proofs.Events.{unit_follows}
use Rattle.ar_volume.specs.Seen.{SameUnit}
use Rattle.ar_volume.proofs.Images.{same_address_of, other_address_of, image_present, image_absent, image_same}
use Rattle.ar_volume.proofs.Images.{shape_same, shape_here, sectors_same}
use Rattle.ar_core.proofs.Everywhere.{everywhere}

-- the growth is reported first
abbrev pub tells : ArrayState → Addr → List ℕ → Bool
tells s addr cdb = attention_at s.store.book addr && not (operation_code cdb == 0x12)

-- the table from the command block on is the answer where no growth is reported
answer_obeyed : (sectors : List (List ℕ)) (mark : Bool) (cdb bytes : List ℕ)
    → mark && not (operation_code cdb == 0x12) ≡ false
    → answer (Present sectors mark) cdb bytes ≡ obeyed sectors mark (reading cdb) bytes
unfolding answer
answer_obeyed sectors false cdb bytes quiet = refl
answer_obeyed sectors true cdb bytes quiet = by (operation_code cdb == 0x12) quiet
  where
    by : (b : Bool) → true && not b ≡ false
        → cond b (obeyed sectors true (reading cdb) bytes)
        (leaving (Present sectors false) (check capacity_data_has_changed)) ≡ obeyed sectors true (reading cdb) bytes
    by true e = refl
    by false e = absurd (cc)

answer_reported : (sectors : List (List ℕ)) (mark : Bool) (cdb bytes : List ℕ)
    → mark && not (operation_code cdb == 0x12) ≡ true
    → answer (Present sectors mark) cdb bytes ≡ leaving (Present sectors false) (check capacity_data_has_changed)
unfolding answer
answer_reported sectors false cdb bytes tells = absurd (cc)
answer_reported sectors true cdb bytes tells = by (operation_code cdb == 0x12) tells
  where
    by : (b : Bool) → true && not b ≡ true
        → cond b (obeyed sectors true (reading cdb) bytes)
        (leaving (Present sectors false) (check capacity_data_has_changed))
        ≡ leaving (Present sectors false) (check capacity_data_has_changed)
    by true e = absurd (cc)
    by false e = refl

broken_quiet : (n : ℕ) (mark : Bool) (cdb : List ℕ) (sent : ℕ) → mark && not (operation_code cdb == 0x12) ≡ false
    → broken_answer (record { present = true; sectors = n; attention = mark }) cdb sent
    ≡ broken_obeyed n (reading cdb) sent
unfolding broken_answer
broken_quiet n mark cdb sent quiet =
    ap (λ b. cond b (check capacity_data_has_changed) (broken_obeyed n (reading cdb) sent)) quiet

broken_reported : (n : ℕ) (mark : Bool) (cdb : List ℕ) (sent : ℕ) → mark && not (operation_code cdb == 0x12) ≡ true
    → broken_answer (record { present = true; sectors = n; attention = mark }) cdb sent
    ≡ check capacity_data_has_changed
unfolding broken_answer
broken_reported n mark cdb sent tells =
    ap (λ b. cond b (check capacity_data_has_changed) (broken_obeyed n (reading cdb) sent)) tells

-- the shape of a unit that is there
pub shape_present : (s : ArrayState) (addr : Addr) → has_unit s.store.book addr ≡ true
    → shape_of (image_at s addr)
    ≡ record { present = true; sectors = length_at s.store.book addr; attention = attention_at s.store.book addr }
shape_present s addr there =
    shape_here s addr
    ∙ ap (λ b. cond b
    (record { present = true; sectors = length_at s.store.book addr; attention = attention_at s.store.book addr })
    (record { present = false; sectors = 0; attention = false })) there

-- a pending attention that isn't reported stays
mark_stays : (mark inquiry : Bool) → mark && not inquiry ≡ false → mark && inquiry ≡ mark
mark_stays false inquiry e = refl
mark_stays true true e = refl
mark_stays true false e = absurd (cc)

mark_goes : (mark inquiry : Bool) → mark && not inquiry ≡ true → mark && inquiry ≡ false
mark_goes false inquiry e = refl
mark_goes true true e = absurd (cc)
mark_goes true false e = refl

-- a shape after a command that was answered, or was not
answered_shape : (busy : Bool) (u : UnitState) (cdb bytes : List ℕ) (shape : Shape) → shape ≡ shape_of u
    → shape ≡ shape_of (after u (Cmd cdb bytes))
    → shape ≡ shape_of (unit_run u (cond busy [] (Cmd cdb bytes ∷ [])))
answered_shape true u cdb bytes shape same later = same
answered_shape false u cdb bytes shape same later = later

-- a check isn't BUSY
check_not_busy : (reply : Reply) (sense : Sense) → reply ≡ check sense → reply.status ≢ Busy
check_not_busy reply sense is busy = let status = sym (ap (λ (r : Reply). r.status) is) ∙ busy in cc

-- the failure is reported only where the data are lost, since no reply of the table is that
failure_reported : (broken : Bool) (old : UnitState) (cdb bytes : List ℕ) (reply : Reply) (new : UnitState)
    → (broken ≡ false → IsServed old (answer old cdb bytes) reply new)
    → reply ≡ check internal_target_failure → IsTrue broken
failure_reported true old cdb bytes reply new sound is = refl
failure_reported false old cdb bytes reply new sound is =
    absurd (answer_other old cdb bytes
    (sym ((sound refl).given.answered (check_not_busy reply internal_target_failure is)) ∙ is))

-- no attention was reported
reported_same : (s : ArrayState) (addr : Addr) (cdb : List ℕ) → tells s addr cdb ≡ false
    → once_reported_to s addr cdb ≡ s
reported_same s addr cdb quiet = ap (λ b. with_book s (cond b (unmarked s.store.book addr) s.store.book)) quiet

-- where nothing has changed but the mark, nothing has moved
moves_reported : (old : ArrayState) (addr : Addr) (cdb : List ℕ) (new : ArrayState)
    → new ≡ once_reported_to old addr cdb
    → MovesNothing old addr cdb new
moves_reported old addr cdb new only =
    subst (MovesNothing old addr cdb) (sym only)
    (record { tables = refl; cache = refl; rows = (reads_refl old.store).rows })

-- a command to the unit that is there
pub commands_served : (old new : ArrayState) (addr : Addr) (n : ℕ) (cdb bytes : List ℕ) (reply : Reply)
    → IsUnit old addr n → tells old addr cdb ≡ false
    → Serves old addr (obeyed (unit_sectors old addr) (attention_at old.store.book addr) (reading cdb) bytes)
    (broken_obeyed n (reading cdb) (length bytes)) reply new
    → Settles old addr (reading cdb) reply new → length reply.payload ≤ 65535 * 512
    → ExecutesCommand old addr cdb bytes reply new
commands_served old new addr n cdb bytes reply unit quiet serves settles few =
    let mark : Bool = attention_at old.store.book addr in
    let same : SameUnit old.store.book new.store.book addr =
    unit_follows old.store.book new.store.book addr serves.follows.store.units in
    let before : image_at old addr ≡ present_at old addr = image_present old addr unit.there in
    let later : image_at new addr ≡ present_at new addr = image_present new addr (same.there ∙ unit.there) in
    let shape = shape_present old addr unit.there in
    let still : shape_of (image_at new addr) ≡ shape_of (image_at old addr) = shape_same old new addr same in
    let untold : once_reported_to old addr cdb ≡ old = reported_same old addr cdb quiet in
    let kept : SamePlaces old new → MovesNothing old addr cdb new =
    λ places. record {
      tables = places.reads.tables
          ∙ sym (ap (λ b. cond b (unmarked old.store.book addr) old.store.book) quiet);
      cache = places.cache;
      rows =
          places.reads.rows;
    } in
    let sound : is_broken new ≡ false
    → IsServed (image_at old addr) (answer (image_at old addr) cdb bytes) reply (image_at new addr) =
    λ now.
    subst (λ (u : UnitState). IsServed u (answer u cdb bytes) reply (image_at new addr)) (sym before)
    (subst (λ (a : Answered). IsServed (present_at old addr) a reply (image_at new addr))
    (sym (answer_obeyed (unit_sectors old addr) mark cdb bytes quiet))
    (subst (λ (u : UnitState). IsServed (present_at old addr) (obeyed (unit_sectors old addr) mark (reading cdb) bytes)
    reply u) (sym later) (serves.sound now))) in
    record {
      obeys = record {
        sound = sound;
        few = few;
        failure = failure_reported (is_broken new) (image_at old addr) cdb bytes reply (image_at new addr) sound;
        units = subst (λ (t : Tables). SameUnits t new.store.book)
            (sym (ap (λ b. cond b (unmarked old.store.book addr) old.store.book) quiet)) serves.follows.store.units;
        accessed = serves.follows.store.accessed;
        broken = λ lost.
            subst (λ (s : Shape). IsGiven (broken_answer s cdb (length bytes)) reply) (sym shape)
            (subst (λ (r : Reply). IsGiven r reply)
            (sym (broken_quiet (length_at old.store.book addr) mark cdb (length bytes) quiet))
            (subst (λ k. IsGiven (broken_obeyed k (reading cdb) (length bytes)) reply) (sym unit.sectors_same)
            (serves.broken lost)));
        still = λ none. settles.still none ∙ sym untold;
        refused = λ status other. settles.refused status other ∙ sym untold;
        lost = λ gone. settles.lost gone ∙ sym untold;
        reads = λ other. kept (settles.reads other);
        busy = λ status. kept (settles.busy status);
        begun = λ lba count is. subst (λ (s : ArrayState). ReadsFirst ReadsBlock (geometry_of old) addr lba count s new)
            (sym untold) (settles.begun lba count is);
        got = settles.got;
        busy_read = λ lba count is status.
            elim (settles.busy_read lba count is status) [ inl same ↦ inl (same ∙ sym untold) | inr all ↦ inr all ];
        forced = settles.forced;
        stored = settles.stored;
        stopped = settles.stopped;
      };
      others = λ now b other.
          image_same old new b (unit_follows old.store.book new.store.book b serves.follows.store.units)
          serves.follows.store.accessed.follows.geometry
          (λ k at. serves.others now k (λ e. other (sym at ∙ e)));
      shape =
          answered_shape (is_busy reply.status) (image_at old addr) cdb bytes (shape_of (image_at new addr)) still
          (still
          ∙ shape
          ∙ ap (λ m. record { present = true; sectors = length_at old.store.book addr; attention = m })
          (sym (mark_stays mark (operation_code cdb == 0x12) quiet))
          ∙ ap (λ (s : Shape). shape_after s (Cmd cdb bytes)) (sym shape)
          ∙ sym (after-shape (image_at old addr) (Cmd cdb bytes)));
      other_shapes =
          λ b other. shape_same old new b (unit_follows old.store.book new.store.book b serves.follows.store.units);
      accessed = serves.follows.store.accessed;
      capacity = serves.follows.capacity;
    }

-- and is given
given_is : (reply : Reply) (sense : Sense) → reply ≡ check sense → IsGiven (check sense) reply
given_is reply sense is = record {
  answered = λ _. is;
  refused = λ busy. absurd (check_not_busy reply sense is busy);
  memory = λ busy. absurd (check_not_busy reply sense is busy);
}

-- the sectors stay where the length and the blocks do
sectors_after : (old new : ArrayState) (addr : Addr) → length_at new.store.book addr ≡ length_at old.store.book addr
    → geometry_of new ≡ geometry_of old → SameSeen old new
    → unit_sectors new addr ≡ unit_sectors old addr
sectors_after old new addr len shape seen =
    ap (λ n. sectors_in (geometry_of new) (unit_block (seen_at new) addr) 0 n) len
    ∙ sectors_same old new addr (length_at old.store.book addr) shape (λ k _. seen.same k)

reported_shape : (old new : ArrayState) (addr : Addr) (cdb bytes : List ℕ) (reply : Reply)
    → has_unit old.store.book addr ≡ true → has_unit new.store.book addr ≡ true
    → length_at new.store.book addr ≡ length_at old.store.book addr → attention_at new.store.book addr ≡ false
    → tells old addr cdb ≡ true → reply ≡ check capacity_data_has_changed
    → shape_of (image_at new addr)
    ≡ shape_of (unit_run (image_at old addr) (cond (is_busy reply.status) [] (Cmd cdb bytes ∷ [])))
reported_shape old new addr cdb bytes reply was there len gone tells is =
    shape_present new addr there
    ∙ ap (λ n. record { present = true; sectors = n; attention = attention_at new.store.book addr }) len
    ∙ ap (λ m. record { present = true; sectors = length_at old.store.book addr; attention = m }) (gone
    ∙ sym (mark_goes (attention_at old.store.book addr) (operation_code cdb == 0x12) tells))
    ∙ ap (λ (s : Shape). shape_after s (Cmd cdb bytes)) (sym (shape_present old addr was))
    ∙ sym (after-shape (image_at old addr) (Cmd cdb bytes))
    ∙ ap (λ (r : Reply). shape_of (unit_run (image_at old addr) (cond (is_busy r.status) [] (Cmd cdb bytes ∷ []))))
    (sym is)

-- a growth that was reported
pub commands_reported : (old new : ArrayState) (addr : Addr) (n : ℕ) (cdb bytes : List ℕ) (reply : Reply)
    → IsUnit old addr n → tells old addr cdb ≡ true
    → reply ≡ check capacity_data_has_changed → new ≡ with_book old (unmarked old.store.book addr) → SameSeen old new
    → ExecutesCommand old addr cdb bytes reply new
commands_reported old new addr n cdb bytes reply unit tells is cleared seen =
    let mark : Bool = attention_at old.store.book addr in
    let tables : new.store.book ≡ unmarked old.store.book addr = ap (λ (s : ArrayState). s.store.book) cleared in
    let cache : new.cache ≡ old.cache = ap (λ (s : ArrayState). s.cache) cleared in
    let shape : geometry_of new ≡ geometry_of old = ap (λ (s : ArrayState). geometry_of s) cleared in
    let there : has_unit new.store.book addr ≡ true =
    ap (λ (t : Tables). has_unit t addr) tables ∙ unmarked_there old.store.book addr addr ∙ unit.there in
    let table : unit_in new.store.book.units addr ≡ record (unit_in old.store.book.units addr) { attention = false } =
    ap (λ (t : Tables). unit_in t.units addr) tables
    ∙ unit_same old.store.book.units addr (record (unit_in old.store.book.units addr) { attention = false })
    unit.there in
    let gone : attention_at new.store.book addr ≡ false = ap (λ (u : UnitTableState). u.attention) table in
    let len : length_at new.store.book addr ≡ length_at old.store.book addr =
    ap (λ (u : UnitTableState). u.sectors) table in
    let later : image_at new addr ≡ Present (unit_sectors old addr) false =
    image_present new addr there ∙ ap (λ m. Present (unit_sectors new addr) m) gone
    ∙ ap (λ (l : List (List ℕ)). Present l false) (sectors_after old new addr len shape seen) in
    let before : image_at old addr ≡ present_at old addr = image_present old addr unit.there in
    let only : new ≡ once_reported_to old addr cdb =
    cleared ∙ sym (ap (λ b. with_book old (cond b (unmarked old.store.book addr) old.store.book)) tells) in
    let quiet : MovesNothing old addr cdb new = moves_reported old addr cdb new only in
    let other_unit : (b : Addr) → b ≢ addr → SameUnit old.store.book new.store.book b =
    λ b other. subst (λ (t : Tables). SameUnit old.store.book t b) (sym tables) (record {
      there = unmarked_there old.store.book addr b;
      sectors = unmarked_sectors old.store.book addr b;
      mark = ap (λ (u : UnitTableState). u.attention)
          (unit_other old.store.book.units addr (record (unit_in old.store.book.units addr) { attention = false })
          unit.there b (λ e. other (sym e)));
    }) in
    let untouched : IsAccessed old.store.disks new.store.disks =
    subst (λ (s : ArrayState). IsAccessed old.store.disks s.store.disks) (sym cleared)
    (accessed_refl old.store.disks) in
    let sound : is_broken new ≡ false
    → IsServed (image_at old addr) (answer (image_at old addr) cdb bytes) reply (image_at new addr) =
    λ now.
    subst (λ (u : UnitState). IsServed u (answer u cdb bytes) reply (image_at new addr)) (sym before)
    (subst (λ (a : Answered). IsServed (present_at old addr) a reply (image_at new addr))
    (sym (answer_reported (unit_sectors old addr) mark cdb bytes tells))
    (record {
      given = given_is reply capacity_data_has_changed is;
      left = λ _. later;
      unchanged = λ busy. absurd (check_not_busy reply capacity_data_has_changed is busy);
    })) in
    record {
      obeys = record {
        sound = sound;
        few = check_few reply capacity_data_has_changed is;
        failure = failure_reported (is_broken new) (image_at old addr) cdb bytes reply (image_at new addr) sound;
        units = subst (λ (t : Tables). SameUnits (reported_to old.store.book addr cdb) t) (sym quiet.tables)
            (units_refl (reported_to old.store.book addr cdb));
        accessed = untouched;
        broken = λ lost.
            subst (λ (s : Shape). IsGiven (broken_answer s cdb (length bytes)) reply)
            (sym (shape_present old addr unit.there))
            (subst (λ (r : Reply). IsGiven r reply)
            (sym (broken_reported (length_at old.store.book addr) mark cdb (length bytes) tells))
            (given_is reply capacity_data_has_changed is));
        still = λ _. only;
        refused = λ _ _. only;
        lost = λ _. only;
        reads = λ _. quiet;
        busy = λ _. quiet;
        begun = λ lba count _. subst
            (ReadsFirst ReadsBlock (geometry_of old) addr lba count (once_reported_to old addr cdb))
            (sym only) (first_none (once_reported_to old addr cdb) addr lba count);
        got = λ lba count _ good. (let status = sym (ap (λ (r : Reply). r.status) is) ∙ good in absurd (cc));
        busy_read = λ lba count _ _. inl only;
        forced = λ lba count _ good. (let status = sym (ap (λ (r : Reply). r.status) is) ∙ good in absurd (cc));
        stored = λ lba count fua _ good. (let status = sym (ap (λ (r : Reply). r.status) is) ∙ good in absurd (cc));
        stopped = λ lba count fua _ now gone. (let kept = ap (λ (s : ArrayState). is_broken s) cleared
            ∙ now in absurd (true≢false (sym gone ∙ kept)));
      };
      others = λ now b other. image_same old new b (other_unit b other) shape (λ k _. seen.same k);
      shape = reported_shape old new addr cdb bytes reply unit.there there len gone tells is;
      other_shapes = λ b other. shape_same old new b (other_unit b other);
      accessed = untouched;
      capacity = ap (λ (s : ArrayState). s.cache.capacity) cleared;
    }

-- where no unit is there is no mark
pub absent_mark : (t : Tables) (a : Addr) → has_unit t a ≡ false → attention_at t a ≡ false
absent_mark t a none = by (lookup (same_addr a) t.units) none
  where
    by : (o : Option UnitTableState) → is_some o ≡ false → (unwrap_or o no_unit).attention ≡ false
    by None e = refl
    by (Some u) e = absurd (cc)

-- no command that needs blocks is GOOD there
absent_needs : (cdb : List ℕ) (reply : Reply) → IsGiven (absent_reply cdb) reply → needs_blocks (reading cdb) ≡ true
    → reply.status ≡ Good → ⊥
absent_needs cdb reply given some good = by (operation_code cdb == 0x12) refl
  where
    served : reply ≡ absent_reply cdb
    served = given.answered (λ busy. let status = sym good ∙ busy in cc)

    by : (b : Bool) → (operation_code cdb == 0x12) ≡ b → ⊥
    by true code = (let none = inquiry-needs_none cdb (eqb-true (operation_code cdb) 0x12 code) in cc)
    by false code =
        (let reported_to = ap
        (λ b. (cond b (good_of (take (allocation_length cdb) (inquiry_data false)))
        (check logical_unit_not_supported)).status) code in
        let status = sym good ∙ ap (λ (r : Reply). r.status) served ∙ reported_to in cc)

busy_is : (status : Status) → is_busy status ≡ true → status ≡ Busy
busy_is Busy e = refl
busy_is Good e = absurd (cc)
busy_is CheckCondition e = absurd (cc)

not_busy : (status : Status) → is_busy status ≡ false → status ≢ Busy
not_busy status e is = let reported_to = sym (ap is_busy is) ∙ e in cc

-- a command where no unit is
pub commands_absent : (s : ArrayState) (addr : Addr) (cdb bytes : List ℕ) (reply : Reply)
    → has_unit s.store.book addr ≡ false → IsGiven (absent_reply cdb) reply
    → ExecutesCommand s addr cdb bytes reply s
unfolding answer broken_answer
commands_absent s addr cdb bytes reply none given =
    let nothing : image_at s addr ≡ Absent = image_absent s addr none in
    let only : s ≡ once_reported_to s addr cdb =
    sym (reported_same s addr cdb
    (ap (λ m. m && not (operation_code cdb == 0x12)) (absent_mark s.store.book addr none))) in
    let quiet : MovesNothing s addr cdb s = moves_reported s addr cdb s only in
    let sound : is_broken s ≡ false
    → IsServed (image_at s addr) (answer (image_at s addr) cdb bytes) reply (image_at s addr) =
    λ now.
    subst (λ (u : UnitState). IsServed u (answer u cdb bytes) reply u) (sym nothing)
    (record { given = given; left = λ _. refl; unchanged = λ _. refl }) in
    let few : length reply.payload ≤ 65535 * 512 =
    given_few (absent_reply cdb) reply (65535 * 512) given (absent_few cdb) in
    record {
      obeys = record {
        sound = sound;
        few = few;
        failure = failure_reported (is_broken s) (image_at s addr) cdb bytes reply (image_at s addr) sound;
        units = subst (λ (t : Tables). SameUnits (reported_to s.store.book addr cdb) t) (sym quiet.tables)
            (units_refl (reported_to s.store.book addr cdb));
        accessed = accessed_refl s.store.disks;
        broken = λ lost. subst (λ (u : UnitState). IsGiven (broken_answer (shape_of u) cdb (length bytes)) reply)
            (sym nothing) given;
        still = λ _. only;
        refused = λ _ _. only;
        lost = λ _. only;
        reads = λ _. quiet;
        busy = λ _. quiet;
        begun = λ lba count _. subst (λ (t : ArrayState). ReadsFirst ReadsBlock (geometry_of s) addr lba count t s) only
            (first_none s addr lba count);
        got = λ lba count is good. absurd (absent_needs cdb reply given (ap needs_blocks is) good);
        busy_read = λ lba count _ _. inl only;
        forced = λ lba count is good. absurd (absent_needs cdb reply given (ap needs_blocks is) good);
        stored = λ lba count fua is good. absurd (absent_needs cdb reply given (ap needs_blocks is) good);
        stopped = λ lba count fua _ now gone. absurd (true≢false (sym gone ∙ now));
      };
      others = λ now b other. refl;
      shape =
          answered_shape (is_busy reply.status) (image_at s addr) cdb bytes (shape_of (image_at s addr)) refl
          (ap shape_of (nothing ∙ ap (λ (u : UnitState). after u (Cmd cdb bytes)) (sym nothing)));
      other_shapes = λ b other. refl;
      accessed = accessed_refl s.store.disks;
      capacity = refl;
    }

-- one step by a command
pub steps_command : (old new : ArrayState) (host : Host) (lun : ℕ) (cdb payload : List ℕ) (reply : Reply)
    → ExecutesCommand old (addr_in host lun) cdb payload reply new
    → Steps old (CmdEvent host lun cdb payload) (CmdOutcome reply) new
steps_command old new host lun cdb payload reply c = record {
  answers = c.obeys;
  images = λ now a. everywhere (λ (u : UnitState). u) (image_at old) (image_at new) (CmdEvent host lun cdb payload)
      (CmdOutcome reply) (image_after now) a;
  shapes = λ a. everywhere shape_of (image_at old) (image_at new) (CmdEvent host lun cdb payload) (CmdOutcome reply)
      shape_after_it a;
  disks = cause_follows (CmdEvent host lun cdb payload) old.store.disks new.store.disks (λ d disk is. absurd (cc))
      c.accessed.follows;
  capacity = c.capacity;
  quiet = λ loud. absurd (cc);
}
  where
    addr : Addr
    addr = addr_in host lun

    own : List UnitEntry
    own = cond (is_busy reply.status) [] (Cmd cdb payload ∷ [])

    image_after : is_broken new ≡ false → (b : Addr)
        → image_at new b
        ≡ unit_run (image_at old b) (entry_at (address_of b) (CmdEvent host lun cdb payload) (CmdOutcome reply))
    image_after now b =
        elim (addr_tells b addr) [
          | inl one ↦
              ap (image_at new) one.1
              ∙ answered_image (c.obeys.sound now) (is_busy reply.status) refl
              ∙ ap (λ (x : Addr). unit_run (image_at old x) own) (sym one.1)
              ∙ ap (λ t. unit_run (image_at old b) (cond t own [])) (sym (same_address_of addr b (sym one.1)))
          | inr two ↦
              c.others now b two.1
              ∙ ap (λ t. unit_run (image_at old b) (cond t own [])) (sym (other_address_of addr b (λ e. two.1 (sym e))))
        ]
      where
        answered_image : IsServed (image_at old addr) (answer (image_at old addr) cdb payload) reply (image_at new addr)
            → (busy : Bool) → is_busy reply.status ≡ busy
            → image_at new addr ≡ unit_run (image_at old addr) own
        answered_image served true is =
            served.unchanged (busy_is reply.status is)
            ∙ ap (λ t. unit_run (image_at old addr) (cond t [] (Cmd cdb payload ∷ []))) (sym is)
        answered_image served false is =
            served.left (not_busy reply.status is)
            ∙ ap (λ t. unit_run (image_at old addr) (cond t [] (Cmd cdb payload ∷ []))) (sym is)

    shape_after_it : (b : Addr) → shape_of (image_at new b)
        ≡ shape_of (unit_run (image_at old b)
        (entry_at (address_of b) (CmdEvent host lun cdb payload) (CmdOutcome reply)))
    shape_after_it b =
        elim (addr_tells b addr) [
          | inl one ↦
              ap (λ (x : Addr). shape_of (image_at new x)) one.1
              ∙ c.shape
              ∙ ap (λ (x : Addr). shape_of (unit_run (image_at old x) own)) (sym one.1)
              ∙ ap (λ t. shape_of (unit_run (image_at old b) (cond t own [])))
              (sym (same_address_of addr b (sym one.1)))
          | inr two ↦
              c.other_shapes b two.1
              ∙ ap (λ t. shape_of (unit_run (image_at old b) (cond t own [])))
              (sym (other_address_of addr b (λ e. two.1 (sym e))))
        ]
