-- A discard of sectors of one unit, and the images of all.
use Rattle.std.proofs.Common.{◌≡◌, ◌≢◌, ◌+◌, ◌*◌, ℕ, Bool, true, false, cond, nat_lt, not, List, [], ◌∷◌}
use Rattle.std.proofs.Common.{IsTrue, refl, sym, ap, subst, ◌∙◌, inl, inr, true≢false}
use Rattle.std.specs.Prelude.{All, ◌&&◌, ◌==◌}
use Rattle.ar_scsi.specs.Field.{operation_code}
use Rattle.std.proofs.lemmas.List.Elements.{All-head, All-tail}
use Rattle.ar_disks.specs.declared.address.Addr.{Addr}
use Rattle.ar_disks.specs.declared.address.Key.{Key}
use Rattle.ar_disks.specs.declared.geometry.Geometry.{Geometry}
use Rattle.ar_disks.specs.Block.{zeros}
use Rattle.ar_disks.proofs.Addresses.{addr_tells}
use Rattle.ar_scsi.specs.declared.reply.Reply.{Reply}
use Rattle.ar_scsi.specs.declared.reply.Status.TheVariants.{Good, Busy}
use Rattle.ar_scsi.specs.declared.sense.Sense.{Sense}
use Rattle.ar_scsi.specs.Reply.{good, check}
use Rattle.ar_scsi.specs.Sense.{capacity_data_has_changed, internal_target_failure, logical_unit_not_supported}
use Rattle.ar_scsi.specs.Sense.{logical_block_address_out_of_range}
use Rattle.ar_book.specs.Tables.{Tables, has_unit}
use Rattle.ar_book.specs.Changes.{unmarked}
use Rattle.ar_store.specs.Placing.{SameUnits}
use Rattle.ar_store.proofs.Changes.{units_refl}
use Rattle.ar_store.proofs.Fills.{accessed_refl}
use Rattle.ar_cache.specs.Backing.{InTurn, stored}
use Rattle.ar_disks.specs.declared.completion.Completion.{Completion}
use Rattle.ar_disks.specs.declared.completion.Completion.TheVariants.{Done as Kept, Broken as Lost}
use Rattle.ar_unit.specs.Unit.{UnitState, Absent, Present, Answered, Unmap, UnitEntry, answer, unmap_answer}
use Rattle.ar_unit.specs.Unit.{Cmd, unmap_obeyed, write_answer, after, unit_run, IsGiven, IsServed}
use Rattle.ar_unit.specs.Broken.{Shape, shape_of, shape_after, broken_unmap}
use Rattle.ar_unit.proofs.Failures.{unmap_answer_other}
use Rattle.ar_unit.proofs.Laws.{after-shape, unmap-no_bytes, zeros_written}
use Rattle.ar_volume.specs.Sectors.{address_of, keys_in}
use Rattle.ar_volume.specs.Image.{ArrayState, is_broken, geometry_of, with_book, length_at, attention_at, unit_sectors}
use Rattle.ar_volume.specs.Image.{image_at}
use Rattle.ar_volume.specs.Seen.{IsUnit, SameSeen, SameUnit, present_at}
use Rattle.ar_volume.specs.Storing.{is_whole}
use Rattle.ar_volume.specs.Unmap.{DiscardsBlock, DiscardsBlocks, DiscardsPart, StopsBlocks, is_unwritten}
use Rattle.ar_volume.proofs.Images.{same_address_of, other_address_of, image_present, image_absent, image_same}
use Rattle.ar_volume.proofs.Images.{shape_same}
use Rattle.ar_core.specs.Served.{Serves, SettlesUnmap, ExecutesUnmap}
use Rattle.ar_core.specs.Step.{Steps, entry_at, is_busy, reported, once_reported}
use Rattle.ar_core.specs.declared.event.EventOf.TheVariants.{Unmap as UnmapEvent}
use Rattle.ar_core.specs.declared.event.OutcomeOf.TheVariants.{Unmap as UnmapOutcome}
use Rattle.ar_core.proofs.Causes.{cause_follows}
use Rattle.ar_core.proofs.Commanding.{shape_present, commands_reported, absent_mark}
use Rattle.ar_core.proofs.Events.{unit_follows}
use Rattle.ar_core.proofs.Everywhere.{everywhere}

-- the WRITE of zeros that a discard is
pub zeros_answered : (sectors : List (List ℕ)) (lba count : ℕ)
    → unmap_obeyed sectors lba count ≡ write_answer sectors false lba count (zeros (count * 512))
unfolding zeros
zeros_answered sectors lba count = zeros_written sectors lba count

-- a reply in place of one without bytes is that one
given_whole : (table reply : Reply) → table.payload ≡ [] → IsGiven table reply → reply ≡ table
given_whole table reply none given = given.answered (λ busy. given.memory busy none)

-- the replies of a failed array have no bytes
past_none : (past : Bool)
    → (cond past (check logical_block_address_out_of_range) (check internal_target_failure)).payload ≡ []
past_none true = refl
past_none false = refl

-- the failure is reported only where the data are lost, since no reply of the table is that
failure_unmapped : (broken : Bool) (old : UnitState) (lba count : ℕ) (reply : Reply)
    → (broken ≡ false → reply ≡ (unmap_answer old lba count).reply)
    → reply ≡ check internal_target_failure → IsTrue broken
failure_unmapped true old lba count reply sound is = refl
failure_unmapped false old lba count reply sound is =
    absurd (unmap_answer_other old lba count (sym (sound refl) ∙ is))

-- a discard that is refused has changed nothing
pub settles_refused : (s : ArrayState) (addr : Addr) (lba count : ℕ) (sense : Sense) (reply : Reply)
    → reply ≡ check sense → SettlesUnmap s addr lba count reply s
settles_refused s addr lba count sense reply is = record {
  refused = λ _ _. refl;
  lost = λ _. refl;
  discarded = λ good. (let status = sym (ap (λ (r : Reply). r.status) is) ∙ good in absurd (cc));
  stopped = λ now gone. absurd (true≢false (sym gone ∙ now));
}

-- one that is not refused
pub settles_unmap : (old new : ArrayState) (addr : Addr) (lba count : ℕ) (answer : Completion) (reply : Reply)
    → is_broken old ≡ false
    → (answer ≡ Kept → reply ≡ good []) → (answer ≡ Lost → reply ≡ check internal_target_failure)
    → answer ≡ stored (is_broken new)
    → (answer ≡ Kept → DiscardsBlocks addr lba count old new) → (answer ≡ Lost → StopsBlocks addr lba count old new)
    → SettlesUnmap old addr lba count reply new
settles_unmap old new addr lba count Kept reply sound done lost reported_to discards stops = record {
  refused = λ status _. (let known = sym (ap (λ (r : Reply). r.status) (done refl)) ∙ status in absurd (cc));
  lost = λ gone. absurd (true≢false (sym gone ∙ sound));
  discarded = λ _. discards refl;
  stopped = λ _ gone. (let kept = reported_to ∙ ap stored gone in absurd (cc));
}
settles_unmap old new addr lba count Lost reply sound done lost reported_to discards stops = record {
  refused = λ _ other. absurd (other (lost refl));
  lost = λ gone. absurd (true≢false (sym gone ∙ sound));
  discarded = λ good. (let known = sym (ap (λ (r : Reply). r.status) (lost refl)) ∙ good in absurd (cc));
  stopped = λ _ _. stops refl;
}

-- no mark was reported
unreported : (s : ArrayState) (addr : Addr) → attention_at s.store.book addr ≡ false → once_reported s addr ≡ s
unreported s addr quiet = ap (λ b. with_book s (cond b (unmarked s.store.book addr) s.store.book)) quiet

-- a discard in a unit that is there
pub unmaps_served : (old new : ArrayState) (addr : Addr) (n lba count : ℕ) (reply : Reply)
    → IsUnit old addr n → attention_at old.store.book addr ≡ false
    → Serves old addr
    (write_answer (unit_sectors old addr) (attention_at old.store.book addr) lba count (zeros (count * 512)))
    (cond (nat_lt n (lba + count)) (check logical_block_address_out_of_range) (check internal_target_failure)) reply new
    → SettlesUnmap old addr lba count reply new → ExecutesUnmap old addr lba count reply new
unmaps_served old new addr n lba count reply unit quiet serves settles =
    let sectors : List (List ℕ) = unit_sectors old addr in
    let same : SameUnit old.store.book new.store.book addr =
    unit_follows old.store.book new.store.book addr serves.follows.store.units in
    let before : image_at old addr ≡ Present sectors false =
    image_present old addr unit.there ∙ ap (λ m. Present sectors m) quiet in
    let later : image_at new addr ≡ present_at new addr = image_present new addr (same.there ∙ unit.there) in
    let shape = shape_present old addr unit.there in
    let still : shape_of (image_at new addr) ≡ shape_of (image_at old addr) = shape_same old new addr same in
    let untold : once_reported old addr ≡ old = unreported old addr quiet in
    let table : write_answer sectors (attention_at old.store.book addr) lba count (zeros (count * 512))
    ≡ unmap_answer (image_at old addr) lba count =
    ap (λ m. write_answer sectors m lba count (zeros (count * 512))) quiet
    ∙ sym (zeros_answered sectors lba count)
    ∙ ap (λ (u : UnitState). unmap_answer u lba count) (sym before) in
    let served : is_broken new ≡ false
    → IsServed (present_at old addr) (unmap_answer (image_at old addr) lba count) reply (present_at new addr) =
    λ now. subst (λ (a : Answered). IsServed (present_at old addr) a reply (present_at new addr)) table
    (serves.sound now) in
    let none : (unmap_answer (image_at old addr) lba count).reply.payload ≡ [] =
    unmap-no_bytes (image_at old addr) lba count in
    let sound : is_broken new ≡ false → reply ≡ (unmap_answer (image_at old addr) lba count).reply =
    λ now. given_whole (unmap_answer (image_at old addr) lba count).reply reply none (served now).given in
    record {
      unmaps = record {
        sound = sound;
        left = λ now. later ∙ (served now).left (λ busy. (served now).given.memory busy none);
        broken = λ lost.
            given_whole
            (cond (nat_lt n (lba + count)) (check logical_block_address_out_of_range) (check internal_target_failure))
            reply (past_none (nat_lt n (lba + count))) (serves.broken lost)
            ∙ ap (λ k. cond (nat_lt k (lba + count)) (check logical_block_address_out_of_range)
            (check internal_target_failure)) (sym unit.sectors_same)
            ∙ ap (λ m. broken_unmap
            (record { present = true; sectors = length_at old.store.book addr; attention = m }) lba count) (sym quiet)
            ∙ ap (λ (s : Shape). broken_unmap s lba count) (sym shape);
        failure = failure_unmapped (is_broken new) (image_at old addr) lba count reply sound;
        units = subst (λ (t : Tables). SameUnits t new.store.book)
            (sym (ap (λ b. cond b (unmarked old.store.book addr) old.store.book) quiet)) serves.follows.store.units;
        accessed = serves.follows.store.accessed;
        refused = λ status other. settles.refused status other ∙ sym untold;
        lost = λ gone. settles.lost gone ∙ sym untold;
        discarded = settles.discarded;
        stopped = settles.stopped;
      };
      others = λ now b other.
          image_same old new b (unit_follows old.store.book new.store.book b serves.follows.store.units)
          serves.follows.store.accessed.follows.geometry
          (λ k at. serves.others now k (λ e. other (sym at ∙ e)));
      shape =
          still
          ∙ shape
          ∙ ap (λ m. record { present = true; sectors = length_at old.store.book addr; attention = m }) quiet
          ∙ ap (λ (s : Shape). shape_after s (Unmap lba count)) (sym shape)
          ∙ sym (after-shape (image_at old addr) (Unmap lba count));
      other_shapes =
          λ b other. shape_same old new b (unit_follows old.store.book new.store.book b serves.follows.store.units);
      accessed = serves.follows.store.accessed;
      capacity = serves.follows.capacity;
    }

-- a command of which a growth is reported
abbrev reported_command : UnitEntry
reported_command = Cmd [] []

abbrev reported_entry : Reply → List UnitEntry
reported_entry reply = cond (is_busy reply.status) [] (reported_command ∷ [])

-- a growth that was reported to a command, as to a discard
pub unmaps_reported : (old new : ArrayState) (addr : Addr) (n lba count : ℕ) (reply : Reply)
    → IsUnit old addr n → attention_at old.store.book addr ≡ true
    → reply ≡ check capacity_data_has_changed → new ≡ with_book old (unmarked old.store.book addr) → SameSeen old new
    → ExecutesUnmap old addr lba count reply new
unfolding answer
unmaps_reported old new addr n lba count reply unit tells is cleared seen =
    let reported_to =
    commands_reported old new addr n [] [] reply unit
    (ap (λ (b : Bool). b && not (operation_code [] == 0x12)) tells) is cleared seen in
    let sectors : List (List ℕ) = unit_sectors old addr in
    let before : image_at old addr ≡ Present sectors true =
    image_present old addr unit.there ∙ ap (λ m. Present sectors m) tells in
    let only : new ≡ once_reported old addr =
    cleared ∙ sym (ap (λ b. with_book old (cond b (unmarked old.store.book addr) old.store.book)) tells) in
    let tables : new.store.book ≡ reported old.store.book addr = ap (λ (s : ArrayState). s.store.book) only in
    let answered : reply.status ≢ Busy =
    λ busy. (let status = sym (ap (λ (r : Reply). r.status) is) ∙ busy in cc) in
    let shape = shape_present old addr unit.there in
    let sound : is_broken new ≡ false → reply ≡ (unmap_answer (image_at old addr) lba count).reply =
    λ now. is ∙ ap (λ (u : UnitState). (unmap_answer u lba count).reply) (sym before) in
    let marked : shape_of (image_at old addr)
    ≡ record { present = true; sectors = length_at old.store.book addr; attention = true } =
    shape ∙ ap (λ m. record { present = true; sectors = length_at old.store.book addr; attention = m }) tells in
    record {
      unmaps = record {
        sound = sound;
        left = λ now.
            (reported_to.obeys.sound now).left answered
            ∙ ap (λ (u : UnitState). (answer u [] []).state) before
            ∙ ap (λ (u : UnitState). (unmap_answer u lba count).state) (sym before);
        broken = λ lost. is ∙ ap (λ (s : Shape). broken_unmap s lba count) (sym marked);
        failure = failure_unmapped (is_broken new) (image_at old addr) lba count reply sound;
        units = subst (λ (t : Tables). SameUnits (reported old.store.book addr) t) (sym tables)
            (units_refl (reported old.store.book addr));
        accessed = reported_to.accessed;
        refused = λ _ _. only;
        lost = λ _. only;
        discarded = λ good. (let status = sym (ap (λ (r : Reply). r.status) is) ∙ good in absurd (cc));
        stopped = λ now gone. (let kept = ap (λ (s : ArrayState). is_broken s) cleared
            ∙ now in absurd (true≢false (sym gone ∙ kept)));
      };
      others = reported_to.others;
      shape =
          reported_to.shape
          ∙ ap (λ (r : Reply). shape_of (unit_run (image_at old addr) (reported_entry r))) is
          ∙ after-shape (image_at old addr) (reported_command)
          ∙ ap (λ (s : Shape). shape_after s reported_command) marked
          ∙ ap (λ (s : Shape). shape_after s (Unmap lba count)) (sym marked)
          ∙ sym (after-shape (image_at old addr) (Unmap lba count));
      other_shapes = reported_to.other_shapes;
      accessed = reported_to.accessed;
      capacity = reported_to.capacity;
    }

-- a discard where no unit is
pub unmaps_absent : (s : ArrayState) (addr : Addr) (lba count : ℕ) (reply : Reply)
    → has_unit s.store.book addr ≡ false → reply ≡ check logical_unit_not_supported
    → ExecutesUnmap s addr lba count reply s
unmaps_absent s addr lba count reply none is =
    let nothing : image_at s addr ≡ Absent = image_absent s addr none in
    let only : s ≡ once_reported s addr = sym (unreported s addr (absent_mark s.store.book addr none)) in
    let tables : s.store.book ≡ reported s.store.book addr = ap (λ (x : ArrayState). x.store.book) only in
    let sound : is_broken s ≡ false → reply ≡ (unmap_answer (image_at s addr) lba count).reply =
    λ now. is ∙ ap (λ (u : UnitState). (unmap_answer u lba count).reply) (sym nothing) in
    record {
      unmaps = record {
        sound = sound;
        left = λ now. nothing ∙ ap (λ (u : UnitState). (unmap_answer u lba count).state) (sym nothing);
        broken = λ lost. is ∙ ap (λ (u : UnitState). broken_unmap (shape_of u) lba count) (sym nothing);
        failure = failure_unmapped (is_broken s) (image_at s addr) lba count reply sound;
        units = subst (λ (t : Tables). SameUnits t s.store.book) tables (units_refl s.store.book);
        accessed = accessed_refl s.store.disks;
        refused = λ _ _. only;
        lost = λ _. only;
        discarded = λ good. (let status = sym (ap (λ (r : Reply). r.status) is) ∙ good in absurd (cc));
        stopped = λ now gone. absurd (true≢false (sym gone ∙ now));
      };
      others = λ now b other. refl;
      shape = ap shape_of (nothing ∙ ap (λ (u : UnitState). after u (Unmap lba count)) (sym nothing));
      other_shapes = λ b other. refl;
      accessed = accessed_refl s.store.disks;
      capacity = refl;
    }

-- one step by a discard
pub steps_unmapped : (old new : ArrayState) (addr : Addr) (lba count : ℕ) (reply : Reply)
    → ExecutesUnmap old addr lba count reply new
    → Steps old (UnmapEvent addr lba count) (UnmapOutcome reply) new
steps_unmapped old new addr lba count reply c = record {
  answers = c.unmaps;
  images = λ now a. everywhere (λ (u : UnitState). u) (image_at old) (image_at new) (UnmapEvent addr lba count)
      (UnmapOutcome reply) (image_after now) a;
  shapes = λ a. everywhere shape_of (image_at old) (image_at new) (UnmapEvent addr lba count) (UnmapOutcome reply)
      shape_after_it a;
  disks = cause_follows (UnmapEvent addr lba count) old.store.disks new.store.disks (λ d disk is. absurd (cc))
      c.accessed.follows;
  capacity = c.capacity;
  quiet = λ loud. absurd (cc);
}
  where
    own : List UnitEntry
    own = Unmap lba count ∷ []

    image_after : is_broken new ≡ false → (b : Addr)
        → image_at new b
        ≡ unit_run (image_at old b) (entry_at (address_of b) (UnmapEvent addr lba count) (UnmapOutcome reply))
    image_after now b =
        elim (addr_tells b addr) [
          | inl one ↦
              ap (image_at new) one.1
              ∙ c.unmaps.left now
              ∙ ap (λ (x : Addr). unit_run (image_at old x) own) (sym one.1)
              ∙ ap (λ t. unit_run (image_at old b) (cond t own [])) (sym (same_address_of addr b (sym one.1)))
          | inr two ↦
              c.others now b two.1
              ∙ ap (λ t. unit_run (image_at old b) (cond t own [])) (sym (other_address_of addr b (λ e. two.1 (sym e))))
        ]

    shape_after_it : (b : Addr) → shape_of (image_at new b)
        ≡ shape_of (unit_run (image_at old b)
        (entry_at (address_of b) (UnmapEvent addr lba count) (UnmapOutcome reply)))
    shape_after_it b =
        elim (addr_tells b addr) [
          | inl one ↦
              ap (λ (x : Addr). shape_of (image_at new x)) one.1
              ∙ c.shape
              ∙ ap (λ (x : Addr). shape_of (unit_run (image_at old x) own)) (sym one.1)
              ∙ ap (λ t. shape_of (unit_run (image_at old b) (cond t own [])))
              (sym (same_address_of addr b (sym one.1)))
          | inr two ↦
              c.other_shapes b two.1
              ∙ ap (λ t. shape_of (unit_run (image_at old b) (cond t own [])))
              (sym (other_address_of addr b (λ e. two.1 (sym e))))
        ]

-- blocks that are discarded whole access no disk
pub whole_free : (g : Geometry) (lba count : ℕ) (keys : List Key) (old new : ArrayState)
    → InTurn (DiscardsBlock g lba count) keys old new → All (λ key. is_whole g lba count key ≡ true) keys
    → new.store.disks ≡ old.store.disks
whole_free g lba count [] old new turn whole = ap (λ (s : ArrayState). s.store.disks) turn
whole_free g lba count (key ∷ keys) old new turn whole =
    let Whole : Key → Type 0 = λ k. is_whole g lba count k ≡ true in
    let here : DiscardsPart true (is_unwritten old key) old key turn.0 =
    subst (λ b. DiscardsPart b (is_unwritten old key) old key turn.0) (All-head Whole key keys whole) turn.1 in
    whole_free g lba count keys turn.0 new turn.2 (All-tail Whole key keys whole)
    ∙ ap (λ (s : ArrayState). s.store.disks) here

-- a discard of whole blocks accesses none
pub unmap_free : (old new : ArrayState) (addr : Addr) (lba count : ℕ) (reply : Reply)
    → Steps old (UnmapEvent addr lba count) (UnmapOutcome reply) new
    → All (λ key. is_whole (geometry_of old) lba count key ≡ true) (keys_in (geometry_of old) addr lba count)
    → reply.status ≡ Good
    → new.store.disks ≡ old.store.disks
unmap_free old new addr lba count reply steps whole good =
    whole_free (geometry_of old) lba count (keys_in (geometry_of old) addr lba count) old new
    (steps.answers.discarded good) whole
