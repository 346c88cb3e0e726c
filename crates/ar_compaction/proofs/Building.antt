-- A compaction is built from the checkpoints of units.
use Rattle.std.proofs.Common.{◌≡◌, ◌≢◌, ℕ, Bool, true, false, ◌||◌, List, [], ◌∷◌, ◌++◌, refl, sym, ap, subst, ◌∙◌}
use Rattle.std.proofs.Common.{append-nil}
use Rattle.std.proofs.lemmas.Bool.{true≢false, or_parts}
use Rattle.ar_unit.specs.Unit.{UnitState, Absent, UnitEntry, unit_run}
use Rattle.ar_unit.proofs.Laws.{unit_run-append}
use Rattle.ar_record.specs.Record.{RecordData, Make, Grow, Remove, Command, Unmap, AddDisk}
use Rattle.ar_record.specs.Replay.{is_unit_at, own_in, own_of, unit_of}
use Rattle.ar_record.proofs.Replaying.{own_of-append, unit_of-append}
use Rattle.ar_compaction.specs.Addresses.{is_among}
use Rattle.ar_compaction.specs.Checkpoint.{added_disks, AreExecuted, IsCheckpoint}
use Rattle.ar_compaction.specs.Compaction.{disk_records, BeginsCompaction, ContinuesCompaction, EndsCompaction}
use Rattle.ar_compaction.specs.Compaction.{TakesLater}
use Rattle.ar_compaction.proofs.Creation.{is_unit_at-is, is_unit_at-self, added_disks-append, executed-append}
use Rattle.ar_compaction.proofs.Granted.{can_be_created_again}
use Rattle.ar_compaction.proofs.Noting.{among-push, named_own}

-- ---- records of added disks

disk_records-own : (a : ℕ × ℕ) (records : List RecordData) → own_of a (disk_records records) ≡ []
disk_records-own a [] = refl
disk_records-own a (Make host lun sectors ∷ records) = disk_records-own a records
disk_records-own a (Grow host lun sectors ∷ records) = disk_records-own a records
disk_records-own a (Remove host lun ∷ records) = disk_records-own a records
disk_records-own a (Command host lun cdb payload ∷ records) = disk_records-own a records
disk_records-own a (Unmap host lun lba count ∷ records) = disk_records-own a records
disk_records-own a (AddDisk extents ∷ records) = disk_records-own a records

disk_records-disks : (records : List RecordData) → added_disks (disk_records records) ≡ added_disks records
disk_records-disks [] = refl
disk_records-disks (Make host lun sectors ∷ records) = disk_records-disks records
disk_records-disks (Grow host lun sectors ∷ records) = disk_records-disks records
disk_records-disks (Remove host lun ∷ records) = disk_records-disks records
disk_records-disks (Command host lun cdb payload ∷ records) = disk_records-disks records
disk_records-disks (Unmap host lun lba count ∷ records) = disk_records-disks records
disk_records-disks (AddDisk extents ∷ records) = ap (λ (l : List ℕ). extents ∷ l) (disk_records-disks records)

pub disk_records-append : (records more : List RecordData)
    → disk_records (records ++ more) ≡ disk_records records ++ disk_records more
disk_records-append [] more = refl
disk_records-append (Make host lun sectors ∷ records) more = disk_records-append records more
disk_records-append (Grow host lun sectors ∷ records) more = disk_records-append records more
disk_records-append (Remove host lun ∷ records) more = disk_records-append records more
disk_records-append (Command host lun cdb payload ∷ records) more = disk_records-append records more
disk_records-append (Unmap host lun lba count ∷ records) more = disk_records-append records more
disk_records-append (AddDisk extents ∷ records) more =
    ap (λ (l : List RecordData). AddDisk extents ∷ l) (disk_records-append records more)

pub begins : BeginsCompaction
begins old = record {
  units = λ a among. absurd (true≢false (sym among));
  others = λ a among. disk_records-own a old;
  disks = disk_records-disks old;
  again = λ a among. absurd (true≢false (sym among));
}

-- ---- one address more

or_second : (p q : Bool) → p ≡ false → p || q ≡ true → q ≡ true
or_second true q e f = absurd (true≢false e)
or_second false q e f = f

-- an address that is among others is not one that isn't
apart : (a b : ℕ × ℕ) (addresses : List (ℕ × ℕ)) → is_among a addresses ≡ false → is_among b addresses ≡ true → b ≢ a
apart a b addresses fresh known same =
    true≢false (sym known ∙ ap (λ (x : ℕ × ℕ). is_among x addresses) same ∙ fresh)

-- records that say nothing of a unit have nothing that is executed there
nil_left : (l m : List UnitEntry) → l ++ m ≡ [] → l ≡ []
nil_left [] m e = refl
nil_left (x ∷ l) m e = absurd cc

nil_right : (l m : List UnitEntry) → l ++ m ≡ [] → m ≡ []
nil_right [] m e = e
nil_right (x ∷ l) m e = absurd cc

none_executed : (a : ℕ × ℕ) (state : UnitState) (records : List RecordData) → own_of a records ≡ []
    → AreExecuted a state records
none_executed a state [] e = tt
none_executed a state (r ∷ records) e = (
  λ named. absurd (named_own a r named (nil_left (own_in a r) (own_of a records) e)),
  none_executed a (unit_run state (own_in a r)) records (nil_right (own_in a r) (own_of a records) e),
)

-- ---- one unit more

-- what is claimed of the unit at one address
record CompactsAt (a : ℕ × ℕ) (old new : List RecordData) : Type 0 where
  pub unit : unit_of new a ≡ unit_of old a
  pub again : AreExecuted a Absent old → AreExecuted a Absent new

-- a unit that was there before
at_earlier : (b : ℕ × ℕ) (old new part : List RecordData) → CompactsAt b old new → own_of b part ≡ []
    → CompactsAt b old (new ++ part)
at_earlier b old new part before none = record {
  unit =
      unit_of-append b new part
      ∙ ap (λ (l : List UnitEntry). unit_run (unit_of new b) l) none
      ∙ before.unit;
  again = λ done.
      executed-append b Absent new part (before.again done) (none_executed b (unit_of new b) part none);
}

-- the new one
at_new : (a : ℕ × ℕ) (old new part : List RecordData) → own_of a new ≡ [] → IsCheckpoint a (unit_of old a) part
    → CompactsAt a old (new ++ part)
at_new a old new part none checkpoint =
    let absent : unit_of new a ≡ Absent = ap (λ (l : List UnitEntry). unit_run Absent l) none in
    record {
      unit =
          unit_of-append a new part
          ∙ ap (λ (u : UnitState). unit_run u (own_of a part)) absent
          ∙ checkpoint.made;
      again = λ done.
          executed-append a Absent new part (none_executed a Absent new none)
          (subst (λ (u : UnitState). AreExecuted a u part) (sym absent)
          (checkpoint.again (can_be_created_again a old done)));
    }

pub goes_on : ContinuesCompaction
goes_on addresses a old new part so_far fresh checkpoint = record {
  units = λ b among. (at b among).unit;
  others = λ b among.
      let two = or_parts (is_among b addresses) (is_unit_at b a.0 a.1) (sym (among-push b a addresses) ∙ among) in
      own_of-append b new part
      ∙ ap (λ (l : List UnitEntry). l ++ own_of b part) (so_far.others b two.0)
      ∙ checkpoint.others b (λ same. true≢false
      (sym (ap (λ (x : ℕ × ℕ). is_unit_at x a.0 a.1) same ∙ is_unit_at-self a) ∙ two.1));
  disks =
      added_disks-append new part
      ∙ ap (λ (l : List ℕ). added_disks new ++ l) checkpoint.disks
      ∙ append-nil (added_disks new)
      ∙ so_far.disks;
  again = λ b among. (at b among).again;
}
  where
    by : (b : ℕ × ℕ) → is_among b (addresses ++ a ∷ []) ≡ true → (here : Bool) → is_among b addresses ≡ here
        → CompactsAt b old (new ++ part)
    by b among true here =
        at_earlier b old new part (record { unit = so_far.units b here; again = so_far.again b here })
        (checkpoint.others b (apart a b addresses fresh here))
    by b among false here =
        let is : b ≡ a = is_unit_at-is b a (or_second (is_among b addresses) (is_unit_at b a.0 a.1) here
        (sym (among-push b a addresses) ∙ among)) in
        subst (λ (x : ℕ × ℕ). CompactsAt x old (new ++ part)) (sym is)
        (at_new a old new part (so_far.others a fresh) checkpoint)

    at : (b : ℕ × ℕ) → is_among b (addresses ++ a ∷ []) ≡ true → CompactsAt b old (new ++ part)
    at b among = by b among (is_among b addresses) refl

-- ---- the whole

not_named : (l : List UnitEntry) (named : Bool) → (l ≢ [] → named ≡ true) → named ≡ false → l ≡ []
not_named [] named h e = refl
not_named (x ∷ l) named h e = absurd (true≢false (sym (h (λ f. cc)) ∙ e))

pub ends : EndsCompaction
ends addresses old new compacts are = record {
  units = λ a. (at a).unit;
  disks = compacts.disks;
  again = λ a. (at a).again;
}
  where
    by : (a : ℕ × ℕ) (among : Bool) → is_among a addresses ≡ among → CompactsAt a old new
    by a true among = record { unit = compacts.units a among; again = compacts.again a among }
    by a false among =
        let none : own_of a new ≡ [] = compacts.others a among in
        let old_none : own_of a old ≡ [] = not_named (own_of a old) (is_among a addresses) (are.named a) among in
        record {
          unit = ap (λ (l : List UnitEntry). unit_run Absent l) (none ∙ sym old_none);
          again = λ done. none_executed a Absent new none;
        }

    at : (a : ℕ × ℕ) → CompactsAt a old new
    at a = by a (is_among a addresses) refl

-- ---- later records

executed-split : (a : ℕ × ℕ) (from : UnitState) (records more : List RecordData) → AreExecuted a from (records ++ more)
    → AreExecuted a from records × AreExecuted a (unit_run from (own_of a records)) more
executed-split a from [] more done = (tt, done)
executed-split a from (r ∷ records) more done =
    let two = executed-split a (unit_run from (own_in a r)) records more done.1 in (
      (done.0, two.0),
      subst (λ (u : UnitState). AreExecuted a u more)
          (sym (unit_run-append from (own_in a r) (own_of a records))) two.1,
    )

pub takes_later : TakesLater
takes_later old new later is = record {
  units = λ a.
      unit_of-append a new later
      ∙ ap (λ (u : UnitState). unit_run u (own_of a later)) (is.units a)
      ∙ sym (unit_of-append a old later);
  disks =
      added_disks-append new later
      ∙ ap (λ (l : List ℕ). l ++ added_disks later) is.disks
      ∙ sym (added_disks-append old later);
  again = λ a done.
      let two = executed-split a Absent old later done in
      executed-append a Absent new later (is.again a two.0)
      (subst (λ (u : UnitState). AreExecuted a u later) (sym (is.units a)) two.1);
}
