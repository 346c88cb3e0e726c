-- Records that make one unit another, and no other unit.
use Rattle.std.proofs.Common.{◌≡◌, ◌≢◌, ◌≤◌, ◌+◌, ℕ, Bool, true, false, cond, eqb, List, [], ◌∷◌, ◌++◌, length}
use Rattle.std.proofs.Common.{refl, sym, ap, subst, ◌∙◌, arith, length-append, append-nil}
use Rattle.std.proofs.lemmas.Bool.{eqb-true, eq-eqb, and_parts, and_from}
use Rattle.ar_unit.specs.Unit.{UnitState, UnitEntry, unit_run}
use Rattle.ar_unit.proofs.Laws.{unit_run-append}
use Rattle.ar_record.specs.Record.{RecordData, Make, Grow, Remove, Command, Unmap, AddDisk, IsEncodable, AreEncodable}
use Rattle.ar_record.specs.Replay.{is_unit_at, entry_for, own_in, own_of}
use Rattle.ar_record.proofs.Replaying.{own_of-append}
use Rattle.ar_compaction.specs.Checkpoint.{added_disks, IsExecuted, AreExecuted}

-- an address is its own
pub is_unit_at-self : (a : ℕ × ℕ) → is_unit_at a a.0 a.1 ≡ true
is_unit_at-self a = and_from (eqb a.0 a.0) (eqb a.1 a.1) (eq-eqb a.0 a.0 refl) (eq-eqb a.1 a.1 refl)

pub is_unit_at-is : (a b : ℕ × ℕ) → is_unit_at a b.0 b.1 ≡ true → a ≡ b
is_unit_at-is (h, l) (i, m) e =
    let two = and_parts (eqb i h) (eqb m l) e in
    ap (λ n. (n, l)) (sym (eqb-true i h two.0)) ∙ ap (λ n. (i, n)) (sym (eqb-true m l two.1))

pub is_unit_at-other : (a b : ℕ × ℕ) → b ≢ a → is_unit_at b a.0 a.1 ≡ false
is_unit_at-other a b other = by (is_unit_at b a.0 a.1) refl
  where
    by : (r : Bool) → is_unit_at b a.0 a.1 ≡ r → r ≡ false
    by false e = refl
    by true e = absurd (other (is_unit_at-is b a e))

pub entry_self : (a : ℕ × ℕ) (entry : UnitEntry) → entry_for a a.0 a.1 entry ≡ entry ∷ []
entry_self a entry = ap (λ (r : Bool). cond r (entry ∷ []) []) (is_unit_at-self a)

pub entry_other : (a b : ℕ × ℕ) (entry : UnitEntry) → b ≢ a → entry_for b a.0 a.1 entry ≡ []
entry_other a b entry other = ap (λ (r : Bool). cond r (entry ∷ []) []) (is_unit_at-other a b other)

-- the records make of the unit at an address another, and nothing of other units
pub record Makes (P : Type 0) (a : ℕ × ℕ) (from : UnitState) (records : List RecordData) (to : UnitState) : Type 0 where
  pub made : unit_run from (own_of a records) ≡ to
  pub others : (b : ℕ × ℕ) → b ≢ a → own_of b records ≡ []
  pub disks : added_disks records ≡ []
  pub fit : AreEncodable records
  pub executed : P → AreExecuted a from records

-- a record of an array's disks adds no unit, and a record of a unit no disk
pub added_disks-append : (records more : List RecordData) → added_disks (records ++ more) ≡ added_disks records
    ++ added_disks more
added_disks-append [] more = refl
added_disks-append (Make host lun sectors ∷ records) more = added_disks-append records more
added_disks-append (Grow host lun sectors ∷ records) more = added_disks-append records more
added_disks-append (Remove host lun ∷ records) more = added_disks-append records more
added_disks-append (Command host lun cdb payload ∷ records) more = added_disks-append records more
added_disks-append (Unmap host lun lba count ∷ records) more = added_disks-append records more
added_disks-append (AddDisk extents ∷ records) more = ap (λ (l : List ℕ). extents ∷ l) (added_disks-append records more)

pub fit-append : (records more : List RecordData) → AreEncodable records → AreEncodable more
    → AreEncodable (records ++ more)
fit-append [] more fit also = also
fit-append (r ∷ records) more fit also = (fit.0, fit-append records more fit.1 also)

pub executed-append : (a : ℕ × ℕ) (from : UnitState) (records more : List RecordData) → AreExecuted a from records
    → AreExecuted a (unit_run from (own_of a records)) more → AreExecuted a from (records ++ more)
executed-append a from [] more done also = also
executed-append a from (r ∷ records) more done also = (
  done.0,
  executed-append a (unit_run from (own_in a r)) records more done.1
      (subst (λ (u : UnitState). AreExecuted a u more) (unit_run-append from (own_in a r) (own_of a records)) also),
)

pub makes_none : (P : Type 0) (a : ℕ × ℕ) (from to : UnitState) → from ≡ to → Makes P a from [] to
makes_none P a from to same = record {
  made = same;
  others = λ b other. refl;
  disks = refl;
  fit = tt;
  executed = λ p. tt;
}

pub makes_append : (P : Type 0) (a : ℕ × ℕ) (from between to : UnitState) (records more : List RecordData)
    → Makes P a from records between → Makes P a between more to → Makes P a from (records ++ more) to
makes_append P a from between to records more one two = record {
  made =
      ap (λ (l : List UnitEntry). unit_run from l) (own_of-append a records more)
      ∙ unit_run-append from (own_of a records) (own_of a more)
      ∙ ap (λ (u : UnitState). unit_run u (own_of a more)) one.made
      ∙ two.made;
  others = λ b other.
      own_of-append b records more
      ∙ ap (λ (l : List UnitEntry). l ++ own_of b more) (one.others b other)
      ∙ two.others b other;
  disks =
      added_disks-append records more
      ∙ ap (λ (l : List ℕ). l ++ added_disks more) one.disks
      ∙ two.disks;
  fit = fit-append records more one.fit two.fit;
  executed = λ p.
      executed-append a from records more (one.executed p)
      (subst (λ (u : UnitState). AreExecuted a u more) (sym one.made) (two.executed p));
}

-- one record, which names the unit
pub makes_one : (P : Type 0) (a : ℕ × ℕ) (from to : UnitState) (r : RecordData) (entry : UnitEntry)
    → ((b : ℕ × ℕ) → own_in b r ≡ entry_for b a.0 a.1 entry) → added_disks (r ∷ []) ≡ [] → IsEncodable r
    → (P → IsExecuted from r) → unit_run from (entry ∷ []) ≡ to → Makes P a from (r ∷ []) to
makes_one P a from to r entry own disks fit executed made = record {
  made =
      ap (λ (l : List UnitEntry). unit_run from l) (append-nil (own_in a r) ∙ own a ∙ entry_self a entry)
      ∙ made;
  others = λ b other. append-nil (own_in b r) ∙ own b ∙ entry_other a b entry other;
  disks = disks;
  fit = (fit, tt);
  executed = λ p. (λ named. executed p, tt);
}

pub length-records : (records more : List RecordData) (m n : ℕ) → length records ≤ m → length more ≤ n
    → length (records ++ more) ≤ m + n
length-records records more m n one two = omega (arith, length-append records more, one, two)
