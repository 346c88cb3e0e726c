-- What an attempt implies, in the relations of `Follows`: which disks were accessed, and which rows were written.
use Rattle.std.proofs.Common.{◌≡◌, ◌≢◌, ◌⊎◌, inl, inr, ℕ, ◌+◌, Bool, true, false, not, ◌&&◌, cond, eqb, [], ◌∷◌, refl}
use Rattle.std.proofs.Common.{sym, ◌∙◌, ap, subst, arith}
use Rattle.std.specs.Prelude.{count_by}
use Rattle.std.proofs.lemmas.Bool.Decides.{eqb_tells, nat_tests}
use Rattle.ar_disks.specs.declared.address.Place.{Place}
use Rattle.ar_extents.specs.declared.health.Health.{Health}
use Rattle.ar_extents.specs.declared.health.Health.TheVariants.{Whole, Out, Rebuilding, Broken}
use Rattle.ar_extents.specs.Health.{is_lost, is_missing, after_fault, IsRebuilding, rebuilt_disk}
use Rattle.ar_extents.specs.declared.log.RowAccess.{RowAccess}
use Rattle.ar_extents.specs.Set.{SetState, IsLost, faults_of, disk_in, content}
use Rattle.ar_extents.specs.Follows.{Follows, Keeps, KeepsBut, Anywhere, IsPlace, WorksOn}
use Rattle.ar_extents.specs.declared.answers.Got.{Got}
use Rattle.ar_extents.specs.declared.answers.Got.TheVariants.{Missing, Broken as ReadBroken}
use Rattle.ar_extents.specs.Access.{is_read, next_place}
use Rattle.ar_extents.specs.Log.{AccountsFor, is_on, is_fault_of, is_writing, writes_row}
use Rattle.ar_extents.specs.Plans.{Attempt, Attempts, AccessPlan, Stop, Try, IfMissing, both_of}
use Rattle.ar_extents.specs.Plans.{CarriesOut, stops, goes_on, falls_back, without, with_it}
use Rattle.ar_extents.specs.Plans.{access_of, read_at, write_at, skips, rebuild_at, rebuilds_none}
use Rattle.ar_extents.proofs.Accounts.{count_one}
use Rattle.ar_extents.proofs.Access.{Touches, follows_touched}
use Rattle.ar_extents.proofs.Faults.{is_lost-after_fault}
use Rattle.ar_extents.proofs.Losses.{lost_or_sound}
use Rattle.ar_extents.proofs.GroupLemmas.{same_place, place_is}
use Rattle.ar_extents.proofs.Plans.{none_made, one_made}

fault_reported : (n m k : ℕ) (done : Bool) → m ≡ n + k → k ≡ cond (not done) 1 0 → m ≡ cond done n (n + 1)
fault_reported n m k true is one = omega arith
fault_reported n m k false is one = omega arith

-- one access touches its disk alone
touched_one : (t : Attempt) (done : Bool) (a b : SetState) → AccountsFor (access_of t done ∷ []) a b
    → Touches a b t.place.disk done
touched_one t done a b made =
    let x : RowAccess = access_of t done in
    let d : ℕ = t.place.disk in
    let here : is_on d x ≡ true = grind (arith, nat_tests) in
    record {
      geometry = made.geometry;
      extents = made.extents;
      others = record {
        others = λ y ne. made.disks y (count_one (is_on y) x false (grind (arith, nat_tests)));
        len = made.count;
      };
      health = made.health;
      faults = fault_reported (faults_of a d) (faults_of b d) (count_by (is_fault_of d) (x ∷ [])) done (made.faults d)
          (count_one (is_fault_of d) x (not done) (ap (λ k. k && not done) here));
      loose = made.loose;
    }

-- an attempt that isn't skipped touches its disk alone
pub attempt_touches : (t : Attempt) (done : Bool) (a b : SetState) → skips a.health t ≡ false → Attempts t done a b
    → Touches a b t.place.disk done
attempt_touches t done a b used tried = touched_one t done a b (one_made t done a b used tried)

follows_none : (a b : SetState) → AccountsFor [] a b → Follows a b
follows_none a b made = record {
  geometry = made.geometry;
  extents = made.extents;
  count = made.count;
  faults = λ d. let n = made.faults d in omega arith;
  noticed = λ d more. absurd (let n = made.faults d in omega arith);
  usable = λ p sound. let P : Health → Type 0 = λ h. is_lost h p.disk p.extent ≡ false in subst P made.health sound;
  out = λ d is. inl (sym made.health ∙ is);
  rebuilding = λ d done is. sym made.health ∙ is;
  broken = λ is. inl (sym made.health ∙ is);
}

by_skip : (skip : Bool) → (skip ≡ true) ⊎ (skip ≡ false)
by_skip true = inl refl
by_skip false = inr refl

-- no disk fails without a cause
pub attempt_follows : (t : Attempt) (done : Bool) (a b : SetState) → Attempts t done a b → Follows a b
attempt_follows t done a b tried =
    elim (by_skip (skips a.health t)) [
      | inl skip ↦ follows_none a b (none_made t done a b skip tried)
      | inr used ↦ follows_touched a b t.place.disk done (attempt_touches t done a b used tried)
    ]

pub attempt_loose : (t : Attempt) (done : Bool) (a b : SetState) → Attempts t done a b → b.loose ≡ a.loose
attempt_loose t done a b tried = tried.made.loose

-- a skipped attempt leaves every disk,
pub skipped_leaves : (t : Attempt) (done : Bool) (a b : SetState) → skips a.health t ≡ true → Attempts t done a b
    → (d : ℕ) → disk_in b.disks d ≡ disk_in a.disks d
skipped_leaves t done a b skip tried d = (none_made t done a b skip tried).disks d refl

-- and another one those of other extents
pub attempt_leaves : (t : Attempt) (done : Bool) (a b : SetState) → Attempts t done a b → (d : ℕ) → d ≢ t.place.disk
    → disk_in b.disks d ≡ disk_in a.disks d
attempt_leaves t done a b tried d ne =
    elim (by_skip (skips a.health t)) [
      | inl skip ↦ skipped_leaves t done a b skip tried d
      | inr used ↦ (attempt_touches t done a b used tried).others.others d ne
    ]

-- it changes the row that it writes alone
pub attempt_rows : (t : Attempt) (done : Bool) (a b : SetState) → Attempts t done a b
    → (p : Place) (r : ℕ) → writes_row p r (access_of t done) ≡ false → content b p r ≡ content a p r
attempt_rows t done a b tried p r unwritten =
    elim (by_skip (skips a.health t)) [
      | inl skip ↦ (none_made t done a b skip tried).rows p r refl
      | inr used ↦ (one_made t done a b used tried).rows p r
          (count_one (writes_row p r) (access_of t done) false unwritten)
    ]

and_false : (b : Bool) → (b && false) ≡ false
and_false true = refl
and_false false = refl

other_place : (p q : Place) → q ≢ p → (eqb p.disk q.disk && eqb p.extent q.extent) ≡ false
other_place p q ne =
    elim (eqb_tells p.disk q.disk) [
      | inr d ↦ ap (λ k. k && eqb p.extent q.extent) d.0
      | inl d ↦
          elim (eqb_tells p.extent q.extent) [
            | inr e ↦ ap (λ k. k && eqb p.extent q.extent) d.0 ∙ e.0
            | inl e ↦ absurd (ne (sym (place_is p q d.1 e.1)))
          ]
    ]

unwritten_place : (t : Attempt) (done : Bool) (q : Place) (r : ℕ) → q ≢ t.place
    → writes_row q r (access_of t done) ≡ false
unwritten_place t done q r ne =
    ap (λ k. is_writing t.kind && (eqb t.row r && k)) (other_place t.place q ne)
    ∙ ap (λ k. is_writing t.kind && k) (and_false (eqb t.row r)) ∙ and_false (is_writing t.kind)

unwritten_at : (t : Attempt) (done : Bool) (q : Place) (r : ℕ) → r ≢ t.row → writes_row q r (access_of t done) ≡ false
unwritten_at t done q r ne =
    let other : eqb t.row r ≡ false = grind (arith, nat_tests) in
    ap (λ k. is_writing t.kind && (k && (eqb t.place.disk q.disk && eqb t.place.extent q.extent))) other
    ∙ and_false (is_writing t.kind)

-- a write changes its own row alone
pub attempt_keeps : (t : Attempt) (done : Bool) (a b : SetState) → Attempts t done a b → KeepsBut t.place t.row a b
attempt_keeps t done a b tried = record {
  other_rows = λ r ne. attempt_rows t done a b tried t.place r (unwritten_at t done t.place r ne);
  other_places = record { rows = λ p ne r. attempt_rows t done a b tried p r (unwritten_place t done p r ne) };
}

-- a read none
pub read_changes_none : (p : Place) (row : ℕ) (done : Bool) (a b : SetState) → Attempts (read_at p row) done a b
    → Keeps Anywhere a b
read_changes_none p row done a b tried =
    record { rows = λ q is r. attempt_rows (read_at p row) done a b tried q r refl }

-- reads and writes of usable extents are work on them
pub works_attempt : (t : Attempt) (done : Bool) (a b : SetState)
    → skips a.health t ≡ is_lost a.health t.place.disk t.place.extent → Attempts t done a b
    → WorksOn (IsPlace t.place) a b
works_attempt t done a b when tried = record {
  follows = attempt_follows t done a b tried;
  loose = tried.made.loose;
  lost = record {
    rows = λ p lost r.
        elim (same_place p t.place) [
          | inl same ↦
              (let P : Place → Type 0 = λ q. IsLost a q in
              (none_made t done a b (when ∙ subst P same lost) tried).rows p r refl)
          | inr ne ↦ attempt_rows t done a b tried p r (unwritten_place t done p r ne)
        ];
  };
  touches = record {
    disks = λ d none.
        elim (lost_or_sound a t.place) [
          | inl lost ↦ skipped_leaves t done a b (when ∙ lost) tried d
          | inr sound ↦ attempt_leaves t done a b tried d (none t.place refl sound)
        ];
  };
}

pub read_works : (p : Place) (row : ℕ) (done : Bool) (a b : SetState) → Attempts (read_at p row) done a b
    → WorksOn (IsPlace p) a b
read_works p row done a b tried = works_attempt (read_at p row) done a b refl tried

pub write_works : (p : Place) (row : ℕ) (done : Bool) (a b : SetState) → Attempts (write_at p row) done a b
    → WorksOn (IsPlace p) a b
write_works p row done a b tried = works_attempt (write_at p row) done a b refl tried

-- a plan's first attempt, and the state that it left
pub record Went (t : Attempt) (next other : AccessPlan) (a c : SetState) : Type 0 where
  pub between : SetState
  pub done : Bool
  pub tried : Attempts t done a between
  pub rest : CarriesOut (cond done next other) between c

pub went : (t : Attempt) (next other : AccessPlan) (a c : SetState) → CarriesOut (Try t next other) a c
    → Went t next other a c
went t next other a c (goes_on _ _ _ _ b _ tried rest) = record { between = b; done = true; tried = tried; rest = rest }
went t next other a c (falls_back _ _ _ _ b _ tried rest) =
    record { between = b; done = false; tried = tried; rest = rest }

-- how a plan went on that goes by whether an extent is missing
pub went_if : (p : Place) (next other : AccessPlan) (a b : SetState) → CarriesOut (IfMissing p next other) a b
    → CarriesOut (cond (is_missing a.health p.disk p.extent) next other) a b
went_if p next other a b (without _ _ _ _ _ is rest) =
    let P : Bool → Type 0 = λ k. CarriesOut (cond k next other) a b in subst P (sym is) rest
went_if p next other a b (with_it _ _ _ _ _ is rest) =
    let P : Bool → Type 0 = λ k. CarriesOut (cond k next other) a b in subst P (sym is) rest

-- the state between two plans
pub record WentBoth (one other : AccessPlan) (a c : SetState) : Type 0 where
  pub between : SetState
  pub first : CarriesOut one a between
  pub last : CarriesOut other between c

pub went_both : (first last : AccessPlan) (a c : SetState) → CarriesOut (both_of first last) a c
    → WentBoth first last a c
went_both Stop last a c carried = record { between = a; first = stops a; last = carried }
went_both (Try t next other) last a c (goes_on _ _ _ _ b _ tried rest) =
    let both = went_both next last b c rest in
    record { between = both.between; first = goes_on t next other a b both.between tried both.first; last = both.last }
went_both (Try t next other) last a c (falls_back _ _ _ _ b _ tried rest) =
    let both = went_both other last b c rest in
    record {
      between = both.between;
      first = falls_back t next other a b both.between tried both.first;
      last = both.last;
    }
went_both (IfMissing p next other) last a c (without _ _ _ _ _ is rest) =
    let both = went_both next last a c rest in
    record { between = both.between; first = without p next other a both.between is both.first; last = both.last }
went_both (IfMissing p next other) last a c (with_it _ _ _ _ _ is rest) =
    let both = went_both other last a c rest in
    record { between = both.between; first = with_it p next other a both.between is both.first; last = both.last }

-- one attempt alone, and what it left
pub record Tried (t : Attempt) (a b : SetState) : Type 0 where
  pub done : Bool
  pub tried : Attempts t done a b

pub tried_one : (t : Attempt) (a b : SetState) → CarriesOut (Try t Stop Stop) a b → Tried t a b
tried_one t a b (goes_on _ _ _ _ _ _ tried (stops _)) = record { done = true; tried = tried }
tried_one t a b (falls_back _ _ _ _ _ _ tried (stops _)) = record { done = false; tried = tried }

-- a read that returned no block wasn't answered
pub unread : (t : Attempt) (a b : SetState) (got : Got) → (got ≡ Missing) ⊎ (got ≡ ReadBroken)
    → Attempts t (is_read got) a b → Attempts t false a b
unread t a b got (inl missing) tried = subst (λ (k : Bool). Attempts t k a b) (ap is_read missing) tried
unread t a b got (inr broken) tried = subst (λ (k : Bool). Attempts t k a b) (ap is_read broken) tried

lost_after : (t : Attempt) (a b : SetState) (skip : Bool) → skips a.health t ≡ skip
    → skips a.health t ≡ is_lost a.health t.place.disk t.place.extent
    → Attempts t false a b → IsLost b t.place
lost_after t a b true skip when tried =
    let P : Health → Type 0 = λ h. is_lost h t.place.disk t.place.extent ≡ true in
    subst P (sym (none_made t false a b skip tried).health) (sym when ∙ skip)
lost_after t a b false used when tried =
    let P : Health → Type 0 = λ h. is_lost h t.place.disk t.place.extent ≡ true in
    subst P (sym (one_made t false a b used tried).health) (is_lost-after_fault a.health t.place.disk t.place.extent)

-- an extent whose read or write wasn't answered is lost
pub unread_lost : (p : Place) (row : ℕ) (a b : SetState) → Attempts (read_at p row) false a b → IsLost b p
unread_lost p row a b tried = lost_after (read_at p row) a b (skips a.health (read_at p row)) refl refl tried

-- nothing was done
pub nothing_done : (a b : SetState) → CarriesOut Stop a b → a ≡ b
nothing_done a _ (stops _) = refl

-- a read, and then a write of one row
pub keeps_but_after : (p : Place) (row : ℕ) (a b c : SetState) → Keeps Anywhere a b → KeepsBut p row b c
    → KeepsBut p row a c
keeps_but_after p row a b c first second = record {
  other_rows = λ r ne. second.other_rows r ne ∙ first.rows p tt r;
  other_places = record { rows = λ q ne r. second.other_places.rows q ne r ∙ first.rows q tt r };
}

out_of_rebuilding : (h : Health) → IsRebuilding h → after_fault h (rebuilt_disk h) ≡ Broken → ⊥
out_of_rebuilding Whole is broken = is
out_of_rebuilding (Out x) is broken = is
out_of_rebuilding (Rebuilding x done) is broken =
    elim (eqb_tells x x) [ inl t ↦ (let k : Out x ≡ Broken = rw t.0 at broken in cc) | inr t ↦ t.1 refl ]
out_of_rebuilding Broken is broken = is

still_rebuilding : (h : Health) → IsRebuilding h → h ≡ Broken → ⊥
still_rebuilding h is broken = let P : Health → Type 0 = λ x. IsRebuilding x in subst P broken is

tried_rebuilding : (t : Attempt) (done : Bool) (b c : SetState) → IsRebuilding b.health
    → t.place.disk ≡ rebuilt_disk b.health → skips b.health t ≡ false
    → Attempts t done b c → c.health ≡ Broken → ⊥
tried_rebuilding t true b c is place used tried broken =
    still_rebuilding b.health is (sym (one_made t true b c used tried).health ∙ broken)
tried_rebuilding t false b c is place used tried broken =
    out_of_rebuilding b.health is (ap (λ d. after_fault b.health d) (sym place)
    ∙ sym (one_made t false b c used tried).health ∙ broken)

used_rebuilding : (h : Health) → IsRebuilding h → rebuilds_none h ≡ false
used_rebuilding Whole is = absurd is
used_rebuilding (Out x) is = absurd is
used_rebuilding (Rebuilding x done) is = refl
used_rebuilding Broken is = absurd is

-- a write to the new disk breaks no set: where it faults, the disk is out
pub rebuilt_sound : (a b c : SetState) (row : ℕ) (done : Bool) → IsRebuilding a.health → b.health ≡ a.health
    → Attempts (rebuild_at (next_place a) row) done b c
    → c.health ≡ Broken → ⊥
rebuilt_sound a b c row done is same tried =
    let P : Health → Type 0 = λ x. IsRebuilding x in
    let here : IsRebuilding b.health = subst P (sym same) is in
    tried_rebuilding (rebuild_at (next_place a) row) done b c here (sym (ap rebuilt_disk same))
    (used_rebuilding b.health here) tried
