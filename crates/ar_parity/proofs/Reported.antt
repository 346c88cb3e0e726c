-- What the plans of calls imply, in the relations of `Follows`.
use Rattle.std.proofs.Common.{◌≡◌, ◌≢◌, ◌⊎◌, inl, inr, ℕ, zero, suc, List, [], ◌∷◌, ◌++◌, ◌<◌, ◌≤◌, ◌+◌, ◌*◌, ◌%◌, Bool}
use Rattle.std.proofs.Common.{true, false, cond, refl, sym, ◌∙◌, ap, subst, arith}
use Rattle.std.proofs.lemmas.Bool.Decides.{nat_tests}
use Rattle.ar_disks.specs.declared.address.Place.{Place}
use Rattle.ar_disks.specs.declared.address.Members.{Members}
use Rattle.ar_disks.specs.Disk.{DiskState}
use Rattle.ar_disks.specs.Members.{member, AreApart}
use Rattle.ar_extents.specs.declared.health.Health.TheVariants.{Broken}
use Rattle.ar_extents.specs.Health.{IsRebuilding, rebuilt_disk, is_missing}
use Rattle.ar_extents.specs.Set.{SetState, content, IsSound, faults_of}
use Rattle.ar_extents.specs.Follows.{Follows, Keeps, KeepsBut, Anywhere, IsPlace, IsEither, LeavesDisks, HasNoneOf}
use Rattle.ar_extents.specs.Follows.{WorksOn, WorksInTurn}
use Rattle.ar_extents.specs.Access.{next_place}
use Rattle.ar_extents.specs.Groups.{IsGroup, IsMember, IsOutside}
use Rattle.ar_extents.specs.Plans.{AccessPlan, Stop, Try, Attempt, Attempts, CarriesOut, all_of, each_of, read_at}
use Rattle.ar_extents.specs.Plans.{write_at, rebuild_at}
use Rattle.ar_extents.proofs.Follows.{keeps_refl, keeps_then, works_refl, works_then, works_more, works_in_turn}
use Rattle.ar_extents.proofs.Follows.{in_turn_first, follows_then}
use Rattle.ar_extents.proofs.Losses.{lost_not_sound}
use Rattle.ar_extents.proofs.Plans.{answered_health}
use Rattle.ar_extents.proofs.GroupLemmas.{same_place, member_is, works_member, works_pair}
use Rattle.ar_extents.proofs.Asking.{went_if, went, tried_one, nothing_done, read_changes_none, read_works, write_works}
use Rattle.ar_extents.proofs.Asking.{unread_lost, attempt_follows, attempt_keeps, attempt_leaves, keeps_but_after}
use Rattle.ar_extents.proofs.Asking.{rebuilt_sound}
use Rattle.ar_parity.specs.Row.{row_of, data_position, parity_position}
use Rattle.ar_parity.specs.Group.{Holds, KeepsButRow}
use Rattle.ar_parity.specs.Others.{low_other, high_other}
use Rattle.ar_parity.specs.Plans.{three_reads, parity_read, parity_write, parity_rebuild, write_member, write_two}
use Rattle.ar_parity.specs.Plans.{write_known, write_lost, write_by_reading, stripe_write, writes_from, stripes_from}
use Rattle.ar_parity.specs.Plans.{stripe_writes}
use Rattle.ar_parity.proofs.Agrees.{other_row_agrees}
use Rattle.ar_parity.proofs.Updates.{row_refl, row_then}
use Rattle.ar_parity.proofs.Working.{first_of_two, row_unasked}

-- reads, of these extents alone
pub record OnlyReads (these : Place → Type 0) (a b : SetState) : Type 0 where
  pub keeps : Keeps Anywhere a b
  pub works : WorksOn these a b

reads_none : (these : Place → Type 0) (a b : SetState) → a ≡ b → OnlyReads these a b
reads_none these a b same =
    subst (λ (s : SetState). OnlyReads these a s) same
    (record { keeps = keeps_refl Anywhere a; works = works_refl these a })

reads_one : (these : Place → Type 0) (p : Place) (row : ℕ) (done : Bool) (a b : SetState) → these p
    → Attempts (read_at p row) done a b → OnlyReads these a b
reads_one these p row done a b is tried = record {
  keeps = read_changes_none p row done a b tried;
  works = works_more (IsPlace p) these a b (λ q same. subst these (sym same) is) (read_works p row done a b tried);
}

reads_then : (these : Place → Type 0) (a b c : SetState) → OnlyReads these a b → OnlyReads these b c
    → OnlyReads these a c
reads_then these a b c ab bc =
    record { keeps = keeps_then Anywhere a b c ab.keeps bc.keeps; works = works_then these a b c ab.works bc.works }

-- the plan went on from a state in which no read had failed
pub record WentOn (next : AccessPlan) (a b c : SetState) : Type 0 where
  pub health : b.health ≡ a.health
  pub carried : CarriesOut next b c

-- reads in turn, and what went on after them, if anything
pub record ReadsThen (these : Place → Type 0) (next : AccessPlan) (a c : SetState) : Type 0 where
  pub between : SetState
  pub reads : OnlyReads these a between
  pub rest : (between ≡ c) ⊎ WentOn next a between c

last_by : (these : Place → Type 0) (q : Place) (row : ℕ) (next : AccessPlan) (a b c d : SetState) (done : Bool)
    → these q → OnlyReads these a b → b.health ≡ a.health
    → Attempts (read_at q row) done b c → CarriesOut (cond done next Stop) c d → ReadsThen these next a d
last_by these q row next a b c d true is before same tried rest = record {
  between = c;
  reads = reads_then these a b c before (reads_one these q row true b c is tried);
  rest = inr (record { health = answered_health (read_at q row) b c tried ∙ same; carried = rest });
}
last_by these q row next a b c d false is before same tried rest = record {
  between = c;
  reads = reads_then these a b c before (reads_one these q row false b c is tried);
  rest = inl (nothing_done c d rest);
}

read_next : (these : Place → Type 0) (q : Place) (row : ℕ) (next : AccessPlan) (a b d : SetState) → these q
    → OnlyReads these a b → b.health ≡ a.health
    → CarriesOut (Try (read_at q row) next Stop) b d → ReadsThen these next a d
read_next these q row next a b d is before same carried =
    let last = went (read_at q row) next Stop b d carried in
    last_by these q row next a b last.between d last.done is before same last.tried last.rest

more_by : (these : Place → Type 0) (q : Place) (row : ℕ) (next : AccessPlan) (a b d : SetState) → these q
    → OnlyReads these a b
    → (b ≡ d) ⊎ WentOn (Try (read_at q row) next Stop) a b d → ReadsThen these next a d
more_by these q row next a b d is before (inl same) = record { between = b; reads = before; rest = inl same }
more_by these q row next a b d is before (inr on) = read_next these q row next a b d is before on.health on.carried

-- these two extents are read, and then the plan goes on, or nothing is done any more
pub two_reported : (these : Place → Type 0) (p q : Place) (row : ℕ) (next : AccessPlan) (a d : SetState) → these p
    → these q
    → CarriesOut (Try (read_at p row) (Try (read_at q row) next Stop) Stop) a d → ReadsThen these next a d
two_reported these p q row next a d is_p is_q carried =
    let first = read_next these p row (Try (read_at q row) next Stop) a a d is_p (reads_none these a a refl) refl
    carried in
    more_by these q row next a first.between d is_q first.reads first.rest

-- the three others are read, and then the plan goes on, or nothing is done any more
pub three_reported : (m : Members) (i row : ℕ) (next : AccessPlan) (a d : SetState)
    → CarriesOut (all_of (three_reads m i row) next) a d → ReadsThen (IsMember m) next a d
three_reported m i row next a d carried =
    let j : ℕ = (i + 1) % 4 in
    let two = two_reported (IsMember m) (member m (low_other i j)) (member m (high_other i j)) row
    (Try (read_at (member m j) row) next Stop) a d
    (member_is m (low_other i j)) (member_is m (high_other i j)) carried in
    more_by (IsMember m) (member m j) row next a two.between d (member_is m j) two.reads two.rest

-- the read of a slot
pub record SlotRead (m : Members) (slot : ℕ) (a b : SetState) : Type 0 where
  pub keeps : Keeps Anywhere a b
  pub works : WorksOn (IsMember m) a b
  pub first : IsSound b (member m (data_position slot)) → WorksOn (IsPlace (member m (data_position slot))) a b

ended : (these : Place → Type 0) (a b c : SetState) → OnlyReads these a b → (b ≡ c) ⊎ WentOn Stop a b c
    → OnlyReads these a c
ended these a b c reads (inl same) = subst (λ (s : SetState). OnlyReads these a s) same reads
ended these a b c reads (inr on) = subst (λ (s : SetState). OnlyReads these a s) (nothing_done b c on.carried) reads

slot_by : (m : Members) (slot : ℕ) (a b c : SetState) (done : Bool)
    → Attempts (read_at (member m (data_position slot)) (row_of slot)) done a b
    → CarriesOut (cond done Stop (all_of (three_reads m (data_position slot) (row_of slot)) Stop)) b c
    → SlotRead m slot a c
slot_by m slot a b c true tried rest =
    let own = member m (data_position slot) in
    let one = reads_one (IsMember m) own (row_of slot) true a b (member_is m (data_position slot)) tried in
    subst (λ (s : SetState). SlotRead m slot a s) (nothing_done b c rest) (record {
      keeps = one.keeps;
      works = one.works;
      first = λ sound. read_works own (row_of slot) true a b tried;
    })
slot_by m slot a b c false tried rest =
    let own = member m (data_position slot) in
    let one = reads_one (IsMember m) own (row_of slot) false a b (member_is m (data_position slot)) tried in
    let three = three_reported m (data_position slot) (row_of slot) Stop b c rest in
    let others = ended (IsMember m) b three.between c three.reads three.rest in
    let all = reads_then (IsMember m) a b c one others in
    record {
      keeps = all.keeps;
      works = all.works;
      first = λ sound. absurd
          (lost_not_sound b own (unread_lost own (row_of slot) a b tried) (others.works.follows.usable own sound));
    }

pub slot_read : (m : Members) (slot : ℕ) (a c : SetState) → CarriesOut (parity_read m slot) a c → SlotRead m slot a c
slot_read m slot a c carried =
    let first = went (read_at (member m (data_position slot)) (row_of slot)) Stop
    (all_of (three_reads m (data_position slot) (row_of slot)) Stop) a c carried in
    slot_by m slot a first.between c first.done first.tried first.rest

-- the rebuild of a row
pub record RowReported (m : Members) (i row : ℕ) (a b : SetState) : Type 0 where
  pub follows : Follows a b
  pub loose : b.loose ≡ a.loose
  pub keeps : KeepsBut (member m i) row a b
  pub touches : LeavesDisks (HasNoneOf (IsMember m)) a b
  -- if the set failed, another member couldn't be read, and nothing was written
  pub unwritten : b.health ≡ Broken → Keeps Anywhere a b
  pub unasked : b.health ≡ Broken → LeavesDisks (λ d. d ≡ rebuilt_disk a.health) a b

rebuilt_by : (m : Members) (i row : ℕ) (a b c : SetState) → IsGroup a m → i < 4 → IsRebuilding a.health
    → member m i ≡ next_place a → OnlyReads (IsMember m) a b
    → (b ≡ c) ⊎ WentOn (Try (rebuild_at (member m i) row) Stop Stop) a b c → RowReported m i row a c
rebuilt_by m i row a b c group lt rebuilding next reads (inl same) =
    subst (λ (s : SetState). RowReported m i row a s) same (record {
      follows = reads.works.follows;
      loose = reads.works.loose;
      keeps = record {
        other_rows = λ r ne. reads.keeps.rows (member m i) tt r;
        other_places = record { rows = λ p ne r. reads.keeps.rows p tt r };
      };
      touches = record { disks = λ d none. reads.works.touches.disks d (λ p is sound. none p is) };
      unwritten = λ broken. reads.keeps;
      unasked = λ broken. row_unasked m i a b group lt rebuilding next reads.works;
    })
rebuilt_by m i row a b c group lt rebuilding next reads (inr on) =
    let last = tried_one (rebuild_at (member m i) row) b c on.carried in
    let P : Place → Type 0 = λ p. Attempts (rebuild_at p row) last.done b c in
    let sound = rebuilt_sound a b c row last.done rebuilding on.health (subst P next last.tried) in
    record {
      follows = follows_then a b c reads.works.follows
          (attempt_follows (rebuild_at (member m i) row) last.done b c last.tried);
      loose = last.tried.made.loose ∙ reads.works.loose;
      keeps = keeps_but_after (member m i) row a b c reads.keeps
          (attempt_keeps (rebuild_at (member m i) row) last.done b c last.tried);
      touches = record {
        disks = λ d none.
            attempt_leaves (rebuild_at (member m i) row) last.done b c last.tried d (none (member m i) (member_is m i))
            ∙ reads.works.touches.disks d (λ p is sound. none p is);
      };
      unwritten = λ broken. absurd (sound broken);
      unasked = λ broken. absurd (sound broken);
    }

pub row_reported : (m : Members) (i row : ℕ) (a c : SetState) → IsGroup a m → i < 4 → IsRebuilding a.health
    → member m i ≡ next_place a
    → CarriesOut (parity_rebuild m i row) a c → RowReported m i row a c
row_reported m i row a c group lt rebuilding next carried =
    let three = three_reported m i row (Try (rebuild_at (member m i) row) Stop Stop) a c carried in
    rebuilt_by m i row a three.between c group lt rebuilding next three.reads three.rest

-- then the new disk has counted no fault
pub row_spared : (m : Members) (i row : ℕ) (a b : SetState) → RowReported m i row a b → b.health ≡ Broken
    → faults_of b (rebuilt_disk a.health) ≡ faults_of a (rebuilt_disk a.health)
row_spared m i row a b reported broken =
    ap (λ (disk : DiskState). disk.faults) ((reported.unasked broken).disks (rebuilt_disk a.health) refl)

-- of two extents only this row may have changed
pub record RowsLeft (own parity : Place) (row : ℕ) (a b : SetState) : Type 0 where
  pub rows : (p : Place) (r : ℕ) → (p ≡ own → r ≢ row) → (p ≡ parity → r ≢ row) → content b p r ≡ content a p r

left_same : (own parity : Place) (row : ℕ) (a b : SetState) → Keeps Anywhere a b → RowsLeft own parity row a b
left_same own parity row a b keeps = record { rows = λ p r x y. keeps.rows p tt r }

left_then : (own parity : Place) (row : ℕ) (a b c : SetState) → RowsLeft own parity row a b
    → RowsLeft own parity row b c → RowsLeft own parity row a c
left_then own parity row a b c ab bc = record { rows = λ p r x y. bc.rows p r x y ∙ ab.rows p r x y }

row_kept : (a b : SetState) (place p : Place) (row r : ℕ) → KeepsBut place row a b → (p ≡ place → r ≢ row)
    → content b p r ≡ content a p r
row_kept a b place p row r keeps apart =
    elim (same_place p place) [
      | inl same ↦ (let P : Place → Type 0 = λ x. content b x r
          ≡ content a x r in subst P (sym same) (keeps.other_rows r (apart same)))
      | inr ne ↦ keeps.other_places.rows p ne r
    ]

left_own : (own parity : Place) (row : ℕ) (done : Bool) (a b : SetState) → Attempts (write_at own row) done a b
    → RowsLeft own parity row a b
left_own own parity row done a b tried =
    record { rows = λ p r x y. row_kept a b own p row r (attempt_keeps (write_at own row) done a b tried) x }

left_parity : (own parity : Place) (row : ℕ) (done : Bool) (a b : SetState) → Attempts (write_at parity row) done a b
    → RowsLeft own parity row a b
left_parity own parity row done a b tried =
    record { rows = λ p r x y. row_kept a b parity p row r (attempt_keeps (write_at parity row) done a b tried) y }

-- the write of both, or of one after nothing but reads
record Turns (own parity : Place) (row : ℕ) (a b : SetState) : Type 0 where
  order : WorksInTurn own parity a b
  left : RowsLeft own parity row a b

either : (done : Bool) (plan : AccessPlan) → cond done plan plan ≡ plan
either true plan = refl
either false plan = refl

two_written : (m : Members) (i j row : ℕ) (a c : SetState) → CarriesOut (write_two m i j row) a c
    → Turns (member m i) (member m j) row a c
two_written m i j row a c carried =
    let own = member m i in
    let parity = member m j in
    let first = went (write_at own row) (write_member m j row) (write_member m j row) a c carried in
    let b = first.between in
    let P : AccessPlan → Type 0 = λ p. CarriesOut p b c in
    let second = tried_one (write_at parity row) b c (subst P (either first.done (write_member m j row)) first.rest) in
    record {
      order = record {
        between = b;
        first = write_works own row first.done a b first.tried;
        second = write_works parity row second.done b c second.tried;
      };
      left = left_then own parity row a b c (left_own own parity row first.done a b first.tried)
          (left_parity own parity row second.done b c second.tried);
    }

one_written : (m : Members) (i j row : ℕ) (a c : SetState) → CarriesOut (write_member m i row) a c
    → Turns (member m i) (member m j) row a c
one_written m i j row a c carried =
    let one = tried_one (write_at (member m i) row) a c carried in
    record {
      order = in_turn_first (member m i) (member m j) a c (write_works (member m i) row one.done a c one.tried);
      left = left_own (member m i) (member m j) row one.done a c one.tried;
    }

record Known (own parity : Place) (row : ℕ) (a b : SetState) : Type 0 where
  works : WorksOn (IsEither own parity) a b
  left : RowsLeft own parity row a b

known_then : (own parity : Place) (row : ℕ) (done : Bool) (a b c : SetState) → Attempts (read_at parity row) done a b
    → Turns own parity row b c → Known own parity row a c
known_then own parity row done a b c tried turns =
    let keeps = read_changes_none parity row done a b tried in
    record {
      works = works_then (IsEither own parity) a b c
          (works_more (IsPlace parity) (IsEither own parity) a b (λ p is. inr is)
          (read_works parity row done a b tried))
          (works_in_turn own parity b c turns.order);
      left = left_then own parity row a b c (left_same own parity row a b keeps) turns.left;
    }

known_by : (m : Members) (i j row : ℕ) (done : Bool) (a b c : SetState) → Attempts (read_at (member m j) row) done a b
    → CarriesOut (cond done (write_two m i j row) (write_member m i row)) b c → Known (member m i) (member m j) row a c
known_by m i j row true a b c tried rest =
    known_then (member m i) (member m j) row true a b c tried (two_written m i j row b c rest)
known_by m i j row false a b c tried rest =
    known_then (member m i) (member m j) row false a b c tried (one_written m i j row b c rest)

known_reported : (m : Members) (i j row : ℕ) (a c : SetState) → CarriesOut (write_known m i j row) a c
    → Known (member m i) (member m j) row a c
known_reported m i j row a c carried =
    let first = went (read_at (member m j) row) (write_two m i j row) (write_member m i row) a c carried in
    known_by m i j row first.done a first.between c first.tried first.rest

-- a write whose own block isn't known
record Lost (m : Members) (i j row : ℕ) (a b : SetState) : Type 0 where
  works : WorksOn (IsMember m) a b
  left : RowsLeft (member m i) (member m j) row a b

lost_by : (m : Members) (i j row : ℕ) (a b c : SetState) → j < 4 → OnlyReads (IsMember m) a b
    → (b ≡ c) ⊎ WentOn (write_member m j row) a b c → Lost m i j row a c
lost_by m i j row a b c lt reads (inl same) = subst (λ (s : SetState). Lost m i j row a s) same (record {
  works = reads.works;
  left = left_same (member m i) (member m j) row a b reads.keeps;
})
lost_by m i j row a b c lt reads (inr on) =
    let last = tried_one (write_at (member m j) row) b c on.carried in
    let written = write_works (member m j) row last.done b c last.tried in
    record {
      works = works_then (IsMember m) a b c reads.works (works_member m j b c lt written);
      left = left_then (member m i) (member m j) row a b c (left_same (member m i) (member m j) row a b reads.keeps)
          (left_parity (member m i) (member m j) row last.done b c last.tried);
    }

lost_reported : (m : Members) (i j row : ℕ) (a c : SetState) → j < 4 → CarriesOut (write_lost m i j row) a c
    → Lost m i j row a c
lost_reported m i j row a c lt carried =
    let two =
    two_reported (IsMember m) (member m (low_other i j)) (member m (high_other i j)) row (write_member m j row) a
    c
    (member_is m (low_other i j)) (member_is m (high_other i j)) carried in
    lost_by m i j row a two.between c lt two.reads two.rest

-- what the write of a block tells: which rows may have changed, and that only the group's extents were accessed
pub record StripeReported (m : Members) (i j row : ℕ) (a b : SetState) : Type 0 where
  pub left : RowsLeft (member m i) (member m j) row a b
  pub works : WorksOn (IsMember m) a b

alone_reported : (m : Members) (i j row : ℕ) (a c : SetState) → i < 4 → CarriesOut (write_member m i row) a c
    → StripeReported m i j row a c
alone_reported m i j row a c lt carried =
    let one = tried_one (write_at (member m i) row) a c carried in
    record {
      left = left_own (member m i) (member m j) row one.done a c one.tried;
      works = works_member m i a c lt (write_works (member m i) row one.done a c one.tried);
    }

reading_by : (m : Members) (i j row : ℕ) (done : Bool) (a b c : SetState) → i < 4 → j < 4
    → Attempts (read_at (member m i) row) done a b
    → CarriesOut (cond done (write_known m i j row) (write_lost m i j row)) b c → StripeReported m i j row a c
reading_by m i j row true a b c hi hj tried rest =
    let own = member m i in
    let parity = member m j in
    let known = known_reported m i j row b c rest in
    let all = works_then (IsEither own parity) a b c (first_of_two m i j a b (read_works own row true a b tried))
    known.works in
    record {
      left = left_then own parity row a b c (left_same own parity row a b (read_changes_none own row true a b tried))
          known.left;
      works = works_pair m i j a c hi hj all;
    }
reading_by m i j row false a b c hi hj tried rest =
    let own = member m i in
    let parity = member m j in
    let lost = lost_reported m i j row b c hj rest in
    record {
      left = left_then own parity row a b c (left_same own parity row a b (read_changes_none own row false a b tried))
          lost.left;
      works = works_then (IsMember m) a b c (works_member m i a b hi (read_works own row false a b tried)) lost.works;
    }

stripe_by : (m : Members) (i j row : ℕ) (missing : Bool) (a c : SetState) → i < 4 → j < 4
    → CarriesOut (cond missing (write_member m i row) (write_by_reading m i j row)) a c → StripeReported m i j row a c
stripe_by m i j row true a c hi hj carried = alone_reported m i j row a c hi carried
stripe_by m i j row false a c hi hj carried =
    let first = went (read_at (member m i) row) (write_known m i j row) (write_lost m i j row) a c carried in
    reading_by m i j row first.done a first.between c hi hj first.tried first.rest

pub stripe_reported : (m : Members) (i j row : ℕ) (a c : SetState) → i < 4 → j < 4
    → CarriesOut (stripe_write m i j row) a c
    → StripeReported m i j row a c
stripe_reported m i j row a c hi hj carried =
    stripe_by m i j row (is_missing a.health (member m j).disk (member m j).extent) a c hi hj
    (went_if (member m j) (write_member m i row) (write_by_reading m i j row) a c carried)

data_below : (slot : ℕ) → data_position slot < 4
data_below slot = grind (arith, nat_tests)

-- the write of a slot
pub slot_reported : (m : Members) (slot : ℕ) (a c : SetState) → CarriesOut (parity_write m slot) a c
    → StripeReported m (data_position slot) (parity_position (row_of slot)) (row_of slot) a c
slot_reported m slot a c carried =
    stripe_reported m (data_position slot) (parity_position (row_of slot)) (row_of slot) a c (data_below slot)
    (omega arith)
    carried

-- only its row may have changed,
pub stripe_keeps : (m : Members) (i j row : ℕ) (a b : SetState) → i < 4 → j < 4 → StripeReported m i j row a b
    → KeepsButRow m row a b
stripe_keeps m i j row a b hi hj reported = record {
  other_rows = λ p r ne. reported.left.rows p r (λ same. ne) (λ same. ne);
  other_places =
      record {
        rows = λ p outside r. reported.left.rows p r (λ same. absurd (outside i hi same))
            (λ same. absurd (outside j hj same));
      };
}

-- and of it only the own member and the parity
pub stripe_others : (m : Members) (i j row : ℕ) (a b : SetState) → AreApart m → i < 4 → j < 4
    → StripeReported m i j row a b
    → (k : ℕ) → k < 4 → k ≢ i → k ≢ j → content b (member m k) row ≡ content a (member m k) row
stripe_others m i j row a b apart hi hj reported k hk ni nj =
    reported.left.rows (member m k) row
    (λ same. absurd (apart k i hk hi ni (ap (λ (p : Place). p.disk) same)))
    (λ same. absurd (apart k j hk hj nj (ap (λ (p : Place). p.disk) same)))

-- the same of a slot
pub slot_keeps : (m : Members) (slot : ℕ) (a b : SetState)
    → StripeReported m (data_position slot) (parity_position (row_of slot)) (row_of slot) a b
    → KeepsButRow m (row_of slot) a b
slot_keeps m slot a b reported =
    stripe_keeps m (data_position slot) (parity_position (row_of slot)) (row_of slot) a b (data_below slot)
    (omega arith) reported

pub slot_others : (m : Members) (slot : ℕ) (a b : SetState) → AreApart m
    → StripeReported m (data_position slot) (parity_position (row_of slot)) (row_of slot) a b
    → (k : ℕ) → k < 4 → k ≢ data_position slot → k ≢ parity_position (row_of slot)
    → content b (member m k) (row_of slot) ≡ content a (member m k) (row_of slot)
slot_others m slot a b apart reported =
    stripe_others m (data_position slot) (parity_position (row_of slot)) (row_of slot) a b apart (data_below slot)
    (omega arith) reported

-- writes of members alone
pub record OnlyWrites (m : Members) (a b : SetState) : Type 0 where
  pub keeps : Keeps (IsOutside m) a b
  pub works : WorksOn (IsMember m) a b

writes_none : (m : Members) (a b : SetState) → a ≡ b → OnlyWrites m a b
writes_none m a b same =
    subst (λ (s : SetState). OnlyWrites m a s) same
    (record { keeps = keeps_refl (IsOutside m) a; works = works_refl (IsMember m) a })

writes_one : (m : Members) (i row : ℕ) (done : Bool) (a b : SetState) → i < 4
    → Attempts (write_at (member m i) row) done a b → OnlyWrites m a b
writes_one m i row done a b lt tried = record {
  keeps = record {
    rows = λ p outside r. (attempt_keeps (write_at (member m i) row) done a b tried).other_places.rows p
        (outside i lt) r;
  };
  works = works_member m i a b lt (write_works (member m i) row done a b tried);
}

writes_then : (m : Members) (a b c : SetState) → OnlyWrites m a b → OnlyWrites m b c → OnlyWrites m a c
writes_then m a b c ab bc =
    record {
      keeps = keeps_then (IsOutside m) a b c ab.keeps bc.keeps;
      works = works_then (IsMember m) a b c ab.works bc.works;
    }

each_by : (done : Bool) (ts : List Attempt) (b c : SetState) → CarriesOut (cond done (each_of ts) (each_of ts)) b c
    → CarriesOut (each_of ts) b c
each_by true ts b c rest = rest
each_by false ts b c rest = rest

-- writes of members from a position on, and then more
members_reported : (m : Members) (row i n : ℕ) (us : List Attempt) (a c : SetState) → i + n ≤ 4
    → ((b : SetState) → CarriesOut (each_of us) b c → OnlyWrites m b c)
    → CarriesOut (each_of (writes_from m row i n ++ us)) a c → OnlyWrites m a c
members_reported m row i zero us a c le later carried = later a carried
members_reported m row i (suc n) us a c le later carried =
    let rest : List Attempt = writes_from m row (i + 1) n ++ us in
    let first = went (write_at (member m i) row) (each_of rest) (each_of rest) a c carried in
    writes_then m a first.between c (writes_one m i row first.done a first.between (omega arith) first.tried)
    (members_reported m row (i + 1) n us first.between c (omega arith) later
    (each_by first.done rest first.between c first.rest))

-- the writes of all members in some rows
pub stripes_reported : (m : Members) (row n : ℕ) (a c : SetState) → CarriesOut (each_of (stripes_from m row n)) a c
    → OnlyWrites m a c
stripes_reported m row zero a c carried = writes_none m a c (nothing_done a c carried)
stripes_reported m row (suc n) a c carried =
    members_reported m row 0 4 (stripes_from m (row + 1) n) a c (omega arith)
    (λ b rest. stripes_reported m (row + 1) n b c rest) carried

-- only this stripe of the group was written
pub record StripeWritten (m : Members) (row : ℕ) (a b : SetState) : Type 0 where
  pub keeps : KeepsButRow m row a b
  pub works : WorksOn (IsMember m) a b

-- one more of its members is written, and then the rest
stripe_next : (m : Members) (row i : ℕ) (ts : List Attempt) (a c : SetState) → i < 4
    → ((b : SetState) → CarriesOut (each_of ts) b c → StripeWritten m row b c)
    → CarriesOut (each_of (write_at (member m i) row ∷ ts)) a c → StripeWritten m row a c
stripe_next m row i ts a c lt later carried =
    let first = went (write_at (member m i) row) (each_of ts) (each_of ts) a c carried in
    let b = first.between in
    let rest = later b (each_by first.done ts b c first.rest) in
    let one = attempt_keeps (write_at (member m i) row) first.done a b first.tried in
    let here = row_then a a b m row i lt (row_refl m row a) one in
    record {
      keeps = record {
        other_rows = λ p r ne. rest.keeps.other_rows p r ne ∙ here.other_rows p r ne;
        other_places = keeps_then (IsOutside m) a b c here.other_places rest.keeps.other_places;
      };
      works = works_then (IsMember m) a b c
          (works_member m i a b lt (write_works (member m i) row first.done a b first.tried)) rest.works;
    }

stripe_ended : (m : Members) (row : ℕ) (a c : SetState) → CarriesOut (each_of []) a c → StripeWritten m row a c
stripe_ended m row a c carried =
    subst (λ (s : SetState). StripeWritten m row a s) (nothing_done a c carried)
    (record { keeps = row_refl m row a; works = works_refl (IsMember m) a })

pub stripe_writes_reported : (m : Members) (row : ℕ) (a c : SetState) → CarriesOut (each_of (stripe_writes m row)) a c
    → StripeWritten m row a c
stripe_writes_reported m row a c carried =
    let i : ℕ = data_position (3 * row) in
    let j : ℕ = data_position (3 * row + 1) in
    let k : ℕ = data_position (3 * row + 2) in
    let l : ℕ = parity_position row in
    let last : List Attempt = write_at (member m l) row ∷ [] in
    let two : List Attempt = write_at (member m k) row ∷ last in
    stripe_next m row i (write_at (member m j) row ∷ two) a c (data_below (3 * row))
    (λ x at_x. stripe_next m row j two x c (data_below (3 * row + 1))
    (λ y at_y. stripe_next m row k last y c (data_below (3 * row + 2))
    (λ z at_z. stripe_next m row l [] z c (omega arith) (λ w at_w. stripe_ended m row w c at_w) at_z) at_y) at_x)
    carried

-- a slot of another stripe holds what it held
pub other_stripe_holds : (m : Members) (row slot : ℕ) (block : List ℕ) (a b : SetState) → Follows a b
    → KeepsButRow m row a b → row_of slot ≢ row → Holds a m slot block → Holds b m slot block
other_stripe_holds m row slot block a b ab keeps ne holds = record {
  blocks = holds.blocks;
  agrees = other_row_agrees a b m row (row_of slot) holds.blocks ab keeps ne holds.agrees;
  here = holds.here;
}
