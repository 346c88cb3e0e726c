-- What the plans of calls imply, in the relations of `Follows`.
use Rattle.std.proofs.Common.{◌≡◌, ◌≢◌, inl, inr, ℕ, ◌<◌, List, Bool, true, false, cond, refl, sym, ◌∙◌, ap, subst}
use Rattle.ar_disks.specs.declared.address.Place.{Place}
use Rattle.ar_disks.specs.declared.address.Members.{Members}
use Rattle.ar_disks.specs.Disk.{DiskState}
use Rattle.ar_extents.specs.declared.health.Health.TheVariants.{Broken}
use Rattle.ar_extents.specs.Health.{IsRebuilding, rebuilt_disk}
use Rattle.ar_extents.specs.Set.{SetState, faults_of}
use Rattle.ar_extents.specs.Follows.{Follows, Keeps, KeepsBut, Anywhere, IsPlace, IsEither, LeavesDisks, HasNoneOf}
use Rattle.ar_extents.specs.Follows.{WorksOn, WorksInTurn}
use Rattle.ar_extents.specs.Access.{next_place}
use Rattle.ar_extents.specs.Plans.{AccessPlan, Stop, Try, Attempts, CarriesOut, read_at, write_at, rebuild_at}
use Rattle.ar_extents.proofs.Follows.{keeps_then, works_then, works_more, works_in_turn, follows_then}
use Rattle.ar_extents.proofs.Plans.{answered_health}
use Rattle.ar_extents.proofs.Asking.{went, tried_one, nothing_done, read_changes_none, read_works, write_works}
use Rattle.ar_extents.proofs.Asking.{attempt_follows, attempt_keeps, attempt_leaves, keeps_but_after, rebuilt_sound}
use Rattle.ar_mirror.specs.Slots.{one_of, other_of, row_of}
use Rattle.ar_mirror.specs.Calls.{IsInPair, KeepsButSlot}
use Rattle.ar_mirror.specs.Plans.{copy_row, mirror_read, mirror_write}
use Rattle.ar_extents.specs.Groups.{IsGroup}
use Rattle.ar_disks.specs.Members.{member}
use Rattle.ar_mirror.specs.Slots.{partner_of}
use Rattle.ar_mirror.proofs.SlotLemmas.{partner_apart}
use Rattle.ar_mirror.proofs.Holding.{pair_kept}
use Rattle.ar_mirror.specs.Holds.{Holds}
use Rattle.ar_mirror.proofs.Rebuilding.{rebuild_holds}

-- a read changes no row, and accesses the two extents alone
pub record ReadReported (one other : Place) (a b : SetState) : Type 0 where
  pub keeps : Keeps Anywhere a b
  pub works : WorksOn (IsEither one other) a b

read_by : (one other : Place) (row : ℕ) (a b c : SetState) (done : Bool) → Attempts (read_at one row) done a b
    → CarriesOut (cond done Stop (Try (read_at other row) Stop Stop)) b c → ReadReported one other a c
read_by one other row a b c true tried rest =
    subst (λ (s : SetState). ReadReported one other a s) (nothing_done b c rest) (record {
      keeps = read_changes_none one row true a b tried;
      works = works_more (IsPlace one) (IsEither one other) a b (λ p is. inl is) (read_works one row true a b tried);
    })
read_by one other row a b c false tried rest =
    let second = tried_one (read_at other row) b c rest in
    let works = read_works other row second.done b c second.tried in
    record {
      keeps = keeps_then Anywhere a b c (read_changes_none one row false a b tried)
          (read_changes_none other row second.done b c second.tried);
      works = works_then (IsEither one other) a b c
          (works_more (IsPlace one) (IsEither one other) a b (λ p is. inl is) (read_works one row false a b tried))
          (works_more (IsPlace other) (IsEither one other) b c (λ p is. inr is) works);
    }

pub read_reported : (m : Members) (slot : ℕ) (a c : SetState) → CarriesOut (mirror_read a.geometry m slot) a c
    → ReadReported (one_of a.geometry m slot) (other_of a.geometry m slot) a c
read_reported m slot a c carried =
    let one = one_of a.geometry m slot in
    let other = other_of a.geometry m slot in
    let row = row_of a.geometry slot in
    let first = went (read_at one row) Stop (Try (read_at other row) Stop Stop) a c carried in
    read_by one other row a first.between c first.done first.tried first.rest

-- a write accesses the two extents in turn, and changes their row alone
pub record WriteReported (m : Members) (slot : ℕ) (a b : SetState) : Type 0 where
  pub keeps : KeepsButSlot m slot a b
  pub works : WorksOn (IsInPair a.geometry m slot) a b

either : (done : Bool) (plan : AccessPlan) → cond done plan plan ≡ plan
either true plan = refl
either false plan = refl

pub write_reported : (m : Members) (slot : ℕ) (a c : SetState) → CarriesOut (mirror_write a.geometry m slot) a c
    → WriteReported m slot a c
write_reported m slot a c carried =
    let one = one_of a.geometry m slot in
    let other = other_of a.geometry m slot in
    let row = row_of a.geometry slot in
    let next : AccessPlan = Try (write_at other row) Stop Stop in
    let first = went (write_at one row) next next a c carried in
    let P : AccessPlan → Type 0 = λ p. CarriesOut p first.between c in
    let second = tried_one (write_at other row) first.between c (subst P (either first.done next) first.rest) in
    let order : WorksInTurn one other a c = record {
      between = first.between;
      first = write_works one row first.done a first.between first.tried;
      second = write_works other row second.done first.between c second.tried;
    } in
    record {
      keeps = pair_kept m slot a first.between c
          (attempt_keeps (write_at one row) first.done a first.between first.tried)
          (attempt_keeps (write_at other row) second.done first.between c second.tried);
      works = works_in_turn one other a c order;
    }

-- the copy of a row to the extent that is rebuilt next, from another disk
pub record CopyReported (from : Place) (row : ℕ) (a b : SetState) : Type 0 where
  pub follows : Follows a b
  pub loose : b.loose ≡ a.loose
  pub keeps : KeepsBut (next_place a) row a b
  pub touches : LeavesDisks (HasNoneOf (IsEither from (next_place a))) a b
  -- if the set failed, the other extent couldn't be read, and nothing was written
  pub unwritten : b.health ≡ Broken → Keeps Anywhere a b
  pub unasked : b.health ≡ Broken → LeavesDisks (λ d. d ≡ rebuilt_disk a.health) a b

copy_by : (from : Place) (row : ℕ) (a b c : SetState) (done : Bool) → IsRebuilding a.health
    → (next_place a).disk ≢ from.disk → Attempts (read_at from row) done a b
    → CarriesOut (cond done (Try (rebuild_at (next_place a) row) Stop Stop) Stop) b c → CopyReported from row a c
copy_by from row a b c true rebuilding apart tried rest =
    let next = next_place a in
    let second = tried_one (rebuild_at next row) b c rest in
    let sound = rebuilt_sound a b c row second.done rebuilding (answered_health (read_at from row) a b tried)
    second.tried in
    record {
      follows = follows_then a b c (attempt_follows (read_at from row) true a b tried)
          (attempt_follows (rebuild_at next row) second.done b c second.tried);
      loose = second.tried.made.loose ∙ tried.made.loose;
      keeps = keeps_but_after next row a b c (read_changes_none from row true a b tried)
          (attempt_keeps (rebuild_at next row) second.done b c second.tried);
      touches = record {
        disks = λ d none.
            attempt_leaves (rebuild_at next row) second.done b c second.tried d (none next (inr refl))
            ∙ attempt_leaves (read_at from row) true a b tried d (none from (inl refl));
      };
      unwritten = λ broken. absurd (sound broken);
      unasked = λ broken. absurd (sound broken);
    }
copy_by from row a b c false rebuilding apart tried rest =
    let keeps = read_changes_none from row false a b tried in
    subst (λ (s : SetState). CopyReported from row a s) (nothing_done b c rest) (record {
      follows = attempt_follows (read_at from row) false a b tried;
      loose = tried.made.loose;
      keeps = record {
        other_rows = λ r ne. keeps.rows (next_place a) tt r;
        other_places = record { rows = λ p ne r. keeps.rows p tt r };
      };
      touches = record { disks = λ d none. attempt_leaves (read_at from row) false a b tried d (none from (inl refl)) };
      unwritten = λ broken. keeps;
      unasked = λ broken. record
          { disks = λ d is. attempt_leaves (read_at from row) false a b tried d (λ same. apart (sym is ∙ same)) };
    })

pub copy_reported : (from : Place) (row : ℕ) (a c : SetState) → IsRebuilding a.health → (next_place a).disk ≢ from.disk
    → CarriesOut (copy_row from (next_place a) row) a c
    → CopyReported from row a c
copy_reported from row a c rebuilding apart carried =
    let first = went (read_at from row) (Try (rebuild_at (next_place a) row) Stop Stop) Stop a c carried in
    copy_by from row a first.between c first.done rebuilding apart first.tried first.rest

-- then the new disk has counted no fault
pub copy_spared : (from : Place) (row : ℕ) (a b : SetState) → CopyReported from row a b → b.health ≡ Broken
    → faults_of b (rebuilt_disk a.health) ≡ faults_of a (rebuilt_disk a.health)
copy_spared from row a b reported broken =
    ap (λ (disk : DiskState). disk.faults) ((reported.unasked broken).disks (rebuilt_disk a.health) refl)

-- the same of a member that is rebuilt next, which its partner isn't on
pub row_reported : (m : Members) (position row : ℕ) (a c : SetState) → IsGroup a m → position < 4
    → IsRebuilding a.health
    → member m position ≡ next_place a
    → CarriesOut (copy_row (member m (partner_of position)) (next_place a) row) a c
    → CopyReported (member m (partner_of position)) row a c
row_reported m position row a c group lt rebuilding next carried =
    copy_reported (member m (partner_of position)) row a c rebuilding
    (λ same. partner_apart m position group.apart lt (ap (λ (p : Place). p.disk) next ∙ same)) carried

-- the rebuild of a row takes no slot's block away
pub row_holds : (m : Members) (position row : ℕ) (a c : SetState) → IsGroup a m → position < 4 → IsRebuilding a.health
    → member m position ≡ next_place a
    → CarriesOut (copy_row (member m (partner_of position)) (next_place a) row) a c
    → (n : Members) (slot : ℕ) (block : List ℕ) → Holds a n slot block → Holds c n slot block
row_holds m position row a c group lt rebuilding next carried =
    let reported = row_reported m position row a c group lt rebuilding next carried in
    rebuild_holds a c row rebuilding reported.follows reported.keeps
