-- What the plan of a rebuild implies: which rows are written, and which disks are accessed.
use Rattle.std.proofs.Common.{◌≡◌, ◌≢◌, inl, inr, ℕ, zero, suc, ◌<◌, ◌≤◌, ◌+◌, Bool, true, false, refl, sym, ◌∙◌, ap}
use Rattle.std.proofs.Common.{subst, arith}
use Rattle.std.proofs.lemmas.Bool.Decides.{eqb_tells}
use Rattle.ar_disks.specs.declared.address.Place.{Place}
use Rattle.ar_disks.specs.declared.address.Members.{Members}
use Rattle.ar_disks.specs.Members.{member, AreApart}
use Rattle.ar_disks.specs.Disk.{DiskState}
use Rattle.ar_disks.specs.Geometry.{rows_of}
use Rattle.ar_extents.specs.declared.health.Health.{Health}
use Rattle.ar_extents.specs.declared.health.Health.TheVariants.{Whole, Out, Rebuilding, Broken as AllBroken}
use Rattle.ar_extents.specs.Health.{IsRebuilding, rebuilt_disk, is_lost}
use Rattle.ar_extents.specs.Set.{SetState, content}
use Rattle.ar_extents.specs.Follows.{Follows, Keeps, KeepsBut, Anywhere, LeavesDisks, HasNoneOf, IsEither}
use Rattle.ar_extents.specs.Access.{next_place, IsGivenUp}
use Rattle.ar_extents.specs.Groups.{IsGroup, IsMember}
use Rattle.ar_extents.specs.Plans.{AttemptsAll, Stop, all_of, CarriesOut, rebuilds_none}
use Rattle.ar_extents.proofs.Follows.{follows_refl, keeps_refl}
use Rattle.ar_extents.proofs.GroupLemmas.{group_then}
use Rattle.ar_extents.proofs.Asking.{nothing_done}
use Rattle.ar_extents.proofs.Plans.{all_then, all_stopped}
use Rattle.ar_extents.specs.Plans.{stops}
use Rattle.ar_mirror.specs.Slots.{partner_of}
use Rattle.ar_mirror.specs.Plans.{copy_row}
use Rattle.ar_mirror.proofs.SlotLemmas.{partner_apart}
use Rattle.ar_mirror.proofs.Reported.{row_reported as copy_reported}
use Rattle.ar_parity.proofs.Reported.{row_reported as sum_reported}
use Rattle.ar_book.specs.declared.class.Class.{Class}
use Rattle.ar_book.specs.declared.class.Class.TheVariants.{Free, Mirrored, Parity}
use Rattle.ar_rebuild.specs.Plans.{row_attempts, rows_attempts, member_plan}
use Rattle.ar_rebuild.specs.Rows.{WritesNext, FailsByOthers, StopsAtRow}
use Rattle.ar_rebuild.proofs.Writing.{spared_then, next_same, row_kept, spares_then, writes_refl, writes_then}
use Rattle.ar_rebuild.proofs.Attempts.{turned, none_tried, all_health, all_split, AllUsed, both_used, all_succeeded}
use Rattle.ar_rebuild.proofs.Attempts.{one_stopped, row_more, stop_carried, stops_at}

-- the extents that the rebuild of a group's member accesses: its mirrored pair, or with parity the whole group
abbrev pub NeedsNext : Class → Members → ℕ → Place → Type 0
NeedsNext Free m i place = ⊥
NeedsNext Mirrored m i place = IsEither (member m (partner_of i)) (member m i) place
NeedsNext Parity m i place = IsMember m place

-- an extent of another disk is used while one is rebuilt
source_used : (h : Health) (p : Place) → IsRebuilding h → p.disk ≢ rebuilt_disk h → is_lost h p.disk p.extent ≡ false
source_used Whole p is other = absurd is
source_used (Out x) p is other = absurd is
source_used (Rebuilding x done) p is other =
    elim (eqb_tells p.disk x) [ inl same ↦ absurd (other same.1) | inr apart ↦ rw apart.0 refl ]
source_used AllBroken p is other = absurd is

next_used : (h : Health) → IsRebuilding h → rebuilds_none h ≡ false
next_used Whole is = absurd is
next_used (Out x) is = absurd is
next_used (Rebuilding x done) is = refl
next_used AllBroken is = absurd is

module _ (m : Members) (h : Health) (apart : AreApart m) (is : IsRebuilding h) where
  other_used : (i j : ℕ) → i < 4 → j < 4 → i ≢ j → (member m i).disk ≡ rebuilt_disk h
      → is_lost h (member m j).disk (member m j).extent ≡ false
  other_used i j below lt ne next = source_used h (member m j) is (λ same. apart i j below lt ne (next ∙ sym same))

  sum_used : (i row : ℕ) → i < 4 → (member m i).disk ≡ rebuilt_disk h → AllUsed h (row_attempts Parity m i row)
  sum_used zero row below next = (
    other_used 0 2 below (omega arith) (omega arith) next,
    (
      other_used 0 3 below (omega arith) (omega arith) next,
      (other_used 0 1 below (omega arith) (omega arith) next, (next_used h is, tt)),
    ),
  )
  sum_used (suc zero) row below next = (
    other_used 1 0 below (omega arith) (omega arith) next,
    (
      other_used 1 3 below (omega arith) (omega arith) next,
      (other_used 1 2 below (omega arith) (omega arith) next, (next_used h is, tt)),
    ),
  )
  sum_used (suc (suc zero)) row below next = (
    other_used 2 0 below (omega arith) (omega arith) next,
    (
      other_used 2 1 below (omega arith) (omega arith) next,
      (other_used 2 3 below (omega arith) (omega arith) next, (next_used h is, tt)),
    ),
  )
  sum_used (suc (suc (suc zero))) row below next = (
    other_used 3 1 below (omega arith) (omega arith) next,
    (
      other_used 3 2 below (omega arith) (omega arith) next,
      (other_used 3 0 below (omega arith) (omega arith) next, (next_used h is, tt)),
    ),
  )
  sum_used (suc (suc (suc (suc n)))) row below next = absurd (omega arith)

  -- no attempt of a row is skipped,
  pub row_used : (class : Class) (i row : ℕ) → i < 4 → (member m i).disk ≡ rebuilt_disk h
      → AllUsed h (row_attempts class m i row)
  row_used Free i row below next = tt
  row_used Mirrored i row below next = (
    source_used h (member m (partner_of i)) is (λ same. partner_apart m i apart below (next ∙ sym same)),
    (next_used h is, tt),
  )
  row_used Parity i row below next = sum_used i row below next

  -- nor of the rows below a number
  pub rows_used : (class : Class) (i n : ℕ) → i < 4 → (member m i).disk ≡ rebuilt_disk h
      → AllUsed h (rows_attempts class m i n)
  rows_used class i zero below next = tt
  rows_used class i (suc n) below next =
      both_used h (rows_attempts class m i n) (row_attempts class m i n) (rows_used class i n below next)
      (row_used class i n below next)

-- what the attempts for a row leave: at most the row itself is written, and nothing if another disk failed the set
pub record RowEffect (class : Class) (m : Members) (i row : ℕ) (a b : SetState) : Type 0 where
  pub follows : Follows a b
  pub loose : b.loose ≡ a.loose
  pub keeps : KeepsBut (next_place a) row a b
  pub touches : LeavesDisks (HasNoneOf (NeedsNext class m i)) a b
  pub unwritten : b.health ≡ AllBroken → Keeps Anywhere a b
  pub unasked : b.health ≡ AllBroken → LeavesDisks (λ d. d ≡ rebuilt_disk a.health) a b

pub row_effect : (class : Class) (m : Members) (i row : ℕ) (a b : SetState) → IsGroup a m → i < 4
    → IsRebuilding a.health → member m i ≡ next_place a
    → CarriesOut (all_of (row_attempts class m i row) Stop) a b → RowEffect class m i row a b
row_effect Free m i row a b group below is next carried =
    subst (λ (s : SetState). RowEffect Free m i row a s) (nothing_done a b carried) (record {
      follows = follows_refl a;
      loose = refl;
      keeps = record { other_rows = λ r ne. refl; other_places = keeps_refl _ a };
      touches = record { disks = λ d none. refl };
      unwritten = λ broken. keeps_refl Anywhere a;
      unasked = λ broken. record { disks = λ d none. refl };
    })
row_effect Mirrored m i row a b group below is next carried =
    let from : Place = member m (partner_of i) in
    let P : Place → Type 0 = λ p. CarriesOut (copy_row from p row) a b in
    let Q : Place → Type 0 = λ p. LeavesDisks (HasNoneOf (IsEither from p)) a b in
    let reported = copy_reported m i row a b group below is next (subst P next carried) in
    record {
      follows = reported.follows;
      loose = reported.loose;
      keeps = reported.keeps;
      touches = subst Q (sym next) reported.touches;
      unwritten = reported.unwritten;
      unasked = reported.unasked;
    }
row_effect Parity m i row a b group below is next carried =
    let reported = sum_reported m i row a b group below is next carried in
    let P : Place → Type 0 = λ p. KeepsBut p row a b in
    record {
      follows = reported.follows;
      loose = reported.loose;
      keeps = subst P next reported.keeps;
      touches = reported.touches;
      unwritten = reported.unwritten;
      unasked = reported.unasked;
    }

-- what those for the rows below a number leave, if all of them succeed
pub record RowsEffect (class : Class) (m : Members) (i n : ℕ) (a b : SetState) : Type 0 where
  pub writes : WritesNext a b
  pub health : b.health ≡ a.health
  pub touches : LeavesDisks (HasNoneOf (NeedsNext class m i)) a b
  pub rest : (r : ℕ) → n ≤ r → content b (next_place a) r ≡ content a (next_place a) r

module _ (class : Class) (m : Members) (i : ℕ) (a : SetState) (group : IsGroup a m) (below : i < 4)
    (is : IsRebuilding a.health)
    (next : member m i ≡ next_place a) where
  -- a row's, after others
  pub after_rows : (n row : ℕ) (b c : SetState) → RowsEffect class m i n a b
      → CarriesOut (all_of (row_attempts class m i row) Stop) b c
      → RowEffect class m i row b c
  after_rows n row b c before carried =
      row_effect class m i row b c (group_then a b m before.writes.follows group) below
      (subst (λ (h : Health). IsRebuilding h) (sym before.health) is)
      (next ∙ sym (next_same a b before.health)) carried

  pub rows_effect : (n : ℕ) (b : SetState) → AttemptsAll (rows_attempts class m i n) true a b
      → RowsEffect class m i n a b
  rows_effect zero b made =
      subst (λ (s : SetState). RowsEffect class m i 0 a s) (none_tried a b made)
      (record {
        writes = writes_refl a;
        health = refl;
        touches = record { disks = λ d none. refl };
        rest = λ r le. refl;
      })
  rows_effect (suc n) c made =
      let split = all_split (rows_attempts class m i n) (row_attempts class m i n) a c made in
      let b = split.between in
      let before = rows_effect n b split.first in
      let row = after_rows n n b c before (all_then (row_attempts class m i n) Stop b c c split.last (stops c)) in
      let same = next_same a b before.health in
      record {
        writes = writes_then a b c n before.writes before.health row.follows row.keeps row.loose;
        health = all_health (row_attempts class m i n) b c split.last ∙ before.health;
        touches = spares_then (HasNoneOf (NeedsNext class m i)) a b c before.touches row.touches;
        rest = λ r le.
            ap (λ (p : Place). content c p r) (sym same) ∙ row.keeps.other_rows r (λ e. absurd (omega arith))
            ∙ ap (λ (p : Place). content b p r) same ∙ before.rest r (omega arith);
      }

-- the copy of a row is the attempts for it
pub copied_carried : (m : Members) (i row : ℕ) (b c : SetState) → member m i ≡ next_place b
    → CarriesOut (copy_row (member m (partner_of i)) (next_place b) row) b c
    → CarriesOut (all_of (row_attempts Mirrored m i row) Stop) b c
copied_carried m i row b c next carried =
    let P : Place → Type 0 =
    λ p. CarriesOut (copy_row (member m (partner_of i)) p row) b c in subst P (sym next) carried

-- health has changed where the replaced disk was given up, or the set failed
pub given_up_changes : (b c : SetState) → IsRebuilding b.health → IsGivenUp b c → c.health ≡ b.health → ⊥
given_up_changes b c is given_up same = subst (λ (h : Health). IsRebuilding h) (sym same ∙ given_up.out) is

pub broken_changes : (b c : SetState) → IsRebuilding b.health → c.health ≡ AllBroken → c.health ≡ b.health → ⊥
broken_changes b c is broken same = subst (λ (h : Health). IsRebuilding h) (sym same ∙ broken) is

-- What one more row's attempts leave, after those for the rows below it.
pub record OneMore (class : Class) (m : Members) (i row : ℕ) (a b c : SetState) : Type 0 where
  pub before : RowsEffect class m i row a b
  pub here : RowEffect class m i row b c
  pub writes : WritesNext a c
  pub all : c.health ≡ b.health → AttemptsAll (rows_attempts class m i (row + 1)) true a c
  pub failed : (c.health ≡ b.health → ⊥) → AttemptsAll (row_attempts class m i row) false b c
  pub plan : (c.health ≡ b.health → ⊥) → row < rows_of a.geometry
      → CarriesOut (member_plan class m i (rows_of a.geometry)) a c
  pub spared : c.health ≡ AllBroken → FailsByOthers a c

pub one_more : (class : Class) (m : Members) (i row : ℕ) (a b c : SetState) → IsGroup a m → i < 4
    → IsRebuilding a.health → member m i ≡ next_place a
    → AttemptsAll (rows_attempts class m i row) true a b → CarriesOut (all_of (row_attempts class m i row) Stop) b c
    → OneMore class m i row a b c
one_more class m i row a b c group below is next made carried =
    let before = rows_effect class m i a group below is next row b made in
    let here = after_rows class m i a group below is next row row b c before carried in
    let still = subst (λ (h : Health). IsRebuilding h) (sym before.health) is in
    let next_disk = ap (λ (p : Place). p.disk) (next ∙ sym (next_same a b before.health)) in
    let used = row_used m b.health group.apart still class i row below next_disk in
    record {
      before = before;
      here = here;
      writes = writes_then a b c row before.writes before.health here.follows here.keeps here.loose;
      all = λ same. row_more class m i row a b c made
          (all_succeeded (row_attempts class m i row) b c used still same carried);
      failed = λ changed. one_stopped (row_attempts class m i row) b c changed carried;
      plan = λ changed lt.
          stop_carried class m i row (rows_of a.geometry) a b c lt made
          (one_stopped (row_attempts class m i row) b c changed carried);
      spared = λ broken. record {
        broken = broken;
        spared = spared_then a b c before.writes.follows before.health is
            (ap (λ (disk : DiskState). disk.faults) ((here.unasked broken).disks (rebuilt_disk b.health) refl));
      };
    }

-- what the plan of all rows leaves, wherever it ended
pub record PlanEffect (class : Class) (m : Members) (i : ℕ) (a b : SetState) : Type 0 where
  pub writes : WritesNext a b
  pub touches : LeavesDisks (HasNoneOf (NeedsNext class m i)) a b

plan_by : (class : Class) (m : Members) (i n : ℕ) (done : Bool) (a b : SetState) → IsGroup a m → i < 4
    → IsRebuilding a.health → member m i ≡ next_place a
    → AttemptsAll (rows_attempts class m i n) done a b → PlanEffect class m i a b
plan_by class m i n true a b group below is next made =
    let all = rows_effect class m i a group below is next n b made in
    record { writes = all.writes; touches = all.touches }
plan_by class m i n false a c group below is next made =
    let stop = stops_at class m i n a c made in
    let b = stop.begun in
    let before = rows_effect class m i a group below is next stop.row b stop.made in
    let here = after_rows class m i a group below is next stop.row stop.row b c before
    (all_stopped (row_attempts class m i stop.row) Stop b c stop.failed) in
    record {
      writes = writes_then a b c stop.row before.writes before.health here.follows here.keeps here.loose;
      touches = spares_then (HasNoneOf (NeedsNext class m i)) a b c before.touches here.touches;
    }

pub plan_effect : (class : Class) (m : Members) (i n : ℕ) (a b : SetState) → IsGroup a m → i < 4 → IsRebuilding a.health
    → member m i ≡ next_place a
    → CarriesOut (member_plan class m i n) a b → PlanEffect class m i a b
plan_effect class m i n a b group below is next carried =
    let reported = turned (rows_attempts class m i n) a b carried in
    plan_by class m i n reported.done a b group below is next reported.made

-- The rows past the one at which the writing stopped are unchanged, and so is the row itself if another disk failed the
-- set; if that is the first row, the new disk wasn't accessed then.
pub record StopReported (a c : SetState) (row : ℕ) : Type 0 where
  pub past : (r : ℕ) → row < r → content c (next_place a) r ≡ content a (next_place a) r
  pub unread : c.health ≡ AllBroken → content c (next_place a) row ≡ content a (next_place a) row
  pub unasked : row ≡ 0 → c.health ≡ AllBroken → LeavesDisks (λ d. d ≡ rebuilt_disk a.health) a c

first_untried : (class : Class) (m : Members) (i row : ℕ) (a b : SetState) → row ≡ 0
    → AttemptsAll (rows_attempts class m i row) true a b → a ≡ b
first_untried class m i row a b none made =
    none_tried a b (let P : ℕ → Type 0 = λ n. AttemptsAll (rows_attempts class m i n) true a b in subst P none made)

pub stop_reported : (class : Class) (m : Members) (i : ℕ) (a c : SetState) → IsGroup a m → i < 4 → IsRebuilding a.health
    → member m i ≡ next_place a
    → (stop : StopsAtRow class a c m i) → StopReported a c stop.row
stop_reported class m i a c group below is next stop =
    let b = stop.begun in
    let row = stop.row in
    let before = rows_effect class m i a group below is next row b stop.made in
    let here = after_rows class m i a group below is next row row b c before
    (all_stopped (row_attempts class m i row) Stop b c stop.failed) in
    record {
      past = λ r lt. row_kept a b c row r before.health here.keeps (λ same. absurd (omega arith))
          ∙ before.rest r (omega arith);
      unread = λ broken. (here.unwritten broken).rows (next_place a) tt row ∙ before.rest row (omega arith);
      unasked = λ none broken.
          let P : SetState → Type 0 = λ s. LeavesDisks (λ d. d ≡ rebuilt_disk s.health) s c in
          subst P (sym (first_untried class m i row a b none stop.made)) (here.unasked broken);
    }
