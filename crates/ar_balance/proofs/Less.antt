-- Balancing leaves less to be balanced.
use Rattle.std.proofs.Common.{◌≡◌, ◌≢◌, ℕ, ◌+◌, ◌-◌, ◌*◌, ◌<◌, ◌≤◌, cond, Bool, true, false, List, [], length, get_or}
use Rattle.std.proofs.Common.{set, sum_by, count_by, Some, sym, ap, subst, ◌∙◌, arith}
use Rattle.std.proofs.Math.ListN.{length-set}
use Rattle.std.proofs.lemmas.List.Sums.{sum_by-set}
use Rattle.ar_disks.specs.declared.address.Members.{Members}
use Rattle.ar_disks.specs.declared.address.Place.{Place}
use Rattle.ar_disks.specs.Members.{member}
use Rattle.ar_extents.specs.Set.{SetState, HasExtent, IsValidSet, marks_of}
use Rattle.ar_extents.specs.Loose.{is_loose, loose_count, lowest_loose, marked, taken}
use Rattle.ar_extents.proofs.LooseLemmas.{lowest_loose-is}
use Rattle.ar_store.specs.Forming.{AreFullest, HasFewLoose, without}
use Rattle.ar_balance.specs.Balance.{switched}
use Rattle.ar_balance.specs.Measure.{square_of, balance_left}
use Rattle.ar_balance.proofs.Loose.{lowest_there, marks_other}
use Rattle.ar_balance.proofs.Forming.{fullest_below}

one_if : Bool → ℕ
one_if mark = cond mark 1 0

count : List Bool → ℕ
count marks = count_by (λ mark. mark) marks

-- a mark less, and a mark more
count_less : (marks : List Bool) (e : ℕ) → e < length marks → get_or marks e false ≡ true
    → count (set marks e false) + 1 ≡ count marks
unfolding count one_if
count_less marks e inside was =
    let all : count (set marks e false) + one_if (get_or marks e false) ≡ count marks + 0 =
    sum_by-set one_if marks e false false inside in
    let one : one_if (get_or marks e false) ≡ 1 = ap one_if was in
    omega arith

count_more : (marks : List Bool) (e : ℕ) → e < length marks → get_or marks e false ≡ false
    → count (set marks e true) ≡ count marks + 1
unfolding count one_if
count_more marks e inside was =
    let all : count (set marks e true) + one_if (get_or marks e false) ≡ count marks + 1 =
    sum_by-set one_if marks e true false inside in
    let none : one_if (get_or marks e false) ≡ 0 = ap one_if was in
    omega arith

-- there are marks for the extent
record HasMark (s : SetState) (p : Place) (mark : Bool) : Type 0 where
  disk : p.disk < length s.loose
  extent : p.extent < length (marks_of s p.disk)
  is : is_loose s p ≡ mark

-- the sum, once the marks of one disk changed
left_set : (s : SetState) (d : ℕ) (row : List Bool) → d < length s.loose
    → sum_by square_of (set s.loose d row) + square_of (marks_of s d) ≡ balance_left s + square_of row
left_set s d row inside = sum_by-set square_of s.loose d row [] inside

-- an extent is taken
left_taken : (s : SetState) (p : Place) → HasMark s p true
    → (n : ℕ) → loose_count s p.disk ≡ n + 1 → balance_left (taken s p.disk (Some p.extent)) + (n + 1) * (n + 1)
    ≡ balance_left s + n * n
unfolding count
left_taken s p mark n is =
    let marks = marks_of s p.disk in
    let less : count (set marks p.extent false) + 1 ≡ count marks = count_less marks p.extent mark.extent mark.is in
    let rest : count (set marks p.extent false) ≡ n = omega arith in
    let all = left_set s p.disk (set marks p.extent false) mark.disk in
    let before : square_of marks ≡ (n + 1) * (n + 1) = ap (λ x. x * x) is in
    let after : square_of (set marks p.extent false) ≡ n * n = ap (λ x. x * x) rest in
    omega arith

-- an extent is given
left_given : (s : SetState) (p : Place) → HasMark s p false
    → (n : ℕ) → loose_count s p.disk ≡ n → balance_left (marked s p.disk p.extent true) + n * n
    ≡ balance_left s + (n + 1) * (n + 1)
unfolding count
left_given s p mark n is =
    let marks = marks_of s p.disk in
    let more : count (set marks p.extent true) ≡ count marks + 1 = count_more marks p.extent mark.extent mark.is in
    let rest : count (set marks p.extent true) ≡ n + 1 = omega arith in
    let all = left_set s p.disk (set marks p.extent true) mark.disk in
    let before : square_of marks ≡ n * n = ap (λ x. x * x) is in
    let after : square_of (set marks p.extent true) ≡ (n + 1) * (n + 1) = ap (λ x. x * x) rest in
    omega arith

-- a disk with a loose extent has some
some_loose : (s : SetState) (p : Place) → HasMark s p true → 0 < loose_count s p.disk
unfolding count
some_loose s p mark =
    let less : count (set (marks_of s p.disk) p.extent false) + 1 ≡ loose_count s p.disk =
    count_less (marks_of s p.disk) p.extent mark.extent mark.is in
    omega arith

taken_falls : (s : SetState) (p : Place) → HasMark s p true
    → balance_left (taken s p.disk (Some p.extent)) < balance_left s
taken_falls s p mark =
    let some = some_loose s p mark in
    let n : ℕ = loose_count s p.disk - 1 in
    let all = left_taken s p mark n (omega arith) in
    omega arith

-- the marks of other disks stay
mark_other : (s : SetState) (q p : Place) (mark other : Bool) → HasMark s p mark → p.disk ≢ q.disk
    → HasMark (marked s q.disk q.extent other) p mark
mark_other s q p mark other has ne =
    let row : List Bool = set (marks_of s q.disk) q.extent other in
    let same : marks_of (marked s q.disk q.extent other) p.disk ≡ marks_of s p.disk =
    marks_other s q.disk q.extent p.disk other ne in
    record {
      disk = subst (λ n. p.disk < n) (sym (length-set s.loose q.disk row)) has.disk;
      extent = subst (λ (marks : List Bool). p.extent < length marks) (sym same) has.extent;
      is = ap (λ (marks : List Bool). get_or marks p.extent false) same ∙ has.is;
    }

mark_there : (s : SetState) (p : Place) (mark : Bool) → IsValidSet s → HasExtent s p → is_loose s p ≡ mark
    → HasMark s p mark
mark_there s p mark kept there is =
    let below : p.disk < length s.loose = subst (λ n. p.disk < n) (sym kept.tables) there.disk in
    record { disk = below; extent = subst (λ n. p.extent < n) (sym (kept.marks p.disk below)) there.extent; is = is }

lowest_mark : (s : SetState) (m : Members) → IsValidSet s → AreFullest s m → (i : ℕ) → i < 4
    → HasMark s (member m i) true
lowest_mark s m kept fullest i lt =
    let found = lowest_there s (member m i) kept (fullest_below s m fullest i lt) (fullest.lowest i lt) in
    mark_there s (member m i) true kept found.there found.loose

-- a disk with a lowest loose extent has some
pub loose_some : (s : SetState) (d e : ℕ) → lowest_loose s d ≡ Some e → 0 < loose_count s d
unfolding count
loose_some s d e lowest =
    let is = lowest_loose-is s d e lowest in
    let less : count (set (marks_of s d) e false) + 1 ≡ loose_count s d = count_less (marks_of s d) e is.0 is.1 in
    omega arith

-- no group is to be formed where fewer than four disks have loose extents
pub not_few : (s : SetState) (m : Members) → AreFullest s m → HasFewLoose s → ⊥
not_few s m fullest few =
    few.few m.first.disk m.second.disk m.third.disk m.fourth.disk fullest.ascending.0 fullest.ascending.1
    fullest.ascending.2 fullest.there
    (loose_some s m.first.disk m.first.extent (fullest.lowest 0 (omega arith)))
    (loose_some s m.second.disk m.second.extent (fullest.lowest 1 (omega arith)))
    (loose_some s m.third.disk m.third.extent (fullest.lowest 2 (omega arith)))
    (loose_some s m.fourth.disk m.fourth.extent (fullest.lowest 3 (omega arith)))

-- a group is formed
pub formed_falls : (s : SetState) (m : Members) → IsValidSet s → AreFullest s m
    → balance_left (without s m) < balance_left s
formed_falls s m kept fullest =
    let ab = fullest.ascending.0 in
    let bc = fullest.ascending.1 in
    let cd = fullest.ascending.2 in
    let a = lowest_mark s m kept fullest 0 (omega arith) in
    let b = lowest_mark s m kept fullest 1 (omega arith) in
    let c = lowest_mark s m kept fullest 2 (omega arith) in
    let d = lowest_mark s m kept fullest 3 (omega arith) in
    let one = taken s m.first.disk (Some m.first.extent) in
    let two = taken one m.second.disk (Some m.second.extent) in
    let three = taken two m.third.disk (Some m.third.extent) in
    let b1 = mark_other s m.first m.second true false b (omega arith) in
    let c1 = mark_other s m.first m.third true false c (omega arith) in
    let d1 = mark_other s m.first m.fourth true false d (omega arith) in
    let c2 = mark_other one m.second m.third true false c1 (omega arith) in
    let d2 = mark_other one m.second m.fourth true false d1 (omega arith) in
    let d3 = mark_other two m.third m.fourth true false d2 (omega arith) in
    let first = taken_falls s m.first a in
    let second = taken_falls one m.second b1 in
    let third = taken_falls two m.third c2 in
    let fourth = taken_falls three m.fourth d3 in
    omega arith

-- an extent moves to a disk with at least two loose ones more
pub switched_falls : (s : SetState) (from to : Place) → IsValidSet s → HasExtent s from → HasExtent s to
    → is_loose s from ≡ false → is_loose s to ≡ true
    → loose_count s from.disk + 2 ≤ loose_count s to.disk → balance_left (switched s from to) < balance_left s
switched_falls s from to kept from_there to_there used loose uneven =
    let mid = taken s to.disk (Some to.extent) in
    let n : ℕ = loose_count s to.disk - 1 in
    let a : ℕ = loose_count s from.disk in
    let apart : from.disk ≢ to.disk = λ same. (let equal = ap (λ d. loose_count s d) same in omega arith) in
    let same : loose_count mid from.disk ≡ a =
    ap (λ (marks : List Bool). count_by (λ mark. mark) marks)
    (marks_other s to.disk to.extent from.disk false apart) in
    let taking = left_taken s to (mark_there s to true kept to_there loose) n (omega arith) in
    let giving =
    left_given mid from (mark_other s to from false false (mark_there s from false kept from_there used) apart) a
    same in
    omega arith
