-- Disks of which the last extents are the loose ones, and how many each has.
use Rattle.std.proofs.Common.{◌≡◌, ◌≢◌, ◌⊎◌, inl, inr, ℕ, zero, suc, ◌+◌, ◌-◌, ◌<◌, ◌≤◌, Bool, true, false, List, []}
use Rattle.std.proofs.Common.{◌∷◌, length, get_or, set, replicate, Some, position, count_by, cond, refl, sym, ap, subst}
use Rattle.std.proofs.Common.{◌∙◌, arith}
use Rattle.std.specs.Prelude.{slice_index}
use Rattle.std.specs.List.{position_or_len}
use Rattle.std.proofs.lemmas.Bool.{cases_lt}
use Rattle.std.proofs.lemmas.Bool.Decides.{eqb_tells, leb_tells}
use Rattle.std.proofs.lemmas.List.Sums.{sum_by-cons}
use Rattle.std.proofs.lemmas.List.{get_or-set_same, get_or-set_other, get_or_past, set_past}
use Rattle.std.proofs.Math.ListN.{length-set, length-replicate, get_or-replicate}
use Rattle.ar_disks.specs.declared.address.Members.{Members}
use Rattle.ar_disks.specs.Members.{member}
use Rattle.ar_disks.specs.declared.geometry.Geometry.{Geometry}
use Rattle.ar_extents.specs.Set.{SetState, marks_of}
use Rattle.ar_extents.specs.Loose.{loose_count, lowest_loose, taken}
use Rattle.ar_store.specs.declared.form.FourDisks.{FourDisks}
use Rattle.ar_store.specs.Fullest.{AreFourFullest, HasFewCounts, one_fewer, four_fewer, next_members}
use Rattle.ar_store.specs.Forming.{AreFullest, HasFewLoose, IsAllLoose, without}

-- the marks of a disk whose first `taken` extents are assigned, and the others aren't
abbrev pub line : ℕ → ℕ → List Bool
line zero zero = []
line zero (suc c) = true ∷ line zero c
line (suc k) c = false ∷ line k c

line_loose : (c : ℕ) → line zero c ≡ replicate c true
line_loose zero = refl
line_loose (suc c) = ap (λ xs. true ∷ xs) (line_loose c)

line_length : (k c : ℕ) → length (line k c) ≡ k + c
line_length zero zero = refl
line_length zero (suc c) = let rest = line_length zero c in omega arith
line_length (suc k) c = let rest = line_length k c in omega arith

line_count : (k c : ℕ) → count_by (λ mark. mark) (line k c) ≡ c
line_count zero zero = refl
line_count zero (suc c) =
    let head : count_by (λ mark. mark) (true ∷ line zero c) ≡ 1 + count_by (λ mark. mark) (line zero c) =
    sum_by-cons (λ (mark : Bool). cond {A = ℕ} mark 1 0) true (line zero c) in
    let rest = line_count zero c in
    omega arith
line_count (suc k) c = line_count k c

line_first : (k c : ℕ) → position_or_len (λ mark. mark) (line k (suc c)) ≡ k
line_first zero c = refl
line_first (suc k) c = let rest = line_first k c in omega arith

line_lowest : (k c : ℕ) → 0 < c → position (λ mark. mark) (line k c) ≡ Some k
line_lowest k zero some = absurd (omega arith)
line_lowest k (suc c) some =
    let at = line_first k c in
    let len = line_length k (suc c) in
    elim (leb_tells (suc (position_or_len (λ mark. mark) (line k (suc c)))) (length (line k (suc c)))) [
      | inl t ↦ rw t.0 (ap Some at)
      | inr t ↦ absurd (let le = t.1 in omega arith)
    ]

line_taken : (k c : ℕ) → 0 < c → set (line k c) k false ≡ line (suc k) (c - 1)
line_taken zero zero some = absurd (omega arith)
line_taken zero (suc c) some = let less : c ≡ suc c - 1 = omega arith in ap (λ n. line 1 n) less
line_taken (suc k) c some = ap (λ xs. false ∷ xs) (line_taken k c some)

-- each disk's loose extents are its last ones, as many as the counts say
pub record IsLined (s : SetState) (counts : List ℕ) (extents : ℕ) : Type 0 where
  pub disks : length counts ≡ length s.disks
  pub tables : length counts ≡ length s.loose
  pub few : (d : ℕ) → slice_index counts d ≤ extents
  pub marks : (d : ℕ) → d < length counts → marks_of s d ≡ line (extents - slice_index counts d) (slice_index counts d)

-- no count is over the number of extents at first
pub few_start : (n e d : ℕ) → slice_index (replicate n e) d ≤ e
few_start n e d = elim (cases_lt d n) [
  | inl h ↦ (let count = get_or-replicate n d e 0 h in omega arith)
  | inr h ↦ (let none = get_or_past (replicate n e) d 0 (omega (arith, length-replicate n e)) in omega arith)
]

-- where all extents are loose
pub lined_start : (g : Geometry) (n e : ℕ) (s : SetState) → IsAllLoose g n e s → IsLined s (replicate n e) e
lined_start g n e s all = record {
  disks = length-replicate n e ∙ sym all.disks;
  tables = length-replicate n e ∙ sym (length-replicate n (replicate e true))
      ∙ sym (ap (λ (t : List (List Bool)). length t) all.loose);
  few = few_start n e;
  marks = λ d lt.
      let inside : d < n = omega (arith, length-replicate n e) in
      let count : get_or (replicate n e) d 0 ≡ e = get_or-replicate n d e 0 inside in
      let taken : e - get_or (replicate n e) d 0 ≡ 0 = omega arith in
      ap (λ (t : List (List Bool)). get_or t d []) all.loose ∙ get_or-replicate n d (replicate e true) [] inside
      ∙ sym (line_loose e)
      ∙ sym (ap (λ k. line k (get_or (replicate n e) d 0)) taken ∙ ap (λ c. line 0 c) count);
}

-- the count of one disk, and those of the others
pub one_same : (counts : List ℕ) (d : ℕ) → get_or (one_fewer counts d) d 0 ≡ get_or counts d 0 - 1
one_same counts d = elim (cases_lt d (length counts)) [
  | inl h ↦ get_or-set_same counts d (get_or counts d 0 - 1) 0 h
  | inr h ↦
      let none = get_or_past counts d 0 h in
      ap (λ (xs : List ℕ). get_or xs d 0) (set_past counts d (get_or counts d 0 - 1) h) ∙ omega arith
]

pub one_other : (counts : List ℕ) (d x : ℕ) → x ≢ d → get_or (one_fewer counts d) x 0 ≡ get_or counts x 0
one_other counts d x ne = get_or-set_other counts d x (get_or counts d 0 - 1) 0 ne

pub one_le : (counts : List ℕ) (d x : ℕ) → get_or (one_fewer counts d) x 0 ≤ get_or counts x 0
one_le counts d x = elim (eqb_tells x d) [
  | inl e ↦
      let same : get_or (one_fewer counts d) x 0 ≡ get_or counts x 0 - 1 =
      ap (λ y. get_or (one_fewer counts d) y 0) e.1 ∙ one_same counts d ∙ ap (λ y. get_or counts y 0 - 1) (sym e.1) in
      omega arith
  | inr q ↦ (let same = one_other counts d x q.1 in omega arith)
]

-- a disk's lowest loose extent is taken
pub lined_taken : (s : SetState) (counts : List ℕ) (extents d e : ℕ) → IsLined s counts extents → d < length counts
    → 0 < get_or counts d 0 → e ≡ extents - get_or counts d 0
    → IsLined (taken s d (Some e)) (one_fewer counts d) extents
lined_taken s counts extents d e lined inside some is =
    let size = length-set counts d (get_or counts d 0 - 1) in
    record {
      disks = size ∙ lined.disks;
      tables = size ∙ lined.tables ∙ sym (length-set s.loose d (set (marks_of s d) e false));
      few = λ x. let le = one_le counts d x in let few = lined.few x in omega arith;
      marks = λ x lt. elim (eqb_tells x d) [
        | inl q ↦ subst (λ y. marks_of (taken s d (Some e)) y
            ≡ line (extents - get_or (one_fewer counts d) y 0) (get_or (one_fewer counts d) y 0)) (sym q.1) here
        | inr q ↦
            get_or-set_other s.loose d x (set (marks_of s d) e false) [] q.1 ∙ lined.marks x (omega arith)
            ∙ sym (ap (λ c. line (extents - c) c) (one_other counts d x q.1))
      ];
    }
  where
    here : marks_of (taken s d (Some e)) d
        ≡ line (extents - get_or (one_fewer counts d) d 0) (get_or (one_fewer counts d) d 0)
    here =
        let c = get_or counts d 0 in
        let few = lined.few d in
        let table : d < length s.loose = (let same = lined.tables in omega arith) in
        let next : suc (extents - c) ≡ extents - (c - 1) = omega arith in
        get_or-set_same s.loose d (set (marks_of s d) e false) [] table
        ∙ ap (λ (row : List Bool). set row e false) (lined.marks d inside)
        ∙ ap (λ k. set (line (extents - c) c) k false) is
        ∙ line_taken (extents - c) c some
        ∙ ap (λ k. line k (c - 1)) next
        ∙ sym (ap (λ n. line (extents - n) n) (one_same counts d))

-- as many extents of a disk are loose as its count says
pub lined_count : (s : SetState) (counts : List ℕ) (extents d : ℕ) → IsLined s counts extents → d < length counts
    → loose_count s d ≡ get_or counts d 0
lined_count s counts extents d lined inside =
    ap (λ (row : List Bool). count_by (λ mark. mark) row) (lined.marks d inside)
    ∙ line_count (extents - get_or counts d 0) (get_or counts d 0)

-- the lowest unassigned one is the first of those at the disk's end
pub lined_lowest : (s : SetState) (counts : List ℕ) (extents d : ℕ) → IsLined s counts extents → d < length counts
    → 0 < get_or counts d 0
    → lowest_loose s d ≡ Some (extents - get_or counts d 0)
lined_lowest s counts extents d lined inside some =
    ap (λ (row : List Bool). position (λ mark. mark) row) (lined.marks d inside)
    ∙ line_lowest (extents - get_or counts d 0) (get_or counts d 0) some

-- what holds of each of the four member positions
pub four_cases : (P : ℕ → Type 0) → P 0 → P 1 → P 2 → P 3 → (i : ℕ) → i < 4 → P i
four_cases P a b c d zero lt = a
four_cases P a b c d (suc zero) lt = b
four_cases P a b c d (suc (suc zero)) lt = c
four_cases P a b c d (suc (suc (suc zero))) lt = d
four_cases P a b c d (suc (suc (suc (suc n)))) lt = absurd (omega arith)

-- the fullest by their counts are the fullest
pub fullest_lined : (s : SetState) (counts : List ℕ) (extents : ℕ) (f : FourDisks) → IsLined s counts extents
    → AreFourFullest counts f → AreFullest s (next_members counts extents f)
fullest_lined s counts extents f lined four =
    let asc = four.ascending in
    let picked = four.picked in
    record {
      ascending = (asc.second, asc.third, asc.fourth);
      there = (let there = picked.there.3 in let same = lined.disks in omega arith);
      lowest = four_cases (λ i. lowest_loose s (member m i).disk ≡ Some (member m i).extent)
          (lined_lowest s counts extents f.first lined picked.there.0 picked.some.0)
          (lined_lowest s counts extents f.second lined picked.there.1 picked.some.1)
          (lined_lowest s counts extents f.third lined picked.there.2 picked.some.2)
          (lined_lowest s counts extents f.fourth lined picked.there.3 picked.some.3);
      fullest = λ x i lt range other.
          let inside : x < length counts = (let same = lined.disks in omega arith) in
          let all = picked.first x inside (other 0 (omega arith)) (other 1 (omega arith)) (other 2 (omega arith))
          (other 3 (omega arith)) in
          four_cases (λ j. (loose_count s x < loose_count s (member m j).disk)
          ⊎ ((loose_count s x ≡ loose_count s (member m j).disk) × ((member m j).disk < x)))
          (before x f.first inside picked.there.0 all.0)
          (before x f.second inside picked.there.1 all.1)
          (before x f.third inside picked.there.2 all.2)
          (before x f.fourth inside picked.there.3 all.3)
          i range;
    }
  where
    m : Members
    m = next_members counts extents f

    before : (x d : ℕ) → x < length counts → d < length counts
        → (get_or counts x 0 < get_or counts d 0) ⊎ ((get_or counts x 0 ≡ get_or counts d 0) × (d < x))
        → (loose_count s x < loose_count s d) ⊎ ((loose_count s x ≡ loose_count s d) × (d < x))
    before x d there_x there_d h =
        let of_x = lined_count s counts extents x lined there_x in
        let of_d = lined_count s counts extents d lined there_d in
        elim h [ inl lt ↦ inl (omega arith) | inr same ↦ inr (of_x ∙ same.0 ∙ sym of_d, same.1) ]

-- and few disks have loose extents where the counts say so
pub few_lined : (s : SetState) (counts : List ℕ) (extents : ℕ) → IsLined s counts extents → HasFewCounts counts
    → HasFewLoose s
few_lined s counts extents lined few = record {
  few = λ a b c d ab bc cd there sa sb sc sd.
      let same = lined.disks in
      let in_d : d < length counts = omega arith in
      let in_c : c < length counts = omega arith in
      let in_b : b < length counts = omega arith in
      let in_a : a < length counts = omega arith in
      let of_a = lined_count s counts extents a lined in_a in
      let of_b = lined_count s counts extents b lined in_b in
      let of_c = lined_count s counts extents c lined in_c in
      let of_d = lined_count s counts extents d lined in_d in
      few.few a b c d ab bc cd in_d (omega arith) (omega arith) (omega arith) (omega arith);
}

-- once the group's extents are taken
pub lined_without : (s : SetState) (counts : List ℕ) (extents : ℕ) (f : FourDisks) → IsLined s counts extents
    → AreFourFullest counts f
    → IsLined (without s (next_members counts extents f)) (four_fewer counts f) extents
lined_without s counts extents f lined four =
    let asc = four.ascending in
    let ab = asc.second in
    let bc = asc.third in
    let cd = asc.fourth in
    let there = four.picked.there in
    let some = four.picked.some in
    let one = one_fewer counts f.first in
    let two = one_fewer one f.second in
    let three = one_fewer two f.third in
    let size_1 : length one ≡ length counts = length-set counts f.first _ in
    let size_2 : length two ≡ length one = length-set one f.second _ in
    let size_3 : length three ≡ length two = length-set two f.third _ in
    let b : get_or one f.second 0 ≡ get_or counts f.second 0 = one_other counts f.first f.second (omega arith) in
    let c : get_or two f.third 0 ≡ get_or counts f.third 0 =
    one_other one f.second f.third (omega arith) ∙ one_other counts f.first f.third (omega arith) in
    let d : get_or three f.fourth 0 ≡ get_or counts f.fourth 0 =
    one_other two f.third f.fourth (omega arith) ∙ one_other one f.second f.fourth (omega arith)
    ∙ one_other counts f.first f.fourth (omega arith) in
    let first = lined_taken s counts extents f.first (extents - get_or counts f.first 0) lined there.0 some.0 refl in
    let s1 = taken s f.first (Some (extents - get_or counts f.first 0)) in
    let s2 = taken s1 f.second (Some (extents - get_or counts f.second 0)) in
    let s3 = taken s2 f.third (Some (extents - get_or counts f.third 0)) in
    let in_1 : f.second < length one = (let h = there.1 in omega arith) in
    let in_2 : f.third < length two = (let h = there.2 in omega arith) in
    let in_3 : f.fourth < length three = (let h = there.3 in omega arith) in
    let some_1 : 0 < get_or one f.second 0 = (let h = some.1 in omega arith) in
    let some_2 : 0 < get_or two f.third 0 = (let h = some.2 in omega arith) in
    let some_3 : 0 < get_or three f.fourth 0 = (let h = some.3 in omega arith) in
    let second =
    lined_taken s1 one extents f.second (extents - get_or counts f.second 0) first in_1 some_1
    (ap (λ n. extents - n) (sym b)) in
    let third = lined_taken s2 two extents f.third (extents - get_or counts f.third 0) second in_2 some_2
    (ap (λ n. extents - n) (sym c)) in
    lined_taken s3 three extents f.fourth (extents - get_or counts f.fourth 0) third in_3 some_3
    (ap (λ n. extents - n) (sym d))
