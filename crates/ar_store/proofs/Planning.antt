-- How the groups of a store are planned, and how their extents are taken.
use Rattle.std.proofs.Common.{◌≡◌, ◌≢◌, inl, inr, ℕ, ◌+◌, ◌-◌, ◌<◌, ◌≤◌, ◌||◌, ◌&&◌, ◌*◌, Bool, false, eqb, List, []}
use Rattle.std.proofs.Common.{◌∷◌, ◌++◌, length, get_or, replicate, sum_by, Result, IfOk, refl, sym, ap, subst, ◌∙◌}
use Rattle.std.proofs.Common.{arith}
use Rattle.std.specs.Prelude.{slice_index}
use Rattle.std.proofs.lemmas.Bool.{cases_lt}
use Rattle.std.proofs.lemmas.Bool.Decides.{eqb_tells}
use Rattle.std.proofs.lemmas.List.{map-append, set_past}
use Rattle.std.proofs.lemmas.List.Sums.{sum_by-set}
use Rattle.std.proofs.Math.ListN.{length-set, length-replicate}
use Rattle.ar_disks.specs.declared.address.Place.{Place}
use Rattle.ar_disks.specs.declared.address.Members.{Members}
use Rattle.ar_disks.specs.declared.geometry.Geometry.{Geometry}
use Rattle.ar_disks.specs.Geometry.{rows_of}
use Rattle.ar_disks.specs.Members.{member, stands_on}
use Rattle.ar_extents.specs.Set.{SetState}
use Rattle.ar_book.specs.Tables.{GroupState, Tables, group_in}
use Rattle.ar_book.specs.Changes.{formed, free_group}
use Rattle.ar_disks.specs.Addresses.{same_place}
use Rattle.ar_book.specs.Choices.{IsUnused, AreUnused}
use Rattle.ar_book.proofs.GroupChanges.{formed_group_count}
use Rattle.ar_book.proofs.AfterForm.{formed_members, formed_members_other}
use Rattle.ar_store.specs.Store.{StoreState, store_of}
use Rattle.ar_store.specs.declared.form.FourDisks.{FourDisks}
use Rattle.ar_store.specs.Fullest.{AreFourFullest, HasFewCounts, one_fewer, four_fewer, next_loose, next_members}
use Rattle.ar_store.specs.Forming.{AreFullest, HasFewLoose, IsFormed, IsPlanFor, IsAllLoose, with_group, without}
use Rattle.ar_store.specs.Forming.{empty_book, members_list}
use Rattle.ar_store.proofs.Lined.{IsLined, lined_start, lined_without, fullest_lined, few_start, few_lined, four_cases}
use Rattle.ar_store.proofs.Lined.{one_same, one_le}

-- a store has formed these groups, one after another, and may form more
abbrev pub IsForming : StoreState → List Members → StoreState → Type 0
IsForming s [] new = new ≡ s
IsForming s (m ∷ ms) new = AreFullest s.disks m × IsForming (with_group s m) ms new

-- one group more
pub forming_then : (s : StoreState) (ms : List Members) (t : StoreState) (m : Members) → IsForming s ms t
    → AreFullest t.disks m → IsForming s (ms ++ m ∷ []) (with_group t m)
forming_then s [] t m forming fullest =
    (subst (λ (x : StoreState). AreFullest x.disks m) forming fullest, ap (λ (x : StoreState). with_group x m) forming)
forming_then s (n ∷ ms) t m forming fullest = (forming.0, forming_then (with_group s n) ms t m forming.1 fullest)

-- no group more
pub forming_end : (s : StoreState) (ms : List Members) (t : StoreState) → IsForming s ms t → HasFewLoose t.disks
    → IsFormed s ms t
forming_end s [] t forming few = (subst (λ (x : StoreState). HasFewLoose x.disks) forming few, forming)
forming_end s (n ∷ ms) t forming few = (forming.0, forming_end (with_group s n) ms t forming.1 few)

-- what a set and its book came to
pub record HasReached (s : SetState) (t : Tables) (counts : List ℕ) (extents : ℕ) : Type 0 where
  pub after : SetState
  pub forming : IsForming (store_of s (empty_book s.geometry)) (members_list t) (store_of after t)
  pub lined : IsLined after counts extents

-- a member stands below the extents of its disk that are loose
abbrev pub IsBelow : List ℕ → ℕ → Members → ℕ → Type 0
IsBelow counts extents m i = (member m i).extent + slice_index counts (member m i).disk < extents

-- what holds while groups are planned, from how many extents of each disk are unassigned
pub record IsPlanning (geometry : Geometry) (disks extents : ℕ) (t : Tables) (counts : List ℕ) : Type 0 where
  pub size : length counts ≡ disks
  pub few : (d : ℕ) → slice_index counts d ≤ extents
  pub below : (g i : ℕ) → g < length t.groups → i < 4 → IsBelow counts extents (group_in t.groups g).members i
  pub reached : (s : SetState) → IsAllLoose geometry disks extents s → HasReached s t counts extents

-- no group is planned yet
pub planning_start : (g : Geometry) (n e : ℕ) (t : Tables) (counts : List ℕ) → t ≡ empty_book g → counts ≡ replicate n e
    → IsPlanning g n e t counts
planning_start g n e t counts book_is counts_is =
    subst (λ (x : Tables). IsPlanning g n e x counts) (sym book_is)
    (subst (λ (xs : List ℕ). IsPlanning g n e (empty_book g) xs) (sym counts_is) start)
  where
    start : IsPlanning g n e (empty_book g) (replicate n e)
    start = record {
      size = length-replicate n e;
      few = few_start n e;
      below = λ h i lt range. absurd (omega arith);
      reached = λ s loose. record {
        after = s;
        forming = ap (λ h. store_of s (empty_book h)) (sym loose.same_geometry);
        lined = lined_start g n e s loose;
      };
    }

-- the counts once a group was planned
four_le : (counts : List ℕ) (f : FourDisks) (x : ℕ) → slice_index (four_fewer counts f) x ≤ slice_index counts x
four_le counts f x =
    let one = one_fewer counts f.first in
    let two = one_fewer one f.second in
    let three = one_fewer two f.third in
    let a = one_le counts f.first x in
    let b = one_le one f.second x in
    let c = one_le two f.third x in
    let d = one_le three f.fourth x in
    omega arith

module _ (counts : List ℕ) (f : FourDisks) (four : AreFourFullest counts f) where
  one : List ℕ
  one = one_fewer counts f.first

  two : List ℕ
  two = one_fewer (one_fewer counts f.first) f.second

  three : List ℕ
  three = one_fewer (one_fewer (one_fewer counts f.first) f.second) f.third

  first_less : slice_index (four_fewer counts f) f.first < slice_index counts f.first
  unfolding one two three
  first_less =
      let some = four.picked.some.0 in
      let a = one_same counts f.first in
      let b = one_le one f.second f.first in
      let c = one_le two f.third f.first in
      let d = one_le three f.fourth f.first in
      omega arith

  second_less : slice_index (four_fewer counts f) f.second < slice_index counts f.second
  unfolding one two three
  second_less =
      let some = four.picked.some.1 in
      let a = one_le counts f.first f.second in
      let b = one_same one f.second in
      let c = one_le two f.third f.second in
      let d = one_le three f.fourth f.second in
      omega arith

  third_less : slice_index (four_fewer counts f) f.third < slice_index counts f.third
  unfolding one two three
  third_less =
      let some = four.picked.some.2 in
      let a = one_le counts f.first f.third in
      let b = one_le one f.second f.third in
      let c = one_same two f.third in
      let d = one_le three f.fourth f.third in
      omega arith

  fourth_less : slice_index (four_fewer counts f) f.fourth < slice_index counts f.fourth
  unfolding one two three
  fourth_less =
      let some = four.picked.some.3 in
      let a = one_le counts f.first f.fourth in
      let b = one_le one f.second f.fourth in
      let c = one_le two f.third f.fourth in
      let d = one_same three f.fourth in
      omega arith

-- fewer extents are loose
sum_le : (counts : List ℕ) (d : ℕ) → sum_by (λ n. n) (one_fewer counts d) ≤ sum_by (λ n. n) counts
sum_le counts d = elim (cases_lt d (length counts)) [
  | inl h ↦
      let all : sum_by (λ n. n) (one_fewer counts d) + get_or counts d 0
      ≡ sum_by (λ n. n) counts + (get_or counts d 0 - 1) =
      sum_by-set (λ n. n) counts d (get_or counts d 0 - 1) 0 h in
      omega arith
  | inr h ↦
      let same : sum_by (λ n. n) (one_fewer counts d) ≡ sum_by (λ n. n) counts =
      ap (λ (xs : List ℕ). sum_by (λ n. n) xs) (set_past counts d (get_or counts d 0 - 1) h) in
      omega arith
]

pub sum_less : (counts : List ℕ) (f : FourDisks) → AreFourFullest counts f
    → sum_by (λ n. n) (four_fewer counts f) < sum_by (λ n. n) counts
sum_less counts f four =
    let first = one_fewer counts f.first in
    let second = one_fewer first f.second in
    let third = one_fewer second f.third in
    let some = four.picked.some.0 in
    let all : sum_by (λ n. n) first + get_or counts f.first 0 ≡ sum_by (λ n. n) counts + (get_or counts f.first 0 - 1) =
    sum_by-set (λ n. n) counts f.first (get_or counts f.first 0 - 1) 0 four.picked.there.0 in
    let b = sum_le first f.second in
    let c = sum_le second f.third in
    let d = sum_le third f.fourth in
    omega arith

-- one group more is planned
pub planning_next : (g : Geometry) (n e : ℕ) (t : Tables) (counts : List ℕ) (f : FourDisks) → IsPlanning g n e t counts
    → AreFourFullest counts f
    → IsPlanning g n e (formed t (next_members counts e f)) (four_fewer counts f)
planning_next g n e t counts f plan four = record {
  size =
      length-set three f.fourth _ ∙ length-set two f.third _ ∙ length-set one f.second _ ∙ length-set counts f.first _
      ∙ plan.size;
  few = λ d. let le = four_le counts f d in let few = plan.few d in omega arith;
  below = λ h i lt range. elim (cases_lt h (length t.groups)) [
    | inl old ↦
        subst (λ (x : Members). IsBelow (four_fewer counts f) e x i) (sym (formed_members_other t m h old))
        (let before = plan.below h i old range in
        let le = four_le counts f (member (group_in t.groups h).members i).disk in
        omega arith)
    | inr new ↦
        let last : h ≡ length t.groups = omega (arith, formed_group_count t m) in
        subst (λ (x : Members). IsBelow (four_fewer counts f) e x i)
        (sym (ap (λ k. (group_in (formed t m).groups k).members) last ∙ formed_members t m)) (here i range)
  ];
  reached = λ s loose.
      let now = plan.reached s loose in
      let fullest = fullest_lined now.after counts e f now.lined four in
      record {
        after = without now.after m;
        forming = subst
            (λ (ms : List Members). IsForming (store_of s (empty_book s.geometry)) ms
            (store_of (without now.after m) (formed t m)))
            (sym (map-append (λ (x : GroupState). x.members) t.groups (free_group m (3 * rows_of t.geometry) ∷ [])))
            (forming_then (store_of s (empty_book s.geometry)) (members_list t) (store_of now.after t) m now.forming
            fullest);
        lined = lined_without now.after counts e f now.lined four;
      };
}
  where
    m : Members
    m = next_members counts e f

    one : List ℕ
    one = one_fewer counts f.first

    two : List ℕ
    two = one_fewer one f.second

    three : List ℕ
    three = one_fewer two f.third

    here : (i : ℕ) → i < 4 → IsBelow (four_fewer counts f) e (next_members counts e f) i
    here =
        let a = first_less counts f four in
        let b = second_less counts f four in
        let c = third_less counts f four in
        let d = fourth_less counts f four in
        let few_a = plan.few f.first in
        let few_b = plan.few f.second in
        let few_c = plan.few f.third in
        let few_d = plan.few f.fourth in
        four_cases (λ i. IsBelow (four_fewer counts f) e (next_members counts e f) i) (omega arith) (omega arith)
        (omega arith) (omega arith)

-- all groups are planned
pub planning_end : (g : Geometry) (n e : ℕ) (t : Tables) (counts : List ℕ) → IsPlanning g n e t counts
    → HasFewCounts counts
    → (s : SetState) → IsAllLoose g n e s → IsPlanFor s t
planning_end g n e t counts plan few s loose =
    let now = plan.reached s loose in
    record {
      after = now.after;
      formed = forming_end (store_of s (empty_book s.geometry)) (members_list t) (store_of now.after t) now.forming
          (few_lined now.after counts e now.lined few);
    }

-- the members of the next group are in no other
place_apart : (q p : Place) → (q.disk ≡ p.disk → q.extent ≢ p.extent) → same_place q p ≡ false
place_apart q p apart = elim (eqb_tells q.disk p.disk) [
  | inr d ↦ ap (λ b. b && eqb q.extent p.extent) d.0
  | inl d ↦ elim (eqb_tells q.extent p.extent) [
    | inl e ↦ absurd (apart d.1 e.1)
    | inr e ↦ ap (λ b. b && eqb q.extent p.extent) d.0 ∙ e.0
  ]
]

none_true : (a b c d : Bool) → a ≡ false → b ≡ false → c ≡ false → d ≡ false → (a || b || c || d) ≡ false
none_true a b c d ea eb ec ed = rw (ea, eb, ec, ed) refl

stands_apart : (m : Members) (p : Place)
    → ((k : ℕ) → k < 4 → (member m k).disk ≡ p.disk → (member m k).extent ≢ p.extent)
    → stands_on m p ≡ false
stands_apart m p apart =
    none_true (same_place m.first p) (same_place m.second p) (same_place m.third p) (same_place m.fourth p)
    (place_apart m.first p (apart 0 (omega arith))) (place_apart m.second p (apart 1 (omega arith)))
    (place_apart m.third p (apart 2 (omega arith))) (place_apart m.fourth p (apart 3 (omega arith)))

pub next_unused : (g : Geometry) (n e : ℕ) (t : Tables) (counts : List ℕ) (f : FourDisks) → IsPlanning g n e t counts
    → AreUnused t (next_members counts e f)
next_unused g n e t counts f plan =
    four_cases (λ j. IsUnused t (member (next_members counts e f) j)) (unused f.first) (unused f.second)
    (unused f.third) (unused f.fourth)
  where
    unused : (d : ℕ) → IsUnused t (next_loose counts e d)
    unused d i inside =
        stands_apart (group_in t.groups i).members (next_loose counts e d)
        (λ k range disk extent.
        let below = plan.below i k inside range in
        let same : slice_index counts (member (group_in t.groups i).members k).disk ≡ slice_index counts d =
        ap (λ x. slice_index counts x) disk in
        let few = plan.few d in
        omega arith)

-- a group that was planned in the loop
pub planning_step : (g : Geometry) (n e : ℕ) (t u : Tables) (counts new xs ys : List ℕ) (f : FourDisks) (m : Members)
    → IsPlanning g n e t counts
    → xs ≡ counts → AreFourFullest xs f → ys ≡ counts → m ≡ next_members ys e f → u ≡ formed t m
    → new ≡ four_fewer counts f
    → IsPlanning g n e u new
planning_step g n e t u counts new xs ys f m plan xs_is four ys_is m_is u_is new_is =
    let next = planning_next g n e t counts f plan (subst (λ zs. AreFourFullest zs f) xs_is four) in
    let members : m ≡ next_members counts e f = m_is ∙ ap (λ zs. next_members zs e f) ys_is in
    let book : u ≡ formed t (next_members counts e f) = u_is ∙ ap (λ x. formed t x) members in
    subst (λ (x : Tables). IsPlanning g n e x new) (sym book)
    (subst (λ zs. IsPlanning g n e (formed t (next_members counts e f)) zs) (sym new_is) next)

pub planning_unused : (g : Geometry) (n e : ℕ) (t : Tables) (counts ys : List ℕ) (f : FourDisks) (m : Members)
    → IsPlanning g n e t counts
    → ys ≡ counts → m ≡ next_members ys e f → AreUnused t m
planning_unused g n e t counts ys f m plan ys_is m_is =
    subst (λ (x : Members). AreUnused t x) (sym (m_is ∙ ap (λ zs. next_members zs e f) ys_is))
    (next_unused g n e t counts f plan)

pub planning_less : (counts new xs : List ℕ) (f : FourDisks) → xs ≡ counts → AreFourFullest xs f
    → new ≡ four_fewer counts f
    → sum_by (λ n. n) new < sum_by (λ n. n) counts
planning_less counts new xs f xs_is four new_is =
    subst (λ zs. sum_by (λ n. n) zs < sum_by (λ n. n) counts) (sym new_is)
    (sum_less counts f (subst (λ zs. AreFourFullest zs f) xs_is four))

-- the plan for as many disks, under another name for their number
pub plan_of : {E : Type 0} (r : Result Tables E) (g : Geometry) (m n e : ℕ) → m ≡ n
    → IfOk r (λ t. (s : SetState) → IsAllLoose g m e s → IsPlanFor s t)
    → IfOk r (λ t. (s : SetState) → IsAllLoose g n e s → IsPlanFor s t)
plan_of r g m n e same plan = subst (λ k. IfOk r (λ t. (s : SetState) → IsAllLoose g k e s → IsPlanFor s t)) same plan
