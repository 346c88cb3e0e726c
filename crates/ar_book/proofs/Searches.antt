-- The choices at the root of the tree are those of plain searches over the groups.
use Rattle.std.proofs.Common.{◌≡◌, ℕ, zero, suc, ◌+◌, ◌-◌, ◌<◌, ◌≤◌, Bool, true, false, cond, ◌&&◌, Option, None, Some}
use Rattle.std.proofs.Common.{is_some, IfSome, IfNone, List, [], ◌∷◌, length, take, drop, get_or, count_by, refl, sym}
use Rattle.std.proofs.Common.{ap, subst, ◌∙◌, inl, inr, true≢false, arith}
use Rattle.std.specs.Prelude.{nat_lt}
use Rattle.std.specs.Option.{option_or}
use Rattle.std.proofs.lemmas.Bool.{cases_lt, and_parts, and_from}
use Rattle.std.proofs.lemmas.Bool.Decides.{Decides-ltb}
use Rattle.std.proofs.lemmas.Option.{none-some, same_Some}
use Rattle.std.proofs.lemmas.List.{length-take-le, length-drop, get_or-take, get_or-drop}
use Rattle.std.proofs.lemmas.List.Sums.{sum_by-take-drop, sum_by-cons, count_by-le-length}
use Rattle.ar_disks.specs.declared.address.Addr.{Addr}
use Rattle.ar_disks.specs.declared.address.Key.{Key}
use Rattle.ar_disks.specs.declared.geometry.Geometry.{Geometry}
use Rattle.ar_index.specs.declared.choices.Age.{Age}
use Rattle.ar_index.specs.declared.choices.Choices.{Choices}
use Rattle.ar_index.specs.Choices.{place_in, nothing, join, search_all}
use Rattle.ar_book.specs.declared.class.Class.{Class}
use Rattle.ar_book.specs.declared.class.Class.TheVariants.{Free, Mirrored, Parity}
use Rattle.ar_book.specs.declared.class.Slot.{Slot}
use Rattle.ar_book.specs.Tables.{GroupState, Tables, no_group, group_in, class_of, slots_of, used, is_free, free_groups}
use Rattle.ar_book.specs.Choices.{IsHole, IsHoleOf, IsLowestFree}
use Rattle.ar_book.specs.Book.{TablesAgree}
use Rattle.ar_book.specs.Cleaning.{IsOpenAfter}
use Rattle.ar_book.specs.Index.{age_of, choices_in, leaves_from, leaves_of, open_in}
use Rattle.ar_book.proofs.CountLemmas.{all_used, none_used}
use Rattle.ar_book.proofs.PlaceLemmas.{slots_within}
use Rattle.ar_book.proofs.GroupLemmas.{no_free}

-- the number of the first group that passes, where the first of all has this number
abbrev first_where : (GroupState → Bool) → ℕ → List GroupState → Option ℕ
first_where p n [] = None
first_where p n (x ∷ gs) = cond (p x) (Some n) (first_where p (suc n) gs)

-- the group passes, and none before it does
record IsFirst (p : GroupState → Bool) (n : ℕ) (gs : List GroupState) (m : ℕ) : Type 0 where
  place : ℕ
  is : m ≡ n + place
  inside : place < length gs
  passes : p (group_in gs place) ≡ true
  least : (h : ℕ) → h < place → p (group_in gs h) ≡ false

first_found : (p : GroupState → Bool) (n : ℕ) (gs : List GroupState) (m : ℕ) → first_where p n gs ≡ Some m
    → IsFirst p n gs m
first_found p n [] m e = absurd (none-some m e)
first_found p n (x ∷ gs) m e = by (p x) refl e (first_found p (suc n) gs m)
  where
    later : p x ≡ false → IsFirst p (suc n) gs m → IsFirst p n (x ∷ gs) m
    later t r = record {
      place = suc r.place;
      is = omega (arith, r.is);
      inside = omega (arith, r.inside);
      passes = r.passes;
      least = before;
    }
      where
        before : (h : ℕ) → h < suc r.place → p (group_in (x ∷ gs) h) ≡ false
        before zero l = t
        before (suc h) l = r.least h (omega arith)

    by : (b : Bool) → p x ≡ b → cond b (Some n) (first_where p (suc n) gs) ≡ Some m
        → (first_where p (suc n) gs ≡ Some m → IsFirst p (suc n) gs m) → IsFirst p n (x ∷ gs) m
    by true t f rest =
        record {
          place = 0;
          is = omega (arith, same_Some n m f);
          inside = omega arith;
          passes = t;
          least = λ h l. absurd (omega arith);
        }
    by false t f rest = later t (rest f)

first_none : (p : GroupState → Bool) (n : ℕ) (gs : List GroupState) → first_where p n gs ≡ None → (i : ℕ)
    → i < length gs → p (group_in gs i) ≡ false
first_none p n [] e i h = absurd (omega arith)
first_none p n (x ∷ gs) e i h = grind (arith, none-some, first_none p (suc n) gs)

-- a search for a choice that is each group's own number, or none
module _ (g : Geometry) (place : Addr → ℕ) (age : Key → Age) (q : Choices → Option ℕ) (p : GroupState
    → Bool) (empty : q nothing ≡ None)
    (joins : (a b : Choices) → q (join place a b) ≡ option_or (q a) (q b)) (own : (n : ℕ) (x : GroupState)
    → q (choices_in g place age n x) ≡ cond (p x) (Some n) None) where
  search_first : (n : ℕ) (gs : List GroupState) → q (search_all place (leaves_from g place age n gs))
      ≡ first_where p n gs
  search_first n [] = empty
  search_first n (x ∷ gs) = grind (arith, search_first (suc n) gs)

-- the choices of the groups from a place on
leaves_drop : (g : Geometry) (place : Addr → ℕ) (age : Key → Age) (k n : ℕ) (gs : List GroupState)
    → drop k (leaves_from g place age n gs) ≡ leaves_from g place age (n + k) (drop k gs)
leaves_drop g place age zero n gs = ap (λ m. leaves_from g place age m gs) (let e : n ≡ n + 0 = omega arith in e)
leaves_drop g place age (suc k) n [] = refl
leaves_drop g place age (suc k) n (x ∷ gs) = grind (arith, leaves_drop g place age k (suc n) gs)

-- whether the two are one class that has slots
abbrev opens_by : Class → Class → Bool
opens_by Free d = false
opens_by Mirrored Free = false
opens_by Mirrored Mirrored = true
opens_by Mirrored Parity = false
opens_by Parity Free = false
opens_by Parity Mirrored = false
opens_by Parity Parity = true

-- whether the group is of the class and has a hole
abbrev opens : Geometry → Class → GroupState → Bool
opens g c x = opens_by c x.class && nat_lt (used x) (slots_of g x.class)

open_joins : (place : Addr → ℕ) (c : Class) (a b : Choices)
    → open_in c (join place a b) ≡ option_or (open_in c a) (open_in c b)
open_joins place Free a b = refl
open_joins place Mirrored a b = refl
open_joins place Parity a b = refl

open_nothing : (c : Class) → open_in c nothing ≡ None
open_nothing Free = refl
open_nothing Mirrored = refl
open_nothing Parity = refl

open_own : (g : Geometry) (place : Addr → ℕ) (age : Key → Age) (c : Class) (n : ℕ) (x : GroupState)
    → open_in c (choices_in g place age n x) ≡ cond (opens g c x) (Some n) None
open_own g place age c n x = grind (arith)

opens_class : (c d : Class) → opens_by c d ≡ true → d ≡ c
opens_class Free d e = absurd (true≢false (sym e))
opens_class Mirrored Free e = absurd (true≢false (sym e))
opens_class Mirrored Mirrored e = refl
opens_class Mirrored Parity e = absurd (true≢false (sym e))
opens_class Parity Free e = absurd (true≢false (sym e))
opens_class Parity Mirrored e = absurd (true≢false (sym e))
opens_class Parity Parity e = refl

opens_same : (g : Geometry) (c d : Class) (i : ℕ) → d ≡ c → i < slots_of g c → opens_by c d ≡ true
opens_same g Free d i e h = absurd (omega arith)
opens_same g Mirrored d i e h = ap (opens_by Mirrored) e
opens_same g Parity d i e h = ap (opens_by Parity) e

module _ (t : Tables) (ok : TablesAgree t) where
  abbrev slots : ℕ → List (Option Key)
  slots i = (group_in t.groups i).slots

  abbrev end : ℕ → ℕ
  end i = slots_of t.geometry (class_of t i)

  long_enough : (i : ℕ) → i < length t.groups → end i ≤ length (slots i)
  long_enough i h = omega (arith, ok.groups.long i h, slots_within t.geometry (class_of t i))

  -- all that name a block are among the first
  used_first : (i : ℕ) → i < length t.groups → used (group_in t.groups i) ≡ count_by is_some (take (end i) (slots i))
  used_first i h =
      let split : count_by is_some (take (end i) (slots i)) + count_by is_some (drop (end i) (slots i))
      ≡ used (group_in t.groups i) =
      sum_by-take-drop (λ (o : Option Key). cond {A = ℕ} (is_some o) 1 0) (slots i) (end i) in
      let none : count_by is_some (drop (end i) (slots i)) ≡ 0 = none_used (drop (end i) (slots i)) (λ j k e.
      let within : end i + j < end i =
      ok.groups.within (record { group = i; slot = end i + j }) k (sym (get_or-drop (end i) (slots i) j None)
      ∙ e) in
      absurd (omega arith)) in
      omega arith

  -- a group of which fewer slots name a block has a hole
  pub some_hole : (i : ℕ) → i < length t.groups → used (group_in t.groups i) < end i → ((j : ℕ) → IsHoleOf t i j → ⊥)
      → ⊥
  some_hole i h few never = grind (arith, used_first, length-take-le, long_enough, all_used, get_or-take)

  -- and one with a hole has such
  pub hole_counts : (i j : ℕ) → i < length t.groups → IsHoleOf t i j → used (group_in t.groups i) < end i
  hole_counts i j h hole =
      let count = used_first i h in
      let len : length (take (end i) (slots i)) ≡ end i = length-take-le (end i) (slots i) (long_enough i h) in
      let here : get_or (take (end i) (slots i)) j None ≡ None =
      get_or-take (end i) (slots i) j None hole.slot ∙ hole.empty in
      let fewer = some_left (take (end i) (slots i)) j (omega (arith, hole.slot)) here in
      omega arith
    where
      some_left : (ks : List (Option Key)) (i : ℕ) → i < length ks → get_or ks i None ≡ None
          → count_by is_some ks < length ks
      some_left [] i h e = absurd (omega arith)
      some_left (k ∷ ks) zero h e =
          let a : count_by is_some (k ∷ ks) ≡ cond {A = ℕ} (is_some k) 1 0 + count_by is_some ks =
          sum_by-cons (λ (o : Option Key). cond {A = ℕ} (is_some o) 1 0) k ks in
          let b : cond {A = ℕ} (is_some k) 1 0 ≡ 0 = ap (λ (o : Option Key). cond {A = ℕ} (is_some o) 1 0) e in
          let c = count_by-le-length is_some ks in
          omega arith
      some_left (k ∷ ks) (suc i) h e =
          let a : count_by is_some (k ∷ ks) ≡ cond {A = ℕ} (is_some k) 1 0 + count_by is_some ks =
          sum_by-cons (λ (o : Option Key). cond {A = ℕ} (is_some o) 1 0) k ks in
          let b : cond {A = ℕ} (is_some k) 1 0 ≤ 1 = one (is_some k) in
          let c = some_left ks i (omega arith) e in
          omega arith
        where
          one : (b : Bool) → cond {A = ℕ} b 1 0 ≤ 1
          one true = omega arith
          one false = omega arith

  -- a hole of a class is one of its group, which passes
  hole_opens : (c : Class) (s : Slot) → IsHole t c s → opens t.geometry c (group_in t.groups s.group) ≡ true
  hole_opens c s h = grind (arith, hole_counts, and_from, opens_same, Decides-ltb)

  -- the lowest group of a class that has a hole
  pub record IsOpen (c : Class) (m : ℕ) : Type 0 where
    pub there : m < length t.groups
    pub class : class_of t m ≡ c
    pub some : ((i : ℕ) → IsHoleOf t m i → ⊥) → ⊥
    pub least : (s : Slot) → IsHole t c s → m ≤ s.group

  module _ (c : Class) where
    found : open_in c (search_all (place_in t.units) (leaves_of t.geometry t.units t.groups))
        ≡ first_where (opens t.geometry c) 0 t.groups
    found = search_first t.geometry (place_in t.units) (age_of t.units) (open_in c) (opens t.geometry c)
        (open_nothing c) (open_joins (place_in t.units) c) (open_own t.geometry (place_in t.units) (age_of t.units) c) 0
        t.groups

    pub open_found : (m : ℕ) → open_in c (search_all (place_in t.units) (leaves_of t.geometry t.units t.groups))
        ≡ Some m → IsOpen c m
    open_found m e =
        let f = first_found (opens t.geometry c) 0 t.groups m (sym found ∙ e) in
        let same : m ≡ f.place = omega (arith, f.is) in
        let p = and_parts _ _ f.passes in
        record {
          there = subst (λ i. i < length t.groups) (sym same) f.inside;
          class = ap (class_of t) same ∙ opens_class c (class_of t f.place) p.0;
          some = subst (λ i. ((j : ℕ) → IsHoleOf t i j → ⊥)
              → ⊥) (sym same)
              (some_hole f.place f.inside ((Decides-ltb (used (group_in t.groups f.place)) (end f.place)).0 p.1));
          least = λ s h. elim (cases_lt s.group m) [
            | inl low ↦ absurd (true≢false (sym (hole_opens c s h) ∙ f.least s.group (omega arith)))
            | inr le ↦ le
          ];
        }

    pub open_none : open_in c (search_all (place_in t.units) (leaves_of t.geometry t.units t.groups)) ≡ None
        → (s : Slot) → IsHole t c s → ⊥
    open_none e s h = grind (arith, hole_opens, first_none, found)

    -- and so for either answer
    pub open_there : (o : Option ℕ) → open_in c (search_all (place_in t.units) (leaves_of t.geometry t.units t.groups))
        ≡ o → IfSome o (λ m. m < length t.groups)
    open_there None e = tt
    open_there (Some m) e = (open_found m e).there

    pub open_class : (o : Option ℕ) → open_in c (search_all (place_in t.units) (leaves_of t.geometry t.units t.groups))
        ≡ o → IfSome o (λ m. class_of t m ≡ c)
    open_class None e = tt
    open_class (Some m) e = (open_found m e).class

    pub open_some : (o : Option ℕ) → open_in c (search_all (place_in t.units) (leaves_of t.geometry t.units t.groups))
        ≡ o → IfSome o (λ m. ((i : ℕ) → IsHoleOf t m i → ⊥) → ⊥)
    open_some None e = tt
    open_some (Some m) e = (open_found m e).some

    pub open_least : (o : Option ℕ) → open_in c (search_all (place_in t.units) (leaves_of t.geometry t.units t.groups))
        ≡ o → IfSome o (λ m. (s : Slot) → IsHole t c s → m ≤ s.group)
    open_least None e = tt
    open_least (Some m) e = (open_found m e).least

    pub open_never : (o : Option ℕ) → open_in c (search_all (place_in t.units) (leaves_of t.geometry t.units t.groups))
        ≡ o → IfNone o ((s : Slot) → IsHole t c s → ⊥)
    open_never None e = open_none e
    open_never (Some m) e = tt

  -- the lowest after one group
  module _ (c : Class) (g : ℕ) where
    abbrev later : Option ℕ
    later = open_in c (search_all (place_in t.units) (drop (g + 1) (leaves_of t.geometry t.units t.groups)))

    abbrev rest : List GroupState
    rest = drop (g + 1) t.groups

    found_after : later ≡ first_where (opens t.geometry c) (g + 1) rest
    found_after =
        ap (λ l. open_in c (search_all (place_in t.units) l))
        (leaves_drop t.geometry (place_in t.units) (age_of t.units) (g + 1) 0 t.groups
        ∙ ap (λ n. leaves_from t.geometry (place_in t.units) (age_of t.units) n rest)
        (let e : 0 + (g + 1) ≡ g + 1 = omega arith in e))
        ∙ search_first t.geometry (place_in t.units) (age_of t.units) (open_in c) (opens t.geometry c) (open_nothing c)
        (open_joins (place_in t.units) c) (open_own t.geometry (place_in t.units) (age_of t.units) c) (g + 1) rest

    group_after : (i : ℕ) → group_in rest i ≡ group_in t.groups (g + 1 + i)
    group_after i = get_or-drop (g + 1) t.groups i no_group

    -- a group after it that doesn't pass has no hole
    shut : (s : Slot) → IsHole t c s → g < s.group → opens t.geometry c (group_in rest (s.group - (g + 1))) ≡ false → ⊥
    shut s h past fails = grind (arith, hole_opens, group_after)

    after_found : (m : ℕ) → later ≡ Some m → IsOpenAfter t c g m
    after_found m e =
        let f = first_found (opens t.geometry c) (g + 1) rest m (sym found_after ∙ e) in
        let here : group_in rest f.place ≡ group_in t.groups m =
        group_after f.place ∙ ap (group_in t.groups) (sym f.is) in
        let p = and_parts _ _ (ap (opens t.geometry c) (sym here) ∙ f.passes) in
        let class = opens_class c (class_of t m) p.0 in
        let len = length-drop (g + 1) t.groups in
        record {
          there = omega (arith, f.is, f.inside, len);
          class = class;
          fewer = subst (λ d. used (group_in t.groups m) < slots_of t.geometry d) class
              ((Decides-ltb (used (group_in t.groups m)) (end m)).0 p.1);
          after = omega (arith, f.is);
          least = λ s h past. elim (cases_lt s.group m) [
            | inl low ↦ absurd (shut s h past (f.least (s.group - (g + 1)) (omega (arith, f.is))))
            | inr le ↦ le
          ];
        }

    pub after_some : (o : Option ℕ) → later ≡ o → IfSome o (IsOpenAfter t c g)
    after_some None e = tt
    after_some (Some m) e = after_found m e

    pub after_none : (o : Option ℕ) → later ≡ o → IfNone o ((s : Slot) → IsHole t c s → g < s.group → ⊥)
    after_none (Some m) e = tt
    after_none None e = grind (arith, length-drop, shut, first_none, found_after)

-- the lowest free group
module _ (t : Tables) where
  free_own : (g : Geometry) (place : Addr → ℕ) (age : Key → Age) (n : ℕ) (x : GroupState)
      → (choices_in g place age n x).free ≡ cond (is_free x.class) (Some n) None
  free_own g place age n x = grind (arith)

  free_found : (search_all (place_in t.units) (leaves_of t.geometry t.units t.groups)).free
      ≡ first_where (λ x. is_free x.class) 0 t.groups
  free_found =
      search_first t.geometry (place_in t.units) (age_of t.units) (λ c. c.free) (λ x. is_free x.class) refl
      (λ a b. refl) (free_own t.geometry (place_in t.units) (age_of t.units)) 0 t.groups

  class_free : (c : Class) → is_free c ≡ true → c ≡ Free
  class_free Free e = refl
  class_free Mirrored e = absurd (true≢false (sym e))
  class_free Parity e = absurd (true≢false (sym e))

  pub lowest_found : (m : ℕ) → (search_all (place_in t.units) (leaves_of t.geometry t.units t.groups)).free ≡ Some m
      → IsLowestFree t m
  lowest_found m e =
      let f = first_found (λ x. is_free x.class) 0 t.groups m (sym free_found ∙ e) in
      let same : m ≡ f.place = omega (arith, f.is) in
      record {
        there = subst (λ i. i < length t.groups) (sym same) f.inside;
        free = ap (class_of t) same ∙ class_free (class_of t f.place) f.passes;
        least = λ h l free. true≢false (sym (ap is_free free) ∙ f.least h (omega arith));
      }

  pub lowest_none : (search_all (place_in t.units) (leaves_of t.geometry t.units t.groups)).free ≡ None
      → free_groups t ≡ 0
  lowest_none e =
      no_free t.groups
      (λ h l free. true≢false (sym (ap is_free free)
      ∙ first_none (λ x. is_free x.class) 0 t.groups (sym free_found ∙ e) h l))
