-- What the searches of the tables find, as functions.
use Rattle.std.proofs.Common.{◌≡◌, ◌⊎◌, inl, inr, ℕ, ◌<◌, ◌≤◌, Bool, true, false, ◌&&◌, if◌then◌else◌, List, Option}
use Rattle.std.proofs.Common.{None}
use Rattle.std.proofs.Common.{Some, length, get_or, refl, sym, ap, subst, ◌∙◌, true≢false, arith}
use Rattle.std.specs.Prelude.{nat_lt, is_none}
use Rattle.std.specs.List.{position_or_len}
use Rattle.std.proofs.lemmas.Bool.{cases_lt, and_parts}
use Rattle.std.proofs.lemmas.Bool.Decides.{Decides-ltb}
use Rattle.std.proofs.lemmas.List.{get_or_past}
use Rattle.std.proofs.lemmas.List.Sums.{position_or_len_is, fails_before_first, passes_at_first}
use Rattle.ar_disks.specs.declared.address.Key.{Key}
use Rattle.ar_book.specs.declared.class.Class.{Class}
use Rattle.ar_book.specs.declared.class.Class.TheVariants.{Free, Mirrored}
use Rattle.ar_book.specs.declared.class.Slot.{Slot}
use Rattle.ar_book.specs.Cleaning.{same_class}
use Rattle.ar_book.specs.Choices.{IsHole, IsUpTo, IsLowestFree, IsFullMirrored}
use Rattle.ar_book.specs.Tables.{GroupState, Tables, group_in, no_group, class_of, slots_of, free_groups}
use Rattle.ar_book.proofs.CleaningLemmas.{same_class_self, class_tells}
use Rattle.ar_book.proofs.Keys.{make_slot}
use Rattle.ar_store.specs.Placing.{IsLowestHole, HasNoHole, first_empty, offers_hole, hole_group, has_hole, lowest_hole}
use Rattle.ar_store.specs.Placing.{lowest_group, lacks_mirrored_slot}

none_is : (o : Option Key) → is_none o ≡ true → o ≡ None
none_is None e = refl
none_is (Some k) e = absurd (true≢false (sym e))

-- no empty slot comes before the first one
empty_from : (slots : List (Option Key)) (i : ℕ) → get_or slots i None ≡ None → position_or_len is_none slots ≤ i
empty_from slots i empty = elim (cases_lt i (position_or_len is_none slots)) [
  | inl lt ↦ absurd (true≢false (sym (ap is_none empty) ∙ fails_before_first is_none slots i None lt))
  | inr ge ↦ ge
]

empty_first : (slots : List (Option Key)) → get_or slots (position_or_len is_none slots) None ≡ None
empty_first slots = elim (cases_lt (position_or_len is_none slots) (length slots)) [
  | inl lt ↦ none_is (get_or slots (position_or_len is_none slots) None) (passes_at_first is_none slots None lt)
  | inr ge ↦ get_or_past slots (position_or_len is_none slots) None ge
]

-- of two slots that each come first, one is the other
pub first_is : (s r : Slot) → IsUpTo s r → IsUpTo r s → s ≡ r
first_is s r (inl lt) (inl gt) = absurd (omega arith)
first_is s r (inl lt) (inr same) = absurd (let is = same.0 in omega arith)
first_is s r (inr same) (inl gt) = absurd (let is = same.0 in omega arith)
first_is s r (inr same) (inr other) = make_slot s r same.0 (let le = same.1 in let ge = other.1 in omega arith)

-- a class is the same as one that it equals, and no other
same_is : (c d : Class) → d ≡ c → same_class c d ≡ true
same_is c d is = subst (λ (e : Class). same_class c e ≡ true) (sym is) (same_class_self c)

is_same : (c d : Class) → same_class c d ≡ true → d ≡ c
is_same c d e = elim (class_tells c d) [ inl same ↦ sym same.1 | inr other ↦ absurd (true≢false (sym e ∙ other)) ]

module _ (t : Tables) (c : Class) where
  offers : GroupState → Bool
  offers = offers_hole t.geometry c

  -- the first group with a hole comes no later than that of any hole
  hole_from : (s : Slot) → IsHole t c s → hole_group t c ≤ s.group
  hole_from s hole = elim (cases_lt s.group (hole_group t c)) [
    | inl lt ↦ absurd (
        let g = group_in t.groups s.group in
        let le = empty_from g.slots s.slot hole.empty in
        let under = hole.slot in
        let offered : offers_hole t.geometry c g ≡ true =
        ap (λ b. b && nat_lt (first_empty g) (slots_of t.geometry c)) (same_is c g.class hole.class)
        ∙ (Decides-ltb (first_empty g) (slots_of t.geometry c)).1 (omega arith) in
        true≢false (sym offered ∙ fails_before_first (offers_hole t.geometry c) t.groups s.group no_group lt))
    | inr ge ↦ ge
  ]

  -- where there is one, the first hole is found
  pub hole_is : has_hole t c ≡ true → IsLowestHole t c (lowest_hole t c)
  hole_is has =
      let there = (Decides-ltb (hole_group t c) (length t.groups)).0 has in
      let g = group_in t.groups (hole_group t c) in
      let parts = and_parts (same_class c g.class) (nat_lt (first_empty g) (slots_of t.geometry c))
      (passes_at_first (offers_hole t.geometry c) t.groups no_group there) in
      record {
        hole = record {
          group = there;
          class = is_same c g.class parts.0;
          slot = (Decides-ltb (first_empty g) (slots_of t.geometry c)).0 parts.1;
          empty = empty_first g.slots;
        };
        least = λ r hole. elim (cases_lt (hole_group t c) r.group) [
          | inl lt ↦ inl lt
          | inr ge ↦ (
              let le = hole_from r hole in
              let same : r.group ≡ hole_group t c = omega arith in
              inr (
                sym same,
                subst (λ n. first_empty (group_in t.groups n) ≤ r.slot) same
                    (empty_from (group_in t.groups r.group).slots r.slot hole.empty),
              ))
        ];
      }

  pub no_hole : has_hole t c ≡ false → HasNoHole t c
  no_hole lacks = record {
    none = λ s hole.
        let le = hole_from s hole in
        let there = hole.group in
        true≢false (sym ((Decides-ltb (hole_group t c) (length t.groups)).1 (omega arith)) ∙ lacks);
  }

  has_or_not : (b : Bool) → has_hole t c ≡ b → (has_hole t c ≡ true) ⊎ (has_hole t c ≡ false)
  has_or_not true e = inl e
  has_or_not false e = inr e

  -- and what comes first is the first hole
  pub found : (s : Slot) → IsLowestHole t c s → (has_hole t c ≡ true) × (s ≡ lowest_hole t c)
  found s low = elim (has_or_not (has_hole t c) refl) [
    | inl has ↦ (
      has,
      first_is s (lowest_hole t c) (low.least (lowest_hole t c) (hole_is has).hole) ((hole_is has).least s low.hole),
    )
    | inr lacks ↦ absurd ((no_hole lacks).none s low.hole)
  ]

  pub not_found : HasNoHole t c → has_hole t c ≡ false
  not_found none = elim (has_or_not (has_hole t c) refl) [
    | inl has ↦ absurd (none.none (lowest_hole t c) (hole_is has).hole)
    | inr lacks ↦ lacks
  ]

  -- a group that is the lowest of its class
  group_is : (g : ℕ) → g < length t.groups → class_of t g ≡ c → ((h : ℕ) → h < g → class_of t h ≡ c → ⊥)
      → lowest_group t c ≡ g
  group_is g there is least =
      position_or_len_is (λ (x : GroupState). same_class c x.class) t.groups g no_group (omega arith)
      (λ h lt. elim (class_tells c (class_of t h)) [
        | inl same ↦ absurd (least h lt (sym same.1))
        | inr other ↦ other
      ])
      (λ _. same_is c (class_of t g) is)

pub free_is : (t : Tables) (g : ℕ) → IsLowestFree t g → lowest_group t Free ≡ g
free_is t g low = group_is t Free g low.there low.free low.least

pub full_is : (t : Tables) (g : ℕ) → IsFullMirrored t g → lowest_group t Mirrored ≡ g
full_is t g full = group_is t Mirrored g full.there full.mirrored full.least

-- there is no mirrored slot for a block
pub lacks_of : (t : Tables) → HasNoHole t Mirrored → free_groups t < 2 → lacks_mirrored_slot t ≡ true
lacks_of t none few =
    ap (λ b. if b then false else nat_lt (free_groups t) 2) (not_found t Mirrored none)
    ∙ (Decides-ltb (free_groups t) 2).1 few

-- there is one: a hole, or one in a group that may be opened
pub hole_offers : (t : Tables) → has_hole t Mirrored ≡ true → lacks_mirrored_slot t ≡ false
hole_offers t has = ap (λ b. if b then false else nat_lt (free_groups t) 2) has

pub many_offer : (t : Tables) → 2 ≤ free_groups t → lacks_mirrored_slot t ≡ false
many_offer t many = by (has_hole t Mirrored) (nat_lt (free_groups t) 2) refl
  where
    by : (b few : Bool) → nat_lt (free_groups t) 2 ≡ few
        → (if b then false else nat_lt (free_groups t) 2) ≡ false
    by true few e = refl
    by false true e = absurd (let lt = (Decides-ltb (free_groups t) 2).0 e in omega arith)
    by false false e = e
