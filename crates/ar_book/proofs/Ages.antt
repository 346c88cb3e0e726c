-- The oldest mirrored block, by the choices at the root of the tree.
use Rattle.std.proofs.Common.{◌≡◌, ℕ, zero, suc, ◌+◌, ◌<◌, ◌≤◌, ◌⊎◌, Bool, true, false, cond, ◌&&◌, ◌||◌, Option, None}
use Rattle.std.proofs.Common.{Some, List, [], ◌∷◌, ◌++◌, length, take, get_or, map, refl, sym, ap, subst, ◌∙◌, arith}
use Rattle.std.specs.Prelude.{nat_lt, nat_le, ◌==◌}
use Rattle.std.specs.Option.{option_map}
use Rattle.std.proofs.lemmas.Bool.Decides.{nat_tests}
use Rattle.std.proofs.lemmas.Option.{none-some, same_Some}
use Rattle.std.proofs.lemmas.List.{take_more}
use Rattle.ar_disks.specs.declared.address.Addr.{Addr}
use Rattle.ar_disks.specs.declared.address.Key.{Key}
use Rattle.ar_disks.specs.declared.geometry.Geometry.{Geometry}
use Rattle.ar_index.specs.declared.choices.Age.{Age}
use Rattle.ar_index.specs.declared.choices.Choices.{Choices}
use Rattle.ar_index.specs.Choices.{place_in, is_no_newer, older, oldest, search_all}
use Rattle.ar_index.proofs.Joins.{ages_total, ages_trans, ages_self, older_none, older_assoc}
use Rattle.ar_book.specs.declared.class.Class.TheVariants.{Mirrored}
use Rattle.ar_book.specs.declared.class.Level.TheVariants.{Mirrored as MirroredLevel}
use Rattle.ar_book.specs.declared.class.Slot.{Slot}
use Rattle.ar_book.specs.Tables.{GroupState, Tables, group_in, key_at, home, level_in, level_of, class_of, stamp_of}
use Rattle.ar_book.specs.Choices.{IsMirrored, IsNoNewer, place_of}
use Rattle.ar_book.specs.Book.{TablesAgree}
use Rattle.ar_book.specs.Index.{age_of, oldest_named, choices_by, leaves_from, leaves_of}
use Rattle.ar_book.proofs.Homes.{home_block, home_slot}

-- the oldest of two lists
oldest_both : (place : Addr → ℕ) (xs ys : List (Option Age))
    → oldest place (xs ++ ys) ≡ older place (oldest place xs) (oldest place ys)
oldest_both place [] ys = refl
oldest_both place (x ∷ xs) ys = grind (arith, older_assoc, oldest_both place xs ys)

map_both : (f : Option Key → Option Age) (xs ys : List (Option Key)) → map f (xs ++ ys) ≡ map f xs ++ map f ys
map_both f [] ys = refl
map_both f (x ∷ xs) ys = ap (λ l. f x ∷ l) (map_both f xs ys)

-- one slot more
pub oldest_more : (place : Addr → ℕ) (age : Key → Age) (slots : List (Option Key)) (i : ℕ) → i < length slots
    → oldest_named place age (take (i + 1) slots)
    ≡ older place (oldest_named place age (take i slots)) (option_map age (get_or slots i None))
oldest_more place age slots i h =
    ap (λ l. oldest_named place age l) (take_more slots i None h)
    ∙ ap (oldest place) (map_both (option_map age) (take i slots) (get_or slots i None ∷ []))
    ∙ oldest_both place (map (option_map age) (take i slots)) (option_map age (get_or slots i None) ∷ [])
    ∙ ap (older place (oldest_named place age (take i slots))) (older_none place (option_map age (get_or slots i None)))

-- the oldest is one of the list
record IsIn (os : List (Option Age)) (a : Age) : Type 0 where
  place : ℕ
  inside : place < length os
  is : get_or os place None ≡ Some a

oldest_in_list : (place : Addr → ℕ) (os : List (Option Age)) (a : Age) → oldest place os ≡ Some a → IsIn os a
oldest_in_list place [] a e = absurd (none-some a e)
oldest_in_list place (o ∷ os) a e = by o (oldest place os) refl e (oldest_in_list place os)
  where
    later : (x : Option Age) → IsIn os a → IsIn (x ∷ os) a
    later x r = record { place = suc r.place; inside = omega (arith, r.inside); is = r.is }

    two : (b c : Age) (t : Bool) → oldest place os ≡ Some c → Some (cond t b c) ≡ Some a
        → ((d : Age) → oldest place os ≡ Some d → IsIn os d) → IsIn (Some b ∷ os) a
    two b c true f h rest = record { place = 0; inside = omega arith; is = h }
    two b c false f h rest = later (Some b) (rest a (f ∙ h))

    by : (o r : Option Age) → oldest place os ≡ r → older place o r ≡ Some a
        → ((d : Age) → oldest place os ≡ Some d → IsIn os d) → IsIn (o ∷ os) a
    by None r f h rest = later None (rest a (f ∙ h))
    by (Some b) None f h rest = record { place = 0; inside = omega arith; is = h }
    by (Some b) (Some c) f h rest = two b c (is_no_newer place b c) f h rest

-- and no other is older
record IsLeast (place : Addr → ℕ) (o : Option Age) (b : Age) : Type 0 where
  first : Age
  is : o ≡ Some first
  least : is_no_newer place first b ≡ true

oldest_least : (place : Addr → ℕ) (os : List (Option Age)) (i : ℕ) (b : Age) → get_or os i None ≡ Some b
    → IsLeast place (oldest place os) b
oldest_least place [] zero b e = absurd (none-some b e)
oldest_least place [] (suc i) b e = absurd (none-some b e)
oldest_least place (o ∷ os) zero b e =
    subst (λ x. IsLeast place (older place x (oldest place os)) b) (sym e) (by (oldest place os))
  where
    two : (c : Age) (t : Bool) → is_no_newer place b c ≡ t → IsLeast place (Some (cond t b c)) b
    two c true f = record { first = b; is = refl; least = ages_self place b }
    two c false f = record { first = c; is = refl; least = ages_total place b c f }

    by : (r : Option Age) → IsLeast place (older place (Some b) r) b
    by None = record { first = b; is = refl; least = ages_self place b }
    by (Some c) = two c (is_no_newer place b c) refl
oldest_least place (o ∷ os) (suc i) b e = by o (oldest place os) (oldest_least place os i b e)
  where
    two : (c d : Age) (t : Bool) → is_no_newer place c d ≡ t → is_no_newer place d b ≡ true
        → IsLeast place (Some (cond t c d)) b
    two c d true f h = record { first = c; is = refl; least = ages_trans place c d b f h }
    two c d false f h = record { first = d; is = refl; least = h }

    by : (o r : Option Age) → IsLeast place r b → IsLeast place (older place o r) b
    by None r l = l
    by (Some c) None l = absurd (none-some l.first l.is)
    by (Some c) (Some d) l =
        two c d (is_no_newer place c d) refl
        (subst (λ x. is_no_newer place x b ≡ true) (sym (same_Some d l.first l.is)) l.least)

-- the oldest at the root is that of the leaves
search_oldest : (place : Addr → ℕ) (cs : List Choices)
    → (search_all place cs).oldest ≡ oldest place (map (λ c. c.oldest) cs)
search_oldest place [] = refl
search_oldest place (c ∷ cs) = ap (older place c.oldest) (search_oldest place cs)

leaf_oldest : (g : Geometry) (place : Addr → ℕ) (age : Key → Age) (n i : ℕ) (gs : List GroupState) (a : Age)
    → get_or (map (λ c. c.oldest) (leaves_from g place age n gs)) i None ≡ Some a
    → ((group_in gs i).class ≡ Mirrored) × (oldest_named place age (group_in gs i).slots ≡ Some a)
leaf_oldest g place age n zero [] a e = absurd (none-some a e)
leaf_oldest g place age n (suc i) [] a e = absurd (none-some a e)
leaf_oldest g place age n zero (x ∷ gs) a e = grind (arith, none-some)
leaf_oldest g place age n (suc i) (x ∷ gs) a e = leaf_oldest g place age (suc n) i gs a e

oldest_leaf : (g : Geometry) (place : Addr → ℕ) (age : Key → Age) (n i : ℕ) (gs : List GroupState) (a : Age)
    → i < length gs → (group_in gs i).class ≡ Mirrored → oldest_named place age (group_in gs i).slots ≡ Some a
    → get_or (map (λ c. c.oldest) (leaves_from g place age n gs)) i None ≡ Some a
oldest_leaf g place age n i [] a h m e = absurd (omega arith)
oldest_leaf g place age n zero (x ∷ gs) a h m e = ap (λ c. (choices_by c g place age n x).oldest) m ∙ e
oldest_leaf g place age n (suc i) (x ∷ gs) a h m e = oldest_leaf g place age (suc n) i gs a (omega arith) m e

pub slot_age : (age : Key → Age) (slots : List (Option Key)) (i : ℕ)
    → get_or (map (option_map age) slots) i None ≡ option_map age (get_or slots i None)
slot_age age [] zero = refl
slot_age age [] (suc i) = refl
slot_age age (o ∷ slots) zero = refl
slot_age age (o ∷ slots) (suc i) = slot_age age slots i

pub named_key : (f : Key → Age) (o : Option Key) (a : Age) → option_map f o ≡ Some a
    → (k : Key) × (o ≡ Some k) × (f k ≡ a)
named_key f None a e = absurd (none-some a e)
named_key f (Some k) a e = (k, refl, same_Some (f k) a e)

module _ (t : Tables) (ok : TablesAgree t) where
  abbrev best : Option Age
  best = (search_all (place_in t.units) (leaves_of t.geometry t.units t.groups)).oldest

  abbrev all : List (Option Age)
  all = map (λ c. c.oldest) (leaves_of t.geometry t.units t.groups)

  found_key : (a : Age) → best ≡ Some a → (k : Key) × (age_of t.units k ≡ a) × IsMirrored t k
  found_key a e =
      let in_all =
      oldest_in_list (place_in t.units) all a
      (sym (search_oldest (place_in t.units) (leaves_of t.geometry t.units t.groups)) ∙ e) in
      let leaf = leaf_oldest t.geometry (place_in t.units) (age_of t.units) 0 in_all.place t.groups a in_all.is in
      let in_slots =
      oldest_in_list (place_in t.units) (map (option_map (age_of t.units)) (group_in t.groups in_all.place).slots) a
      leaf.1 in
      let slot : Slot = record { group = in_all.place; slot = in_slots.place } in
      let k = named_key (age_of t.units) (key_at t slot) a
      (sym (slot_age (age_of t.units) (group_in t.groups in_all.place).slots in_slots.place) ∙ in_slots.is) in
      let at : home t k.0 ≡ Some slot = ok.agree.to_home k.0 slot k.1 in
      (k.0, k.2, record { block = home_block t k.0 slot at; level = ap (level_in t.groups) at ∙ ap level_of leaf.0 })

  pub oldest_found : (a : Age) → best ≡ Some a → IsMirrored t a.key
  oldest_found a e = let k = found_key a e in subst (λ x. IsMirrored t x) (ap (λ y. y.key) k.1) k.2

  -- a mirrored block has a home in a mirrored group
  home_of : (k : Key) (o : Option Slot) → level_in t.groups o ≡ MirroredLevel
      → (s : Slot) × (o ≡ Some s) × (class_of t s.group ≡ Mirrored)
  home_of k None e = grind (arith)
  home_of k (Some s) e = grind (arith)

  least_of : (j : Key) → IsMirrored t j → IsLeast (place_in t.units) best (age_of t.units j)
  least_of j m =
      let h = home_of j (home t j) m.level in
      let s : Slot = h.0 in
      let at : key_at t s ≡ Some j = ok.agree.to_slot j s h.1 in
      let inside : s.group < length t.groups = (home_slot t ok j s h.1).0 in
      let slots = oldest_least (place_in t.units) (map (option_map (age_of t.units)) (group_in t.groups s.group).slots)
      s.slot (age_of t.units j)
      (slot_age (age_of t.units) (group_in t.groups s.group).slots s.slot ∙ ap (option_map (age_of t.units)) at) in
      let leaf = oldest_leaf t.geometry (place_in t.units) (age_of t.units) 0 s.group t.groups slots.first inside h.2
      slots.is in
      let top = oldest_least (place_in t.units) all s.group slots.first leaf in
      record {
        first = top.first;
        is = search_oldest (place_in t.units) (leaves_of t.geometry t.units t.groups) ∙ top.is;
        least = ages_trans (place_in t.units) top.first slots.first (age_of t.units j) top.least slots.least;
      }

  pub oldest_none : best ≡ None → (j : Key) → IsMirrored t j → ⊥
  oldest_none e j m = let l = least_of j m in none-some l.first (sym e ∙ l.is)

  newer : (k j : Key) → is_no_newer (place_in t.units) (age_of t.units k) (age_of t.units j) ≡ true → IsNoNewer t k j
  newer k j e = numbers (stamp_of t k) (place_of t k.addr) k.rb (stamp_of t j) (place_of t j.addr) j.rb e
    where
      numbers : (a b c x y z : ℕ) → (nat_lt a x || ((a == x) && (nat_lt b y || ((b == y) && nat_le c z)))) ≡ true
          → (a < x) ⊎ ((a ≡ x) × ((b < y) ⊎ ((b ≡ y) × (c ≤ z))))
      numbers a b c x y z e = grind (arith, nat_tests)

  pub oldest_first : (a : Age) → best ≡ Some a → (j : Key) → IsMirrored t j → IsNoNewer t a.key j
  oldest_first a e j m =
      let k = found_key a e in
      let l = least_of j m in
      let same : a ≡ l.first = same_Some a l.first (sym e ∙ l.is) in
      let first : is_no_newer (place_in t.units) (age_of t.units k.0) (age_of t.units j) ≡ true =
      ap (λ x. is_no_newer (place_in t.units) x (age_of t.units j)) (k.1 ∙ same) ∙ l.least in
      subst (λ x. IsNoNewer t x j) (ap (λ y. y.key) k.1) (newer k.0 j first)

-- an element, whatever stands for none
pub any_default : (xs : List (Option Key)) (i : ℕ) (d e : Option Key) → i < length xs → get_or xs i d ≡ get_or xs i e
any_default [] i d e h = absurd (omega arith)
any_default (x ∷ xs) zero d e h = refl
any_default (x ∷ xs) (suc i) d e h = any_default xs i d e (omega arith)
