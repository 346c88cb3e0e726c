-- The leaves of the tree, after one group was put, or the units changed.
use Rattle.std.proofs.Common.{◌≡◌, ℕ, zero, suc, ◌+◌, ◌<◌, Bool, true, false, cond, Option, None, Some, is_some, List}
use Rattle.std.proofs.Common.{[], ◌∷◌, ◌++◌, length, get_or, set, count_by, refl, sym, ap, ◌∙◌, inl, inr, arith}
use Rattle.std.proofs.Common.{get_or-set_same}
use Rattle.std.specs.Prelude.{nat_lt, if◌then◌else◌}
use Rattle.std.specs.Map.{keys_of}
use Rattle.std.specs.Option.{option_map, ForSome}
use Rattle.std.proofs.lemmas.Option.{none-some, same_Some}
use Rattle.std.proofs.lemmas.Bool.{cases_lt}
use Rattle.std.proofs.lemmas.List.{ext_get_or, set-get_or, set_past}
use Rattle.std.proofs.lemmas.List.Sums.{sum_by-cons}
use Rattle.ar_disks.specs.declared.address.Addr.{Addr}
use Rattle.ar_disks.specs.declared.address.Key.{Key}
use Rattle.ar_disks.specs.declared.geometry.Geometry.{Geometry}
use Rattle.ar_index.specs.declared.choices.Age.{Age}
use Rattle.ar_index.specs.declared.choices.Choices.{Choices}
use Rattle.ar_index.specs.Choices.{place_in, nothing, older, AreOfGroup}
use Rattle.ar_index.specs.Tree.{TreeState, leaves, free_in, IsRight}
use Rattle.ar_book.specs.declared.class.Class.{Class}
use Rattle.ar_book.specs.declared.class.Class.TheVariants.{Free, Mirrored, Parity}
use Rattle.ar_book.specs.Tables.{GroupState, UnitTableState, Tables, group_in, unit_in, is_free, slots_of}
use Rattle.ar_book.specs.Index.{age_of, oldest_named, choices_by, choices_in, choices_of, leaves_from, leaves_of}
use Rattle.ar_book.specs.Index.{IsIndexed, free_leaf}

pub leaves_length : (g : Geometry) (place : Addr → ℕ) (age : Key → Age) (n : ℕ) (gs : List GroupState)
    → length (leaves_from g place age n gs) ≡ length gs
leaves_length g place age n [] = refl
leaves_length g place age n (x ∷ gs) = ap suc (leaves_length g place age (suc n) gs)

-- a number is that of its group
if_own : (b : Bool) (n : ℕ) → ForSome (cond {A = Option ℕ} b (Some n) None) (λ m. m ≡ n)
if_own true n = λ m e. sym (same_Some n m e)
if_own false n = λ m e. absurd (none-some m e)

none_own : (n : ℕ) → ForSome (let o : Option ℕ = None in o) (λ m. m ≡ n)
none_own n = λ m e. absurd (none-some m e)

-- the choices of a free group name no other
pub free_own : (n : ℕ) → AreOfGroup n (free_leaf n)
free_own n = record { mirrored = none_own n; parity = none_own n; free = if_own true n }

-- nor do those of any group
pub choices_own : (g : Geometry) (place : Addr → ℕ) (age : Key → Age) (n : ℕ) (x : GroupState)
    → AreOfGroup n (choices_in g place age n x)
choices_own g place age n x = grind (arith, free_own, if_own, none_own)

-- a leaf is that of its group
pub leaf_at : (g : Geometry) (place : Addr → ℕ) (age : Key → Age) (n i : ℕ) (gs : List GroupState) → i < length gs
    → get_or (leaves_from g place age n gs) i nothing ≡ choices_in g place age (n + i) (group_in gs i)
leaf_at g place age n i [] h = absurd (omega arith)
leaf_at g place age n zero (x ∷ gs) h = ap (λ m. choices_in g place age m x) (let e : n ≡ n + 0 = omega arith in e)
leaf_at g place age n (suc i) (x ∷ gs) h = grind (arith, leaf_at g place age (suc n) i gs (omega arith))

-- a group is put
put_leaf : (g : Geometry) (place : Addr → ℕ) (age : Key → Age) (n i : ℕ) (gs : List GroupState) (x : GroupState)
    → leaves_from g place age n (set gs i x) ≡ set (leaves_from g place age n gs) i (choices_in g place age (n + i) x)
put_leaf g place age n i [] x = grind (arith)
put_leaf g place age n zero (y ∷ gs) x = grind (arith)
put_leaf g place age n (suc i) (y ∷ gs) x = grind (arith, put_leaf g place age (suc n) i gs x)

-- the tree is right again once the leaf of a group that was put is
pub refreshed : (g : Geometry) (units : List (Addr × UnitTableState)) (gs new : List GroupState)
    (index now : List Choices) (i : ℕ) (x : GroupState) → i < length gs
    → index ≡ leaves_of g units gs → new ≡ set gs i x → now ≡ set index i (choices_of g units i (group_in new i))
    → now ≡ leaves_of g units new
refreshed g units gs new index now i x inside before put e = grind (arith, get_or-set_same, put_leaf)

-- the units' order and all stamps stay
pub same_ages : (g : Geometry) (units new : List (Addr × UnitTableState)) (gs : List GroupState)
    → ((k : Key) → get_or (unit_in new k.addr).stamps k.rb 0 ≡ get_or (unit_in units k.addr).stamps k.rb 0)
    → keys_of new ≡ keys_of units
    → leaves_of g new gs ≡ leaves_of g units gs
same_ages g units new gs stamps order = grind (arith)

-- the ages of the blocks that slots name stay
pub same_named : (place : Addr → ℕ) (f h : Key → Age) (slots : List (Option Key))
    → ((i : ℕ) (k : Key) → get_or slots i None ≡ Some k → f k ≡ h k)
    → oldest_named place f slots ≡ oldest_named place h slots
same_named place f h [] same = refl
same_named place f h (o ∷ slots) same =
    ap (λ a. older place a (oldest_named place f slots)) (by o (same 0))
    ∙ ap (older place (option_map h o)) (same_named place f h slots (λ i. same (suc i)))
  where
    by : (o : Option Key) → ((k : Key) → o ≡ Some k → f k ≡ h k) → option_map f o ≡ option_map h o
    by None e = refl
    by (Some k) e = ap Some (e k refl)

pub same_choices : (g : Geometry) (place : Addr → ℕ) (f h : Key → Age) (n : ℕ) (x : GroupState)
    → ((i : ℕ) (k : Key) → get_or x.slots i None ≡ Some k → f k ≡ h k)
    → choices_in g place f n x ≡ choices_in g place h n x
same_choices g place f h n x same = by x.class
  where
    by : (c : Class) → choices_by c g place f n x ≡ choices_by c g place h n x
    by Free = refl
    by Mirrored = ap (λ o. choices_with o) (same_named place f h x.slots same)
      where
        choices_with : Option Age → Choices
        choices_with o = record (choices_by Mirrored g place f n x) { oldest = o }
    by Parity = refl

-- a new group, free, after the others
pub leaves_push : (g : Geometry) (place : Addr → ℕ) (age : Key → Age) (n : ℕ) (gs : List GroupState) (x : GroupState)
    → leaves_from g place age n (gs ++ x ∷ []) ≡ leaves_from g place age n gs
    ++ choices_in g place age (n + length gs) x ∷ []
leaves_push g place age n [] x = ap (λ m. choices_in g place age m x ∷ []) (let e : n ≡ n + 0 = omega arith in e)
leaves_push g place age n (y ∷ gs) x = grind (arith, leaves_push g place age (suc n) gs x)

-- as many leaves are free as groups
pub free_leaves : (g : Geometry) (place : Addr → ℕ) (age : Key → Age) (n : ℕ) (gs : List GroupState)
    → free_in (leaves_from g place age n gs) ≡ count_by (λ x. is_free x.class) gs
free_leaves g place age n [] = refl
free_leaves g place age n (x ∷ gs) =
    let a = sum_by-cons (λ (c : Choices). cond {A = ℕ} (is_some c.free) 1 0) (choices_in g place age n x)
    (leaves_from g place age (suc n) gs) in
    let b = sum_by-cons (λ (y : GroupState). cond {A = ℕ} (is_free y.class) 1 0) x gs in
    a ∙ ap (λ m. m + free_in (leaves_from g place age (suc n) gs)) (one x.class)
    ∙ ap (λ m. cond {A = ℕ} (is_free x.class) 1 0 + m) (free_leaves g place age (suc n) gs) ∙ sym b
  where
    one : (c : Class) → cond {A = ℕ} (is_some (choices_by c g place age n x).free) 1 0 ≡ cond {A = ℕ} (is_free c) 1 0
    one Free = refl
    one Mirrored = refl
    one Parity = refl

-- the ages of the blocks that groups name stay
pub same_leaves : (g : Geometry) (place : Addr → ℕ) (f h : Key → Age) (n : ℕ) (gs : List GroupState)
    → ((i j : ℕ) (k : Key) → get_or (group_in gs i).slots j None ≡ Some k → f k ≡ h k)
    → leaves_from g place f n gs ≡ leaves_from g place h n gs
same_leaves g place f h n [] same = refl
same_leaves g place f h n (x ∷ gs) same =
    ap (λ c. c ∷ leaves_from g place f (suc n) gs) (same_choices g place f h n x (same 0))
    ∙ ap (λ l. choices_in g place h n x ∷ l) (same_leaves g place f h (suc n) gs (λ i. same (suc i)))

-- a group that is put with the class and the slots of the former one changes no leaf
pub same_leaf : (g : Geometry) (place : Addr → ℕ) (age : Key → Age) (i : ℕ) (gs : List GroupState) (x : GroupState)
    → x.class ≡ (group_in gs i).class → x.slots ≡ (group_in gs i).slots
    → leaves_from g place age 0 (set gs i x) ≡ leaves_from g place age 0 gs
same_leaf g place age i gs x class slots =
    elim (cases_lt i (length gs)) [
      | inl inside ↦
          put_leaf g place age 0 i gs x
          ∙ ap (λ c. set (leaves_from g place age 0 gs) i c) (same_group (0 + i)
          ∙ sym (leaf_at g place age 0 i gs inside))
          ∙ set-get_or (leaves_from g place age 0 gs) i nothing
      | inr past ↦ ap (leaves_from g place age 0) (set_past gs i x past)
    ]
  where
    same_group : (n : ℕ) → choices_in g place age n x ≡ choices_in g place age n (group_in gs i)
    same_group n = ap (λ c. choices_by c g place age n x) class ∙ by (group_in gs i).class
      where
        by : (c : Class) → choices_by c g place age n x ≡ choices_by c g place age n (group_in gs i)
        by Free = refl
        by Mirrored =
            λ j. record {
              mirrored = if nat_lt (count_by is_some (slots j)) (slots_of g (class j)) then Some
                  n else None;
              parity = None;
              free = None;
              oldest = oldest_named place age (slots j);
            }
        by Parity = λ j. record {
          mirrored = None;
          parity =
              if nat_lt (count_by is_some (slots j)) (slots_of g (class j)) then Some n else None;
          free = None;
          oldest =
              None;
        }

-- the leaf of a group, among all
pub leaf_of : (g : Geometry) (units : List (Addr × UnitTableState)) (gs : List GroupState) (i : ℕ) → i < length gs
    → get_or (leaves_of g units gs) i nothing ≡ choices_of g units i (group_in gs i)
leaf_of g units gs i h = grind (arith, leaf_at)

-- a tree with the leaf of each group is right
pub all_leaves : (g : Geometry) (units : List (Addr × UnitTableState)) (gs : List GroupState) (index : List Choices)
    → length index ≡ length gs
    → ((i : ℕ) → i < length gs → get_or index i nothing ≡ choices_of g units i (group_in gs i))
    → index ≡ leaves_of g units gs
all_leaves g units gs index size each =
    ext_get_or nothing index (leaves_of g units gs) (size ∙ sym (leaves_length g (place_in units) (age_of units) 0 gs))
    (λ i h. each i (omega arith) ∙ sym (leaf_of g units gs i (omega arith)))

-- the tree has as many leaves as there are groups
pub index_length : (t : Tables) (n : ℕ) (index : TreeState) → IsIndexed t n index
    → length (leaves index) ≡ length t.groups
index_length t n index ok = grind (arith, leaves_length)

-- a tree that is right for units is so for others in the same order
pub same_order : (units new : List (Addr × UnitTableState)) (index : TreeState) → keys_of new ≡ keys_of units
    → IsRight (place_in units) index → IsRight (place_in new) index
same_order units new index order ok = grind (arith)
