-- A group's blocks and holes are its slots: so all of its blocks fit in the holes of its class's other groups or those
-- of none do.
use Rattle.std.proofs.Common.{◌≡◌, ◌≢◌, ◌⊎◌, ℕ, zero, suc, ◌<◌, ◌≤◌, ◌+◌, ◌-◌, ◌*◌, true, false, if◌then◌else◌, cond}
use Rattle.std.proofs.Common.{Option, None, Some, is_some, IsSome, List, [], ◌∷◌, length, get_or, sum_by, count_by}
use Rattle.std.proofs.Common.{refl, sym, ap, inl, inr, arith}
use Rattle.std.proofs.lemmas.List.Sums.{sum_by-cons}
use Rattle.ar_disks.specs.Geometry.{rows_of}
use Rattle.ar_disks.specs.declared.address.Key.{Key}
use Rattle.ar_disks.specs.declared.geometry.Geometry.{Geometry}
use Rattle.ar_disks.specs.declared.geometry.Geometry.TheVariants.{Paper, Small}
use Rattle.ar_book.specs.declared.class.Class.{Class}
use Rattle.ar_book.specs.declared.class.Class.TheVariants.{Free, Mirrored, Parity}
use Rattle.ar_book.specs.declared.class.Slot.{Slot}
use Rattle.ar_book.specs.Tables.{GroupState, Tables, group_in, class_of, slots_of, used}
use Rattle.ar_book.specs.Book.{TablesAgree}
use Rattle.ar_book.specs.Cleaning.{same_class, holes_in, holes_of, IsInUse, CanBeEmptied, IsHoleBeside}
use Rattle.ar_book.proofs.GroupLemmas.{empty_unused}
use Rattle.ar_book.proofs.PlaceLemmas.{slots_within}

never_some : (o : Option Key) → ((k : Key) → o ≡ Some k → ⊥) → o ≡ None
never_some None f = refl
never_some (Some k) f = absurd (f k refl)

never_none : (o : Option Key) → (o ≡ None → ⊥) → IsSome o
never_none None f = absurd (f refl)
never_none (Some k) f = refl

one_if : Option Key → ℕ
one_if o = cond (is_some o) 1 0

at_most_one : (o : Option Key) → one_if o ≤ 1
unfolding one_if
at_most_one None = omega arith
at_most_one (Some k) = omega arith

head_and_rest : (x : Option Key) (ks : List (Option Key)) → count_by is_some (x ∷ ks) ≡ one_if x + count_by is_some ks
unfolding one_if
head_and_rest x ks = sum_by-cons (λ (o : Option Key). cond {A = ℕ} (is_some o) 1 0) x ks

is_one : (x : Option Key) → IsSome x → one_if x ≡ 1
unfolding one_if
is_one x e = ap (λ c. cond {A = ℕ} c 1 0) e

-- no more slots name a block than there are before a number, where none from there on does
pub count_at_most : (ks : List (Option Key)) (n : ℕ) → ((i : ℕ) (k : Key) → get_or ks i None ≡ Some k → i < n)
    → count_by is_some ks ≤ n
count_at_most [] n within = omega arith
count_at_most (x ∷ ks) zero within =
    let none = empty_unused (x ∷ ks)
    (λ i. never_some (get_or (x ∷ ks) i None) (λ k e. let past = within i k e in absurd (omega arith))) in
    omega arith
count_at_most (x ∷ ks) (suc n) within =
    let head = head_and_rest x ks in
    let one = at_most_one x in
    let rest = count_at_most ks n (λ i k e. let inside = within (suc i) k e in omega arith) in
    omega arith

-- and no fewer, where each before it does
pub count_at_least : (ks : List (Option Key)) (n : ℕ) → n ≤ length ks → ((i : ℕ) → i < n → IsSome (get_or ks i None))
    → n ≤ count_by is_some ks
count_at_least [] n h all = omega arith
count_at_least (x ∷ ks) zero h all = omega arith
count_at_least (x ∷ ks) (suc n) h all =
    let head = head_and_rest x ks in
    let one : one_if x ≡ 1 = is_one x (all 0 (omega arith)) in
    let rest = count_at_least ks n (omega arith) (λ i l. all (suc i) (omega arith)) in
    omega arith

-- a sum of which all terms but one are 0 is that one
all_zero : (f : GroupState → ℕ) (gs : List GroupState) → ((h : ℕ) → h < length gs → f (group_in gs h) ≡ 0)
    → sum_by f gs ≡ 0
all_zero f [] zeros = refl
all_zero f (x ∷ gs) zeros =
    let head = sum_by-cons f x gs in
    let none : f x ≡ 0 = zeros 0 (omega arith) in
    let rest = all_zero f gs (λ h l. zeros (suc h) (omega arith)) in
    omega arith

others_zero : (f : GroupState → ℕ) (gs : List GroupState) (g : ℕ)
    → ((h : ℕ) → h < length gs → h ≢ g → f (group_in gs h) ≡ 0) → sum_by f gs ≤ f (group_in gs g)
others_zero f [] g zeros = omega arith
others_zero f (x ∷ gs) zero zeros =
    let head = sum_by-cons f x gs in
    let rest = all_zero f gs (λ h l. zeros (suc h) (omega arith) (λ e. absurd (omega arith))) in
    omega arith
others_zero f (x ∷ gs) (suc g) zeros =
    let head = sum_by-cons f x gs in
    let none : f x ≡ 0 = zeros 0 (omega arith) (λ e. absurd (omega arith)) in
    let rest = others_zero f gs g (λ h l ne. zeros (suc h) (omega arith) (λ e. ne (omega arith))) in
    omega arith

pub slots_few : (geo : Geometry) (c : Class) → slots_of geo c ≤ 48
slots_few Paper Free = omega arith
slots_few Paper Mirrored = omega arith
slots_few Paper Parity = omega arith
slots_few Small Free = omega arith
slots_few Small Mirrored = omega arith
slots_few Small Parity = omega arith

-- the test tells equal classes
pub same_class_self : (c : Class) → same_class c c ≡ true
same_class_self Free = refl
same_class_self Mirrored = refl
same_class_self Parity = refl

pub class_tells : (c d : Class) → ((same_class c d ≡ true) × (c ≡ d)) ⊎ (same_class c d ≡ false)
class_tells Free Free = inl (refl, refl)
class_tells Free Mirrored = inr refl
class_tells Free Parity = inr refl
class_tells Mirrored Free = inr refl
class_tells Mirrored Mirrored = inl (refl, refl)
class_tells Mirrored Parity = inr refl
class_tells Parity Free = inr refl
class_tells Parity Mirrored = inr refl
class_tells Parity Parity = inl (refl, refl)

-- the holes of a group of the class, and of another
pub holes_here : (geo : Geometry) (c : Class) (x : GroupState) → x.class ≡ c
    → holes_in geo c x ≡ slots_of geo c - used x
holes_here geo c x e = grind (arith, same_class_self)

module _ (t : Tables) (ok : TablesAgree t) where
  -- a group has no more blocks than slots
  pub used_within : (g : ℕ) → used (group_in t.groups g) ≤ slots_of t.geometry (class_of t g)
  used_within g =
      count_at_most (group_in t.groups g).slots (slots_of t.geometry (class_of t g))
      (λ i k e. ok.groups.within (record { group = g; slot = i }) k e)

  -- its blocks and holes are its slots
  pub blocks_and_holes : (c : Class) (g : ℕ) → class_of t g ≡ c
      → used (group_in t.groups g) + holes_in t.geometry c (group_in t.groups g) ≡ slots_of t.geometry c
  blocks_and_holes c g e = grind (arith, used_within, holes_here)

  -- so its blocks fit exactly where the class has a group's worth of holes
  pub can_be_emptied : (c : Class) (g : ℕ) → IsInUse t c g → slots_of t.geometry c ≤ holes_of t c → CanBeEmptied t c g
  can_be_emptied c g has enough = grind (arith, blocks_and_holes)

  pub holes_enough : (c : Class) (g : ℕ) → CanBeEmptied t c g → slots_of t.geometry c ≤ holes_of t c
  holes_enough c g can = grind (arith, blocks_and_holes)

  -- and then one of the others has a hole
  pub some_beside : (c : Class) (g : ℕ) → CanBeEmptied t c g
      → ((s : Slot) → s.group < length t.groups → IsHoleBeside t c g s → ⊥) → ⊥
  some_beside c g can never =
      let few : holes_of t c ≤ holes_in t.geometry c (group_in t.groups g) =
      others_zero (holes_in t.geometry c) t.groups g (λ h l ne. full h l ne) in
      let some = can.has.some in
      let fit = can.fit in
      omega arith
    where
      none_at : (h : ℕ) → h < length t.groups → h ≢ g → class_of t h ≡ c
          → holes_in t.geometry c (group_in t.groups h) ≡ 0
      none_at h l ne e =
          let here = holes_here t.geometry c (group_in t.groups h) e in
          let long : length (group_in t.groups h).slots ≡ 3 * rows_of t.geometry = ok.groups.long h l in
          let most : slots_of t.geometry c ≤ 3 * rows_of t.geometry = slots_within t.geometry c in
          let all : slots_of t.geometry c ≤ used (group_in t.groups h) =
          count_at_least (group_in t.groups h).slots (slots_of t.geometry c) (omega arith)
          (λ i li. never_none (get_or (group_in t.groups h).slots i None)
          (λ n. never (record { group = h; slot = i }) l
          (record { hole = record { group = l; class = e; slot = li; empty = n }; beside = ne }))) in
          omega arith

      full : (h : ℕ) → h < length t.groups → h ≢ g → holes_in t.geometry c (group_in t.groups h) ≡ 0
      full h l ne = elim (class_tells c (class_of t h)) [
        | inl same ↦ none_at h l ne (sym same.1)
        | inr other ↦ ap (λ b. if b then slots_of t.geometry c - used (group_in t.groups h) else 0) other
      ]
