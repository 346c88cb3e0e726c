-- What a squeeze makes of the tables.
use Rattle.std.proofs.Common.{◌≡◌, ℕ, ◌*◌, ◌<◌, length, sym, ap, subst, ◌∙◌, arith}
use Rattle.ar_disks.specs.declared.geometry.Geometry.{Geometry}
use Rattle.ar_disks.specs.Geometry.{rows_of}
use Rattle.ar_book.specs.declared.class.Class.TheVariants.{Free, Mirrored, Parity}
use Rattle.ar_book.specs.Tables.{Tables, class_of, slots_of, free_groups}
use Rattle.ar_book.specs.Changes.{opened, slot_at, moved_first}
use Rattle.ar_book.specs.Choices.{IsFullMirrored, IsLowestFree}
use Rattle.ar_book.specs.Book.{TablesAgree}
use Rattle.ar_book.proofs.AfterOpen.{opened_free_groups}
use Rattle.ar_store.specs.Placing.{squeezed, lowest_group, prepared, BySqueeze, IsVacant}
use Rattle.ar_store.proofs.Changes.{mirrored_not_free}
use Rattle.ar_store.proofs.Gaps.{free_is, full_is}

-- the number of slots of a mirrored group, counted by the disks' rows
pub slots_end : (n : ℕ) (g h : Geometry) → n ≡ rows_of g → g ≡ h → 2 * n ≡ slots_of h Mirrored
slots_end n g h rows same = ap (λ r. 2 * r) (rows ∙ ap rows_of same)

-- there is one lowest free group
pub same_free : (t : Tables) (f g : ℕ) → IsLowestFree t f → IsLowestFree t g → f ≡ g
same_free t f g is_f is_g = sym (free_is t f is_f) ∙ free_is t g is_g

-- all blocks have moved
module _ (t u v : Tables) (from to : ℕ) (full : IsFullMirrored t from) (free : IsLowestFree t to)
    (is_u : u ≡ opened t to Parity) (is_v : v ≡ moved_first u from to (slots_of u.geometry Mirrored)) where
  -- the tables are squeezed,
  pub squeezed_tables : v ≡ prepared t BySqueeze
  squeezed_tables =
      subst (λ (x : Tables). v ≡ moved_first x from to (slots_of x.geometry Mirrored)) is_u is_v
      ∙ ap (λ f. squeezed t f to) (sym (full_is t from full))
      ∙ ap (squeezed t (lowest_group t Mirrored)) (sym (free_is t to free))

  -- and a hole is left
  pub squeezed_slot : (n : ℕ) → n ≡ slots_of t.geometry Mirrored
      → slot_at to n ≡ slot_at (lowest_group t Free) (slots_of t.geometry Mirrored)
  squeezed_slot n is_n =
      ap (slot_at to) is_n ∙ ap (λ g. slot_at g (slots_of t.geometry Mirrored)) (sym (free_is t to free))

  pub squeezed_empty : (n : ℕ) → n ≡ slots_of t.geometry Mirrored
      → IsVacant v (slot_at to (slots_of u.geometry Mirrored)) → IsVacant v (slot_at to n)
  squeezed_empty n is_n vacant =
      subst (λ m. IsVacant v (slot_at to m)) (sym is_n)
      (subst (λ (x : Tables). IsVacant v (slot_at to (slots_of x.geometry Mirrored))) is_u vacant)

-- a group that is free is counted
pub free_counted : (t : Tables) (g : ℕ) → TablesAgree t → g < length t.groups → class_of t g ≡ Free → 0 < free_groups t
free_counted t g ok inside free =
    let count = opened_free_groups t g Mirrored ok inside free mirrored_not_free in
    omega arith
