-- The tables after a free group was opened for a class.
use Rattle.std.proofs.Common.{◌≡◌, ◌≢◌, ℕ, List, ◌+◌, ◌<◌, length, refl, sym, ap, subst, ◌∙◌}
use Rattle.std.specs.Prelude.{slice_set}
use Rattle.std.proofs.Math.ListN.{length-set}
use Rattle.ar_book.specs.declared.class.Class.{Class}
use Rattle.ar_book.specs.declared.class.Class.TheVariants.{Free}
use Rattle.ar_book.specs.declared.class.Slot.{Slot}
use Rattle.ar_book.specs.Tables.{GroupState, Tables, group_in, key_at, class_of, slots_of, free_groups, reserved}
use Rattle.ar_book.specs.Changes.{opened}
use Rattle.ar_book.specs.Choices.{IsEmpty, IsHole, IsLowestFree, OpensLowest}
use Rattle.ar_book.specs.Book.{TablesAgree}
use Rattle.ar_book.proofs.GroupLemmas.{put_same, put_other, put_keeps}
use Rattle.ar_book.proofs.FreeGroups.{put_free_less}
use Rattle.ar_book.proofs.GroupChanges.{put_keys, opened_kept}
use Rattle.ar_book.proofs.Homes.{free_empty}

module _ (t : Tables) (g : ℕ) (c : Class) where
  -- as many groups stay, with the members that they had
  pub opened_group_count : length (opened t g c).groups ≡ length t.groups
  opened_group_count = length-set t.groups g (record (group_in t.groups g) { class = c })

  pub opened_members : (i : ℕ) → (group_in (opened t g c).groups i).members ≡ (group_in t.groups i).members
  opened_members i = put_keeps (λ y. y.members) t.groups g (record (group_in t.groups g) { class = c }) refl i

  -- each slot names what it did
  pub opened_key : (s : Slot) → key_at (opened t g c) s ≡ key_at t s
  opened_key s = put_keys t.groups g (record (group_in t.groups g) { class = c }) refl s

  -- the group has the class, and each other the one that it had
  pub opened_class : g < length t.groups → class_of (opened t g c) g ≡ c
  opened_class inside = ap (λ y. y.class) (put_same t.groups g (record (group_in t.groups g) { class = c }) inside)

  pub opened_class_other : (i : ℕ) → i ≢ g → class_of (opened t g c) i ≡ class_of t i
  opened_class_other i ne = ap (λ y. y.class) (put_other t.groups g (record (group_in t.groups g) { class = c }) i ne)

module _ (t : Tables) (g : ℕ) (c : Class) (ok : TablesAgree t) (inside : g < length t.groups) (free : class_of t g
    ≡ Free) where
  -- the group's slots are all empty
  pub opened_empty : IsEmpty (opened t g c) g
  opened_empty i = opened_key t g c (record { group = g; slot = i }) ∙ free_empty t ok g free i

  -- so each slot of the class is a hole of it
  pub opened_hole : (i : ℕ) → i < slots_of t.geometry c → IsHole (opened t g c) c (record { group = g; slot = i })
  opened_hole i h = record {
    group = subst (λ n. g < n) (sym (opened_group_count t g c)) inside;
    class = opened_class t g c inside;
    slot = h;
    empty = opened_empty i;
  }

  -- one group fewer is free
  pub opened_free_groups : c ≢ Free → free_groups (opened t g c) + 1 ≡ free_groups t
  opened_free_groups taken = put_free_less t.groups g (record (group_in t.groups g) { class = c }) inside free taken

  -- the tables still agree
  pub opened_agrees : TablesAgree (opened t g c)
  opened_agrees = (opened_kept t (reserved t) g c (record { tables = ok; total = refl }) inside free).tables

-- the lowest free group was opened, where these are the groups after it
pub opens_lowest : (t x : Tables) (g : ℕ) (c : Class) (gs : List GroupState) → t ≡ x → TablesAgree t
    → IsLowestFree t g → gs ≡ slice_set t.groups g (record (group_in t.groups g) { class = c })
    → OpensLowest x (record t { groups = gs }) c g
opens_lowest t x g c gs same ok low made =
    subst (λ (y : Tables). OpensLowest y (record t { groups = gs }) c g) same (record {
      lowest = low;
      opened = ap (λ (l : List GroupState). (let u : Tables = record t { groups = l } in u)) made;
      empty = subst (λ (l : List GroupState). IsEmpty (record t { groups = l }) g) (sym made)
          (opened_empty t g c ok low.there low.free);
    })
