-- The tables after a group was formed, or has another extent.
use Rattle.std.proofs.Common.{◌≡◌, ◌≢◌, ℕ, ◌+◌, ◌*◌, ◌<◌, ◌^◌, length, refl, ap}
use Rattle.std.proofs.Math.ListN.{length-set}
use Rattle.std.proofs.lemmas.List.Sums.{sum_by_push}
use Rattle.ar_disks.specs.Geometry.{rows_of}
use Rattle.ar_disks.specs.Members.{member, with_member, AreApart}
use Rattle.ar_disks.specs.declared.address.Place.{Place}
use Rattle.ar_disks.specs.declared.address.Members.{Members}
use Rattle.ar_book.specs.declared.class.Class.TheVariants.{Free}
use Rattle.ar_book.specs.declared.class.Slot.{Slot}
use Rattle.ar_book.specs.Tables.{GroupState, Tables, group_in, key_at, class_of, free_groups, reserved}
use Rattle.ar_book.specs.Changes.{free_group, formed, shifted}
use Rattle.ar_book.specs.Choices.{IsUnused, AreUnused}
use Rattle.ar_book.specs.Book.{TablesAgree}
use Rattle.ar_book.proofs.GroupLemmas.{put_same, put_other, put_keeps}
use Rattle.ar_book.proofs.FreeGroups.{one_if_free}
use Rattle.ar_book.proofs.GroupChanges.{put_keys, formed_group_below, formed_group_last, unused_disjoint, formed_kept}
use Rattle.ar_book.proofs.GroupChanges.{shifted_kept}

module _ (t : Tables) (m : Members) where
  -- the new group has the members and is free, and each other one is as before
  pub formed_members : (group_in (formed t m).groups (length t.groups)).members ≡ m
  formed_members = ap (λ y. y.members) (formed_group_last t m (length t.groups) refl)

  pub formed_class : class_of (formed t m) (length t.groups) ≡ Free
  formed_class = ap (λ y. y.class) (formed_group_last t m (length t.groups) refl)

  pub formed_members_other : (i : ℕ) → i < length t.groups
      → (group_in (formed t m).groups i).members ≡ (group_in t.groups i).members
  formed_members_other i h = ap (λ y. y.members) (formed_group_below t m i h)

  pub formed_class_other : (i : ℕ) → i < length t.groups → class_of (formed t m) i ≡ class_of t i
  formed_class_other i h = ap (λ y. y.class) (formed_group_below t m i h)

  -- one group more is free
  pub formed_free_groups : free_groups (formed t m) ≡ free_groups t + 1
  formed_free_groups =
      sum_by_push (λ (y : GroupState). one_if_free y.class) t.groups (free_group m (3 * rows_of t.geometry))

  -- the tables still agree where the extents are on four disks and in no group
  pub formed_agrees : TablesAgree t → AreApart m → AreUnused t m
      → m.first.disk < 2 ^ 8 → m.first.extent < 2 ^ 16 → TablesAgree (formed t m)
  formed_agrees ok apart unused disk extent =
      (formed_kept t (reserved t) m (record { tables = ok; total = refl }) apart (unused_disjoint t m unused) disk
      extent).tables

module _ (t : Tables) (g p : ℕ) (x : Place) where
  -- as many groups stay, each with its class, and as many are free
  pub shifted_group_count : length (shifted t g p x).groups ≡ length t.groups
  shifted_group_count =
      length-set t.groups g (record (group_in t.groups g) { members = with_member (group_in t.groups g).members p x })

  pub shifted_class : (i : ℕ) → class_of (shifted t g p x) i ≡ class_of t i
  shifted_class i =
      put_keeps (λ y. y.class) t.groups g
      (record (group_in t.groups g) { members = with_member (group_in t.groups g).members p x }) refl i

  -- each slot names what it did
  pub shifted_key : (s : Slot) → key_at (shifted t g p x) s ≡ key_at t s
  shifted_key s =
      put_keys t.groups g (record (group_in t.groups g) { members = with_member (group_in t.groups g).members p x })
      refl s

  -- the group has the extent at that position, and each other group has its members
  pub shifted_members : g < length t.groups → (group_in (shifted t g p x).groups g).members
      ≡ with_member (group_in t.groups g).members p x
  shifted_members inside =
      ap (λ y. y.members)
      (put_same t.groups g
      (record (group_in t.groups g) { members = with_member (group_in t.groups g).members p x }) inside)

  pub shifted_members_other : (i : ℕ) → i ≢ g → (group_in (shifted t g p x).groups i).members
      ≡ (group_in t.groups i).members
  shifted_members_other i ne =
      ap (λ y. y.members)
      (put_other t.groups g
      (record (group_in t.groups g) { members = with_member (group_in t.groups g).members p x }) i ne)

  -- the tables still agree where the extent is in no group and its disk has no other member of this one
  pub shifted_agrees : TablesAgree t → g < length t.groups → p < 4 → IsUnused t x
      → ((i : ℕ) → i < 4 → i ≢ p → (member (group_in t.groups g).members i).disk ≢ x.disk)
      → x.disk < 2 ^ 8 → x.extent < 2 ^ 16 → TablesAgree (shifted t g p x)
  shifted_agrees ok inside range unused apart disk extent =
      (shifted_kept t (reserved t) g p x (record { tables = ok; total = refl }) inside range unused apart disk
      extent).tables
