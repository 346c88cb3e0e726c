-- What slots go on holding, whatever becomes of the set around them.
use Rattle.std.proofs.Common.{◌≡◌, inl, inr, ℕ, ◌+◌, ◌*◌, ◌/◌, List, sym, subst}
use Rattle.ar_disks.specs.declared.address.Place.{Place}
use Rattle.ar_disks.specs.declared.address.Members.{Members}
use Rattle.ar_disks.specs.Disk.{DiskState}
use Rattle.ar_disks.specs.Geometry.{rows_of}
use Rattle.ar_disks.specs.Members.{AreDisjoint}
use Rattle.ar_extents.specs.declared.health.Health.TheVariants.{Broken}
use Rattle.ar_extents.specs.Set.{SetState, content}
use Rattle.ar_extents.specs.Changes.{with_done}
use Rattle.ar_extents.specs.Follows.{Follows, Keeps, Anywhere}
use Rattle.ar_extents.specs.Access.{next_place}
use Rattle.ar_extents.specs.Groups.{IsGroup, IsMember, IsOutside, without_disk}
use Rattle.ar_extents.proofs.Follows.{keeps_fewer}
use Rattle.ar_extents.proofs.GroupLemmas.{member_is, member_not_outside, member_exists, disjoint_keeps, content_without}
use Rattle.ar_extents.proofs.GroupLemmas.{content_with_done}
use Rattle.ar_mirror.specs.Slots.{row_of, one_of, other_of}
use Rattle.ar_mirror.specs.Holds.{Holds}
use Rattle.ar_mirror.specs.Calls.{IsInPair, KeepsButSlot}
use Rattle.ar_mirror.proofs.Holding.{both_have_then, holds_at, broken_has}

-- the members of a slot's pair are members of the group
pub pair_is_member : (s : SetState) (m : Members) (slot : ℕ) (p : Place) → IsInPair s.geometry m slot p → IsMember m p
pair_is_member s m slot p (inl is) =
    subst (λ (x : Place). IsMember m x) (sym is) (member_is m (2 * (slot / rows_of s.geometry)))
pair_is_member s m slot p (inr is) =
    subst (λ (x : Place). IsMember m x) (sym is) (member_is m (2 * (slot / rows_of s.geometry) + 1))

-- where the members' contents stay, a slot holds what it held, whatever disk is lost meanwhile
pub holds_kept : (a b : SetState) (m : Members) (slot : ℕ) (block : List ℕ) → Follows a b → Keeps (IsMember m) a b
    → Holds a m slot block → Holds b m slot block
holds_kept a b m slot block ab keeps has =
    let one = one_of a.geometry m slot in
    let other = other_of a.geometry m slot in
    let row = row_of a.geometry slot in
    holds_at b a.geometry m slot block ab.geometry
    (both_have_then a b one other row block ab (keeps.rows one (member_is m (2 * (slot / rows_of a.geometry))) row)
    (keeps.rows other (member_is m (2 * (slot / rows_of a.geometry) + 1)) row) has)

-- so it does where only a group without a common extent was written
pub disjoint_holds : (a b : SetState) (m n : Members) (slot : ℕ) (block : List ℕ) → Follows a b
    → Keeps (IsOutside n) a b → AreDisjoint m n
    → Holds a m slot block → Holds b m slot block
disjoint_holds a b m n slot block ab keeps apart has =
    holds_kept a b m slot block ab (disjoint_keeps a b m n apart keeps) has

-- and after reads
pub read_holds : (a b : SetState) (m : Members) (slot : ℕ) (block : List ℕ) → Follows a b → Keeps Anywhere a b
    → Holds a m slot block → Holds b m slot block
read_holds a b m slot block ab keeps has =
    holds_kept a b m slot block ab (keeps_fewer Anywhere (IsMember m) a b (λ p is. tt) keeps) has

-- a slot's put leaves all that is outside of its group
pub keeps_outside : (a b : SetState) (m : Members) (slot : ℕ) → KeepsButSlot m slot a b → Keeps (IsOutside m) a b
keeps_outside a b m slot keeps = record {
  rows = λ p outside row. keeps.rows p row
      (λ is. absurd (member_not_outside m p (pair_is_member a m slot p is) outside));
}

-- a slot outlives the loss of any one disk
pub holds_without : (s : SetState) (m : Members) (slot : ℕ) (block : List ℕ) (d : ℕ) (disk : DiskState)
    → Holds s m slot block
    → Holds (without_disk s d disk) m slot block
holds_without s m slot block d disk has = record {
  one_has = content_without s d disk (one_of s.geometry m slot) (row_of s.geometry slot) block has.one_has;
  other_has = content_without s d disk (other_of s.geometry m slot) (row_of s.geometry slot) block has.other_has;
}

-- on a broken set a slot holds what it held, whatever was written
pub broken_holds : (a b : SetState) (m : Members) (slot : ℕ) (block : List ℕ) → b.geometry ≡ a.geometry
    → b.health ≡ Broken
    → Holds a m slot block → Holds b m slot block
broken_holds a b m slot block same is has =
    broken_has b (one_of b.geometry m slot) (other_of b.geometry m slot) (row_of b.geometry slot) block is

-- Once the next extent counts as done, a slot holds its block, if that extent isn't in its pair or has the block by
-- now.
pub done_holds : (s : SetState) (m : Members) (slot : ℕ) (block : List ℕ) → IsGroup s m → (has : Holds s m slot block)
    → (IsInPair s.geometry m slot (next_place s) → content s (next_place s) (row_of s.geometry slot) ≡ block)
    → Holds (with_done s) m slot block
done_holds s m slot block group has rebuilt =
    let pair = 2 * (slot / rows_of s.geometry) in
    let one = one_of s.geometry m slot in
    let other = other_of s.geometry m slot in
    let row = row_of s.geometry slot in
    let P : Place → Type 0 = λ p. content s p row ≡ block in
    record {
      one_has = content_with_done s one row block (member_exists s m pair group) has.one_has
          (λ same. subst P (sym same) (rebuilt (inl (sym same))));
      other_has = content_with_done s other row block (member_exists s m (pair + 1) group) has.other_has
          (λ same. subst P (sym same) (rebuilt (inr (sym same))));
    }
