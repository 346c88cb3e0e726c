-- Groups of four extents: their members, and what becomes of them where a disk is lost or another group is written.
use Rattle.std.proofs.Common.{◌≡◌, ◌≢◌, ◌⊎◌, inl, inr, ℕ, zero, suc, ◌<◌, false, List, refl, sym, ◌∙◌, ap, subst, arith}
use Rattle.std.proofs.lemmas.Bool.Decides.{eqb_tells}
use Rattle.ar_disks.specs.declared.address.Place.{Place}
use Rattle.ar_disks.specs.declared.address.Members.{Members}
use Rattle.ar_disks.specs.Disk.{DiskState}
use Rattle.ar_disks.specs.Members.{member, AreDisjoint}
use Rattle.ar_extents.specs.Health.{is_lost, after_fault}
use Rattle.ar_extents.specs.Set.{SetState, HasExtent, content, IsSound}
use Rattle.ar_extents.specs.Changes.{replaced, with_done}
use Rattle.ar_extents.specs.Follows.{Follows, Keeps, IsPlace, IsEither, WorksOn}
use Rattle.ar_extents.specs.Access.{next_place}
use Rattle.ar_extents.specs.Groups.{IsGroup, IsMember, IsOutside, without_disk}
use Rattle.ar_extents.proofs.Faults.{is_lost-after_fault, sound_before}
use Rattle.ar_extents.proofs.Follows.{has_extent_then, keeps_replaced, keeps_disks, works_more}
use Rattle.ar_extents.proofs.Losses.{lost_not_sound, sound_with_done}

-- an extent is named by its two numbers
pub place_is : (p q : Place) → p.disk ≡ q.disk → p.extent ≡ q.extent → p ≡ q
place_is p q disk extent =
    ap (λ (n : ℕ). let there : Place = record { disk = n; extent = p.extent } in there) disk
    ∙ ap (λ (n : ℕ). let there : Place = record { disk = q.disk; extent = n } in there) extent

-- two extents are the same one or not
pub same_place : (p q : Place) → (p ≡ q) ⊎ (p ≢ q)
same_place p q =
    elim (eqb_tells p.disk q.disk) [
      | inr d ↦ inr (λ same. d.1 (ap (λ (x : Place). x.disk) same))
      | inl d ↦
          elim (eqb_tells p.extent q.extent) [
            | inr e ↦ inr (λ same. e.1 (ap (λ (x : Place). x.extent) same))
            | inl e ↦ inl (place_is p q d.1 e.1)
          ]
    ]

-- the extent at any member position is a member
pub member_is : (m : Members) (n : ℕ) → IsMember m (member m n)
member_is m zero = record { position = 0; below = omega arith; is = refl }
member_is m (suc zero) = record { position = 1; below = omega arith; is = refl }
member_is m (suc (suc zero)) = record { position = 2; below = omega arith; is = refl }
member_is m (suc (suc (suc n))) = record { position = 3; below = omega arith; is = refl }

-- no extent is outside of a group and a member of it
pub member_not_outside : (m : Members) (p : Place) → IsMember m p → IsOutside m p → ⊥
member_not_outside m p is outside = outside is.position is.below is.is

-- the extent at any member position exists
pub member_exists : (s : SetState) (m : Members) (n : ℕ) → IsGroup s m → HasExtent s (member m n)
member_exists s m zero group = group.extents 0 (omega arith)
member_exists s m (suc zero) group = group.extents 1 (omega arith)
member_exists s m (suc (suc zero)) group = group.extents 2 (omega arith)
member_exists s m (suc (suc (suc n))) group = group.extents 3 (omega arith)

-- a group stays one
pub group_then : (a b : SetState) (m : Members) → Follows a b → IsGroup a m → IsGroup b m
group_then a b m ab group = record {
  extents = λ i lt. has_extent_then a b (member m i) ab (group.extents i lt);
  apart = group.apart;
}

-- which of two groups is named first doesn't matter
pub disjoint_sym : (m n : Members) → AreDisjoint m n → AreDisjoint n m
disjoint_sym m n apart i j li lj disk extent = apart j i lj li (sym disk) (sym extent)

-- where what is outside of a group stays, the members of a group without a common extent keep theirs
pub disjoint_keeps : (a b : SetState) (m n : Members) → AreDisjoint m n → Keeps (IsOutside n) a b
    → Keeps (IsMember m) a b
disjoint_keeps a b m n apart keeps = record {
  rows = λ place is row.
      keeps.rows place
      (λ i lt e.
      let same = sym is.is ∙ e in
      apart is.position i is.below lt (ap (λ (p : Place). p.disk) same) (ap (λ (p : Place). p.extent) same))
      row;
}

-- an extent that is sound without a disk stands on another one, and was sound before
pub sound_without : (s : SetState) (d : ℕ) (disk : DiskState) (p : Place) → IsSound (without_disk s d disk) p
    → (p.disk ≢ d) × IsSound s p
sound_without s d disk p sound = (
  (λ same.
      (let P : ℕ → Type 0 = λ n. is_lost (after_fault s.health n) p.disk p.extent ≡ false in
      lost_not_sound (without_disk s p.disk disk) p (is_lost-after_fault s.health p.disk p.extent)
      (subst P (sym same) sound))),
  sound_before s.health d p.disk p.extent sound,
)

-- the contents of the other disks stay without it
pub keeps_without : (s : SetState) (d : ℕ) (disk : DiskState) → Keeps (λ p. p.disk ≢ d) s (without_disk s d disk)
keeps_without s d disk = record {
  rows = λ p ne row.
      (keeps_disks (λ p. p.disk ≢ d) (replaced s d disk) (without_disk s d disk) refl).rows p ne row
      ∙ (keeps_replaced s d disk).rows p ne row;
}

-- what was said of an extent's content where it can be used is still so without a disk
pub content_without : (s : SetState) (d : ℕ) (disk : DiskState) (p : Place) (row : ℕ) (block : List ℕ)
    → (IsSound s p → content s p row ≡ block)
    → IsSound (without_disk s d disk) p → content (without_disk s d disk) p row ≡ block
content_without s d disk p row block has sound =
    let before = sound_without s d disk p sound in (keeps_without s d disk).rows p before.0 row ∙ has before.1

-- and once the next extent counts as done, where that one has the block by now
pub content_with_done : (s : SetState) (p : Place) (row : ℕ) (block : List ℕ) → HasExtent s p
    → (IsSound s p → content s p row ≡ block)
    → (p ≡ next_place s → content s p row ≡ block) → IsSound (with_done s) p → content (with_done s) p row ≡ block
unfolding content
content_with_done s p row block there has rebuilt sound =
    elim (same_place p (next_place s)) [
      | inl same ↦ rebuilt same
      | inr ne ↦ has (sound_with_done s p there.extent ne sound)
    ]

-- work on one member is work on the group
pub works_member : (m : Members) (i : ℕ) (a b : SetState) → i < 4 → WorksOn (IsPlace (member m i)) a b
    → WorksOn (IsMember m) a b
works_member m i a b lt works =
    works_more (IsPlace (member m i)) (IsMember m) a b (λ p is. record { position = i; below = lt; is = is }) works

-- and so is work on two
pub works_pair : (m : Members) (i j : ℕ) (a b : SetState) → i < 4 → j < 4
    → WorksOn (IsEither (member m i) (member m j)) a b → WorksOn (IsMember m) a b
works_pair m i j a b li lj works =
    works_more (IsEither (member m i) (member m j)) (IsMember m) a b
    (λ p is. elim is [
      | inl one ↦ record { position = i; below = li; is = one }
      | inr other ↦
          record { position = j; below = lj; is = other }
    ]) works
