-- What calls on a mirrored group return, and what they leave unchanged.
use Rattle.std.specs.Prelude.{◌≡◌, ◌≢◌, ℕ, ◌<◌, List, length}
use Rattle.ar_disks.specs.Block.{part_at}
use Rattle.ar_disks.specs.declared.geometry.Geometry.{Geometry}
use Rattle.ar_disks.specs.declared.address.Place.{Place}
use Rattle.ar_disks.specs.declared.address.Members.{Members}
use Rattle.ar_disks.specs.Members.{member, AreDisjoint}
use Rattle.ar_extents.specs.declared.health.Health.TheVariants.{Broken as AllBroken}
use Rattle.ar_disks.specs.declared.completion.Completion.{Completion}
use Rattle.ar_disks.specs.declared.completion.Completion.TheVariants.{Done, Broken}
use Rattle.ar_extents.specs.declared.outcome.RowOutcome.{RowOutcome}
use Rattle.ar_extents.specs.declared.outcome.RowOutcome.TheVariants.{Done as RowDone, GivenUp, Broken as RowBroken}
use Rattle.ar_extents.specs.Health.{IsRebuilding}
use Rattle.ar_extents.specs.Set.{SetState, content, IsSound, IsLost}
use Rattle.ar_extents.specs.Follows.{IsEither}
use Rattle.ar_extents.specs.Access.{next_place, IsGivenUp}
use Rattle.ar_mirror.specs.Slots.{one_of, other_of, row_of, mirror_slots_of}
use Rattle.ar_mirror.specs.Holds.{Holds}

-- the bytes are the block that the slot held, read from its first member if that is usable after the call, else the
-- other
pub record IsSlotBlock (old new : SetState) (m : Members) (slot : ℕ) (bytes : List ℕ) : Type 0 where
  pub held : (block : List ℕ) → Holds old m slot block → bytes ≡ block
  pub first : IsSound new (one_of old.geometry m slot)
      → bytes ≡ content old (one_of old.geometry m slot) (row_of old.geometry slot)
  pub second : IsLost new (one_of old.geometry m slot)
      → bytes ≡ content old (other_of old.geometry m slot) (row_of old.geometry slot)

-- what each outcome of a read means
abbrev pub ReadsSlot : SetState → SetState → Members → ℕ → List ℕ → Completion → Type 0
ReadsSlot old new m slot bytes Done = IsSlotBlock old new m slot bytes
ReadsSlot old new m slot bytes Broken = Unit {0}

-- the same of a part of the block, of which the bytes are those from sector `first` on
pub record IsSlotPart (old new : SetState) (m : Members) (slot first : ℕ) (bytes : List ℕ) : Type 0 where
  pub held : (block : List ℕ) → Holds old m slot block → bytes ≡ part_at block first (length bytes)
  pub of_first : IsSound new (one_of old.geometry m slot)
      → bytes ≡ part_at (content old (one_of old.geometry m slot) (row_of old.geometry slot)) first (length bytes)
  pub of_second : IsLost new (one_of old.geometry m slot)
      → bytes ≡ part_at (content old (other_of old.geometry m slot) (row_of old.geometry slot)) first (length bytes)

-- what each outcome of a read of a part means
abbrev pub ReadsSlotPart : SetState → SetState → Members → ℕ → ℕ → List ℕ → Completion → Type 0
ReadsSlotPart old new m slot first bytes Done = IsSlotPart old new m slot first bytes
ReadsSlotPart old new m slot first bytes Broken = Unit {0}

-- the extent is a member of the slot's pair
abbrev pub IsInPair : Geometry → Members → ℕ → Place → Type 0
IsInPair g m slot p = IsEither (one_of g m slot) (other_of g m slot) p

-- only the slot's row in the members of its pair may have changed
pub record KeepsButSlot (m : Members) (slot : ℕ) (old new : SetState) : Type 0 where
  pub rows : (p : Place) (row : ℕ) → (IsInPair old.geometry m slot p → row ≢ row_of old.geometry slot)
      → content new p row ≡ content old p row

-- every other slot of the group keeps its block
pub record OtherMirrorSlotsHold (m : Members) (slot : ℕ) (old new : SetState) : Type 0 where
  pub slots : (t : ℕ) → t < mirror_slots_of old.geometry → t ≢ slot → (block : List ℕ) → Holds old m t block
      → Holds new m t block

-- every slot of every group that shares no extent with this one keeps its block
pub record OtherGroupsHold (m : Members) (old new : SetState) : Type 0 where
  pub groups : (n : Members) → AreDisjoint m n → (t : ℕ) → t < mirror_slots_of old.geometry → (block : List ℕ)
      → Holds old n t block → Holds new n t block

-- the member at this position is the extent that is rebuilt next
pub record IsRebuiltNext (s : SetState) (m : Members) (position : ℕ) : Type 0 where
  pub below : position < 4
  pub rebuilding : IsRebuilding s.health
  pub next : member m position ≡ next_place s

-- the row of the rebuilt extent has the content of its partner's, and health is unchanged
pub record IsCopied (old new : SetState) (partner : Place) (row : ℕ) : Type 0 where
  pub same : content new (next_place old) row ≡ content old partner row
  pub was_sound : IsSound old partner
  pub health : new.health ≡ old.health

-- what each outcome of a row's rebuild means
abbrev pub Rebuilds : SetState → SetState → Place → ℕ → RowOutcome → Type 0
Rebuilds old new partner row RowDone = IsCopied old new partner row
Rebuilds old new partner row GivenUp = IsGivenUp old new
Rebuilds old new partner row RowBroken = new.health ≡ AllBroken
