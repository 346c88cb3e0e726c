-- What slots hold and what stands in them, whatever the class of their group.
use Rattle.std.proofs.Common.{◌≡◌, ◌≢◌, ℕ, ◌<◌, List}
use Rattle.ar_disks.specs.declared.address.Members.{Members}
use Rattle.ar_disks.specs.Members.{AreApart, AreDisjoint}
use Rattle.ar_disks.specs.Disk.{DiskState}
use Rattle.ar_extents.specs.declared.health.Health.TheVariants.{Broken}
use Rattle.ar_extents.specs.Set.{SetState}
use Rattle.ar_extents.specs.Follows.{Follows, Keeps, Anywhere}
use Rattle.ar_extents.specs.Groups.{IsOutside, without_disk}
use Rattle.ar_mirror.specs.Calls.{OtherMirrorSlotsHold, KeepsButSlot}
use Rattle.ar_mirror.specs.Holds.{Holds as MirrorHolds}
use Rattle.ar_mirror.proofs.Frames.{disjoint_holds as mirror_disjoint, read_holds as mirror_read}
use Rattle.ar_mirror.proofs.Frames.{holds_without as mirror_without, keeps_outside as mirror_outside}
use Rattle.ar_mirror.proofs.Standing.{standing_is as mirror_standing_is}
use Rattle.ar_parity.specs.Group.{Holds as ParityHolds, KeepsButRow}
use Rattle.ar_parity.specs.Row.{row_of as parity_row_of}
use Rattle.ar_parity.proofs.Frames.{disjoint_holds as parity_disjoint, read_holds as parity_read}
use Rattle.ar_parity.proofs.Frames.{holds_without as parity_without, keeps_outside as parity_outside}
use Rattle.ar_parity.proofs.Standing.{standing_is as parity_standing_is}
use Rattle.ar_book.specs.declared.class.Class.{Class}
use Rattle.ar_book.specs.declared.class.Class.TheVariants.{Free, Mirrored, Parity}
use Rattle.ar_book.specs.Tables.{slots_of}
use Rattle.ar_store.specs.Slots.{ClassHolds, CanWrite, IsSlotWritten, standing_in}

-- reads leave what a slot holds
pub class_read : (c : Class) (a b : SetState) (m : Members) (i : ℕ) (block : List ℕ) → Follows a b → Keeps Anywhere a b
    → ClassHolds c a m i block → ClassHolds c b m i block
class_read Free a b m i block ab keeps has = has
class_read Mirrored a b m i block ab keeps has = mirror_read a b m i block ab keeps has
class_read Parity a b m i block ab keeps has = parity_read a b m i block ab keeps has

-- and so do writes to a group without a common extent
pub class_disjoint : (c : Class) (a b : SetState) (m n : Members) (i : ℕ) (block : List ℕ) → Follows a b
    → Keeps (IsOutside n) a b → AreDisjoint m n
    → ClassHolds c a m i block → ClassHolds c b m i block
class_disjoint Free a b m n i block ab keeps apart has = has
class_disjoint Mirrored a b m n i block ab keeps apart has = mirror_disjoint a b m n i block ab keeps apart has
class_disjoint Parity a b m n i block ab keeps apart has = parity_disjoint a b m n i block ab keeps apart has

-- the loss of any one disk leaves it
pub class_without : (c : Class) (s : SetState) (m : Members) (i : ℕ) (block : List ℕ) (d : ℕ) (disk : DiskState)
    → ClassHolds c s m i block
    → ClassHolds c (without_disk s d disk) m i block
class_without Free s m i block d disk has = has
class_without Mirrored s m i block d disk has = mirror_without s m i block d disk has
class_without Parity s m i block d disk has = parity_without s m i block d disk has

-- while the set isn't broken, what stands in a slot is the block that it holds
pub class_standing : (c : Class) (s : SetState) (m : Members) (i : ℕ) (block : List ℕ) → AreApart m
    → i < slots_of s.geometry c → s.health ≢ Broken
    → ClassHolds c s m i block → standing_in c s m i ≡ block
class_standing Free s m i block apart inside sound has = absurd has
class_standing Mirrored s m i block apart inside sound has = mirror_standing_is s m i block apart inside sound has
class_standing Parity s m i block apart inside sound has = parity_standing_is s m i block apart sound has

-- a write to a mirrored slot, and to one with parity, in words for both
pub mirror_written : (a b : SetState) (m : Members) (i : ℕ) (block : List ℕ) → MirrorHolds b m i block
    → OtherMirrorSlotsHold m i a b → KeepsButSlot m i a b
    → IsSlotWritten Mirrored a b m i block
mirror_written a b m i block here slots keeps = record {
  here = here;
  beside = λ k other inside ne has. slots.slots k inside ne other has;
  outside = mirror_outside a b m i keeps;
}

pub parity_written : (a b : SetState) (m : Members) (i : ℕ) (block : List ℕ) → CanWrite Parity a m i
    → ((held : List ℕ) → ParityHolds a m i held → ParityHolds b m i block)
    → ((k : ℕ) → k ≢ i → (held : List ℕ) → ParityHolds a m k held → ParityHolds b m k held)
    → KeepsButRow m (parity_row_of i) a b → IsSlotWritten Parity a b m i block
parity_written a b m i block ready here others keeps = record {
  here = here ready.block ready.holds;
  beside = λ k other inside ne has. others k ne other has;
  outside = parity_outside a b m i keeps;
}
