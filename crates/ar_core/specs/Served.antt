-- What a command to a unit that is present does.
use Rattle.std.specs.Prelude.{◌≡◌, ◌≢◌, ℕ, true, false, IsTrue, Bool, if◌then◌else◌, ◌⊎◌, List, [], ◌∷◌, Result, Ok}
use Rattle.ar_disks.specs.declared.address.Addr.{Addr}
use Rattle.ar_disks.specs.declared.address.Key.{Key}
use Rattle.ar_scsi.specs.declared.command.Command.{Command}
use Rattle.ar_scsi.specs.declared.command.Command.TheVariants.{Read, Write}
use Rattle.ar_scsi.specs.declared.reply.Reply.{Reply}
use Rattle.ar_scsi.specs.declared.reply.Status.TheVariants.{Good, CheckCondition, Busy}
use Rattle.ar_scsi.specs.declared.sense.Sense.{Sense}
use Rattle.ar_scsi.specs.Reply.{check}
use Rattle.ar_scsi.specs.Sense.{internal_target_failure}
use Rattle.ar_unit.specs.Unit.{Answered, Cmd, Unmap, after, unit_run, IsGiven, IsServed}
use Rattle.ar_unit.specs.Broken.{shape_of}
use Rattle.ar_volume.specs.Image.{ArrayState, geometry_of, is_broken, seen_at, image_at}
use Rattle.ar_volume.specs.Following.{ArrayFollows}
use Rattle.ar_store.specs.Calls.{IsAccessed}
use Rattle.ar_core.specs.Step.{Obeys, Unmaps, is_write, is_busy, moves_sectors}
use Rattle.ar_volume.specs.Sectors.{keys_in}
use Rattle.ar_cache.specs.Backing.{InTurn}
use Rattle.ar_volume.specs.Storing.{ReadsBlock, ReadsFirst, StopsStoring, StoresBlocks}
use Rattle.ar_volume.specs.Seen.{IsForced, SamePlaces, present_at}
use Rattle.ar_volume.specs.Unmap.{DiscardsBlocks, StopsBlocks}

-- The reply and the unit's new sectors are those of `table`, from its sectors before the command, and no other unit's
-- contents change; or the array has failed after it, and the reply is `otherwise`.
pub record Serves (old : ArrayState) (addr : Addr) (table : Answered) (otherwise reply : Reply) (new : ArrayState)
    : Type 0 where
  pub follows : ArrayFollows old new
  pub sound : is_broken new ≡ false → IsServed (present_at old addr) table reply (present_at new addr)
  pub others : is_broken new ≡ false → (k : Key) → k.addr ≢ addr → seen_at new k ≡ seen_at old k
  pub broken : IsTrue (is_broken new) → IsGiven otherwise reply

-- Which disks are accessed: none by a command without a sector to transfer, a refused one, or one to a failed array; by
-- a READ those of its blocks, and with BUSY those of all or none. Where blocks are stored afterwards: as before, except
-- after a WRITE. A GOOD one has put each of its blocks once, and with FORCE UNIT ACCESS none of them is cached; one at
-- which the array failed has put them up to the block at which it did.
pub record Settles (old : ArrayState) (addr : Addr) (command : Result Command Sense) (reply : Reply) (new : ArrayState)
    : Type 0 where
  pub still : moves_sectors command ≡ false → new ≡ old
  pub refused : reply.status ≡ CheckCondition → reply ≢ check internal_target_failure → new ≡ old
  pub lost : IsTrue (is_broken old) → new ≡ old
  pub reads : is_write command ≡ false → SamePlaces old new
  pub busy : reply.status ≡ Busy → SamePlaces old new
  pub begun : (lba count : ℕ) → command ≡ Ok (Read lba count)
      → ReadsFirst ReadsBlock (geometry_of old) addr lba count old new
  pub got : (lba count : ℕ) → command ≡ Ok (Read lba count) → reply.status ≡ Good
      → InTurn ReadsBlock (keys_in (geometry_of old) addr lba count) old new
  pub busy_read : (lba count : ℕ) → command ≡ Ok (Read lba count) → reply.status ≡ Busy
      → (new ≡ old) ⊎ InTurn ReadsBlock (keys_in (geometry_of old) addr lba count) old new
  pub forced : (lba count : ℕ) → command ≡ Ok (Write lba count true) → reply.status ≡ Good → IsForced new addr lba count
  pub stored : (lba count : ℕ) (fua : Bool) → command ≡ Ok (Write lba count fua) → reply.status ≡ Good
      → StoresBlocks addr lba count fua old new
  pub stopped : (lba count : ℕ) (fua : Bool) → command ≡ Ok (Write lba count fua) → is_broken old ≡ false
      → IsTrue (is_broken new)
      → StopsStoring addr lba count fua old new

-- What a command does to the array: `Obeys` holds of its unit, until data loss no other unit changes, and the presence,
-- length and pending UNIT ATTENTION of every unit are what the command makes of them.
pub record ExecutesCommand (old : ArrayState) (addr : Addr) (cdb bytes : List ℕ) (reply : Reply) (new : ArrayState)
    : Type 0 where
  pub obeys : Obeys old addr cdb bytes reply new
  pub others : is_broken new ≡ false → (b : Addr) → b ≢ addr → image_at new b ≡ image_at old b
  pub shape : shape_of (image_at new addr)
      ≡ shape_of (unit_run (image_at old addr) (if is_busy reply.status then [] else Cmd cdb bytes ∷ []))
  pub other_shapes : (b : Addr) → b ≢ addr → shape_of (image_at new b) ≡ shape_of (image_at old b)
  pub accessed : IsAccessed old.store.disks new.store.disks
  pub capacity : new.cache.capacity ≡ old.cache.capacity

-- Which blocks a discard leaves where: a refused one, and one to a failed array, all of them; a GOOD one has discarded
-- each of its blocks once, and one at which the array failed those up to the block at which it did.
pub record SettlesUnmap (old : ArrayState) (addr : Addr) (lba count : ℕ) (reply : Reply) (new : ArrayState)
    : Type 0 where
  pub refused : reply.status ≡ CheckCondition → reply ≢ check internal_target_failure → new ≡ old
  pub lost : IsTrue (is_broken old) → new ≡ old
  pub discarded : reply.status ≡ Good → DiscardsBlocks addr lba count old new
  pub stopped : is_broken old ≡ false → IsTrue (is_broken new) → StopsBlocks addr lba count old new

-- What a discard does to the array: `Unmaps` holds of its unit, until data loss no other unit changes, and the
-- presence, length and pending UNIT ATTENTION of every unit are what it makes of them.
pub record ExecutesUnmap (old : ArrayState) (addr : Addr) (lba count : ℕ) (reply : Reply) (new : ArrayState)
    : Type 0 where
  pub unmaps : Unmaps old addr lba count reply new
  pub others : is_broken new ≡ false → (b : Addr) → b ≢ addr → image_at new b ≡ image_at old b
  pub shape : shape_of (image_at new addr) ≡ shape_of (after (image_at old addr) (Unmap lba count))
  pub other_shapes : (b : Addr) → b ≢ addr → shape_of (image_at new b) ≡ shape_of (image_at old b)
  pub accessed : IsAccessed old.store.disks new.store.disks
  pub capacity : new.cache.capacity ≡ old.cache.capacity
