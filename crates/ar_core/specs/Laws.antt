-- Definitions for the laws of runs.
use Rattle.std.specs.Prelude.{◌≡◌, ℕ, ◌+◌, ◌*◌, ◌≤◌, false, IsTrue, Some, List, length, take, slice_get, Bool, Ok}
use Rattle.ar_disks.specs.declared.address.Host.{Host}
use Rattle.ar_scsi.specs.declared.command.Command.TheVariants.{Write}
use Rattle.ar_scsi.specs.declared.reply.Reply.{Reply}
use Rattle.ar_scsi.specs.Reading.{reading}
use Rattle.ar_unit.specs.Sectors.{Sector}
use Rattle.ar_unit.specs.Unit.{Present}
use Rattle.ar_unit.specs.Broken.{shape_of}
use Rattle.ar_volume.specs.Image.{ArrayState, is_broken, image}
use Rattle.ar_volume.specs.Sectors.{Address}
use Rattle.ar_core.specs.Run.{Turn, own, IsAnswered}

-- a run: its first state, its steps, and the state after each
pub record RunOf : Type 0 where
  pub first : ArrayState
  pub turns : List Turn
  pub states : List ArrayState

-- before step k of one run and step j of another, the unit at an address began the same and has the same own entries
pub record IsAlikeAt (a : Address) (one : RunOf) (k : ℕ) (other : RunOf) (j : ℕ) : Type 0 where
  pub begun : image one.first a ≡ image other.first a
  pub met : own a (take k one.turns) ≡ own a (take j other.turns)

-- the same, but of how the unit began only presence, length and pending UNIT ATTENTION agree
pub record IsShapedAlikeAt (a : Address) (one : RunOf) (k : ℕ) (other : RunOf) (j : ℕ) : Type 0 where
  pub begun : shape_of (image one.first a) ≡ shape_of (image other.first a)
  pub met : own a (take k one.turns) ≡ own a (take j other.turns)

-- step k is a command with this reply, other than BUSY, and the array hasn't failed after it
pub record IsAnsweredSoundly (run : RunOf) (k : ℕ) (host : Host) (lun : ℕ) (cdb payload : List ℕ) (reply : Reply)
    : Type 0 where
  pub answered : IsAnswered run.turns k host lun cdb payload reply
  pub new : ArrayState
  pub after : slice_get run.states k ≡ Some new
  pub sound : is_broken new ≡ false

-- step k is a command with this reply, other than BUSY, and the array has failed after it
pub record IsAnsweredBroken (run : RunOf) (k : ℕ) (host : Host) (lun : ℕ) (cdb payload : List ℕ) (reply : Reply)
    : Type 0 where
  pub answered : IsAnswered run.turns k host lun cdb payload reply
  pub new : ArrayState
  pub after : slice_get run.states k ≡ Some new
  pub broken : IsTrue (is_broken new)

-- the CDB is a WRITE within the unit, with the data for its sectors, and no UNIT ATTENTION is pending
pub record IsWriteWithin (old : ArrayState) (a : Address) (cdb payload : List ℕ) (sectors : List Sector) (lba count : ℕ)
    : Type 0 where
  pub unit : image old a ≡ Present sectors false
  pub fua : Bool
  pub command : reading cdb ≡ Ok (Write lba count fua)
  pub inside : lba + count ≤ length sectors
  pub data_len : length payload ≡ count * 512
