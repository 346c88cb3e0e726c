-- What follows from the definitions.
use Rattle.std.specs.Prelude.{◌≡◌, ◌<◌, ℕ, ◌^◌, List, Ok, ⊤}
use Rattle.ar_scsi.specs.declared.command.Command.{Command}
use Rattle.ar_scsi.specs.declared.reply.Reply.{Reply}
use Rattle.ar_scsi.specs.declared.reply.Status.TheVariants.{Good}
use Rattle.ar_scsi.specs.Reading.{reading}
use Rattle.ar_frames.specs.Conversation.{Commands}
use Rattle.ar_target.specs.declared.flush_port.FlushOutcome.TheVariants.{Done}
use Rattle.ar_target.specs.declared.request.Request.{Request}
use Rattle.ar_target.specs.declared.request.Request.TheVariants.{Given, StandardData}
use Rattle.ar_target.specs.FlushPort.{UnitFlushes}
use Rattle.ar_target.specs.Request.{request_of}
use Rattle.ar_target.specs.Serving.{Synchronizes}
use Rattle.ar_target.specs.Vpd.{unit_name, serial_number, short_generation, vendor_designator, naa_designator}

-- a request gives the port the CDB that came, untouched
abbrev pub GivesCdb : Request → Type 0
GivesCdb Given = ⊤
GivesCdb (StandardData len) = ⊤
GivesCdb other = ⊥

-- each CDB that is a command to the array is given to the port
abbrev pub CommandsAreGiven : Type 0
CommandsAreGiven = (cdb : List ℕ) (command : Command) → reading cdb ≡ Ok command → GivesCdb (request_of cdb)

-- What is equal of two units tells that they are one: of units of different arrays, hosts, LUNs or generations it
-- differs. Of the generation it tells what `told` keeps.
abbrev pub TellsUnits : (ℕ → ℕ) → (ℕ → ℕ → ℕ → ℕ → List ℕ) → Type 0
TellsUnits told named =
    (array other host host' lun lun' generation generation' : ℕ) → array < 2 ^ 32 → other < 2 ^ 32 → host < 256
    → host' < 256 → lun < 256 → lun' < 256 → generation < 2 ^ 16 → generation' < 2 ^ 16
    → named array host lun generation ≡ named other host' lun' generation'
    → (array ≡ other) × (host ≡ host') × (lun ≡ lun') × (told generation ≡ told generation')

-- units of different arrays, hosts, LUNs or generations differ in their names, serial numbers, and designators of both
-- kinds; in NAA designators those of generations do that differ modulo 4096 (SPC-3, Device Identification VPD page)
pub record NamesDiffer : Type 0 where
  pub names : TellsUnits (λ generation. generation) unit_name
  pub serial_numbers : TellsUnits (λ generation. generation) serial_number
  pub vendor_designators : TellsUnits (λ generation. generation) vendor_designator
  pub naa_designators : TellsUnits short_generation naa_designator

-- a SYNCHRONIZE CACHE that is GOOD has flushed the unit
abbrev pub GoodIsFlushed : {P : Type 0} → Commands P → UnitFlushes P → Type 0
GoodIsFlushed {P} commands flushes =
    (lba count lun : ℕ) (old new : P) (reply : Reply) → Synchronizes commands flushes lba count old lun reply new
    → reply.status ≡ Good → (mid : P) × flushes mid lun Done new
