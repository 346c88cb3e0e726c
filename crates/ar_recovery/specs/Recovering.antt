-- What an array that was recovered from records is.
use Rattle.std.specs.Prelude.{◌≡◌, ◌++◌, ◌∷◌, ◌<◌, [], ℕ, true, false, List}
use Rattle.ar_disks.specs.declared.address.Addr.{Addr}
use Rattle.ar_scsi.specs.declared.reply.Reply.{Reply}
use Rattle.ar_volume.specs.Image.{is_broken, image}
use Rattle.ar_volume.specs.Sectors.{Address}
use Rattle.ar_served.specs.declared.entry.Entry.{Entry}
use Rattle.ar_served.specs.declared.entry.Entry.TheVariants.{Cmd}
use Rattle.ar_served.specs.Kept.{KeptState, SameLength, exchange_of}
use Rattle.ar_record.specs.Record.{RecordData}
use Rattle.ar_recovery.specs.declared.from_records.RecoveryFault.{RecoveryFault}
use Rattle.ar_recovery.specs.declared.from_records.RecoveryFault.TheVariants.{Disks, Record}
use Rattle.ar_record.specs.Replay.{changes_unit, own_in, own_of, unit_of}
use Rattle.ar_recovery.specs.Logging.{IsLogOf, records_of}

-- a record was executed again: the history has grown by its entry
pub record Redoes (old : List Entry) (r : RecordData) (new : List Entry) : Type 0 where
  pub own : (a : Address) → own_of a (records_of new) ≡ own_of a (records_of old) ++ own_in a r

-- a command was executed again, and has changed its unit
pub record RedoesCommand (old : List Entry) (addr : Addr) (cdb payload : List ℕ) (new : List Entry) : Type 0 where
  pub reply : Reply
  pub history : new ≡ old ++ Cmd addr.host (exchange_of addr.lun cdb payload reply) ∷ []
  pub changes : changes_unit cdb reply ≡ true

-- records were executed again, in order
pub record RedoesAll (old : List Entry) (records : List RecordData) (new : List Entry) : Type 0 where
  pub own : (a : Address) → own_of a (records_of new) ≡ own_of a (records_of old) ++ own_of a records

-- The array has executed these records and no other entry that changes a unit. Until data loss each unit is what its
-- own entries among the records make of an absent one; presence and length always hold.
pub record IsRecovered (records : List RecordData) (k : KeptState) : Type 0 where
  pub log : IsLogOf records k.history
  pub units : is_broken k.array ≡ false → (a : Address) → image k.array a ≡ unit_of records a
  pub lengths : (a : Address) → SameLength (image k.array a) (unit_of records a)

-- a fault that names a record names one of these
abbrev pub NamesRecord : ℕ → RecoveryFault → Type 0
NamesRecord count (Disks fault) = Unit {0}
NamesRecord count (Record number) = number < count
