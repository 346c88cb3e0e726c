-- What the records of a store are to a history.
use Rattle.std.specs.Prelude.{◌≡◌, Bool, false, List, [], ◌∷◌, ℕ}
use Rattle.ar_log.specs.Codec.{Batch}
use Rattle.ar_served.specs.declared.entry.Entry.{Entry}
use Rattle.ar_record.specs.Record.{RecordData}
use Rattle.ar_record.specs.Replay.{unit_of}
use Rattle.ar_volume.specs.Sectors.{Address}
use Rattle.ar_checkpoint.specs.Store.{IsAllClean, RecordStore, is_given_up, stored_records}
use Rattle.ar_checkpoint.specs.Successor.{log_records}
use Rattle.ar_recovery.specs.Logging.{IsLogOf}
use Rattle.ar_recovery.specs.Recovering.{RedoesAll}

-- Records make each unit what those of the history make it. They are the history's own, or what checkpoints have made
-- of them.
pub record MakesUnits (stored : List RecordData) (history : List Entry) : Type 0 where
  pub full : List RecordData
  pub log : IsLogOf full history
  pub same : (a : Address) → unit_of stored a ≡ unit_of full a

-- The records of a store make each unit what those of the history make it, unless it is given up.
abbrev pub AreRecords : {M : Type 0} → (M → List ℕ) → (M → Bool) → RecordStore M → List Entry → Type 0
AreRecords seen is_clean store history =
    is_given_up store ≡ false → IsAllClean is_clean store → MakesUnits (stored_records seen store) history

-- these batches have a head, and a history grew from none by the records after it
pub record IsReplayed (batches : List Batch) (history : List Entry) : Type 0 where
  pub head : Batch
  pub more : List Batch
  pub batches_are : batches ≡ head ∷ more
  pub redone : RedoesAll [] (log_records batches) history
