-- An array and the store of its records.
use Rattle.std.specs.Prelude.{◌≡◌, ℕ, Bool, true, false, IsTrue, List, Option, Some, None, Ok, Vec}
use Rattle.std.specs.declared.alloc.Global.{Global}
use Rattle.ar_core.specs.declared.event.OutcomeOf.{OutcomeOf}
use Rattle.ar_core.specs.declared.event.OutcomeOf.TheVariants.{Make, Grow, Remove}
use Rattle.ar_journal.specs.Journal.{first_of, journal_batches, second_of}
use Rattle.ar_served.specs.declared.entry.Entry.{Entry}
use Rattle.ar_served.specs.History.{replay}
use Rattle.ar_served.specs.Kept.{KeptState}
use Rattle.ar_record.specs.Encoding.{encoding_of}
use Rattle.ar_record.specs.Record.{RecordData, IsEncodable}
use Rattle.ar_record.specs.Replay.{unit_of}
use Rattle.ar_volume.specs.Sectors.{Address}
use Rattle.ar_checkpoint.specs.Store.{IsAllClean, RecordStore, Waits}
use Rattle.ar_checkpoint.specs.Successor.{log_records}

-- the array with its history, the store, and whether each WRITE waits for its commit
pub record DurableState (M : Type 0) : Type 0 where
  pub kept : KeptState
  pub store : RecordStore M
  pub always : Bool

-- bytes, if there are any, are the encoding of this record
abbrev pub EncodesTo : RecordData → Option (Vec ℕ Global) → Type 0
EncodesTo r None = Unit {0}
EncodesTo r (Some bytes) = IsEncodable r × (bytes.items ≡ encoding_of r)

-- a record was noted, or there was none to note
abbrev pub NotesIf : {M : Type 0} → Bool → Option (Vec ℕ Global) → RecordStore M → RecordStore M → Type 0
NotesIf true encoded old new = Waits encoded old new
NotesIf false encoded old new = new ≡ old

-- a unit was created, extended, deleted
abbrev pub is_made : {N : Type 0} → OutcomeOf N → Bool
is_made (Make (Ok done)) = true
is_made outcome = false

abbrev pub is_grown : {N : Type 0} → OutcomeOf N → Bool
is_grown (Grow (Ok done)) = true
is_grown outcome = false

abbrev pub is_removed : {N : Type 0} → OutcomeOf N → Bool
is_removed (Remove (Ok done)) = true
is_removed outcome = false

-- Every crash at this moment leaves files whose records make each unit what the history makes it.
abbrev pub Lasts : {M : Type 0} → (M → List ℕ → Type 0) → (M → Bool) → RecordStore M → List Entry → Type 0
Lasts may_leave is_clean store history =
    IsTrue (is_clean store.journal.selector) → IsAllClean is_clean store → (selector active spare : List ℕ)
    → may_leave store.journal.selector selector → may_leave store.journal.active.media active → (a : Address)
    → unit_of
    (log_records (journal_batches selector (first_of store.journal.is_second active spare)
    (second_of store.journal.is_second active spare)))
    a
    ≡ replay history a
