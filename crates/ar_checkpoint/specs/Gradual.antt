-- A checkpoint that is made piece by piece, while records are appended to the journal.
use Rattle.std.specs.Prelude.{◌≡◌, ◌≢◌, ◌⊎◌, ◌++◌, ℕ, Bool, true, false, List, [], map, take, Option, None, Some}
use Rattle.std.specs.Prelude.{◌∷◌, IsTrue, Ok, Vec}
use Rattle.std.specs.declared.alloc.Global.{Global}
use Rattle.ar_log.specs.Codec.{items_of}
use Rattle.ar_log.specs.Log.{batches_of}
use Rattle.ar_log.specs.declared.log.Log.{Log}
use Rattle.ar_log.specs.declared.place.Place.{Place}
use Rattle.ar_journal.specs.Journal.{IsAfter, ReadsLog, batches_now}
use Rattle.ar_journal.specs.Switch.{LeavesEither, Switches}
use Rattle.ar_journal.specs.declared.journal.Journal.{Journal}
use Rattle.ar_record.specs.Reading.{all_decoded}
use Rattle.ar_record.specs.Record.{RecordData, AddDisk, AreEncodable}
use Rattle.ar_record.specs.Replay.{unit_of}
use Rattle.ar_compaction.specs.Compaction.{IsCompaction}
use Rattle.ar_compaction.specs.Head.{HeadData}
use Rattle.ar_compaction.specs.HeadReading.{head_decoded}
use Rattle.ar_checkpoint.specs.LogReplay.{IsReplayOf}
use Rattle.ar_checkpoint.specs.Successor.{BeginsWithHead, log_records}
use Rattle.ar_checkpoint.specs.Writing.{AreCheckpoints, IsAppendable}
use Rattle.ar_checkpoint.specs.declared.gradual.GradualCheckpoint.{GradualCheckpoint}
use Rattle.ar_checkpoint.specs.declared.gradual.Progress.{Progress}
use Rattle.ar_checkpoint.specs.declared.gradual.Progress.TheVariants.{Going, Done}
use Rattle.ar_checkpoint.specs.declared.gradual.Stage.{Stage}
use Rattle.ar_checkpoint.specs.declared.gradual.Stage.TheVariants.{Replaying, Replayed, Writing, Copying}
use Rattle.ar_checkpoint.specs.declared.gradual.Writer.{Writer}
use Rattle.ar_checkpoint.specs.declared.log_replay.LogReplay.{LogReplay}

-- the records before a place of the journal's log
abbrev pub records_before : {M : Type 0} → (M → List ℕ) → Journal M → Place → List RecordData
records_before seen journal place = log_records (take place.number (batches_now seen journal))

-- the records that are left of the unit that is being written
abbrev pub rest_of : Option (List RecordData) → List RecordData
rest_of None = []
rest_of (Some rest) = rest

-- the medium that the journal doesn't append to: its spare or, once it is begun, the successor's
abbrev pub other_at : {M : Type 0} → Option M → Stage M → Option M
other_at spare (Replaying replay count) = spare
other_at spare (Replayed replay) = spare
other_at spare (Writing writer) = Some writer.log.media
other_at spare (Copying log) = Some log.media

abbrev pub other_medium : {M : Type 0} → Journal M → Option (GradualCheckpoint M) → Option M
other_medium journal None = journal.spare
other_medium journal (Some checkpoint) = other_at journal.spare checkpoint.stage

-- no read of the medium, if there is one, has returned other bytes than were written
abbrev pub is_other_clean : {M : Type 0} → (M → Bool) → Option M → Bool
is_other_clean is_clean None = true
is_other_clean is_clean (Some medium) = is_clean medium

-- the batches before the place were replayed
pub record IsReplaying {M : Type 0} (seen : M → List ℕ) (is_clean : M → Bool) (journal : Journal M)
    (replay : LogReplay) (place : Place) : Type 0 where
  pub place_is : IsTrue (is_clean journal.active.media) → IsAfter (batches_now seen journal) place
  pub replayed : IsTrue (is_clean journal.active.media) → IsReplayOf (records_before seen journal place) replay

-- the log has this head and the records of these disks
pub record WritesFirst {M : Type 0} (seen : M → List ℕ) (may_leave : M → List ℕ → Type 0) (is_clean : M → Bool)
    (head disks : List ℕ) (medium : M) (log : Log M) : Type 0 where
  pub appendable : IsAppendable seen may_leave is_clean log
  pub clean : is_clean log.media ≡ is_clean medium
  pub head_is : IsTrue (is_clean log.media) → BeginsWithHead head (batches_of (seen log.media))
  pub records_are : IsTrue (is_clean log.media) → log_records (batches_of (seen log.media)) ≡ map AddDisk disks

-- What the successor has, with what is left of a unit and the units after it, is a compaction of the records before the
-- place.
pub record IsWriting {M : Type 0} (seen : M → List ℕ) (may_leave : M → List ℕ → Type 0) (is_clean : M → Bool)
    (journal : Journal M) (head : List ℕ) (writer : Writer M) (place : Place) : Type 0 where
  pub place_is : IsTrue (is_clean journal.active.media) → IsAfter (batches_now seen journal) place
  pub after_head : IsTrue (is_clean journal.active.media) → place.number ≡ 0 → ⊥
  pub appendable : IsAppendable seen may_leave is_clean writer.log
  pub fit : AreEncodable (rest_of writer.rest)
  pub head_is : IsTrue (is_clean writer.log.media) → BeginsWithHead head (batches_of (seen writer.log.media))
  pub compacts : IsTrue (is_clean journal.active.media) → IsTrue (is_clean writer.log.media)
      → (parts : List RecordData) → AreCheckpoints writer.units.items parts
      → IsCompaction (records_before seen journal place)
      (log_records (batches_of (seen writer.log.media)) ++ (rest_of writer.rest ++ parts))

-- the successor is a compaction of the records before the place
pub record IsCopying {M : Type 0} (seen : M → List ℕ) (may_leave : M → List ℕ → Type 0) (is_clean : M → Bool)
    (journal : Journal M) (head : List ℕ) (log : Log M) (place : Place) : Type 0 where
  pub place_is : IsTrue (is_clean journal.active.media) → IsAfter (batches_now seen journal) place
  pub after_head : IsTrue (is_clean journal.active.media) → place.number ≡ 0 → ⊥
  pub appendable : IsAppendable seen may_leave is_clean log
  pub head_is : IsTrue (is_clean log.media) → BeginsWithHead head (batches_of (seen log.media))
  pub compaction : IsTrue (is_clean journal.active.media) → IsTrue (is_clean log.media)
      → IsCompaction (records_before seen journal place) (log_records (batches_of (seen log.media)))

-- the batch is a head's, in which these are the numbers of units made
pub record HasMakes (batch : List (List ℕ)) (makes : List ℕ) : Type 0 where
  pub bytes : List ℕ
  pub alone : batch ≡ bytes ∷ []
  pub head : HeadData
  pub decoded : head_decoded bytes ≡ Ok head
  pub makes_are : makes ≡ head.makes

-- the records of a batch were replayed, unless it is the first one, the head's, before which there is none
pub record ReplaysBatch (old : LogReplay) (number : ℕ) (batch : List (Vec ℕ Global)) (new : LogReplay) : Type 0 where
  pub head : number ≡ 0 → IsReplayOf [] old → IsReplayOf [] new
  pub begun : number ≡ 0 → HasMakes (items_of batch) new.before.bytes
  pub more : (number ≡ 0 → ⊥) → (records : List RecordData) → IsReplayOf records old
      → IsReplayOf (records ++ all_decoded (items_of batch)) new

-- a checkpoint goes with a journal, by its stage
abbrev pub IsAtStage : {M : Type 0} → (M → List ℕ) → (M → List ℕ → Type 0) → (M → Bool) → Journal M → List ℕ
    → Stage M → Place → Type 0
IsAtStage seen may_leave is_clean journal head (Replaying replay count) place =
    IsReplaying seen is_clean journal replay place
IsAtStage seen may_leave is_clean journal head (Replayed replay) place =
    IsReplaying seen is_clean journal replay place
IsAtStage seen may_leave is_clean journal head (Writing writer) place =
    IsWriting seen may_leave is_clean journal head writer place
IsAtStage seen may_leave is_clean journal head (Copying log) place =
    IsCopying seen may_leave is_clean journal head log place

-- what went with a journal as this writer goes with it still, at this stage, and on the same medium
pub record StaysAt {M : Type 0} (seen : M → List ℕ) (may_leave : M → List ℕ → Type 0) (is_clean : M → Bool)
    (writer : Writer M) (stage : Stage M) : Type 0 where
  pub stays : (journal : Journal M) (head : List ℕ) (place : Place)
      → IsWriting seen may_leave is_clean journal head writer place
      → IsAtStage seen may_leave is_clean journal head stage place
  pub clean : (spare : Option M) → is_other_clean is_clean (other_at spare stage) ≡ is_clean writer.log.media

-- a checkpoint goes with a journal, while that is open
abbrev pub GoesWith : {M : Type 0} → (M → List ℕ) → (M → List ℕ → Type 0) → (M → Bool) → Journal M
    → GradualCheckpoint M → Type 0
GoesWith seen may_leave is_clean journal checkpoint =
    journal.active.is_closed ≡ false
    → IsAtStage seen may_leave is_clean journal checkpoint.head.items checkpoint.stage checkpoint.place

-- the checkpoint that is being made, if one is, goes with the journal
abbrev pub GoesWithIf : {M : Type 0} → (M → List ℕ) → (M → List ℕ → Type 0) → (M → Bool) → Journal M
    → Option (GradualCheckpoint M) → Type 0
GoesWithIf seen may_leave is_clean journal None = Unit {0}
GoesWithIf seen may_leave is_clean journal (Some checkpoint) = GoesWith seen may_leave is_clean journal checkpoint

-- a new one goes with any journal, and no successor is begun
pub record IsNewCheckpoint {M : Type 0} (seen : M → List ℕ) (may_leave : M → List ℕ → Type 0) (is_clean : M → Bool)
    (checkpoint : GradualCheckpoint M) : Type 0 where
  pub follows : (journal : Journal M) → GoesWith seen may_leave is_clean journal checkpoint
  pub other : (spare : Option M) → other_at spare checkpoint.stage ≡ spare

-- the first batch of a journal that is written is its head
abbrev pub HasFirstBatch : {M : Type 0} → (M → List ℕ) → (M → Bool) → Journal M → Type 0
HasFirstBatch seen is_clean journal =
    journal.active.is_closed ≡ false → IsTrue (is_clean journal.active.media) → batches_now seen journal ≢ []

-- Nothing but the journal's spare is written: the log was read.
abbrev pub KeepsLog : {M : Type 0} → (M → List ℕ) → (M → List ℕ → Type 0) → (M → ℕ) → (M → ℕ → List ℕ → Type 0)
    → (M → Bool) → Journal M → Journal M → Type 0
KeepsLog seen may_leave moment left_since is_clean old new =
    ReadsLog seen may_leave moment left_since is_clean old (record new { spare = old.spare })

-- the successor's head stays, but where the successor is begun: it is encoded then
abbrev pub KeepsHead : {M : Type 0} → Stage M → Vec ℕ Global → Vec ℕ Global → Type 0
KeepsHead (Replayed replay) old new = Unit {0}
KeepsHead (Replaying replay count) old new = new ≡ old
KeepsHead (Writing writer) old new = new ≡ old
KeepsHead (Copying log) old new = new ≡ old

-- there is more to do, and the successor's head has these bytes
abbrev pub HasSuccessorHead : {M : Type 0} → List ℕ → Progress M → Type 0
HasSuccessorHead head (Going next) = next.head.items ≡ head
HasSuccessorHead head Done = ⊥

-- a piece was made, and nothing but the spare is written
pub record Continues {M : Type 0} (seen : M → List ℕ) (may_leave : M → List ℕ → Type 0) (moment : M → ℕ)
    (left_since : M → ℕ → List ℕ → Type 0) (is_clean : M → Bool) (old : Journal M) (checkpoint : GradualCheckpoint M)
    (next : GradualCheckpoint M) (new : Journal M) : Type 0 where
  pub keeps : KeepsLog seen may_leave moment left_since is_clean old new
  pub follows : GoesWith seen may_leave is_clean new next
  pub head : KeepsHead checkpoint.stage checkpoint.head next.head
  pub clean : is_other_clean is_clean (other_medium new (Some next))
      ≡ is_other_clean is_clean (other_medium old (Some checkpoint))

-- The successor has become the active log: a compaction of all records of the old one. A crash at any moment leaves the
-- old log's batches or the successor's.
pub record ReplacesInPieces {M : Type 0} (seen : M → List ℕ) (may_leave : M → List ℕ → Type 0) (moment : M → ℕ)
    (left_since : M → ℕ → List ℕ → Type 0) (is_clean : M → Bool) (old : Journal M) (checkpoint : GradualCheckpoint M)
    (new : Journal M) : Type 0 where
  pub read : Journal M
  pub successor : Log M
  pub keeps : KeepsLog seen may_leave moment left_since is_clean old read
  pub switches : Switches read successor new
  pub either : LeavesEither seen may_leave moment left_since is_clean read successor new
  pub was_open : old.active.is_closed ≡ false
  pub is_open : new.active.is_closed ≡ false
  pub head_is : IsTrue (is_clean new.active.media) → BeginsWithHead checkpoint.head.items (batches_now seen new)
  pub compaction : IsTrue (is_clean read.active.media) → IsTrue (is_clean new.active.media)
      → IsCompaction (log_records (batches_now seen old)) (log_records (batches_now seen new))
  pub clean : is_clean new.active.media ≡ is_other_clean is_clean (other_medium old (Some checkpoint))

-- what a piece of a checkpoint has done
abbrev pub MakesPiece : {M : Type 0} → (M → List ℕ) → (M → List ℕ → Type 0) → (M → ℕ) → (M → ℕ → List ℕ → Type 0)
    → (M → Bool) → Journal M → GradualCheckpoint M → Progress M → Journal M → Type 0
MakesPiece seen may_leave moment left_since is_clean old checkpoint (Going next) new =
    Continues seen may_leave moment left_since is_clean old checkpoint next new
MakesPiece seen may_leave moment left_since is_clean old checkpoint Done new =
    ReplacesInPieces seen may_leave moment left_since is_clean old checkpoint new

-- The log was read, and a successor, a compaction of all its records, became the active log, or the selector can't be
-- written: a crash at any moment leaves the old log's batches or the successor's.
pub record LeavesSuccessor {M : Type 0} (seen : M → List ℕ) (may_leave : M → List ℕ → Type 0) (moment : M → ℕ)
    (left_since : M → ℕ → List ℕ → Type 0) (is_clean : M → Bool) (old new : Journal M) : Type 0 where
  pub read : Journal M
  pub successor : Log M
  pub keeps : KeepsLog seen may_leave moment left_since is_clean old read
  pub either : LeavesEither seen may_leave moment left_since is_clean read successor new
  pub compaction : IsTrue (is_clean read.active.media) → IsTrue (is_clean successor.media)
      → IsCompaction (log_records (batches_now seen old)) (log_records (batches_of (seen successor.media)))

-- nothing but the journal's spare was written, or a crash leaves the old log or its successor
abbrev pub LeavesLogs : {M : Type 0} → (M → List ℕ) → (M → List ℕ → Type 0) → (M → ℕ) → (M → ℕ → List ℕ → Type 0)
    → (M → Bool) → Journal M → Journal M → Type 0
LeavesLogs seen may_leave moment left_since is_clean old new =
    KeepsLog seen may_leave moment left_since is_clean old new
    ⊎ LeavesSuccessor seen may_leave moment left_since is_clean old new

-- The checkpoint is given up. Unless the journal is closed by that, nothing but the spare was written.
pub record GivesUp {M : Type 0} (seen : M → List ℕ) (may_leave : M → List ℕ → Type 0) (moment : M → ℕ)
    (left_since : M → ℕ → List ℕ → Type 0) (is_clean : M → Bool) (old : Journal M) (checkpoint : GradualCheckpoint M)
    (new : Journal M) : Type 0 where
  pub leaves : LeavesLogs seen may_leave moment left_since is_clean old new
  pub keeps : new.active.is_closed ≡ false → KeepsLog seen may_leave moment left_since is_clean old new
  pub clean : new.active.is_closed ≡ false
      → is_other_clean is_clean new.spare ≡ is_other_clean is_clean (other_medium old (Some checkpoint))

-- a piece of some checkpoint has made a successor the active log
abbrev pub IsReplaced : {M : Type 0} → (M → List ℕ) → (M → List ℕ → Type 0) → (M → ℕ) → (M → ℕ → List ℕ → Type 0)
    → (M → Bool) → Journal M → Journal M → Type 0
IsReplaced {M = M} seen may_leave moment left_since is_clean old new =
    (checkpoint : GradualCheckpoint M)
    × ReplacesInPieces seen may_leave moment left_since is_clean old checkpoint new

-- Unless the journal is closed now, it was open, and its records make the same units: while no read of a log, the old
-- one or the other, has returned other bytes than were written.
pub record KeepsLogUnits {M : Type 0} (seen : M → List ℕ) (is_clean : M → Bool) (old : Journal M)
    (checkpoint next : Option (GradualCheckpoint M)) (new : Journal M) : Type 0 where
  pub was_open : new.active.is_closed ≡ false → old.active.is_closed ≡ false
  pub active : new.active.is_closed ≡ false → IsTrue (is_clean new.active.media)
      → IsTrue (is_other_clean is_clean (other_medium new next)) → IsTrue (is_clean old.active.media)
  pub other : new.active.is_closed ≡ false → IsTrue (is_clean new.active.media)
      → IsTrue (is_other_clean is_clean (other_medium new next))
      → IsTrue (is_other_clean is_clean (other_medium old checkpoint))
  pub units : new.active.is_closed ≡ false → IsTrue (is_clean new.active.media)
      → IsTrue (is_other_clean is_clean (other_medium new next)) → (a : ℕ × ℕ)
      → unit_of (log_records (batches_now seen new)) a ≡ unit_of (log_records (batches_now seen old)) a
