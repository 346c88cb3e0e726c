-- A flush of a unit at a session's port.
use Rattle.std.specs.Prelude.{◌≡◌, ◌<◌, ◌≤◌, ℕ, ◌+◌, ◌*◌, Bool, true, false, if◌then◌else◌, Option, Some, None}
use Rattle.ar_disks.specs.declared.address.Addr.{Addr}
use Rattle.ar_disks.specs.declared.address.Host.{Host}
use Rattle.ar_volume.specs.declared.flush.PartFlush.{PartFlush}
use Rattle.ar_volume.specs.declared.flush.PartFlush.TheVariants as flushes
use Rattle.ar_volume.specs.Flush.{part_blocks}
use Rattle.ar_served.specs.Kept.{KeptState}
use Rattle.ar_served.specs.Seat.{SeatState}
use Rattle.ar_served.specs.Served.{DestagesPart}
use Rattle.ar_target.specs.declared.flush_port.FlushOutcome.{FlushOutcome}
use Rattle.ar_target.specs.declared.flush_port.FlushOutcome.TheVariants as outcomes

-- how a flush is answered, by what the array returned of its last part; None where another part follows
abbrev pub flush_outcome : PartFlush → Option FlushOutcome
flush_outcome flushes.Done = Some outcomes.Done
flush_outcome (flushes.More next) = None
flush_outcome flushes.Absent = Some outcomes.NoUnit
flush_outcome flushes.Broken = Some outcomes.ArrayFailed

-- how it is answered where what was done may not last: the store has failed
abbrev pub lasting_outcome : Bool → FlushOutcome → FlushOutcome
lasting_outcome lasts outcome = if lasts then outcome else outcomes.ArrayFailed

-- A part of the unit was flushed at one moment: there are a state of an array before it and one after it, in both of
-- which each unit is what its history makes it. That these are states of the array behind the lock is not specified.
pub record DestagedPart (addr : Addr) (first : ℕ) (answer : PartFlush) : Type 0 where
  pub old : KeptState
  pub new : KeptState
  pub destages : DestagesPart old addr first answer new

-- the first `parts` parts of the unit were flushed, each at a moment of its own, and more were to follow
pub record DestagedBefore (addr : Addr) (parts : ℕ) : Type 0 where
  pub each : (i : ℕ) → i < parts → DestagedPart addr (part_blocks * i) (flushes.More (part_blocks * (i + 1)))

-- The unit was flushed in parts, each at a moment of its own: from block 0 on, each begins after the one before it, and
-- the outcome is that of the last.
pub record DestagedInParts (addr : Addr) (outcome : FlushOutcome) : Type 0 where
  pub parts : ℕ
  pub before : DestagedBefore addr parts
  pub answer : PartFlush
  pub last : DestagedPart addr (part_blocks * parts) answer
  pub outcome_is : flush_outcome answer ≡ Some outcome

-- A commit followed a flush of this outcome: the answer is that outcome or, only where there is a store, that this has
-- failed.
pub record CommitsFlush (persists : Bool) (flushed outcome : FlushOutcome) : Type 0 where
  pub lasts : Bool
  pub outcome_is : outcome ≡ lasting_outcome lasts flushed
  pub failed : lasts ≡ false → persists ≡ true

-- the unit was flushed in parts, and a commit followed at a later moment
pub record FlushesThenCommits (persists : Bool) (addr : Addr) (outcome : FlushOutcome) : Type 0 where
  pub flushed : FlushOutcome
  pub destaged : DestagedInParts addr flushed
  pub commits : CommitsFlush persists flushed outcome

-- A flush of a host's LUN: 0 to 7 may have a unit, which was flushed; others have none.
pub record FlushesLun (persists : Bool) (host : Host) (lun : ℕ) (outcome : FlushOutcome) : Type 0 where
  pub known : lun < 8 → FlushesThenCommits persists (record { host = host; lun = lun }) outcome
  pub unknown : 8 ≤ lun → outcome ≡ outcomes.NoUnit

-- a flush of a unit of the seat's host: the seat stays, and the unit was flushed
pub record FlushesSeat (persists : Bool) (old : Option SeatState) (lun : ℕ) (outcome : FlushOutcome)
    (new : Option SeatState) : Type 0 where
  pub same : new ≡ old
  pub flushed : (seat : SeatState) → old ≡ Some seat → FlushesLun persists seat.host lun outcome
