-- A discard of a unit's sectors at a session's port, and a look at which of its blocks were written.
use Rattle.std.specs.Prelude.{◌≡◌, ◌<◌, ◌≤◌, ℕ, Bool, true, false, Option, Some}
use Rattle.ar_disks.specs.declared.address.Addr.{Addr}
use Rattle.ar_disks.specs.declared.address.Host.{Host}
use Rattle.ar_scsi.specs.declared.reply.Reply.{Reply}
use Rattle.ar_unit.specs.Broken.{is_good}
use Rattle.ar_core.specs.Allocation.{allocation_of}
use Rattle.ar_core.specs.declared.allocation.Allocation.{Allocation}
use Rattle.ar_core.specs.Step.{addr_in}
use Rattle.ar_served.specs.Kept.{KeptState, HistoryAgrees}
use Rattle.ar_served.specs.Seat.{SeatState}
use Rattle.ar_served.specs.Served.{DiscardsSectors}
use Rattle.ar_sessions.specs.Port.{SettlesReply}
use Rattle.ar_target.specs.declared.discard_port.BlockRun.{BlockRun}

-- The array discarded the sectors, which is one step of it at most, and its own reply was settled: only GOOD, where
-- there is a store, may be replaced.
pub record DiscardsLasting (persists : Bool) (old : KeptState) (addr : Addr) (lba count : ℕ) (reply : Reply)
    (new : KeptState) : Type 0 where
  pub own : Reply
  pub discards : DiscardsSectors old addr lba count own new
  pub settles : SettlesReply persists (is_good own.status) own reply

-- The sectors were discarded at one moment: there are a state of an array before it and one after it, in both of which
-- each unit is what its history makes it. That these are states of the array behind the lock is not specified.
pub record DiscardedAtOneMoment (persists : Bool) (addr : Addr) (lba count : ℕ) (reply : Reply) : Type 0 where
  pub old : KeptState
  pub new : KeptState
  pub discards : DiscardsLasting persists old addr lba count reply new

-- a discard at a LUN of the seat's host: the seat stays, and the sectors were discarded
pub record DiscardsSeat (persists : Bool) (old : Option SeatState) (lun lba count : ℕ) (reply : Reply)
    (new : Option SeatState) : Type 0 where
  pub same : new ≡ old
  pub discarded :
      (seat : SeatState) → old ≡ Some seat → DiscardedAtOneMoment persists (addr_in seat.host lun) lba count reply

-- a run as the device server has it
abbrev pub run_of : Allocation → BlockRun
run_of allocation = record { is_written = allocation.is_written; blocks = allocation.blocks }

-- the blocks of an array in this state have this run, and each unit is what its history makes it
pub record LooksUp (array : KeptState) (addr : Addr) (block most : ℕ) (run : BlockRun) : Type 0 where
  pub run_is : run ≡ run_of (allocation_of array.array addr block most)
  pub kept : HistoryAgrees array.array array.history

-- The blocks were looked up at one moment: there is a state of an array whose run they are. That it is one of the array
-- behind the lock is not specified.
pub record LookedUpAtOneMoment (addr : Addr) (block most : ℕ) (run : BlockRun) : Type 0 where
  pub array : KeptState
  pub looks : LooksUp array addr block most run

-- blocks of a host's LUN: 0 to 7 may have a unit, whose blocks were looked up; others have no blocks
pub record LooksUpLun (host : Host) (lun block most : ℕ) (run : BlockRun) : Type 0 where
  pub known : lun < 8 → LookedUpAtOneMoment (record { host = host; lun = lun }) block most run
  pub unknown : 8 ≤ lun → run ≡ record { is_written = false; blocks = 0 }

-- a look at blocks of a LUN of the seat's host: the seat stays, and the blocks were looked up
pub record LooksUpSeat (old : Option SeatState) (lun block most : ℕ) (run : BlockRun) (new : Option SeatState) : Type 0
  where
    pub same : new ≡ old
    pub looked : (seat : SeatState) → old ≡ Some seat → LooksUpLun seat.host lun block most run
