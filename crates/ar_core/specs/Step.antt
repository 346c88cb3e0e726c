-- What one event does to an array.
use Rattle.std.specs.Prelude.{◌≡◌, ◌≢◌, ◌≤◌, ◌*◌, ℕ, nat_lt, Bool, true, false, ◌&&◌, not, ◌==◌, if◌then◌else◌, ◌⊎◌}
use Rattle.std.specs.Prelude.{IsTrue, List, [], ◌∷◌, length, Result, Ok}
use Rattle.ar_disks.specs.declared.address.Addr.{Addr}
use Rattle.ar_disks.specs.declared.address.Host.{Host}
use Rattle.ar_scsi.specs.declared.command.Command.{Command}
use Rattle.ar_scsi.specs.declared.command.Command.TheVariants.{Read, Write}
use Rattle.ar_scsi.specs.declared.reply.Reply.{Reply}
use Rattle.ar_scsi.specs.declared.reply.Status.{Status}
use Rattle.ar_scsi.specs.declared.reply.Status.TheVariants.{Good, CheckCondition, Busy}
use Rattle.ar_scsi.specs.declared.sense.Sense.{Sense}
use Rattle.ar_scsi.specs.Field.{operation_code}
use Rattle.ar_scsi.specs.Reading.{reading}
use Rattle.ar_scsi.specs.Reply.{check}
use Rattle.ar_scsi.specs.Sense.{internal_target_failure}
use Rattle.ar_extents.specs.Follows.{Keeps, Anywhere}
use Rattle.ar_book.specs.Tables.{Tables}
use Rattle.ar_book.specs.Changes.{unmarked}
use Rattle.ar_store.specs.Placing.{SameUnits}
use Rattle.ar_unit.specs.Unit.{UnitEntry, Make, Grow, Remove, Cmd, Unmap, answer, unmap_answer, unit_run, IsGiven}
use Rattle.ar_unit.specs.Unit.{IsServed}
use Rattle.ar_unit.specs.Broken.{shape_of, broken_answer, broken_unmap}
use Rattle.ar_core.specs.Events.{Event}
use Rattle.ar_core.specs.declared.event.EventOf.TheVariants.{Make as MakeEvent, Grow as GrowEvent}
use Rattle.ar_core.specs.declared.event.EventOf.TheVariants.{Remove as RemoveEvent, Cmd as CmdEvent}
use Rattle.ar_core.specs.declared.event.EventOf.TheVariants.{Flush as FlushEvent, FlushPart as FlushPartEvent}
use Rattle.ar_core.specs.declared.event.EventOf.TheVariants.{Demote as DemoteEvent, Clean as CleanEvent}
use Rattle.ar_core.specs.declared.event.EventOf.TheVariants.{Balance as BalanceEvent, AddDisk as AddDiskEvent}
use Rattle.ar_core.specs.declared.event.EventOf.TheVariants.{DiskOut as DiskOutEvent, Replace as ReplaceEvent}
use Rattle.ar_core.specs.declared.event.EventOf.TheVariants.{Rebuild as RebuildEvent, Unmap as UnmapEvent}
use Rattle.ar_core.specs.Events.{Outcome}
use Rattle.ar_core.specs.declared.event.OutcomeOf.TheVariants.{Make as MakeOutcome, Grow as GrowOutcome}
use Rattle.ar_core.specs.declared.event.OutcomeOf.TheVariants.{Remove as RemoveOutcome, Cmd as CmdOutcome}
use Rattle.ar_core.specs.declared.event.OutcomeOf.TheVariants.{Flush as FlushOutcome, FlushPart as FlushPartOutcome}
use Rattle.ar_core.specs.declared.event.OutcomeOf.TheVariants.{Demote as DemoteOutcome, Clean as CleanOutcome}
use Rattle.ar_core.specs.declared.event.OutcomeOf.TheVariants.{Balance as BalanceOutcome, AddDisk as AddDiskOutcome}
use Rattle.ar_core.specs.declared.event.OutcomeOf.TheVariants.{DiskOut as DiskOutOutcome, Replace as ReplaceOutcome}
use Rattle.ar_core.specs.declared.event.OutcomeOf.TheVariants.{Rebuild as RebuildOutcome, Unmap as UnmapOutcome}
use Rattle.ar_volume.specs.Sectors.{Address, address_of, keys_in, same_address}
use Rattle.ar_volume.specs.Image.{ArrayState, geometry_of, is_broken, attention_at, image_at, image, with_book}
use Rattle.ar_core.specs.Causes.{HasCause}
use Rattle.ar_core.specs.Quiet.{IsQuiet}
use Rattle.ar_store.specs.Calls.{IsAccessed}
use Rattle.ar_volume.specs.Seen.{IsForced}
use Rattle.ar_cache.specs.Backing.{InTurn}
use Rattle.ar_volume.specs.Storing.{ReadsBlock, ReadsFirst, StopsStoring, StoresBlocks}
use Rattle.ar_volume.specs.Changes.{Makes, Grows, Removes}
use Rattle.ar_volume.specs.Flush.{FlushesOne, FlushesPart}
use Rattle.ar_volume.specs.Moves.{DemotesOne, CleansOne}
use Rattle.ar_volume.specs.Rebuild.{RebuildsOne}
use Rattle.ar_volume.specs.Balance.{BalancesOne}
use Rattle.ar_volume.specs.DiskIn.{AddsDisk, ReplacesDisk}
use Rattle.ar_volume.specs.DiskOut.{TakesDiskOut}
use Rattle.ar_volume.specs.Unmap.{DiscardsBlocks, StopsBlocks}

-- the address of a host's LUN
abbrev pub addr_in : Host → ℕ → Addr
addr_in host lun = record { host = host; lun = lun }

-- whether an event belongs to the unit at an address
abbrev pub is_about : Event → Address → Bool
is_about (MakeEvent addr sectors) a = same_address (address_of addr) a
is_about (GrowEvent addr sectors) a = same_address (address_of addr) a
is_about (RemoveEvent addr) a = same_address (address_of addr) a
is_about (CmdEvent host lun cdb payload) a = same_address (host.number, lun) a
is_about (UnmapEvent addr lba count) a = same_address (address_of addr) a
is_about event a = false

-- whether an event comes often: a host's command, or a step of maintenance
abbrev pub is_frequent : Event → Bool
is_frequent (CmdEvent host lun cdb payload) = true
is_frequent FlushEvent = true
is_frequent DemoteEvent = true
is_frequent CleanEvent = true
is_frequent BalanceEvent = true
is_frequent RebuildEvent = true
is_frequent event = false

-- whether an event is a maintenance event
abbrev pub is_quiet : Event → Bool
is_quiet (MakeEvent addr sectors) = false
is_quiet (GrowEvent addr sectors) = false
is_quiet (RemoveEvent addr) = false
is_quiet (CmdEvent host lun cdb payload) = false
is_quiet (UnmapEvent addr lba count) = false
is_quiet event = true

abbrev pub is_busy : Status → Bool
is_busy Busy = true
is_busy Good = false
is_busy CheckCondition = false

-- the entry of an event in its unit: a create, resize or delete that was done, a command whose reply isn't BUSY, or a
-- discard
abbrev pub entry_of : Event → Outcome → List UnitEntry
entry_of (MakeEvent addr sectors) (MakeOutcome (Ok done)) = Make sectors ∷ []
entry_of (GrowEvent addr sectors) (GrowOutcome (Ok done)) = Grow sectors ∷ []
entry_of (RemoveEvent addr) (RemoveOutcome (Ok done)) = Remove ∷ []
entry_of (CmdEvent host lun cdb payload) (CmdOutcome reply) = if is_busy reply.status then [] else Cmd cdb payload ∷ []
entry_of (UnmapEvent addr lba count) (UnmapOutcome reply) = Unmap lba count ∷ []
entry_of event outcome = []

-- its entry in the unit at one address; none if it is about another
abbrev pub entry_at : Address → Event → Outcome → List UnitEntry
entry_at a event outcome = if is_about event a then entry_of event outcome else []

-- the command is a WRITE
abbrev pub is_write : Result Command Sense → Bool
is_write (Ok (Write lba count fua)) = true
is_write other = false

-- the command is a READ or a WRITE of at least one sector
abbrev pub moves_sectors : Result Command Sense → Bool
moves_sectors (Ok (Read lba count)) = nat_lt 0 count
moves_sectors (Ok (Write lba count fua)) = nat_lt 0 count
moves_sectors other = false

-- the tables after a command has reported and cleared a pending UNIT ATTENTION; INQUIRY does neither (SAM-3, Unit
-- attention condition)
abbrev pub reported_to : Tables → Addr → List ℕ → Tables
reported_to t addr cdb = if attention_at t addr && not (operation_code cdb == 0x12) then unmarked t addr else t

-- the array after that: nothing else has changed, and no disk was accessed
abbrev pub once_reported_to : ArrayState → Addr → List ℕ → ArrayState
once_reported_to s addr cdb = with_book s (reported_to s.store.book addr cdb)

-- no block's slot, no cache entry and no row of any disk has changed; a reported UNIT ATTENTION is cleared
pub record MovesNothing (old : ArrayState) (addr : Addr) (cdb : List ℕ) (new : ArrayState) : Type 0 where
  pub tables : new.store.book ≡ reported_to old.store.book addr cdb
  pub cache : new.cache ≡ old.cache
  pub rows : Keeps Anywhere old.store.disks new.store.disks

-- A command has the reply of its unit's sectors as they were; or, if the array has failed after it, that of a failed
-- array. BUSY replaces only a reply with bytes.
pub record Obeys (old : ArrayState) (addr : Addr) (cdb bytes : List ℕ) (reply : Reply) (new : ArrayState) : Type 0 where
  pub sound : is_broken new ≡ false
      → IsServed (image_at old addr) (answer (image_at old addr) cdb bytes) reply (image_at new addr)
  pub broken : IsTrue (is_broken new) → IsGiven (broken_answer (shape_of (image_at old addr)) cdb (length bytes)) reply
  -- only a failed array replies HARDWARE ERROR, INTERNAL TARGET FAILURE
  pub failure : reply ≡ check internal_target_failure → IsTrue (is_broken new)
  -- a reply has at most the bytes of the longest READ, 65,535 sectors
  pub few : length reply.payload ≤ 65535 * 512
  -- units change only in slots, write sequence numbers and the reported UNIT ATTENTION, and the room stays
  pub units : SameUnits (reported_to old.store.book addr cdb) new.store.book
  -- no disk fails without a fault, and the unassigned extents stay
  pub accessed : IsAccessed old.store.disks new.store.disks
  -- a command without a sector to transfer, a refused one, and one to a failed array access no disk and change nothing
  -- but the UNIT ATTENTION
  pub still : moves_sectors (reading cdb) ≡ false → new ≡ once_reported_to old addr cdb
  pub refused : reply.status ≡ CheckCondition → reply ≢ check internal_target_failure
      → new ≡ once_reported_to old addr cdb
  pub lost : IsTrue (is_broken old) → new ≡ once_reported_to old addr cdb
  -- only a WRITE places or caches a block, and no command with BUSY does
  pub reads : is_write (reading cdb) ≡ false → MovesNothing old addr cdb new
  pub busy : reply.status ≡ Busy → MovesNothing old addr cdb new
  -- a READ, whatever the reply, has read the blocks of its sectors once each, in ascending order, up to some block, and
  -- no other; with GOOD all of them, with BUSY all or none
  pub begun : (lba count : ℕ) → reading cdb ≡ Ok (Read lba count)
      → ReadsFirst ReadsBlock (geometry_of old) addr lba count (once_reported_to old addr cdb) new
  pub got : (lba count : ℕ) → reading cdb ≡ Ok (Read lba count) → reply.status ≡ Good
      → InTurn ReadsBlock (keys_in (geometry_of old) addr lba count) old new
  pub busy_read : (lba count : ℕ) → reading cdb ≡ Ok (Read lba count) → reply.status ≡ Busy
      → (new ≡ once_reported_to old addr cdb) ⊎ InTurn ReadsBlock (keys_in (geometry_of old) addr lba count) old new
  -- a GOOD WRITE with FORCE UNIT ACCESS leaves none of its blocks in the cache (SBC-2, WRITE (10) command)
  pub forced : (lba count : ℕ) → reading cdb ≡ Ok (Write lba count true) → reply.status ≡ Good
      → IsForced new addr lba count
  -- a GOOD WRITE has put each of its blocks once, in ascending order, and no other; it has read only the blocks that it
  -- covers in part, each before its put; with FORCE UNIT ACCESS it has then destaged each
  pub stored : (lba count : ℕ) (fua : Bool) → reading cdb ≡ Ok (Write lba count fua) → reply.status ≡ Good
      → StoresBlocks addr lba count fua old new
  -- a WRITE at which the array failed has put its blocks so up to the one whose read or put failed it, and no other;
  -- or, with FORCE UNIT ACCESS, it has put all, and destaged them in ascending order up to the one whose put failed it
  pub stopped : (lba count : ℕ) (fua : Bool) → reading cdb ≡ Ok (Write lba count fua) → is_broken old ≡ false
      → IsTrue (is_broken new)
      → StopsStoring addr lba count fua old new

-- the tables after a discard has reported and cleared a pending UNIT ATTENTION
abbrev pub reported : Tables → Addr → Tables
reported t addr = if attention_at t addr then unmarked t addr else t

-- the array after that: nothing else has changed, and no disk was accessed
abbrev pub once_reported : ArrayState → Addr → ArrayState
once_reported s addr = with_book s (reported s.store.book addr)

-- A discard has the reply of its unit's sectors as they were, and leaves the unit so; or, if the array has failed after
-- it, that of a failed array. None of these replies is BUSY.
pub record Unmaps (old : ArrayState) (addr : Addr) (lba count : ℕ) (reply : Reply) (new : ArrayState) : Type 0 where
  pub sound : is_broken new ≡ false → reply ≡ (unmap_answer (image_at old addr) lba count).reply
  pub left : is_broken new ≡ false → image_at new addr ≡ (unmap_answer (image_at old addr) lba count).state
  pub broken : IsTrue (is_broken new) → reply ≡ broken_unmap (shape_of (image_at old addr)) lba count
  -- only a failed array replies HARDWARE ERROR, INTERNAL TARGET FAILURE
  pub failure : reply ≡ check internal_target_failure → IsTrue (is_broken new)
  -- units change only in slots, write sequence numbers and the reported UNIT ATTENTION, and the room stays
  pub units : SameUnits (reported old.store.book addr) new.store.book
  -- no disk fails without a fault, and the unassigned extents stay
  pub accessed : IsAccessed old.store.disks new.store.disks
  -- a refused one, and one to a failed array, accesses no disk and changes nothing but the UNIT ATTENTION
  pub refused : reply.status ≡ CheckCondition → reply ≢ check internal_target_failure → new ≡ once_reported old addr
  pub lost : IsTrue (is_broken old) → new ≡ once_reported old addr
  -- a GOOD one has discarded each of its blocks once, in ascending order, and no other: exactly those of which all
  -- sectors are discarded lose home and cache entry
  pub discarded : reply.status ≡ Good → DiscardsBlocks addr lba count old new
  -- one at which the array failed has discarded its blocks so up to the one whose read or put failed it, and no other
  pub stopped : is_broken old ≡ false → IsTrue (is_broken new) → StopsBlocks addr lba count old new

-- the outcome is of the event's kind, and its relation holds
abbrev pub Answers : ArrayState → Event → Outcome → ArrayState → Type 0
Answers old (MakeEvent addr sectors) (MakeOutcome result) new = Makes old addr sectors result new
Answers old (GrowEvent addr sectors) (GrowOutcome result) new = Grows old addr sectors result new
Answers old (RemoveEvent addr) (RemoveOutcome result) new = Removes old addr result new
Answers old (CmdEvent host lun cdb payload) (CmdOutcome reply) new = Obeys old (addr_in host lun) cdb payload reply new
Answers old (UnmapEvent addr lba count) (UnmapOutcome reply) new = Unmaps old addr lba count reply new
Answers old FlushEvent (FlushOutcome answer) new = FlushesOne old answer new
Answers old (FlushPartEvent addr first) (FlushPartOutcome answer) new = FlushesPart old addr first answer new
Answers old DemoteEvent (DemoteOutcome answer) new = DemotesOne old answer new
Answers old CleanEvent (CleanOutcome answer) new = CleansOne old answer new
Answers old BalanceEvent (BalanceOutcome answer) new = BalancesOne old answer new
Answers old (AddDiskEvent disk) (AddDiskOutcome result) new = AddsDisk old disk result new
Answers old (DiskOutEvent disk) (DiskOutOutcome result) new = TakesDiskOut old disk result new
Answers old (ReplaceEvent number disk) (ReplaceOutcome result) new = ReplacesDisk old number disk result new
Answers old RebuildEvent (RebuildOutcome answer) new = RebuildsOne old answer new
Answers old event outcome new = ⊥

-- One event. Each unit, whatever the event is about, is what its own entry makes of it; on a failed array only its
-- presence, length and pending UNIT ATTENTION are. No disk fails without a cause, and a failed array stays failed. A
-- maintenance event is quiet (`IsQuiet`).
pub record Steps (old : ArrayState) (event : Event) (outcome : Outcome) (new : ArrayState) : Type 0 where
  pub answers : Answers old event outcome new
  pub images : is_broken new ≡ false → (a : Address) → image new a ≡ unit_run (image old a) (entry_at a event outcome)
  pub shapes : (a : Address) → shape_of (image new a) ≡ shape_of (unit_run (image old a) (entry_at a event outcome))
  pub disks : HasCause event old.store.disks new.store.disks
  pub capacity : new.cache.capacity ≡ old.cache.capacity
  pub quiet : is_quiet event ≡ true → IsQuiet old new
