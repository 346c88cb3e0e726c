-- The model of a logical unit: absent, or a plain list of sectors. No disk, no cache and no other unit occurs here.
use Rattle.std.specs.Prelude.{◌≡◌, ◌≢◌, ℕ, ◌+◌, ◌-◌, ◌*◌, Bool, true, false, ◌==◌, not, nat_lt, if◌then◌else◌, List, []}
use Rattle.std.specs.Prelude.{◌∷◌, ◌++◌, length, take, drop, All, Result, Ok, Err}
use Rattle.ar_scsi.specs.declared.command.Command.{Command}
use Rattle.ar_scsi.specs.declared.command.Command.TheVariants.{TestReady, Inquiry, Capacity, Read, Write}
use Rattle.ar_scsi.specs.declared.reply.Reply.{Reply}
use Rattle.ar_scsi.specs.declared.reply.Status.TheVariants.{CheckCondition, Busy}
use Rattle.ar_scsi.specs.declared.sense.Sense.{Sense}
use Rattle.ar_scsi.specs.Data.{inquiry_data, capacity_data}
use Rattle.ar_scsi.specs.Field.{operation_code, allocation_length}
use Rattle.ar_scsi.specs.Reading.{reading}
use Rattle.ar_scsi.specs.Reply.{good, check, busy}
use Rattle.ar_scsi.specs.Sense.{logical_unit_not_supported, capacity_data_has_changed}
use Rattle.ar_scsi.specs.Sense.{logical_block_address_out_of_range, data_phase_error}
use Rattle.ar_unit.specs.Sectors.{Sector, zero_sectors, joined, written, zeroed}

-- absent; or its sectors, and whether a UNIT ATTENTION is pending since it has grown (SAM-3, Unit attention condition)
pub data UnitState : Type 0 where
  Absent : UnitState
  Present : (sectors : List Sector) (attention : Bool) → UnitState

-- a command's reply, and the unit after it
pub record Answered : Type 0 where
  pub reply : Reply
  pub state : UnitState

-- this reply, with the unit left in this state
abbrev pub leaving : UnitState → Reply → Answered
leaving state reply = record { reply = reply; state = state }

-- the reply of an absent unit: INQUIRY reports the absence, whatever its other fields, and any other command is
-- terminated with LOGICAL UNIT NOT SUPPORTED (SAM-3, Incorrect logical unit selection)
abbrev pub absent_reply : List ℕ → Reply
absent_reply cdb =
    if operation_code cdb == 0x12 then good (take (allocation_length cdb) (inquiry_data false))
    else check logical_unit_not_supported

-- `count` blocks from `lba` on end past a unit of `n` sectors; the sum doesn't overflow
abbrev pub is_past_end : ℕ → ℕ → ℕ → Bool
is_past_end n lba count = nat_lt n (lba + count)

-- the reply to a READ
abbrev pub read_reply : List Sector → ℕ → ℕ → Reply
read_reply sectors lba count =
    if is_past_end (length sectors) lba count then check logical_block_address_out_of_range
    else good (joined (take count (drop lba sectors)))

-- the reply to a WRITE of these bytes, and the unit after it: unchanged by an error
abbrev pub write_answer : List Sector → Bool → ℕ → ℕ → List ℕ → Answered
write_answer sectors attention lba count bytes =
    if is_past_end (length sectors) lba count then leaving (Present sectors attention)
    (check logical_block_address_out_of_range)
    else (if not (length bytes == count * 512) then leaving (Present sectors attention) (check data_phase_error)
    else leaving (Present (written sectors lba count bytes) attention) (good []))

-- a present unit's reply with no UNIT ATTENTION to report, and the unit after it; the first error is reported: of the
-- block, of the range, of the length of the data
unfoldable pub obeyed : List Sector → Bool → Result Command Sense → List ℕ → Answered
obeyed sectors attention (Err sense) bytes = leaving (Present sectors attention) (check sense)
obeyed sectors attention (Ok TestReady) bytes = leaving (Present sectors attention) (good [])
obeyed sectors attention (Ok (Inquiry len)) bytes =
    leaving (Present sectors attention) (good (take len (inquiry_data true)))
obeyed sectors attention (Ok Capacity) bytes =
    leaving (Present sectors attention) (good (capacity_data (length sectors)))
obeyed sectors attention (Ok (Read lba count)) bytes =
    leaving (Present sectors attention) (read_reply sectors lba count)
obeyed sectors attention (Ok (Write lba count fua)) bytes = write_answer sectors attention lba count bytes

-- The reply to the command block `cdb` with the data `bytes`, and the unit after it. An absent unit comes first, then a
-- pending UNIT ATTENTION, which any command but INQUIRY reports and clears (SAM-3, Unit attention condition), then the
-- command.
unfoldable pub answer : UnitState → List ℕ → List ℕ → Answered
answer Absent cdb bytes = leaving Absent (absent_reply cdb)
answer (Present sectors true) cdb bytes =
    if operation_code cdb == 0x12 then obeyed sectors true (reading cdb) bytes
    else leaving (Present sectors false) (check capacity_data_has_changed)
answer (Present sectors false) cdb bytes = obeyed sectors false (reading cdb) bytes

-- the reply to a discard (UNMAP) of these sectors with no UNIT ATTENTION to report, and the unit after it: they are
-- zeros
abbrev pub unmap_obeyed : List Sector → ℕ → ℕ → Answered
unmap_obeyed sectors lba count =
    if is_past_end (length sectors) lba count then leaving (Present sectors false)
    (check logical_block_address_out_of_range)
    else leaving (Present (zeroed sectors lba count) false) (good [])

-- The reply to a discard (UNMAP) of `count` sectors from `lba` on, and the unit after it, as to a WRITE of zeros there.
-- An absent unit comes first, then a pending UNIT ATTENTION, which it reports and clears, then the range.
abbrev pub unmap_answer : UnitState → ℕ → ℕ → Answered
unmap_answer Absent lba count = leaving Absent (check logical_unit_not_supported)
unmap_answer (Present sectors true) lba count = leaving (Present sectors false) (check capacity_data_has_changed)
unmap_answer (Present sectors false) lba count = unmap_obeyed sectors lba count

-- the reply of a program, whose allocations may fail: the model's (`table`), or BUSY where the model's reply has data
pub record IsGiven (table reply : Reply) : Type 0 where
  pub answered : reply.status ≢ Busy → reply ≡ table
  pub refused : reply.status ≡ Busy → reply ≡ busy
  pub memory : reply.status ≡ Busy → table.payload ≢ []

-- such a program has executed a command: it leaves the model's unit, or with BUSY the unit of before
pub record IsServed (old : UnitState) (table : Answered) (reply : Reply) (new : UnitState) : Type 0 where
  pub given : IsGiven table.reply reply
  pub left : reply.status ≢ Busy → new ≡ table.state
  pub unchanged : reply.status ≡ Busy → new ≡ old

-- which replies have no data, so that they need no allocation
pub record TakesNoMemory (cdb : List ℕ) (reply : Reply) : Type 0 where
  pub checks : reply.status ≡ CheckCondition → reply.payload ≡ []
  pub ready : reading cdb ≡ Ok TestReady → reply.payload ≡ []
  pub writes : (lba count : ℕ) (fua : Bool) → reading cdb ≡ Ok (Write lba count fua) → reply.payload ≡ []

-- each sector has 512 bytes
abbrev pub IsWhole : UnitState → Type 0
IsWhole Absent = Unit {0}
IsWhole (Present sectors attention) = All (λ sector. length sector ≡ 512) sectors

-- a unit's create, resize, delete, command or discard
pub data UnitEntry : Type 0 where
  Make : (sectors : ℕ) → UnitEntry
  Grow : (sectors : ℕ) → UnitEntry
  Remove : UnitEntry
  Cmd : (cdb bytes : List ℕ) → UnitEntry
  Unmap : (lba count : ℕ) → UnitEntry

-- the unit after an entry
abbrev pub after : UnitState → UnitEntry → UnitState
after state (Make n) = Present (zero_sectors n) false
after Absent (Grow n) = Absent
after (Present sectors attention) (Grow n) = Present (sectors ++ zero_sectors (n - length sectors)) true
after state Remove = Absent
after state (Cmd cdb bytes) = (answer state cdb bytes).state
after state (Unmap lba count) = (unmap_answer state lba count).state

-- the unit after these entries, in order
abbrev pub unit_run : UnitState → List UnitEntry → UnitState
unit_run state [] = state
unit_run state (entry ∷ entries) = unit_run (after state entry) entries
