-- A unit on a failed array: its data are lost, and what is left of it, its shape, decides every reply.
use Rattle.std.specs.Prelude.{ℕ, ◌*◌, Bool, true, false, ◌==◌, ◌&&◌, not, if◌then◌else◌, max, List, length, take}
use Rattle.std.specs.Prelude.{Result, Ok, Err}
use Rattle.ar_scsi.specs.declared.command.Command.{Command}
use Rattle.ar_scsi.specs.declared.command.Command.TheVariants.{TestReady, Inquiry, Capacity, Read, Write}
use Rattle.ar_scsi.specs.declared.reply.Reply.{Reply}
use Rattle.ar_scsi.specs.declared.reply.Status.{Status}
use Rattle.ar_scsi.specs.declared.reply.Status.TheVariants.{Good, CheckCondition, Busy}
use Rattle.ar_scsi.specs.declared.sense.Sense.{Sense}
use Rattle.ar_scsi.specs.Data.{inquiry_data, capacity_data}
use Rattle.ar_scsi.specs.Field.{operation_code}
use Rattle.ar_scsi.specs.Reading.{reading}
use Rattle.ar_scsi.specs.Reply.{good, check}
use Rattle.ar_scsi.specs.Sense.{internal_target_failure, capacity_data_has_changed, logical_block_address_out_of_range}
use Rattle.ar_scsi.specs.Sense.{data_phase_error, logical_unit_not_supported}
use Rattle.ar_unit.specs.Unit.{UnitState, Absent, Present, absent_reply, is_past_end, UnitEntry, Make, Grow, Remove}
use Rattle.ar_unit.specs.Unit.{Cmd, Unmap}

-- whether the unit is present, its number of sectors, and whether a UNIT ATTENTION is pending (its mark)
pub record Shape : Type 0 where
  pub present : Bool
  pub sectors : ℕ
  pub attention : Bool

-- the shape of a unit
abbrev pub shape_of : UnitState → Shape
shape_of Absent = record { present = false; sectors = 0; attention = false }
shape_of (Present sectors attention) = record { present = true; sectors = length sectors; attention = attention }

-- the shape after an entry: any command but INQUIRY, and a discard, clears a pending UNIT ATTENTION, and changes
-- nothing else
abbrev pub shape_after : Shape → UnitEntry → Shape
shape_after shape (Make n) = record { present = true; sectors = n; attention = false }
shape_after shape (Grow n) =
    if shape.present then (record { present = true; sectors = max shape.sectors n; attention = true }) else shape
shape_after shape Remove = record { present = false; sectors = 0; attention = false }
shape_after shape (Cmd cdb bytes) = record shape { attention = shape.attention && (operation_code cdb == 0x12) }
shape_after shape (Unmap lba count) = record shape { attention = false }

-- the command accesses the unit's blocks or, as TEST UNIT READY, reports that they can be accessed
abbrev pub needs_blocks : Result Command Sense → Bool
needs_blocks (Ok TestReady) = true
needs_blocks (Ok (Read lba count)) = true
needs_blocks (Ok (Write lba count fua)) = true
needs_blocks other = false

-- the status is GOOD
abbrev pub is_good : Status → Bool
is_good Good = true
is_good CheckCondition = false
is_good Busy = false

-- a failed array's reply in place of `reply`: HARDWARE ERROR to a command that needs blocks and would be GOOD
abbrev pub where_broken : List ℕ → Reply → Reply
where_broken cdb reply =
    if is_good reply.status && needs_blocks (reading cdb) then check internal_target_failure else reply

-- its reply from a present unit with no UNIT ATTENTION to report, by the number of sectors and of data bytes sent
unfoldable pub broken_obeyed : ℕ → Result Command Sense → ℕ → Reply
broken_obeyed sectors (Err sense) sent = check sense
broken_obeyed sectors (Ok TestReady) sent = check internal_target_failure
broken_obeyed sectors (Ok (Inquiry len)) sent = good (take len (inquiry_data true))
broken_obeyed sectors (Ok Capacity) sent = good (capacity_data sectors)
broken_obeyed sectors (Ok (Read lba count)) sent =
    if is_past_end sectors lba count then check logical_block_address_out_of_range else check internal_target_failure
broken_obeyed sectors (Ok (Write lba count fua)) sent =
    if is_past_end sectors lba count then check logical_block_address_out_of_range
    else (if not (sent == count * 512) then check data_phase_error else check internal_target_failure)

-- its reply to the command block `cdb` with `sent` bytes of data, by the unit's shape alone
unfoldable pub broken_answer : Shape → List ℕ → ℕ → Reply
broken_answer shape cdb sent =
    if not shape.present then absent_reply cdb
    else (if shape.attention && not (operation_code cdb == 0x12) then check capacity_data_has_changed
    else broken_obeyed shape.sectors (reading cdb) sent)

-- a failed array's reply in place of `reply` to a discard: HARDWARE ERROR for GOOD
abbrev pub unmap_where_broken : Reply → Reply
unmap_where_broken reply = if is_good reply.status then check internal_target_failure else reply

-- its reply to a discard of `count` sectors from `lba` on, by the unit's shape alone
abbrev pub broken_unmap : Shape → ℕ → ℕ → Reply
broken_unmap shape lba count =
    if not shape.present then check logical_unit_not_supported
    else (if shape.attention then check capacity_data_has_changed
    else (if is_past_end shape.sectors lba count then check logical_block_address_out_of_range
    else check internal_target_failure))
