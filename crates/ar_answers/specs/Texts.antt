-- The text of each answer, as the script's reference lists them: lines of words.
use Rattle.std.specs.Prelude.{ℕ, ◌/◌, ◌%◌, zero, suc, ◌==◌, true, if◌then◌else◌, List, [], ◌∷◌, ◌++◌, Option, Some}
use Rattle.std.specs.Prelude.{None, Result, Ok, Err, map, codes, bit_and, slice_index}
use Rattle.std.specs.Fmt.{decimal, digit_glyph}
use Rattle.std.specs.List.{join_with_byte}
use Rattle.ar_disks.specs.declared.address.Addr.{Addr}
use Rattle.ar_disks.specs.declared.address.Key.{Key}
use Rattle.ar_book.specs.declared.class.Level.{Level}
use Rattle.ar_book.specs.declared.class.Level.TheVariants as at
use Rattle.ar_book.specs.Tables.{Tables, has_unit, level_in, unit_in}
use Rattle.ar_core.specs.declared.views.LevelOf.{LevelOf}
use Rattle.ar_core.specs.declared.views.LevelOf.TheVariants as levels
use Rattle.ar_scsi.specs.declared.reply.Reply.{Reply}
use Rattle.ar_scsi.specs.declared.reply.Status.{Status}
use Rattle.ar_scsi.specs.declared.reply.Status.TheVariants.{CheckCondition, Busy}
use Rattle.ar_volume.specs.Texts.{refusal_text}
use Rattle.ar_volume.specs.declared.refusal.Refusal.{Refusal}
use Rattle.ar_volume.specs.declared.refusal.Refusal.TheVariants as refusals
use Rattle.ar_extents.specs.declared.refusal.DiskRefusal.TheVariants as disk_refusals
use Rattle.ar_book.specs.declared.refusal.Refusal.TheVariants as unit_refusals
use Rattle.ar_language.specs.declared.order.Notation.{Notation}
use Rattle.ar_language.specs.declared.order.Notation.TheVariants as notations
use Rattle.ar_cache.specs.declared.answers.Flush.{Flush}
use Rattle.ar_cache.specs.declared.answers.Flush.TheVariants as flushes
use Rattle.ar_volume.specs.declared.flush.PartFlush.{PartFlush}
use Rattle.ar_volume.specs.declared.flush.PartFlush.TheVariants as part_flushes
use Rattle.ar_moves.specs.declared.step.Move.{Move}
use Rattle.ar_moves.specs.declared.step.Move.TheVariants as moves
use Rattle.ar_balance.specs.declared.step.Balance.{Balance}
use Rattle.ar_balance.specs.declared.step.Balance.TheVariants as balances
use Rattle.ar_rebuild.specs.declared.step.Rebuild.{Rebuild}
use Rattle.ar_rebuild.specs.declared.step.Rebuild.TheVariants as rebuilds
use Rattle.ar_core.specs.declared.event.OutcomeOf.{OutcomeOf}
use Rattle.ar_core.specs.declared.event.OutcomeOf.TheVariants as outcomes
use Rattle.ar_extents.specs.declared.health.Health.{Health}
use Rattle.ar_extents.specs.declared.health.Health.TheVariants as healths
use Rattle.ar_core.specs.declared.views.HomeOf.{HomeOf}
use Rattle.ar_core.specs.declared.views.HomeOf.TheVariants as homes
use Rattle.ar_book.specs.declared.class.Class.{Class}
use Rattle.ar_book.specs.declared.class.Class.TheVariants as classes
use Rattle.ar_core.specs.declared.views.GroupUse.{GroupUse}
use Rattle.ar_core.specs.declared.views.Shown.{Shown}
use Rattle.ar_core.specs.declared.views.Shown.TheVariants as shown

-- words, with a space between each two
abbrev pub words : List (List ℕ) → List ℕ
words ws = join_with_byte 32 ws

-- a line of these words
abbrev pub line : List (List ℕ) → List ℕ
line ws = words ws ++ 10 ∷ []

-- whether an order without a result was executed
abbrev pub done_text : Result (Unit {0}) Refusal → List ℕ
done_text (Ok done) = line (codes "ok" ∷ [])
done_text (Err refusal) = line (codes "refused" ∷ refusal_text refusal ∷ [])

-- whether a new disk was accepted
abbrev pub taken_text : {N : Type 0} → Result (Unit {0}) (Refusal × N) → List ℕ
taken_text (Ok done) = done_text (Ok done)
taken_text (Err refused) = done_text (Err refused.0)

-- a byte, in two hexadecimal digits
abbrev pub hex_byte : ℕ → List ℕ
hex_byte byte = digit_glyph true (byte / 16) ∷ digit_glyph true (byte % 16) ∷ []

-- runs, each by its length and its byte, after one more byte, which extends the first run if that is of its value
abbrev pub onto_runs : ℕ → List (ℕ × ℕ) → List (ℕ × ℕ)
onto_runs byte [] = (1, byte) ∷ []
onto_runs byte (run ∷ runs) = if byte == run.1 then (suc run.0, byte) ∷ runs else (1, byte) ∷ run ∷ runs

-- the longest runs of equal bytes
abbrev pub runs_of : List ℕ → List (ℕ × ℕ)
runs_of [] = []
runs_of (byte ∷ bytes) = onto_runs byte (runs_of bytes)

-- a run, as its length and its byte
abbrev pub run_text : ℕ × ℕ → List ℕ
run_text run = decimal run.0 ++ codes "x" ++ hex_byte run.1

-- bytes in a notation
abbrev pub data_words : Notation → List ℕ → List (List ℕ)
data_words notations.Bytes bytes = map hex_byte bytes
data_words notations.Runs bytes = map run_text (runs_of bytes)

-- sense data, by their sense key (the low four bits of byte 2), additional sense code and qualifier
abbrev pub sense_text : List ℕ → List ℕ
sense_text sense =
    hex_byte (bit_and (slice_index sense 2) 15) ++ codes "/" ++ hex_byte (slice_index sense 12) ++ codes "/"
    ++ hex_byte (slice_index sense 13)

-- a status, with its sense data or the words of its payload
abbrev pub status_text : Status → Option (List ℕ) → List (List ℕ) → List ℕ
status_text CheckCondition (Some sense) payload = line (codes "check" ∷ sense_text sense ∷ [])
status_text Busy sense payload = line (codes "busy" ∷ [])
status_text status sense payload = line (codes "good" ∷ payload)

-- the reply to a command
abbrev pub reply_text : Reply → Notation → List ℕ
reply_text reply notation = status_text reply.status reply.sense (data_words notation reply.payload)

-- the host, the LUN and the number of a block
abbrev pub key_words : Key → List (List ℕ) → List (List ℕ)
key_words key rest = decimal key.addr.host.number ∷ decimal key.addr.lun ∷ decimal key.rb ∷ rest

-- the block that was destaged
abbrev pub flush_text : Flush → List ℕ
flush_text (flushes.Flushed key) = line (codes "flushed" ∷ key_words key [])
flush_text flushes.Idle = line (codes "idle" ∷ [])
flush_text flushes.Broken = line (codes "broken" ∷ [])

-- whether a part of the unit was flushed; the script has no word for this event
abbrev pub part_flush_text : PartFlush → List ℕ
part_flush_text part_flushes.Done = done_text (Ok tt)
part_flush_text (part_flushes.More next) = line (codes "more" ∷ decimal next ∷ [])
part_flush_text part_flushes.Absent = done_text (Err (refusals.Unit unit_refusals.Absent))
part_flush_text part_flushes.Broken = line (codes "broken" ∷ [])

-- the block that was moved, and the slot that it moved to
abbrev pub move_text : Move → List ℕ
move_text (moves.Moved key to) =
    line (codes "moved" ∷ key_words key (codes "to" ∷ decimal to.group ∷ decimal to.slot ∷ []))
move_text moves.Idle = line (codes "idle" ∷ [])
move_text moves.Broken = line (codes "broken" ∷ [])

-- the group that was formed, or whose extent was moved, and between which disks
abbrev pub balance_text : Balance → List ℕ
balance_text (balances.Formed group) = line (codes "formed" ∷ decimal group ∷ [])
balance_text (balances.Shifted group from to) =
    line (codes "shifted" ∷ decimal group ∷ codes "from" ∷ decimal from ∷ codes "to" ∷ decimal to ∷ [])
balance_text balances.GivenUp = line (codes "given up" ∷ [])
balance_text balances.NoMemory = done_text (Err (refusals.Disk disk_refusals.NoMemory))
balance_text balances.Idle = line (codes "idle" ∷ [])
balance_text balances.Broken = line (codes "broken" ∷ [])

-- the extent that was rebuilt, and how many are left
abbrev pub rebuild_text : Rebuild → List ℕ
rebuild_text (rebuilds.Rebuilt extent left) = line (codes "rebuilt" ∷ decimal extent ∷ codes "left" ∷ decimal left ∷ [])
rebuild_text rebuilds.Finished = line (codes "finished" ∷ [])
rebuild_text rebuilds.Idle = line (codes "idle" ∷ [])
rebuild_text rebuilds.GivenUp = line (codes "given up" ∷ [])
rebuild_text rebuilds.Broken = line (codes "broken" ∷ [])

-- the answer to an action, by its outcome
abbrev pub outcome_text : {N : Type 0} → OutcomeOf N → Notation → List ℕ
outcome_text (outcomes.Make done) notation = done_text done
outcome_text (outcomes.Grow done) notation = done_text done
outcome_text (outcomes.Remove done) notation = done_text done
outcome_text (outcomes.Cmd reply) notation = reply_text reply notation
outcome_text (outcomes.Unmap reply) notation = reply_text reply notation
outcome_text (outcomes.Flush flush) notation = flush_text flush
outcome_text (outcomes.FlushPart flush) notation = part_flush_text flush
outcome_text (outcomes.Demote answer) notation = move_text answer
outcome_text (outcomes.Clean answer) notation = move_text answer
outcome_text (outcomes.Balance answer) notation = balance_text answer
outcome_text (outcomes.AddDisk done) notation = taken_text done
outcome_text (outcomes.DiskOut done) notation = done_text done
outcome_text (outcomes.Replace done) notation = taken_text done
outcome_text (outcomes.Rebuild answer) notation = rebuild_text answer

-- the answer to a query about a unit that doesn't exist
abbrev pub absent_text : List ℕ
absent_text = done_text (Err (refusals.Unit unit_refusals.Absent))

-- a level, as a character: `-`, `M` or `P`
abbrev pub level_char : Level → ℕ
level_char at.Unplaced = 45
level_char at.Mirrored = 77
level_char at.Parity = 80

-- the character of what is shown of a block's level, if it exists
abbrev pub level_mark : LevelOf → Option ℕ
level_mark levels.Absent = None
level_mark levels.Outside = None
level_mark levels.Unplaced = Some (level_char at.Unplaced)
level_mark levels.Mirrored = Some (level_char at.Mirrored)
level_mark levels.Parity = Some (level_char at.Parity)

-- a character for each block of a unit
abbrev pub marks_text : Tables → Addr → List ℕ
marks_text t addr = map (λ home. level_char (level_in t.groups home)) (unit_in t.units addr).homes

-- the level of each block of a unit
abbrev pub levels_text : Tables → Addr → List ℕ
levels_text t addr = if has_unit t addr then line (marks_text t addr ∷ []) else absent_text

-- the slot of a block
abbrev pub home_text : HomeOf → List ℕ
home_text homes.Absent = absent_text
home_text homes.Outside = line (codes "outside" ∷ [])
home_text homes.Unplaced = line (codes "home" ∷ codes "none" ∷ [])
home_text (homes.At slot) = line (codes "home" ∷ decimal slot.group ∷ decimal slot.slot ∷ [])

-- what a group is used for
abbrev pub class_name : Class → List ℕ
class_name classes.Free = codes "free"
class_name classes.Mirrored = codes "mirrored"
class_name classes.Parity = codes "parity"

-- the class of a group, and the number of blocks that it stores
abbrev pub group_text : ℕ → GroupUse → List ℕ
group_text number group = line (codes "group" ∷ decimal number ∷ class_name group.class ∷ decimal group.blocks ∷ [])

-- a line for each group, from this number on
abbrev pub groups_text : ℕ → List GroupUse → List ℕ
groups_text number [] = []
groups_text number (group ∷ groups) = group_text number group ++ groups_text (suc number) groups

-- the health of an array
abbrev pub health_text : Health → List ℕ
health_text healths.Whole = line (codes "whole" ∷ [])
health_text (healths.Out disk) = line (codes "out" ∷ decimal disk ∷ [])
health_text (healths.Rebuilding disk done) = line (codes "rebuilding" ∷ decimal disk ∷ decimal done ∷ [])
health_text healths.Broken = line (codes "broken" ∷ [])

-- a row of a disk, as runs
abbrev pub row_text : Shown → List ℕ → List ℕ
row_text shown.Outside bytes = line (codes "outside" ∷ [])
row_text shown.Broken bytes = line (codes "broken" ∷ [])
row_text shown.Missing bytes = line (codes "missing" ∷ [])
row_text shown.Bytes bytes = line (map run_text (runs_of bytes))

-- the space before a word, unless it is the first
abbrev pub gap : ℕ → List ℕ
gap zero = []
gap (suc place) = codes " "
