-- The records of one unit: it is created, each piece of 128 sectors that isn't all zeros is written by a WRITE (10),
-- and a pending UNIT ATTENTION is that of a last growth.
use Rattle.std.specs.Prelude.{◌≡◌, ◌≢◌, ◌<◌, ◌≤◌, ◌+◌, ◌-◌, ◌*◌, ◌/◌, ◌==◌, ◌&&◌, ℕ, zero, suc, Bool, true, nat_lt}
use Rattle.std.specs.Prelude.{nat_le, min, List, [], ◌∷◌, ◌++◌, length, drop, replicate, if◌then◌else◌}
use Rattle.std.specs.Int.{w16, w32, to_be_bytes}
use Rattle.ar_unit.specs.Sectors.{Sector, zero_sector}
use Rattle.ar_unit.specs.Unit.{UnitState, Absent, Present, answer, unit_run}
use Rattle.ar_record.specs.Record.{RecordData, Make, Grow, Remove, Command, Unmap, AddDisk, AreEncodable}
use Rattle.ar_record.specs.Replay.{changes_unit, own_in, own_of, unit_of}
use Rattle.ar_compaction.specs.Addresses.{names}
use Rattle.ar_compaction.specs.Bytes.{bytes_of_sectors, are_zeros}
use Rattle.ar_compaction.specs.Replaying.{is_present, count_sectors}

-- WRITE (10) of `count` sectors from `lba` on, without FUA (SBC-2, WRITE (10) command)
abbrev pub write_block : ℕ → ℕ → List ℕ
write_block lba count = 0x2A ∷ 0 ∷ (to_be_bytes w32 lba ++ 0 ∷ (to_be_bytes w16 count ++ replicate 7 0))

-- a present unit: its address, its number of sectors, how many it is created with, whether a UNIT ATTENTION is pending,
-- and its bytes
pub record UnitParts : Type 0 where
  pub addr : ℕ × ℕ
  pub sectors : ℕ
  pub base : ℕ
  pub attention : Bool
  pub bytes : List ℕ

-- the last sector is one of several, and all zeros
abbrev pub ends_in_zeros : ℕ → List ℕ → Bool
ends_in_zeros sectors bytes = nat_lt 1 sectors && are_zeros (drop ((sectors - 1) * 512) bytes)

-- with how many sectors the unit is created: where it can be, the growth that left the UNIT ATTENTION adds the last
abbrev pub base_of : ℕ → Bool → List ℕ → ℕ
base_of sectors attention bytes =
    if attention && ends_in_zeros sectors bytes then sectors - 1 else sectors

-- the number of pieces of 128 sectors; the last may be shorter
abbrev pub pieces_of : ℕ → ℕ
pieces_of base = (base + 127) / 128

-- the number of sectors of a piece
abbrev pub piece_len : ℕ → ℕ → ℕ
piece_len base piece = min 128 (base - piece * 128)

-- the WRITE of bytes to `count` sectors from `lba` on; none of zeros, which a new unit has
abbrev pub piece_write : ℕ × ℕ → ℕ → ℕ → List ℕ → List RecordData
piece_write a lba count bytes = if are_zeros bytes then [] else Command a.0 a.1 (write_block lba count) bytes ∷ []

-- that of a piece
abbrev pub piece_record : UnitParts → ℕ → List RecordData
piece_record unit piece =
    piece_write unit.addr (piece * 128) (piece_len unit.base piece)
    (bytes_of_sectors (piece * 128) (piece_len unit.base piece) unit.bytes)

-- the last growth, if a UNIT ATTENTION is pending
abbrev pub growth_record : UnitParts → List RecordData
growth_record unit = if unit.attention then Grow unit.addr.0 unit.addr.1 unit.sectors ∷ [] else []

-- the record of a step, if it has one: step 0 creates the unit, and the last one extends it
abbrev pub step_record : UnitParts → ℕ → List RecordData
step_record unit step =
    if step == 0 then Make unit.addr.0 unit.addr.1 unit.base ∷ []
    else (if nat_le step (pieces_of unit.base) then piece_record unit (step - 1) else growth_record unit)

-- the records of `count` steps from `step` on
abbrev pub steps_from : UnitParts → ℕ → ℕ → List RecordData
steps_from unit zero step = []
steps_from unit (suc count) step = step_record unit step ++ steps_from unit count (step + 1)

-- the number of steps
abbrev pub steps_of : UnitParts → ℕ
steps_of unit = pieces_of unit.base + 2

-- the extents of the disks that records add, in order
abbrev pub added_disks : List RecordData → List ℕ
added_disks [] = []
added_disks (AddDisk extents ∷ records) = extents ∷ added_disks records
added_disks (r ∷ records) = added_disks records

-- what an array executes: a unit is created where none is, with a sector at least, and extended by a sector at least; a
-- command changes its unit, as when it was recorded
abbrev pub IsExecuted : UnitState → RecordData → Type 0
IsExecuted state (Make host lun sectors) = (state ≡ Absent) × (1 ≤ sectors)
IsExecuted state (Grow host lun sectors) = (is_present state ≡ true) × (count_sectors state < sectors)
IsExecuted state (Remove host lun) = is_present state ≡ true
IsExecuted state (Command host lun cdb payload) = changes_unit cdb (answer state cdb payload).reply ≡ true
IsExecuted state (Unmap host lun lba count) = Unit {0}
IsExecuted state (AddDisk extents) = Unit {0}

-- each of them that names an address, from this unit there on
abbrev pub AreExecuted : ℕ × ℕ → UnitState → List RecordData → Type 0
AreExecuted a state [] = Unit {0}
AreExecuted a state (r ∷ records) =
    (names a r ≡ true → IsExecuted state r) × AreExecuted a (unit_run state (own_in a r)) records

-- The unit can be created and extended: it has a sector, and one with a pending UNIT ATTENTION has another before its
-- last, which is zero. A growth leaves it so, and no command is executed before the UNIT ATTENTION is reported.
pub record CanBeGrown (sectors : List Sector) : Type 0 where
  pub several : 2 ≤ length sectors
  pub zero_last : drop (length sectors - 1) sectors ≡ zero_sector ∷ []

abbrev pub CanBeCreated : UnitState → Type 0
CanBeCreated Absent = Unit {0}
CanBeCreated (Present sectors attention) = (1 ≤ length sectors) × (attention ≡ true → CanBeGrown sectors)

-- these records make the unit at this address, and no other
pub record IsCheckpoint (a : ℕ × ℕ) (unit : UnitState) (records : List RecordData) : Type 0 where
  pub made : unit_of records a ≡ unit
  pub others : (b : ℕ × ℕ) → b ≢ a → own_of b records ≡ []
  pub disks : added_disks records ≡ []
  pub fit : AreEncodable records
  pub again : CanBeCreated unit → AreExecuted a Absent records
  pub few : 128 * length records ≤ count_sectors unit + 383
