-- How many units were made at each address of an array, as bytes: two for each address, host by host and LUN by LUN.
use Rattle.std.specs.Prelude.{ℕ, ◌+◌, ◌-◌, ◌*◌, ◌/◌, ◌%◌, ◌==◌, nat_lt, if◌then◌else◌, Bool, true, false, List, [], ◌∷◌}
use Rattle.std.specs.Prelude.{Option, Some, None, replicate, slice_index, slice_set}
use Rattle.std.specs.Int.{w16, from_be_bytes}
use Rattle.ar_record.specs.Record.{RecordData, Make}
use Rattle.ar_compaction.specs.Replaying.{ReplayState, is_present}

-- none was made
abbrev pub no_makes : List ℕ
no_makes = replicate 64 0

-- the place of an address's number; none where no unit can be made
abbrev pub makes_place : ℕ × ℕ → Option ℕ
makes_place a = if nat_lt 7 a.1 then None else Some (2 * (8 * a.0 + a.1))

-- the number at a place
abbrev pub number_in : List ℕ → ℕ → ℕ
number_in bytes place = from_be_bytes w16 (slice_index bytes place ∷ slice_index bytes (place + 1) ∷ [])

-- the bytes with another number at a place
abbrev pub with_number : List ℕ → ℕ → ℕ → List ℕ
with_number bytes place number = slice_set (slice_set bytes place (number / 256)) (place + 1) (number % 256)

-- a number of two bytes counted on, and counted back
abbrev pub counted_on : ℕ → ℕ
counted_on number = if number == 65535 then 0 else number + 1

abbrev pub counted_back : ℕ → ℕ
counted_back number = if number == 0 then 65535 else number - 1

-- how many units were made at the address of this place
abbrev pub makes_of_place : List ℕ → Option ℕ → ℕ
makes_of_place bytes None = 0
makes_of_place bytes (Some place) = number_in bytes place

-- how many units were made at an address
abbrev pub makes_at : List ℕ → ℕ × ℕ → ℕ
makes_at bytes a = makes_of_place bytes (makes_place a)

-- the bytes with the number at a place changed
abbrev pub changed_at : (ℕ → ℕ) → List ℕ → Option ℕ → List ℕ
changed_at change bytes None = bytes
changed_at change bytes (Some place) = with_number bytes place (change (number_in bytes place))

-- a unit more was made at an address
abbrev pub makes_counted : List ℕ → ℕ × ℕ → List ℕ
makes_counted bytes a = changed_at counted_on bytes (makes_place a)

-- after a record
abbrev pub makes_noted : List ℕ → RecordData → List ℕ
makes_noted bytes (Make host lun sectors) = makes_counted bytes (host, lun)
makes_noted bytes r = bytes

-- after records
abbrev pub makes_after : List ℕ → List RecordData → List ℕ
makes_after bytes [] = bytes
makes_after bytes (r ∷ records) = makes_after (makes_noted bytes r) records

-- without a unit, if that is present
abbrev pub makes_less : Bool → List ℕ → ℕ × ℕ → List ℕ
makes_less true bytes a = changed_at counted_back bytes (makes_place a)
makes_less false bytes a = bytes

-- without a unit that is present: the records of its checkpoint make it again
abbrev pub makes_before : List ℕ → ReplayState → List ℕ
makes_before bytes state = makes_less (is_present state.unit) bytes state.addr

-- without each of these that is present
abbrev pub makes_before_all : List ℕ → List ReplayState → List ℕ
makes_before_all bytes [] = bytes
makes_before_all bytes (state ∷ states) = makes_before_all (makes_before bytes state) states
