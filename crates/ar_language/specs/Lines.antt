-- The lines of a script, and the faults of a line.
use Rattle.std.specs.Prelude.{◌≡◌, ◌≢◌, ◌⊎◌, ◌+◌, ◌-◌, ◌≤◌, ◌&&◌, ◌++◌, ◌==◌, ⊤, ℕ, Bool, true, false, not, IsTrue}
use Rattle.std.specs.Prelude.{nat_le, nat_lt, max, if◌then◌else◌, Option, Some, None, option_map, Result, Ok, Err, List}
use Rattle.std.specs.Prelude.{[], ◌∷◌, length, take, slice_index_or}
use Rattle.std.specs.List.{list_all, All}
use Rattle.std.specs.Io.Buffered.{reader_inner, reader_capacity}
use Rattle.std.specs.declared.io.buffered.BufReader.{BufReader}
use Rattle.ar_language.specs.declared.fault.FaultKind.{FaultKind}
use Rattle.ar_language.specs.declared.fault.FaultKind.TheVariants.{UnknownWord, BadArgument, LineTooLong, TooManyLines}
use Rattle.ar_language.specs.declared.fault.FaultKind.TheVariants.{BadCharacter, NoMemory, ReadFault, WriteFault}
use Rattle.ar_language.specs.declared.fault.Fault.{Fault}
use Rattle.ar_language.specs.declared.fault.Fault.TheVariants.{Start, Line}

-- a byte before the first of these lines
abbrev pub with_byte : ℕ → List (List ℕ) → List (List ℕ)
with_byte byte [] = (byte ∷ []) ∷ []
with_byte byte (line ∷ lines) = (byte ∷ line) ∷ lines

-- The lines of a text: what is before each of its line feeds (10), and what is after the last of them, if anything.
abbrev pub lines_in : List ℕ → List (List ℕ)
lines_in [] = []
lines_in (byte ∷ bytes) = if byte == 10 then [] ∷ lines_in bytes else with_byte byte (lines_in bytes)

-- the lines of a reader, if it reports its bytes
abbrev pub lines_of : Option (List ℕ) → Option (List (List ℕ))
lines_of known = option_map lines_in known

-- the first of these lines, empty if there is none
abbrev pub first_of : List (List ℕ) → List ℕ
first_of [] = []
first_of (line ∷ lines) = line

-- the bytes that are left: at the end of the input, those that are buffered
abbrev pub bytes_left : Bool → List ℕ → Option (List ℕ) → Option (List ℕ)
bytes_left true buffered known = option_map (λ bytes. buffered) known
bytes_left false buffered known = known

-- the part of the next line that was taken: nothing before it is begun
abbrev pub front_of : Bool → List ℕ → List ℕ
front_of true line = line
front_of false line = []

-- none of these bytes is a line feed
abbrev pub HasNoEnd : List ℕ → Type 0
HasNoEnd bytes = All (λ byte. byte ≢ 10) bytes

-- These lines were taken, the first of those that were left.
abbrev pub Took : Option (List (List ℕ)) → Option (List (List ℕ)) → List (List ℕ) → Type 0
Took None left lines = ⊤
Took (Some all) None lines = ⊥
Took (Some all) (Some left) lines = all ≡ lines ++ left

-- there are at least `n` lines
abbrev pub AreThere : Option (List (List ℕ)) → ℕ → Type 0
AreThere None n = ⊤
AreThere (Some lines) n = n ≤ length lines

-- no line is left
abbrev pub IsAllTaken : Option (List (List ℕ)) → Type 0
IsAllTaken None = ⊤
IsAllTaken (Some left) = left ≡ []

-- a printable character of ASCII, space to ~
abbrev pub is_printable : ℕ → Bool
is_printable byte = nat_le 32 byte && nat_le byte 126

-- The part is the printable characters at the front of these bytes. The next byte follows it, or it is all of them.
abbrev pub IsPart : List ℕ → List ℕ → Option ℕ → Type 0
IsPart bytes part None = IsTrue (list_all is_printable part) × (bytes ≡ part)
IsPart bytes part (Some next) =
    IsTrue (list_all is_printable part) × (is_printable next ≡ false)
    × (take (length part + 1) bytes ≡ part ++ next ∷ [])

-- there is a next byte, and it is no line feed
abbrev pub is_bad_next : Option ℕ → Bool
is_bad_next None = false
is_bad_next (Some next) = not (next == 10)

-- a part, and the byte after it unless that is a line feed
abbrev pub with_bad : List ℕ → Option ℕ → List ℕ
with_bad part None = part
with_bad part (Some next) = if next == 10 then part else part ++ next ∷ []

-- at most 4,096 bytes, each printable
pub record IsLine (line : List ℕ) : Type 0 where
  pub short : length line ≤ 4096
  pub printable : IsTrue (list_all is_printable line)

-- A line that was returned, and what is left of these bytes: it is what is before a line feed or, at the end of the
-- input, all of them. (By the invariant of `Lines`, no byte of the line is a line feed.)
abbrev pub IsFirst : Bool → List ℕ → List ℕ → List ℕ → Type 0
IsFirst at_end bytes line rest =
    (bytes ≡ line ++ 10 ∷ rest) ⊎ ((at_end ≡ true) × (bytes ≡ line) × (line ≢ []) × (rest ≡ []))

-- These bytes don't determine the next line: they have no fault, and so no line feed. At the end of the input there are
-- none.
pub record IsLacking (at_end : Bool) (bytes : List ℕ) : Type 0 where
  pub sound : IsLine bytes
  pub ended : at_end ≡ true → bytes ≡ []

-- the fault of a part in a line with room for `room` bytes: a bad byte among those is reported before the length
abbrev pub part_fault : ℕ → List ℕ → Option FaultKind
part_fault room part =
    if list_all is_printable (take room part) then (if nat_lt room (length part) then Some LineTooLong else None)
    else Some BadCharacter

-- the fault of a line's bytes: a bad one among the first 4,096, or more bytes than those
abbrev pub line_fault : List ℕ → Option FaultKind
line_fault line = part_fault 4096 line

-- a line that begins with these bytes has this fault, whatever follows them
abbrev pub IsFaultFrom : List ℕ → FaultKind → Type 0
IsFaultFrom bytes kind = (behind : List ℕ) → line_fault (first_of (lines_in (bytes ++ behind))) ≡ Some kind

-- whether a line was returned
abbrev pub is_given : Result Bool Fault → Bool
is_given (Ok more) = more
is_given (Err fault) = false

-- whether no line was returned, and no fault
abbrev pub is_lacking : Result Bool Fault → Bool
is_lacking (Ok more) = not more
is_lacking (Err fault) = false

-- the reader after a buffer wasn't accessed
pub record IsUnasked {R A : Type 0} (old new : BufReader R A) : Type 0 where
  pub inner : reader_inner new ≡ reader_inner old
  pub capacity : reader_capacity new ≡ reader_capacity old

-- the output couldn't be written
abbrev pub is_output_fault : FaultKind → Bool
is_output_fault WriteFault = true
is_output_fault UnknownWord = false
is_output_fault BadArgument = false
is_output_fault LineTooLong = false
is_output_fault TooManyLines = false
is_output_fault BadCharacter = false
is_output_fault NoMemory = false
is_output_fault ReadFault = false

-- this is the reported fault
abbrev pub is_write_fault : {T : Type 0} → Result T Fault → Bool
is_write_fault (Ok done) = false
is_write_fault (Err Start) = false
is_write_fault (Err (Line n kind)) = is_output_fault kind

-- a stream faulted: the input couldn't be read, or the output couldn't be written
abbrev pub IsOfStream : FaultKind → Type 0
IsOfStream kind = (kind ≡ ReadFault) ⊎ (kind ≡ WriteFault)

-- why the first of these lines isn't taken: a stream faulted, or it has a fault, or is one too many
abbrev pub IsReportedOfFirst : List (List ℕ) → FaultKind → Type 0
IsReportedOfFirst lines kind =
    IsOfStream kind ⊎ (line_fault (first_of lines) ≡ Some kind) ⊎ ((kind ≡ TooManyLines) × (lines ≢ []))

-- the same for the lines that are left, if they are known
abbrev pub IsReportedOfNext : Option (List (List ℕ)) → FaultKind → Type 0
IsReportedOfNext None kind = ⊤
IsReportedOfNext (Some lines) kind = IsReportedOfFirst lines kind

-- the same for a fault with the number of its line
abbrev pub IsNextLineFault : Option (List (List ℕ)) → Fault → Type 0
IsNextLineFault left Start = ⊥
IsNextLineFault left (Line n kind) = IsReportedOfNext left kind

-- a line by its number, which counts from 1
abbrev pub line_at : List (List ℕ) → ℕ → List ℕ
line_at lines n = slice_index_or lines (n - 1) []

-- Lines count from 1. `TooManyLines` is reported at line 1,000,001 and at no other, and nothing else is reported there
-- but `ReadFault`.
abbrev pub IsNumbered : Fault → Type 0
IsNumbered Start = Unit {0}
IsNumbered (Line n kind) =
    (1 ≤ n) × (n ≤ 1000001) × (kind ≡ TooManyLines → n ≡ 1000001)
    × (n ≡ 1000001 → (kind ≡ TooManyLines) ⊎ (kind ≡ ReadFault))

-- A fault is reported at the last line that was begun or at the one after it: there as `ReadFault`, as `TooManyLines`
-- or, if no line was begun, as `WriteFault`.
abbrev pub IsReached : ℕ → Fault → Type 0
IsReached reached Start = ⊥
IsReached reached (Line n kind) =
    (n ≡ reached)
    ⊎ ((n ≡ reached + 1) × ((kind ≡ ReadFault) ⊎ (kind ≡ TooManyLines) ⊎ ((kind ≡ WriteFault) × (reached ≡ 0))))

-- With `given` lines returned and `begun` lines begun, a fault is reported at the next line, and `WriteFault` at the
-- last line that was begun, or at the first.
abbrev pub IsOfNext : ℕ → ℕ → Fault → Type 0
IsOfNext given begun Start = ⊥
IsOfNext given begun (Line n kind) = ((kind ≢ WriteFault) × (n ≡ given + 1)) ⊎ ((kind ≡ WriteFault) × (n ≡ max begun 1))
