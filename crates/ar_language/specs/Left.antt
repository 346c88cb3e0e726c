-- What is left of a script, and how far its lines were read.
use Rattle.std.specs.Prelude.{◌≡◌, ◌≢◌, ◌⊎◌, ℕ, ◌+◌, ◌==◌, ◌&&◌, not, Bool, true, false, if◌then◌else◌, List, [], ◌∷◌}
use Rattle.std.specs.Prelude.{◌++◌, Option, IsSome, Result, IfErr}
use Rattle.std.specs.List.{position}
use Rattle.std.specs.Io.Buffered.{reader_buffer, reader_remaining}
use Rattle.std.specs.Io.KnownBytes.{prepend_known}
use Rattle.std.specs.declared.io.traits.Read.{Ghosts}
use Rattle.ar_language.specs.declared.fault.Fault.{Fault}
use Rattle.ar_language.specs.declared.fault.Fault.TheVariants.{Start, Line}
use Rattle.ar_language.specs.declared.fault.FaultKind.{FaultKind}
use Rattle.ar_language.specs.declared.fault.FaultKind.TheVariants.{TooManyLines}
use Rattle.ar_language.specs.declared.lines.Lines.{Lines}
use Rattle.ar_language.specs.Lines.{front_of, bytes_left, lines_of, is_given, is_lacking, Took, IsAllTaken, IsFaultFrom}
use Rattle.ar_language.specs.Lines.{IsOfStream, IsNextLineFault, IsOfNext, IsReached, IsNumbered}

-- the bytes that were read and are in no returned line: the front of the next line, and what is buffered
abbrev pub bytes_read : {R : Type 0} {reads : Ghosts R} → Lines R reads → List ℕ
bytes_read lines = front_of lines.is_begun lines.line.items ++ reader_buffer lines.source

-- the lines that are left, if the reader reports its bytes
abbrev pub lines_left : {R : Type 0} {reads : Ghosts R} → Lines R reads → Option (List (List ℕ))
lines_left {reads = reads} lines =
    lines_of (prepend_known (front_of lines.is_begun lines.line.items)
    (bytes_left lines.is_at_end (reader_buffer lines.source) (reader_remaining reads.remaining lines.source)))

-- the number of lines that were begun
abbrev pub lines_begun : {R : Type 0} {reads : Ghosts R} → Lines R reads → ℕ
lines_begun lines = lines.given + (if lines.is_begun then 1 else 0)

-- a line is begun only if something of it was read
pub record IsBegunByByte {R : Type 0} {reads : Ghosts R} (lines : Lines R reads) : Type 0 where
  pub some : lines.is_begun ≡ true → bytes_read lines ≢ []

-- nothing was read yet
pub record IsFresh {R : Type 0} {reads : Ghosts R} (lines : Lines R reads) : Type 0 where
  pub none : lines.given ≡ 0
  pub unbegun : lines.is_begun ≡ false
  pub empty : lines.line.items ≡ []
  pub unread : reader_buffer lines.source ≡ []
  pub unasked : lines.is_awaited ≡ false
  pub more : lines.is_at_end ≡ false

-- Why the next line isn't returned: a million were, and something follows them, of which no line is begun; or it is
-- begun, and what was read of it has a fault.
abbrev pub IsLineRefused : {R : Type 0} {reads : Ghosts R} → Lines R reads → Bool → Fault → Type 0
IsLineRefused lines begun Start = ⊥
IsLineRefused lines begun (Line n kind) =
    (n ≡ lines.given + 1)
    × (((kind ≡ TooManyLines) × (lines.given ≡ 1000000) × (bytes_read lines ≢ []) × (begun ≡ false))
    ⊎ (IsFaultFrom (bytes_read lines) kind × (begun ≡ true)))

-- what was read has a fault, whatever follows it
pub record HasFault (bytes : List ℕ) : Type 0 where
  pub kind : FaultKind
  pub is : IsFaultFrom bytes kind

-- No input is needed to know the next line, its fault, or that there is none: its line feed was read, or what was read
-- has a fault, or follows a million lines, or is all of the input.
abbrev pub IsSettled : {R : Type 0} {reads : Ghosts R} → Lines R reads → Type 0
IsSettled lines =
    IsSome (position (λ byte. byte == 10) (reader_buffer lines.source)) ⊎ HasFault (bytes_read lines)
    ⊎ ((lines.given ≡ 1000000) × (bytes_read lines ≢ [])) ⊎ (lines.is_at_end ≡ true)

-- What advancing to the next line leaves of the reader's state, by what it returned.
pub record CountsLine {R : Type 0} {reads : Ghosts R} (old : Lines R reads) (result : Result Bool Fault)
    (new : Lines R reads) : Type 0 where
  -- a line that is returned is counted and closed; else nothing that was read is lost
  pub count : new.given ≡ old.given + (if is_given result then 1 else 0)
  pub closed : is_given result ≡ true → new.is_begun ≡ false
  pub kept : is_given result ≡ false → bytes_read new ≡ bytes_read old
  -- a line that lacks its end is awaited unless the input has ended, and nothing is left of what was read but its front
  pub awaited : new.is_awaited ≡ (is_lacking result && not old.is_at_end)
  pub drained : is_lacking result ≡ true → reader_buffer new.source ≡ []
  pub begun : is_lacking result ≡ true → bytes_read old ≡ [] → new.is_begun ≡ old.is_begun
  pub ended : new.is_at_end ≡ old.is_at_end

-- What ends the reading of lines, even if the reader doesn't report its bytes: a stream faulted while the next line was
-- awaited and the input hadn't ended, or the line is refused.
abbrev pub EndsReading : {R : Type 0} {reads : Ghosts R} → Lines R reads → Fault → Type 0
EndsReading lines Start = ⊥
EndsReading lines (Line n kind) =
    (IsOfStream kind × (lines.is_awaited ≡ true) × (lines.is_at_end ≡ false))
    ⊎ IsLineRefused lines lines.is_begun (Line n kind)

-- The next line needs more input: nothing that was read is left but its front, and the input hasn't ended.
pub record IsAwaited {R : Type 0} {reads : Ghosts R} (lines : Lines R reads) : Type 0 where
  pub awaited : lines.is_awaited ≡ true
  pub more : lines.is_at_end ≡ false
  pub drained : reader_buffer lines.source ≡ []

-- The effect of advancing to the next line, which may need more input.
pub record GoesOn {R : Type 0} {reads : Ghosts R} (old : Lines R reads) (result : Result Bool Fault)
    (new : Lines R reads) : Type 0 where
  -- it is returned, the first of those that were left; or none is left; or it stays the first
  pub taken : is_given result ≡ true → Took (lines_left old) (lines_left new) (new.line.items ∷ [])
  pub none : is_lacking result ≡ true → IsAllTaken (lines_left new)
  pub kept : is_given result ≡ false → Took (lines_left old) (lines_left new) []
  -- it has a fault, or is one too many, or a stream faulted while it was awaited
  pub stops : IfErr result (IsNextLineFault (lines_left old))
  pub stopped : IfErr result (EndsReading new)
  -- the lines are counted
  pub count : new.given ≡ old.given + (if is_given result then 1 else 0)
  pub closed : is_given result ≡ true → new.is_begun ≡ false
  pub ended : is_lacking result ≡ true → new.is_at_end ≡ true
  -- the line at which a fault is reported
  pub next : IfErr result (IsOfNext old.given (lines_begun new))
  pub reached : IfErr result (IsReached (lines_begun new))
  pub numbered : IfErr result IsNumbered
