-- Lines of a stream, byte by byte.
use Rattle.std.specs.Prelude.{◌≡◌, ◌≢◌, ℕ, Bool, true, false, List, [], ◌∷◌, ◌++◌, length, Option, None}
use Rattle.std.specs.Io.KnownBytes.{IsAtEnd, prepend_known}
use Rattle.ar_frames.specs.Stream.{SourceState, Reading}
use Rattle.ar_language.specs.Lines.{HasNoEnd, line_fault}
use Rattle.ar_language.specs.declared.fault.FaultKind.{FaultKind}
use Rattle.ar_conversation.specs.declared.input.Next.{Next}
use Rattle.ar_conversation.specs.declared.input.Next.TheVariants.{Byte, End, Fault}
use Rattle.ar_conversation.specs.declared.input.Ready.{Ready}
use Rattle.ar_conversation.specs.declared.input.Ready.TheVariants as ready
use Rattle.ar_conversation.specs.declared.input.LineRead.{LineRead}
use Rattle.ar_conversation.specs.declared.input.LineRead.TheVariants as line_read

-- a stream with bytes before it that were read and not taken yet
abbrev pub seen_behind : List ℕ → SourceState → SourceState
seen_behind piece source = record { left = prepend_known piece source.left; faults = source.faults }

-- the next byte of a stream, or why there is none
abbrev pub ByteIsRead : SourceState → Next → SourceState → Type 0
ByteIsRead old (Byte byte) new = Reading old new (byte ∷ []) false
ByteIsRead old End new = Reading old new [] false × IsAtEnd new.left
ByteIsRead old Fault new = Reading old new [] true

-- a piece has a byte, or there is none
abbrev pub HasNextByte : SourceState → Ready → List ℕ → SourceState → Type 0
HasNextByte old ready.Some piece new = Reading old new [] false × (piece ≢ [])
HasNextByte old ready.End piece new = Reading old new [] false × IsAtEnd new.left
HasNextByte old ready.Fault piece new = Reading old new [] true

-- a line was read, with its LF
pub record TakesLine (old new : SourceState) (line : List ℕ) : Type 0 where
  pub one : HasNoEnd line
  pub read : Reading old new (line ++ 10 ∷ []) false

-- the input ended in a line
pub record EndsInLine (old new : SourceState) : Type 0 where
  pub part : List ℕ
  pub one : HasNoEnd part
  pub some : part ≢ []
  pub read : Reading old new part false
  pub ends : IsAtEnd new.left

-- a part of a line was read, and then a read faulted, or none
pub record TakesPart (old new : SourceState) (faulted : Bool) : Type 0 where
  pub part : List ℕ
  pub one : HasNoEnd part
  pub read : Reading old new part faulted

-- what is kept of a line's bytes: their fault, or all of them
pub record KeepsLine (line text : List ℕ) (fault : Option FaultKind) : Type 0 where
  pub fault_is : line_fault line ≡ fault
  pub text_is : fault ≡ None → text ≡ line

-- a line was read, and this is kept of it
pub record LineIsRead (old : SourceState) (text : List ℕ) (fault : Option FaultKind) (new : SourceState) : Type 0 where
  pub line : List ℕ
  pub takes : TakesLine old new line
  pub tells : KeepsLine line text fault

-- what was read where a line may begin, and what is kept of a line
abbrev pub LineReadIs : SourceState → LineRead → List ℕ → Option FaultKind → SourceState → Type 0
LineReadIs old line_read.Line text fault new = LineIsRead old text fault new
LineReadIs old line_read.End text fault new = Reading old new [] false × IsAtEnd new.left
LineReadIs old line_read.Cut text fault new = EndsInLine old new
LineReadIs old line_read.Fault text fault new = TakesPart old new true
LineReadIs old line_read.Endless text fault new = TakesPart old new false

-- the bytes of a line so far
pub record LineSoFar (old : SourceState) (text : List ℕ) (fault : Option FaultKind) (count : ℕ) (new : SourceState)
    : Type 0 where
  pub line : List ℕ
  pub one : HasNoEnd line
  pub count_is : length line ≡ count
  pub read : Reading old new line false
  pub tells : KeepsLine line text fault
