-- Streams, as contracts see them: the bytes, if the stream reports them, and the number of faults.
use Rattle.std.specs.Prelude.{◌≡◌, ℕ, ◌<◌, Bool, true, false, if◌then◌else◌, List, [], length, take, Option, Some, None}
use Rattle.std.specs.Prelude.{⊤}
use Rattle.std.specs.Io.KnownBytes.{Consumes, Appends, IsAtEnd}
use Rattle.ar_disks.specs.Disk.{counted}
use Rattle.ar_frames.specs.declared.transfer.FillResult.{FillResult}
use Rattle.ar_frames.specs.declared.transfer.FillResult.TheVariants.{Full, Ended, Failed}
use Rattle.ar_frames.specs.declared.hold.Passed.{Passed}
use Rattle.ar_frames.specs.declared.hold.Passed.TheVariants.{All, Ended as PassEnded, Failed as PassFailed}
use Rattle.ar_frames.specs.declared.hold.BufferResult.{BufferResult}
use Rattle.ar_frames.specs.declared.hold.BufferResult.TheVariants.{Kept, Refused, Lost, Ended as HoldEnded}
use Rattle.ar_frames.specs.declared.hold.BufferResult.TheVariants.{Failed as HoldFailed}
use Rattle.ar_frames.specs.declared.hold.Fetched.{Fetched}
use Rattle.ar_frames.specs.declared.hold.Fetched.TheVariants.{Kept as FetchKept, Lost as FetchLost, Ended as FetchEnded}
use Rattle.ar_frames.specs.declared.hold.Fetched.TheVariants.{Failed as FetchFailed}
use Rattle.ar_frames.specs.declared.transfer.Sent.{Sent}
use Rattle.ar_frames.specs.declared.transfer.Sent.TheVariants.{Whole, Part}

-- a stream to read from: the bytes that are left, if it reports them, and the number of its faults
pub record SourceState : Type 0 where
  pub left : Option (List ℕ)
  pub faults : ℕ

-- a stream to write to: the bytes that were written, if it reports them, and the number of its faults
pub record SinkState : Type 0 where
  pub taken : Option (List ℕ)
  pub faults : ℕ

-- the bytes that a call transferred: the first of a piece, or none at a fault
abbrev pub moved : Option ℕ → List ℕ → List ℕ
moved None piece = []
moved (Some n) piece = take n piece

-- the number of faults after calls of which the last one faulted, or none
abbrev pub faults_after : Bool → ℕ → ℕ
faults_after faulted faults = if faulted then counted faults else faults

-- reads returned these bytes, and the last of them faulted, or none
pub record Reading (old new : SourceState) (bytes : List ℕ) (faulted : Bool) : Type 0 where
  pub given : Consumes old.left new.left bytes
  pub faults : new.faults ≡ faults_after faulted old.faults

-- writes took these bytes, and the last of them faulted, or none
pub record Writing (old new : SinkState) (bytes : List ℕ) (faulted : Bool) : Type 0 where
  pub took : Appends old.taken new.taken bytes
  pub faults : new.faults ≡ faults_after faulted old.faults

-- the part of a buffer that was filled
abbrev pub filled_bytes : FillResult → List ℕ → List ℕ
filled_bytes Full piece = piece
filled_bytes (Ended n) piece = take n piece
filled_bytes (Failed n) piece = take n piece

-- a read faulted
abbrev pub is_failed : FillResult → Bool
is_failed Full = false
is_failed (Ended n) = false
is_failed (Failed n) = true

-- unless the buffer is full, fewer bytes were read than it has; at the end of input, none is left
abbrev pub StopsShort : FillResult → ℕ → Option (List ℕ) → Type 0
StopsShort Full wanted left = ⊤
StopsShort (Ended n) wanted left = (n < wanted) × IsAtEnd left
StopsShort (Failed n) wanted left = n < wanted

-- a buffer was filled, whole or up to a read fault or the end of input
pub record Filling (old new : SourceState) (piece : List ℕ) (filled : FillResult) : Type 0 where
  pub read : Reading old new (filled_bytes filled piece) (is_failed filled)
  pub stops : StopsShort filled (length piece) new.left

-- `wanted` bytes were read
pub record CameAll (old new : SourceState) (wanted : ℕ) : Type 0 where
  pub bytes : List ℕ
  pub len : length bytes ≡ wanted
  pub read : Reading old new bytes false

-- fewer than `wanted` bytes were read, and then a read faulted, or none
pub record CamePart (old new : SourceState) (wanted : ℕ) (faulted : Bool) : Type 0 where
  pub bytes : List ℕ
  pub short : length bytes < wanted
  pub read : Reading old new bytes faulted

-- bytes were read and discarded, by the result
abbrev pub Passes : SourceState → SourceState → ℕ → Passed → Type 0
Passes old new wanted All = CameAll old new wanted
Passes old new wanted PassEnded = CamePart old new wanted false × IsAtEnd new.left
Passes old new wanted PassFailed = CamePart old new wanted true

-- bytes are shared, or the allocation for sharing them failed
abbrev pub Shares : List ℕ → BufferResult → Type 0
Shares bytes (Kept shared) = shared ≡ bytes
Shares bytes Refused = ⊥
Shares bytes Lost = ⊤
Shares bytes HoldEnded = ⊥
Shares bytes HoldFailed = ⊥

-- bytes were read into a buffer of their own; its allocation may fail before any is read, or the one for sharing after
-- all are
abbrev pub Buffers : SourceState → SourceState → ℕ → BufferResult → Type 0
Buffers old new wanted (Kept bytes) = (length bytes ≡ wanted) × Reading old new bytes false
Buffers old new wanted Refused = (0 < wanted) × (new ≡ old)
Buffers old new wanted Lost = (0 < wanted) × CameAll old new wanted
Buffers old new wanted HoldEnded = CamePart old new wanted false × IsAtEnd new.left
Buffers old new wanted HoldFailed = CamePart old new wanted true

-- the same, but the bytes are discarded if their buffer can't be allocated
abbrev pub Fetches : SourceState → SourceState → ℕ → Fetched → Type 0
Fetches old new wanted (FetchKept bytes) = (length bytes ≡ wanted) × Reading old new bytes false
Fetches old new wanted FetchLost = (0 < wanted) × CameAll old new wanted
Fetches old new wanted FetchEnded = CamePart old new wanted false × IsAtEnd new.left
Fetches old new wanted FetchFailed = CamePart old new wanted true

-- the part of a buffer that was written
abbrev pub sent_bytes : Sent → List ℕ → List ℕ
sent_bytes Whole piece = piece
sent_bytes (Part n) piece = take n piece

-- a write faulted
abbrev pub is_part : Sent → Bool
is_part Whole = false
is_part (Part n) = true

-- at a write fault, what was written is a proper prefix
abbrev pub IsProper : Sent → ℕ → Type 0
IsProper Whole wanted = ⊤
IsProper (Part n) wanted = n < wanted

-- a buffer was written, whole or up to a write fault
pub record Sending (old new : SinkState) (piece : List ℕ) (sent : Sent) : Type 0 where
  pub written : Writing old new (sent_bytes sent piece) (is_part sent)
  pub proper : IsProper sent (length piece)
