-- A PDU is received: what was read, and where reading stopped.
use Rattle.std.specs.Prelude.{◌≡◌, ◌<◌, ◌≤◌, ℕ, Bool, true, false, List, [], ◌++◌, length, take, Option, ⊤, MatchBool}
use Rattle.std.specs.Io.KnownBytes.{IsAtEnd}
use Rattle.ar_frames.specs.Stream.{SourceState, Reading, Filling}
use Rattle.ar_frames.specs.declared.transfer.FillResult.{FillResult}
use Rattle.ar_iscsi.specs.declared.digest.Digests.{Digests}
use Rattle.ar_iscsi.specs.declared.receive.ReceiveEnd.{ReceiveEnd}
use Rattle.ar_iscsi.specs.declared.receive.ReceiveEnd.TheVariants as end
use Rattle.ar_iscsi.specs.declared.receive.Received.{Received}
use Rattle.ar_iscsi.specs.declared.receive.Received.TheVariants.{Pdu, Damaged, Nothing}
use Rattle.ar_iscsi.specs.Digest.{HasWrongHeader, IsDamagedPdu, IsDigestedPdu, IsSentPdu, is_plain}
use Rattle.ar_iscsi.specs.Pdu.{IsPdu, segment_len, rest_len}

-- `wanted` bytes are read and dropped, as far as they come
pub record ComesUnkept (old new : SourceState) (wanted : ℕ) (result : FillResult) : Type 0 where
  pub piece : List ℕ
  pub piece_is : length piece ≡ wanted
  pub comes : Filling old new piece result

-- an incomplete PDU: fewer bytes than a header has, or fewer than a header says, with a data segment within `limit`
pub data IsCutPdu (limit : ℕ) : List ℕ → Type 0 where
  in_header : (bytes : List ℕ) → length bytes < 48 → IsCutPdu limit bytes
  after_header :
      (header rest : List ℕ) → length header ≡ 48 → segment_len header ≤ limit → length rest < rest_len header
      → IsCutPdu limit (header ++ rest)

-- when each end comes, by the bytes that were read since the last PDU
abbrev pub StopsPdu : ReceiveEnd → ℕ → List ℕ → Type 0
-- input ended between two PDUs
StopsPdu end.End limit bytes = bytes ≡ []
-- input ended inside a PDU
StopsPdu end.Cut limit bytes = IsCutPdu limit bytes × (0 < length bytes)
-- a read faulted between two PDUs
StopsPdu end.Idle limit bytes = bytes ≡ []
-- a read faulted inside a PDU
StopsPdu end.Read limit bytes = IsCutPdu limit bytes × (0 < length bytes)
-- a header was read whose data segment is longer than `limit`, and nothing after it
StopsPdu (end.TooLong n) limit bytes = (length bytes ≡ 48) × (segment_len bytes ≡ n) × (limit < n)
-- (there are no digests)
StopsPdu end.WrongHeader limit bytes = ⊥

-- a read faulted
abbrev pub is_end_by_fault : ReceiveEnd → Bool
is_end_by_fault end.End = false
is_end_by_fault end.Cut = false
is_end_by_fault end.Idle = true
is_end_by_fault end.Read = true
is_end_by_fault (end.TooLong n) = false
is_end_by_fault end.WrongHeader = false

-- an end of input is reported only if no input is left
abbrev pub IsInputLeft : ReceiveEnd → Option (List ℕ) → Type 0
IsInputLeft end.End left = IsAtEnd left
IsInputLeft end.Cut left = IsAtEnd left
IsInputLeft end.Idle left = ⊤
IsInputLeft end.Read left = ⊤
IsInputLeft (end.TooLong n) left = ⊤
IsInputLeft end.WrongHeader left = ⊤

-- a PDU with this header was read after its first bytes `base`; its data segment is in front in the buffer
pub record ReadsPdu (base : List ℕ) (limit : ℕ) (old new : SourceState) (header buffer : List ℕ) : Type 0 where
  pub rest : List ℕ
  pub is_pdu : IsPdu header (take (segment_len header) buffer) (base ++ rest)
  pub within : segment_len header ≤ limit
  pub read : Reading old new rest false

-- no whole PDU was read after `base`, for this reason
pub record ReadsNoPdu (base : List ℕ) (limit : ℕ) (old new : SourceState) (reason : ReceiveEnd) : Type 0 where
  pub rest : List ℕ
  pub stops : StopsPdu reason limit (base ++ rest)
  pub read : Reading old new rest (is_end_by_fault reason)
  pub ended : IsInputLeft reason new.left

-- what was received after the first bytes `base` of a PDU, into a buffer of `limit` bytes
abbrev pub ReceivesPdu : List ℕ → ℕ → SourceState → SourceState → List ℕ → Received → Type 0
ReceivesPdu base limit old new buffer (Pdu header) = ReadsPdu base limit old new header buffer
-- (there are no digests)
ReceivesPdu base limit old new buffer (Damaged header) = ⊥
ReceivesPdu base limit old new buffer (Nothing reason) = ReadsNoPdu base limit old new reason

-- When each end comes in a session with digests, by the bytes that were read since the last PDU. Which part of a PDU is
-- lacking isn't specified.
abbrev pub StopsDigested : Digests → ReceiveEnd → ℕ → List ℕ → Type 0
StopsDigested digests end.End limit bytes = bytes ≡ []
StopsDigested digests end.Cut limit bytes = 0 < length bytes
StopsDigested digests end.Idle limit bytes = bytes ≡ []
StopsDigested digests end.Read limit bytes = 0 < length bytes
StopsDigested digests (end.TooLong n) limit bytes = (length bytes ≡ 48) × (segment_len bytes ≡ n) × (limit < n)
-- the digest of a header is wrong (RFC 7143, 7.8)
StopsDigested digests end.WrongHeader limit bytes = HasWrongHeader digests bytes

-- the same in any session
abbrev pub StopsSent : Digests → ReceiveEnd → ℕ → List ℕ → Type 0
StopsSent digests reason limit bytes =
    MatchBool (is_plain digests) (StopsPdu reason limit bytes) (StopsDigested digests reason limit bytes)

-- a PDU with this header was read, with the digests that were agreed on; its data segment is in front in the buffer
pub record ReadsSentPdu (digests : Digests) (limit : ℕ) (old new : SourceState) (header buffer : List ℕ)
    : Type 0 where
  pub bytes : List ℕ
  pub is_pdu : IsSentPdu digests header (take (segment_len header) buffer) bytes
  pub within : segment_len header ≤ limit
  pub read : Reading old new bytes false

-- no whole PDU was read, for this reason
pub record ReadsNoSentPdu (digests : Digests) (limit : ℕ) (old new : SourceState) (reason : ReceiveEnd)
    : Type 0 where
  pub bytes : List ℕ
  pub stops : StopsSent digests reason limit bytes
  pub read : Reading old new bytes (is_end_by_fault reason)
  pub ended : IsInputLeft reason new.left

-- a PDU with this header was read to its end, and its data digest is wrong
pub record ReadsDamaged (digests : Digests) (limit : ℕ) (old new : SourceState) (header : List ℕ) : Type 0 where
  pub bytes : List ℕ
  pub is_damaged : IsDamagedPdu digests header bytes
  pub within : segment_len header ≤ limit
  pub read : Reading old new bytes false

-- what was received, into a buffer of `limit` bytes
abbrev pub ReceivesSent : Digests → ℕ → SourceState → SourceState → List ℕ → Received → Type 0
ReceivesSent digests limit old new buffer (Pdu header) = ReadsSentPdu digests limit old new header buffer
ReceivesSent digests limit old new buffer (Damaged header) = ReadsDamaged digests limit old new header
ReceivesSent digests limit old new buffer (Nothing reason) = ReadsNoSentPdu digests limit old new reason

-- the same in a session with digests, after the first bytes `base` of a PDU
abbrev pub ReceivesDigested : Digests → List ℕ → ℕ → SourceState → SourceState → List ℕ → Received → Type 0
ReceivesDigested digests base limit old new buffer (Pdu header) =
    (rest : List ℕ) × IsDigestedPdu digests header (take (segment_len header) buffer) (base ++ rest)
    × (segment_len header ≤ limit) × Reading old new rest false
ReceivesDigested digests base limit old new buffer (Damaged header) =
    (rest : List ℕ) × IsDamagedPdu digests header (base ++ rest) × (segment_len header ≤ limit)
    × Reading old new rest false
ReceivesDigested digests base limit old new buffer (Nothing reason) =
    (rest : List ℕ) × StopsDigested digests reason limit (base ++ rest)
    × Reading old new rest (is_end_by_fault reason) × IsInputLeft reason new.left
