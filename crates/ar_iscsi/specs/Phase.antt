-- A phase of a session, PDU by PDU: each is read whole, does what a turn of the phase says, and is answered.
use Rattle.std.specs.Prelude.{◌≡◌, ◌≤◌, ℕ, zero, suc, false, List, Option, Some, None}
use Rattle.ar_frames.specs.Stream.{SourceState, SinkState, Reading, Sending}
use Rattle.ar_frames.specs.declared.transfer.Sent.{Sent}
use Rattle.ar_frames.specs.declared.transfer.Sent.TheVariants.{Whole, Part}
use Rattle.ar_iscsi.specs.declared.digest.Digests.{Digests}
use Rattle.ar_iscsi.specs.declared.receive.ReceiveEnd.{ReceiveEnd}
use Rattle.ar_iscsi.specs.Digest.{IsSentPdu, sent_by}
use Rattle.ar_iscsi.specs.Pdu.{segment_len}
use Rattle.ar_iscsi.specs.Receive.{ReadsNoSentPdu}

-- the longest data segment that is received: the MaxRecvDataSegmentLength that the target declares
abbrev pub most_segment : ℕ
most_segment = 262144

-- the most PDUs of a phase
abbrev pub most_pdus : ℕ
most_pdus = 18446744073709551615

-- What a turn of a phase may be: the header and the data segment of a PDU, the state and the port before, the answer,
-- the state and the port after, and how it leaves the phase.
abbrev pub Turns : Type 0 → Type 0 → Type 0 → Type 1
Turns S P E = List ℕ → List ℕ → S → P → List ℕ → S → P → E → Type 0

-- a moment between two PDUs: the streams, the state, and the port
pub record Place (S P : Type 0) : Type 0 where
  pub source : SourceState
  pub sink : SinkState
  pub spot : S
  pub port : P

-- A whole PDU was read, and nothing after it; it did what a turn says, and the answer was written, whole or up to a
-- write fault.
pub record ServesPdu {S P E : Type 0} (digests : Digests) (turns : Turns S P E) (old new : Place S P) (left : E)
    (sent : Sent) : Type 0 where
  pub header : List ℕ
  pub carried : List ℕ
  pub bytes : List ℕ
  pub out : List ℕ
  pub is_pdu : IsSentPdu digests header carried bytes
  pub within : segment_len header ≤ most_segment
  pub read : Reading old.source new.source bytes false
  pub turn : turns header carried old.spot old.port out new.spot new.port left
  pub sending : Sending old.sink new.sink (sent_by digests out) sent

-- what a step of a phase may be: the moment before, the moment after it, how it leaves the phase, and how far its
-- answer was written
abbrev pub PhaseSteps : Type 0 → Type 0 → Type 0 → Type 1
PhaseSteps S P E = Place S P → Place S P → E → Sent → Type 0

-- these many PDUs were served and answered whole, each from the moment that the one before left; `next` says that a
-- phase goes on
abbrev pub ServesPdus : {S P E : Type 0} → PhaseSteps S P E → E → ℕ → Place S P → Place S P → Type 0
ServesPdus steps next zero old new = new ≡ old
ServesPdus {S = S} {P = P} steps next (suc n) old new =
    (between : Place S P) × ServesPdus steps next n old between × steps between new next Whole

-- no whole PDU was read, for this reason; all else is as it was
pub record IsLeftAlone {S P : Type 0} (digests : Digests) (old new : Place S P) (reason : ReceiveEnd) : Type 0 where
  pub reads : ReadsNoSentPdu digests most_segment old.source new.source reason
  pub sink : new.sink ≡ old.sink
  pub spot : new.spot ≡ old.spot
  pub port : new.port ≡ old.port

-- A whole PDU was read, and memory for its answer ran out: nothing was written. What the port may have done is `may`.
pub record HasNoAnswer {S P : Type 0} (digests : Digests) (may : P → P → Type 0) (old new : Place S P) : Type 0 where
  pub header : List ℕ
  pub carried : List ℕ
  pub bytes : List ℕ
  pub is_pdu : IsSentPdu digests header carried bytes
  pub read : Reading old.source new.source bytes false
  pub sink : new.sink ≡ old.sink
  pub port : may old.port new.port

-- the answer to the last PDU wasn't written whole
pub record IsAnswerLost {S P E : Type 0} (steps : PhaseSteps S P E) (old new : Place S P) : Type 0 where
  pub left : E
  pub count : ℕ
  pub serves : steps old new left (Part count)

-- What a PDU did, once it was read: it did what a turn says, and was answered this far; or memory for the answer ran
-- out, and nothing was written.
pub data AnswersPdu {S P E : Type 0} (digests : Digests) (turns : Turns S P E) (may : P → P
    → Type 0) (header carried : List ℕ) (sink : SinkState) (spot : S) (port : P)
    : Option (E × Sent) → SinkState → S → P → Type 0 where
  turned :
      (left : E) (sent : Sent) (out : List ℕ) (sink' : SinkState) (spot' : S) (port' : P)
      → turns header carried spot port out spot' port' left
      → Sending sink sink' (sent_by digests out) sent
      → AnswersPdu digests turns may header carried sink spot port (Some (left, sent)) sink' spot' port'
  unanswered : (spot' : S) (port' : P) → may port port'
      → AnswersPdu digests turns may header carried sink spot port None sink spot' port'
