-- The full feature phase of a normal session.
use Rattle.std.specs.Prelude.{◌≡◌, ℕ, true, false, List, [], ◌∷◌, Option, Some, None}
use Rattle.ar_frames.specs.Conversation.{Commands}
use Rattle.ar_frames.specs.Port.{CommandRefusals}
use Rattle.ar_target.specs.ResetPort.{UnitResets}
use Rattle.ar_frames.specs.Stream.{SinkState, Reading, Sending}
use Rattle.ar_frames.specs.declared.transfer.Sent.{Sent}
use Rattle.ar_frames.specs.declared.transfer.Sent.TheVariants.{Whole, Part}
use Rattle.ar_iscsi.specs.declared.digest.Digests.{Digests}
use Rattle.ar_iscsi.specs.declared.flow.Flow.{Flow}
use Rattle.ar_iscsi.specs.declared.negotiation.Limits.{Limits}
use Rattle.ar_iscsi.specs.declared.receive.ReceiveEnd.{ReceiveEnd}
use Rattle.ar_iscsi.specs.declared.receive.ReceiveEnd.TheVariants as unread
use Rattle.ar_iscsi.specs.declared.session.FeatureEnd.{FeatureEnd}
use Rattle.ar_iscsi.specs.declared.session.FeatureEnd.TheVariants as end
use Rattle.ar_iscsi.specs.declared.request.InitiatorPdu.{InitiatorPdu}
use Rattle.ar_iscsi.specs.declared.session.PduResult.{PduResult}
use Rattle.ar_iscsi.specs.declared.session.PduResult.TheVariants.{Served, Ended}
use Rattle.ar_iscsi.specs.declared.turn.TurnEnd.{TurnEnd}
use Rattle.ar_iscsi.specs.declared.turn.TurnEnd.TheVariants.{Next, LoggedOut, BrokenData, Rejected, WrongData}
use Rattle.ar_iscsi.specs.declared.waiting_pdu.Early.{Early}
use Rattle.ar_iscsi.specs.declared.waiting_pdu.WaitingPdu.{WaitingPdu}
use Rattle.ar_iscsi.specs.declared.waiting_pdu.WaitingState.{WaitingState}
use Rattle.ar_iscsi.specs.declared.waiting_pdu.WaitingState.TheVariants as state
use Rattle.ar_iscsi.specs.declared.response.TargetPdu.TheVariants as pdu
use Rattle.ar_iscsi.specs.Arrival.{FeatureSpot, ArrivalTurn, MayUse}
use Rattle.ar_iscsi.specs.Digest.{sent_by}
use Rattle.ar_iscsi.specs.Phase.{Place, ServesPdu, ServesPdus, IsLeftAlone, HasNoAnswer, IsAnswerLost, most_pdus}
use Rattle.ar_iscsi.specs.Phase.{most_segment}
use Rattle.ar_iscsi.specs.Receive.{ReadsDamaged}
use Rattle.ar_iscsi.specs.Task.{MayGive}
use Rattle.ar_iscsi.specs.Turn.{Spot, CountsDropped, FeatureTurn, Responds}
use Rattle.ar_iscsi.specs.Flow.{is_open, numbers_of, free_tag, received}
use Rattle.ar_iscsi.specs.Request.{task_tag}
use Rattle.ar_iscsi.specs.Response.{target_pdu}
use Rattle.ar_iscsi.specs.Waiting.{is_next_waiting}

-- what a PDU that waited does, by its state: what its turn says; or it is counted and, as a task management request
-- that was done when it was read, answered by its response
abbrev pub WaitingTurn : {P : Type 0} → Commands P → CommandRefusals P → List ℕ → Limits → WaitingState → Early
    → InitiatorPdu → List ℕ → List ℕ → Spot → P → List ℕ → Spot → P → TurnEnd → Type 0
WaitingTurn commands refuses address limits state.Undone early fields header carried old port out new port' end =
    FeatureTurn commands refuses address limits early fields header carried old port out new port' end
WaitingTurn commands refuses address limits state.Dropped early fields header carried old port out new port' end =
    CountsDropped old out new end × (port' ≡ port)
WaitingTurn commands refuses address limits (state.Answered response) early fields header carried old port out new
    port' end =
    Responds (received old.flow false) (pdu.TaskManagementResponse (task_tag header) response) [] old.bytes out new end
    Next
    × (port' ≡ port)

-- what is taken from those that wait: the oldest, once no data are collected
abbrev pub TakesWaiting : Flow → List WaitingPdu → Option WaitingPdu → List WaitingPdu → Type 0
TakesWaiting flow old None new = (is_next_waiting flow old ≡ false) × (new ≡ old)
TakesWaiting flow old (Some pdu) new = (is_open flow.collecting ≡ true) × (old ≡ pdu ∷ new)

-- the oldest PDU that waited took its turn, once no data are collected, and was answered; nothing was read
pub record ServesWaiting {P : Type 0} (commands : Commands P) (refuses : CommandRefusals P) (address : List ℕ)
    (limits : Limits) (old new : Place FeatureSpot P) (left : TurnEnd) (sent : Sent) : Type 0 where
  pub pdu : WaitingPdu
  pub out : List ℕ
  pub oldest : TakesWaiting old.spot.session.flow old.spot.waiting (Some pdu) new.spot.waiting
  pub turn :
      WaitingTurn commands refuses address limits pdu.state pdu.early pdu.fields pdu.header pdu.carried
      old.spot.session old.port out new.spot.session new.port left
  pub source : new.source ≡ old.source
  pub sending : Sending old.sink new.sink (sent_by limits.digests out) sent

-- none that waits is next, and a PDU was read, did what its turn says, and was answered
pub record ServesArrival {P : Type 0} (commands : Commands P) (refuses : CommandRefusals P) (resets : UnitResets P)
    (address : List ℕ) (limits : Limits) (old new : Place FeatureSpot P) (left : TurnEnd) (sent : Sent) : Type 0 where
  pub none_next : is_next_waiting old.spot.session.flow old.spot.waiting ≡ false
  pub serves : ServesPdu limits.digests (ArrivalTurn commands refuses resets address limits) old new left sent

-- The ping of a silent peer: a NOP-In that wants a NOP-Out with its tag. It has the next StatSN, and doesn't take it
-- (RFC 7143, 11.19.2).
abbrev pub ping_of : Flow → List ℕ
ping_of flow = target_pdu (pdu.Ping (free_tag flow)) (numbers_of flow) []

-- none that waits is next, a read faulted before the first byte of a PDU, and a ping was written, whole or up to a
-- write fault; all else is as it was
pub record PingsPeer {P : Type 0} (digests : Digests) (old new : Place FeatureSpot P) (left : TurnEnd) (sent : Sent)
    : Type 0 where
  pub none_next : is_next_waiting old.spot.session.flow old.spot.waiting ≡ false
  pub read : Reading old.source new.source [] true
  pub spot : new.spot ≡ old.spot
  pub port : new.port ≡ old.port
  pub left_is : left ≡ Next
  pub sending : Sending old.sink new.sink (sent_by digests (ping_of old.spot.session.flow)) sent

-- A PDU with this header, whose data digest is wrong, is rejected: the Reject has reason 02h, Data (payload) Digest
-- Error, and the header, and takes a StatSN. The PDU does nothing and isn't counted (RFC 7143, 7.8 and 11.17.1).
pub record RejectsDamaged (digests : Digests) (header : List ℕ) (old : FeatureSpot) (sink : SinkState)
    (new : FeatureSpot) (sink' : SinkState) (left : TurnEnd) (sent : Sent) : Type 0 where
  pub out : List ℕ
  pub rejects :
      Responds old.session.flow (pdu.Reject 0x02) header old.session.bytes out new.session left WrongData
  pub waiting_same : new.waiting ≡ old.waiting
  pub sending : Sending sink sink' (sent_by digests out) sent

-- none that waits is next, and such a PDU was read and rejected
pub record ServesDamaged {P : Type 0} (digests : Digests) (old new : Place FeatureSpot P) (left : TurnEnd) (sent : Sent)
    : Type 0 where
  pub header : List ℕ
  pub none_next : is_next_waiting old.spot.session.flow old.spot.waiting ≡ false
  pub reads : ReadsDamaged digests most_segment old.source new.source header
  pub rejects : RejectsDamaged digests header old.spot old.sink new.spot new.sink left sent
  pub port : new.port ≡ old.port

-- a step of the phase
pub data FeatureStep {P : Type 0} (commands : Commands P) (refuses : CommandRefusals P) (resets : UnitResets P)
    (address : List ℕ) (limits : Limits) (old new : Place FeatureSpot P) (left : TurnEnd) (sent : Sent) : Type 0 where
  of_waiting : ServesWaiting commands refuses address limits old new left sent
      → FeatureStep commands refuses resets address limits old new left sent
  of_arrival : ServesArrival commands refuses resets address limits old new left sent
      → FeatureStep commands refuses resets address limits old new left sent
  of_damage : ServesDamaged limits.digests old new left sent
      → FeatureStep commands refuses resets address limits old new left sent
  of_silence : PingsPeer limits.digests old new left sent
      → FeatureStep commands refuses resets address limits old new left sent

-- memory for the answer to a PDU that was read, or waited, ran out: nothing was written, and the port was given at most
-- one command, or units were reset
pub data LacksAnswer {P : Type 0} (commands : Commands P) (resets : UnitResets P) (digests : Digests)
    (old new : Place FeatureSpot P) : Type 0 where
  read_lacks : HasNoAnswer digests (MayUse commands resets) old new → LacksAnswer commands resets digests old new
  damaged_lacks :
      (header : List ℕ) → ReadsDamaged digests most_segment old.source new.source header → new.sink ≡ old.sink
      → new.port ≡ old.port → LacksAnswer commands resets digests old new
  waiting_lacks :
      new.source ≡ old.source → new.sink ≡ old.sink → MayGive commands old.port new.port
      → LacksAnswer commands resets digests old new

-- when each end comes, after `count` PDUs and pings, from the last moment between two of them
abbrev pub EndsFeature : {P : Type 0} → Commands P → CommandRefusals P → UnitResets P → List ℕ → Limits → ℕ
    → Place FeatureSpot P → FeatureEnd → Place FeatureSpot P → Type 0
EndsFeature commands refuses resets address limits count old (end.Unread reason) new =
    IsLeftAlone limits.digests old new reason
EndsFeature commands refuses resets address limits count old end.Write new =
    IsAnswerLost (FeatureStep commands refuses resets address limits) old new
EndsFeature commands refuses resets address limits count old end.LoggedOut new =
    FeatureStep commands refuses resets address limits old new LoggedOut Whole
EndsFeature commands refuses resets address limits count old end.BrokenData new =
    FeatureStep commands refuses resets address limits old new BrokenData Whole
EndsFeature commands refuses resets address limits count old end.Rejected new =
    FeatureStep commands refuses resets address limits old new Rejected Whole
-- at ErrorRecoveryLevel 0 the session ends after the Reject (RFC 7143, 7.8)
EndsFeature commands refuses resets address limits count old end.WrongData new =
    FeatureStep commands refuses resets address limits old new WrongData Whole
EndsFeature commands refuses resets address limits count old end.NoMemory new =
    LacksAnswer commands resets limits.digests old new
EndsFeature commands refuses resets address limits count old end.Bound new = (count ≡ most_pdus) × (new ≡ old)

-- one more PDU was served, or a ping sent, or the phase has ended, after however many of them
abbrev pub NextIsServed : {P : Type 0} → Commands P → CommandRefusals P → UnitResets P → List ℕ → Limits
    → Place FeatureSpot P → PduResult → Place FeatureSpot P → Type 0
NextIsServed commands refuses resets address limits old Served new =
    FeatureStep commands refuses resets address limits old new Next Whole
NextIsServed commands refuses resets address limits old (Ended reason) new =
    (count : ℕ) → EndsFeature commands refuses resets address limits count old reason new

-- what becomes of the session after a turn whose answer was written this far
abbrev pub result_of_turn : TurnEnd → Sent → PduResult
result_of_turn turned (Part n) = Ended end.Write
result_of_turn Next Whole = Served
result_of_turn LoggedOut Whole = Ended end.LoggedOut
result_of_turn BrokenData Whole = Ended end.BrokenData
result_of_turn Rejected Whole = Ended end.Rejected
result_of_turn WrongData Whole = Ended end.WrongData

-- the same, or memory for the answer ran out
abbrev pub result_of_answer : Option (TurnEnd × Sent) → PduResult
result_of_answer None = Ended end.NoMemory
result_of_answer (Some answered) = result_of_turn answered.0 answered.1

-- what was done where no PDU was read, for this reason: nothing, or a ping was written where that may be
abbrev pub MayPing : Digests → Flow → ReceiveEnd → SinkState → Option Sent → SinkState → Type 0
MayPing digests flow reason old None new = new ≡ old
MayPing digests flow reason old (Some sent) new =
    (reason ≡ unread.Idle) × Sending old new (sent_by digests (ping_of flow)) sent

-- what becomes of the session after that
abbrev pub result_of_ping : ReceiveEnd → Option Sent → PduResult
result_of_ping reason None = Ended (end.Unread reason)
result_of_ping reason (Some sent) = result_of_turn Next sent

-- A full feature phase: PDUs were served in order, each did what its turn says and was answered, with pings between
-- them, and then its end came.
pub record RunsFeature {P : Type 0} (commands : Commands P) (refuses : CommandRefusals P) (resets : UnitResets P)
    (address : List ℕ) (limits : Limits) (old : Place FeatureSpot P) (reason : FeatureEnd) (new : Place FeatureSpot P)
    : Type 0 where
  pub count : ℕ
  pub between : Place FeatureSpot P
  pub served : ServesPdus (FeatureStep commands refuses resets address limits) Next count old between
  pub ends : EndsFeature commands refuses resets address limits count between reason new
