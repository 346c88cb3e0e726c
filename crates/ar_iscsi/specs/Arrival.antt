-- A PDU of the full feature phase that was read: it waits while the data of a WRITE before it are collected, and is
-- done otherwise (RFC 7143, 4.2.2.1 and 11.5). A task management request is done at once, and its answer waits.
use Rattle.std.specs.Prelude.{◌≡◌, ℕ, Bool, List, [], ◌∷◌, ◌++◌, length, map, MatchBool, Option}
use Rattle.std.specs.List.{list_any}
use Rattle.ar_frames.specs.Conversation.{Commands}
use Rattle.ar_frames.specs.Port.{CommandRefusals}
use Rattle.ar_target.specs.declared.reset_port.ResetOutcome.{ResetOutcome}
use Rattle.ar_target.specs.ResetPort.{UnitResets}
use Rattle.ar_iscsi.specs.declared.negotiation.Limits.{Limits}
use Rattle.ar_iscsi.specs.declared.request.DataOut.{DataOut}
use Rattle.ar_iscsi.specs.declared.request.InitiatorPdu.{InitiatorPdu}
use Rattle.ar_iscsi.specs.declared.request.InitiatorPdu.TheVariants as asks
use Rattle.ar_iscsi.specs.declared.request.TaskManagement.{TaskManagement}
use Rattle.ar_iscsi.specs.declared.response.TargetPdu.TheVariants as pdu
use Rattle.ar_iscsi.specs.declared.turn.TurnEnd.{TurnEnd}
use Rattle.ar_iscsi.specs.declared.turn.TurnEnd.TheVariants.{Next, BrokenData}
use Rattle.ar_iscsi.specs.declared.waiting_pdu.WaitingPdu.{WaitingPdu}
use Rattle.ar_iscsi.specs.declared.waiting_pdu.WaitingState.TheVariants as state
use Rattle.ar_iscsi.specs.Early.{is_early, breaks_early, gathered_by}
use Rattle.ar_iscsi.specs.Flow.{is_accepted, received}
use Rattle.ar_iscsi.specs.Management.{ResetsAtPort, managed_by, managed_bytes, managed_flow, means_one, response_to}
use Rattle.ar_iscsi.specs.Request.{initiator_pdu}
use Rattle.ar_iscsi.specs.Task.{MayGive}
use Rattle.ar_iscsi.specs.Turn.{Spot, FeatureTurn, StaysSilent, Responds}
use Rattle.ar_iscsi.specs.Waiting.{waits, kept, no_early}

-- where a full feature phase is: between two turns, with the PDUs that wait, the oldest first
pub record FeatureSpot : Type 0 where
  pub session : Spot
  pub waiting : List WaitingPdu

-- the same at a PDU, with the answer so far
pub record FeatureWork : Type 0 where
  pub spot : FeatureSpot
  pub out : List ℕ

-- a PDU is kept after those that wait, and not answered
pub record KeepsPdu {P : Type 0} (header carried : List ℕ) (fields : InitiatorPdu) (old : FeatureSpot) (port : P)
    (out : List ℕ) (new : FeatureSpot) (port' : P) (end : TurnEnd) : Type 0 where
  pub silent : StaysSilent old.session out new.session end
  pub appended : new.waiting ≡ old.waiting ++ kept header fields carried state.Undone ∷ []
  pub port_same : port' ≡ port

-- a PDU takes its turn at once, and leaves those that wait as they are
pub record TurnsAtOnce {P : Type 0} (commands : Commands P) (refuses : CommandRefusals P) (address : List ℕ)
    (limits : Limits) (header carried : List ℕ) (fields : InitiatorPdu) (old : FeatureSpot) (port : P) (out : List ℕ)
    (new : FeatureSpot) (port' : P) (end : TurnEnd) : Type 0 where
  pub turn :
      FeatureTurn commands refuses address limits no_early fields header carried old.session port out new.session port'
      end
  pub waiting_same : new.waiting ≡ old.waiting

-- A task management request is done: the commands that it means are dropped, those that wait and the WRITE whose data
-- are collected; units are reset at the port; and this is its response.
pub record ManagesTasks {P : Type 0} (resets : UnitResets P) (request : TaskManagement) (old : FeatureSpot) (port : P)
    (new : FeatureSpot) (port' : P) (response : ℕ) : Type 0 where
  pub flow : new.session.flow ≡ managed_flow request old.session.flow
  pub bytes : new.session.bytes ≡ managed_bytes request old.session.flow old.session.bytes
  pub waiting : new.waiting ≡ map (managed_by request) old.waiting
  pub outcome : ResetOutcome
  pub reset : ResetsAtPort resets request port outcome port'
  pub response_is : response ≡ response_to request (means_one request old.session.flow old.waiting) outcome

-- it is done, and its response is sent
pub record AnswersNow {P : Type 0} (resets : UnitResets P) (request : TaskManagement) (old : FeatureSpot) (port : P)
    (out : List ℕ) (new : FeatureSpot) (port' : P) (end : TurnEnd) : Type 0 where
  pub managed : FeatureSpot
  pub response : ℕ
  pub manages : ManagesTasks resets request old port managed port' response
  pub responds :
      Responds (received managed.session.flow request.immediate)
      (pdu.TaskManagementResponse request.task_tag response) [] managed.session.bytes out new.session end Next
  pub waiting_same : new.waiting ≡ managed.waiting

-- it is done, and its response is kept after those that wait: it has to be counted in CmdSN's order
pub record AnswersLater {P : Type 0} (resets : UnitResets P) (header carried : List ℕ) (request : TaskManagement)
    (old : FeatureSpot) (port : P) (out : List ℕ) (new : FeatureSpot) (port' : P) (end : TurnEnd) : Type 0 where
  pub managed : FeatureSpot
  pub response : ℕ
  pub manages : ManagesTasks resets request old port managed port' response
  pub silent : StaysSilent managed.session out new.session end
  pub appended :
      new.waiting ≡ managed.waiting
      ++ kept header (asks.TaskManagement request) carried (state.Answered response) ∷ []

-- nothing is done, and nothing is answered
pub record IsIgnored {P : Type 0} (old : FeatureSpot) (port : P) (out : List ℕ) (new : FeatureSpot) (port' : P)
    (end : TurnEnd) : Type 0 where
  pub silent : StaysSilent old.session out new.session end
  pub waiting_same : new.waiting ≡ old.waiting
  pub port_same : port' ≡ port

-- a task management request that was read: `waits` says that it is the next in CmdSN's order after those that wait
abbrev pub ManagementTurn : {P : Type 0} → UnitResets P → List ℕ → List ℕ → TaskManagement → Bool → FeatureSpot → P
    → List ℕ → FeatureSpot → P → TurnEnd → Type 0
ManagementTurn resets header carried request waits old port out new port' end =
    MatchBool waits (AnswersLater resets header carried request old port out new port' end)
    (MatchBool (is_accepted old.session.flow request.immediate request.cmd_sn)
    (AnswersNow resets request old port out new port' end) (IsIgnored old port out new port' end))

-- unsolicited data of a WRITE that waits are kept with it; if they aren't the next ones, the session ends, as at those
-- of a WRITE whose turn it is
abbrev pub EarlyEnd : Limits → DataOut → List ℕ → List WaitingPdu → List WaitingPdu → TurnEnd → Type 0
EarlyEnd limits data_out carried old new end =
    MatchBool (list_any (breaks_early limits data_out (length carried)) old) ((new ≡ old) × (end ≡ BrokenData))
    ((new ≡ map (gathered_by limits data_out carried) old) × (end ≡ Next))

-- unsolicited data came of a WRITE that waits; they aren't answered
pub record EarlyTurn {P : Type 0} (limits : Limits) (data_out : DataOut) (carried : List ℕ) (old : FeatureSpot)
    (port : P) (out : List ℕ) (new : FeatureSpot) (port' : P) (end : TurnEnd) : Type 0 where
  pub silent : out ≡ []
  pub session_same : new.session ≡ old.session
  pub ends : EarlyEnd limits data_out carried old.waiting new.waiting end
  pub port_same : port' ≡ port

-- the same of any PDU
abbrev pub ArrivalFor : {P : Type 0} → Commands P → CommandRefusals P → UnitResets P → List ℕ → Limits → List ℕ → List ℕ
    → InitiatorPdu → Bool → FeatureSpot → P → List ℕ → FeatureSpot → P → TurnEnd → Type 0
ArrivalFor commands refuses resets address limits header carried (asks.TaskManagement request) waits old port out new
    port' end =
    ManagementTurn resets header carried request waits old port out new port' end
-- data of a WRITE that waits come before its turn, since an initiator sends unsolicited data without regard to others'
-- R2Ts (RFC 7143, 4.2.5.2)
ArrivalFor commands refuses resets address limits header carried (asks.DataOut data_out) waits old port out new port'
    end =
    MatchBool (list_any (is_early limits data_out (length carried)) old.waiting)
    (EarlyTurn limits data_out carried old port out new port' end)
    (TurnsAtOnce commands refuses address limits header carried (asks.DataOut data_out) old port out new port' end)
ArrivalFor commands refuses resets address limits header carried other waits old port out new port' end =
    MatchBool waits (KeepsPdu header carried other old port out new port' end)
    (TurnsAtOnce commands refuses address limits header carried other old port out new port' end)

-- a PDU that was read
abbrev pub ArrivalTurn : {P : Type 0} → Commands P → CommandRefusals P → UnitResets P → List ℕ → Limits → List ℕ
    → List ℕ → FeatureSpot → P → List ℕ → FeatureSpot → P → TurnEnd → Type 0
ArrivalTurn commands refuses resets address limits header carried old port out new port' end =
    ArrivalFor commands refuses resets address limits header carried (initiator_pdu header)
    (waits old.session.flow (length old.waiting) (initiator_pdu header)) old port out new port' end

-- at most one command was given to the port, or units were reset once
pub data MayUse {P : Type 0} (commands : Commands P) (resets : UnitResets P) (old new : P) : Type 0 where
  may_give : MayGive commands old new → MayUse commands resets old new
  has_reset : (lun : Option ℕ) (outcome : ResetOutcome) → resets old lun outcome new → MayUse commands resets old new
