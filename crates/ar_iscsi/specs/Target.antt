-- A whole session with a target: its login, and its full feature phase.
use Rattle.std.specs.Prelude.{◌≡◌, ℕ, List, [], Option, Some, None}
use Rattle.ar_scsi.specs.Reply.{check}
use Rattle.ar_scsi.specs.Sense.{logical_unit_not_supported}
use Rattle.ar_frames.specs.Conversation.{Commands}
use Rattle.ar_target.specs.declared.reset_port.ResetOutcome.TheVariants.{NoUnit}
use Rattle.ar_target.specs.ResetPort.{UnitResets}
use Rattle.ar_frames.specs.Port.{CommandRefusals, Logins}
use Rattle.ar_frames.specs.Stream.{SourceState, SinkState}
use Rattle.ar_iscsi.specs.declared.login.LoginState.{LoginState}
use Rattle.ar_iscsi.specs.declared.login_phase.LoginEnd.{LoginEnd}
use Rattle.ar_iscsi.specs.declared.login_phase.LoginEnd.TheVariants.{Entered}
use Rattle.ar_iscsi.specs.declared.negotiation.Limits.{Limits}
use Rattle.ar_iscsi.specs.declared.negotiation.Negotiation.{Negotiation}
use Rattle.ar_iscsi.specs.declared.negotiation.SessionKind.TheVariants.{Normal}
use Rattle.ar_iscsi.specs.declared.negotiation.TargetChoice.{TargetChoice}
use Rattle.ar_iscsi.specs.declared.negotiation.TargetChoice.TheVariants.{OfHost}
use Rattle.ar_iscsi.specs.declared.session.FeatureEnd.{FeatureEnd}
use Rattle.ar_iscsi.specs.declared.target.IscsiEnd.{IscsiEnd}
use Rattle.ar_iscsi.specs.declared.target.IscsiEnd.TheVariants as end
use Rattle.ar_iscsi.specs.declared.target.NoUnits.{NoUnits}
use Rattle.ar_iscsi.specs.Arrival.{FeatureSpot}
use Rattle.ar_iscsi.specs.LoginPhase.{RunsLogin}
use Rattle.ar_iscsi.specs.LoginTurn.{LoginSpot}
use Rattle.ar_iscsi.specs.Negotiation.{at_first}
use Rattle.ar_iscsi.specs.Phase.{Place}
use Rattle.ar_iscsi.specs.Session.{RunsFeature}

-- a port without units: each command is answered that there is no such unit
abbrev pub no_units : Commands NoUnits
no_units old lun cdb payload reply new = (reply ≡ check logical_unit_not_supported) × (new ≡ old)

-- it counts no reply
abbrev pub no_refusals : CommandRefusals NoUnits
no_refusals old cdb new = new ≡ old

-- each reset is answered so, too
abbrev pub no_resets : UnitResets NoUnits
no_resets old lun outcome new = (outcome ≡ NoUnit) × (new ≡ old)

-- where a login begins
abbrev pub login_start : LoginSpot
login_start = record { state = record { stage = None; so_far = at_first; stat_sn = 0; cmd_sn = 0 }; text = [] }

-- the host of a target
abbrev pub host_of : TargetChoice → Option ℕ
host_of (OfHost host) = Some host
host_of other = None

-- what was agreed on for a normal session, which is with the target of a host
abbrev pub normal_limits : Negotiation → Limits
normal_limits so_far = record so_far.limits { host = host_of so_far.target }

-- where a full feature phase begins, after the last response of the login: its numbers count on
abbrev pub feature_start : LoginState → FeatureSpot
feature_start state = record {
  session = record {
    flow = record { stat_sn = state.stat_sn; exp_cmd_sn = state.cmd_sn; next_tag = 0; collecting = None };
    bytes = [];
  };
  waiting = [];
}

-- a login that ended without a full feature phase
pub record IsLoginAlone {P : Type 0} (logins : Logins P) (source source' : SourceState) (sink sink' : SinkState)
    (port port' : P) (reason : LoginEnd)
    : Type 0 where
  pub spot : LoginSpot
  pub runs :
      RunsLogin logins (record { source = source; sink = sink; spot = login_start; port = port }) reason
      (record { source = source'; sink = sink'; spot = spot; port = port' })

-- a full feature phase after a login: in a normal session at the port, in one for discovery at no units
pub data IsFeature {P : Type 0} (commands : Commands P) (refuses : CommandRefusals P) (resets : UnitResets P)
    (address : List ℕ) (state : LoginState) (source source' : SourceState) (sink sink' : SinkState) (port port' : P)
    (reason : FeatureEnd) : Type 0 where
  at_port :
      (spot : FeatureSpot) → state.so_far.kind ≡ Normal
      → RunsFeature commands refuses resets address (normal_limits state.so_far)
      (record { source = source; sink = sink; spot = feature_start state; port = port }) reason
      (record { source = source'; sink = sink'; spot = spot; port = port' })
      → IsFeature commands refuses resets address state source source' sink sink' port port' reason
  at_no_units :
      (spot : FeatureSpot) (idle idle' : NoUnits) → (state.so_far.kind ≡ Normal → ⊥)
      → RunsFeature no_units no_refusals no_resets address state.so_far.limits
      (record { source = source; sink = sink; spot = feature_start state; port = idle }) reason
      (record { source = source'; sink = sink'; spot = spot; port = idle' }) → port' ≡ port
      → IsFeature commands refuses resets address state source source' sink sink' port port' reason

-- a login, and the full feature phase after it
pub record IsWholeSession {P : Type 0} (logins : Logins P) (commands : Commands P) (refuses : CommandRefusals P)
    (resets : UnitResets P) (address : List ℕ) (source source' : SourceState) (sink sink' : SinkState) (port port' : P)
    (reason : FeatureEnd) : Type 0 where
  pub middle : Place LoginSpot P
  pub login : RunsLogin logins (record { source = source; sink = sink; spot = login_start; port = port }) Entered middle
  pub feature : IsFeature commands refuses resets address middle.spot.state middle.source source' middle.sink sink'
      middle.port port' reason

-- A session with a target whose address is `address`, by its end.
abbrev pub TargetSession : {P : Type 0} → Logins P → Commands P → CommandRefusals P → UnitResets P → List ℕ
    → SourceState → SourceState → SinkState → SinkState → P → P → IscsiEnd → Type 0
TargetSession logins commands refuses resets address source source' sink sink' port port' end.NoBuffer =
    (source' ≡ source) × (sink' ≡ sink) × (port' ≡ port)
TargetSession logins commands refuses resets address source source' sink sink' port port' (end.Login reason) =
    IsLoginAlone logins source source' sink sink' port port' reason
TargetSession logins commands refuses resets address source source' sink sink' port port' (end.Feature reason) =
    IsWholeSession logins commands refuses resets address source source' sink sink' port port' reason
