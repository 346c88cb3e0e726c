-- Where the phases of a session begin.
use Rattle.std.proofs.Common.{◌≡◌, ℕ, List, [], None, subst}
use Rattle.ar_frames.specs.Conversation.{Commands}
use Rattle.ar_frames.specs.Port.{CommandRefusals}
use Rattle.ar_frames.specs.Port.{Logins}
use Rattle.ar_frames.specs.Stream.{SourceState, SinkState}
use Rattle.ar_target.specs.ResetPort.{UnitResets}
use Rattle.ar_iscsi.specs.declared.login_phase.LoginEnd.{LoginEnd}
use Rattle.ar_iscsi.specs.declared.negotiation.Limits.{Limits}
use Rattle.ar_iscsi.specs.declared.negotiation.Negotiation.{Negotiation}
use Rattle.ar_iscsi.specs.declared.session.FeatureEnd.{FeatureEnd}
use Rattle.ar_iscsi.specs.Arrival.{FeatureSpot}
use Rattle.ar_iscsi.specs.LoginPhase.{RunsLogin}
use Rattle.ar_iscsi.specs.LoginTurn.{LoginSpot}
use Rattle.ar_iscsi.specs.Negotiation.{at_first}
use Rattle.ar_iscsi.specs.Phase.{Place}
use Rattle.ar_iscsi.specs.Session.{RunsFeature}
use Rattle.ar_iscsi.specs.Target.{login_start, IsFeature}
use Rattle.ar_iscsi.specs.declared.login.LoginState.{LoginState}

-- from where a session begins, and by what was agreed on
pub feature_from :
    {P : Type 0} (commands : Commands P) (refuses : CommandRefusals P) (resets : UnitResets P) (address : List ℕ)
    (limits agreed : Limits) (source : SourceState) (sink : SinkState) (spot start : FeatureSpot) (port : P)
    (reason : FeatureEnd) (new : Place FeatureSpot P) → limits ≡ agreed → spot ≡ start
    → RunsFeature commands refuses resets address limits
    (record { source = source; sink = sink; spot = spot; port = port }) reason new
    → RunsFeature commands refuses resets address agreed
    (record { source = source; sink = sink; spot = start; port = port }) reason new
feature_from commands refuses resets address limits agreed source sink spot start port reason new same is runs =
    subst (λ (a : Limits). RunsFeature commands refuses resets address a
    (record { source = source; sink = sink; spot = start; port = port }) reason new) same
    (subst (λ (s : FeatureSpot). RunsFeature commands refuses resets address limits
    (record { source = source; sink = sink; spot = s; port = port }) reason new) is runs)

-- with nothing negotiated, and without text
pub login_from : {P : Type 0} (logins : Logins P) (source : SourceState) (sink : SinkState) (so_far : Negotiation)
    (text : List ℕ) (port : P)
    (reason : LoginEnd) (new : Place LoginSpot P) → so_far ≡ at_first → text ≡ []
    → RunsLogin logins
    (record {
      source = source;
      sink = sink;
      spot = record
          { state = record { stage = None; so_far = so_far; stat_sn = 0; cmd_sn = 0 }; text = text };
      port = port;
    }) reason
    new
    → RunsLogin logins (record { source = source; sink = sink; spot = login_start; port = port }) reason new
login_from logins source sink so_far text port reason new first none runs =
    subst (λ (l : List ℕ). RunsLogin logins
    (record {
      source = source;
      sink = sink;
      spot = record
          { state = record { stage = None; so_far = at_first; stat_sn = 0; cmd_sn = 0 }; text = l };
      port = port;
    }) reason
    new) none
    (subst (λ (n : Negotiation). RunsLogin logins
    (record {
      source = source;
      sink = sink;
      spot = record
          { state = record { stage = None; so_far = n; stat_sn = 0; cmd_sn = 0 }; text = text };
      port = port;
    }) reason new)
    first runs)

-- a full feature phase after a login whose reader's limit was lifted
pub feature_after : {P : Type 0} (commands : Commands P) (refuses : CommandRefusals P) (resets : UnitResets P)
    (address : List ℕ) (state : LoginState) (s0 s1 s2 : SourceState) (w0 w1 : SinkState) (p0 p1 : P)
    (reason : FeatureEnd)
    → s1 ≡ s0 → IsFeature commands refuses resets address state s1 s2 w0 w1 p0 p1 reason
    → IsFeature commands refuses resets address state s0 s2 w0 w1 p0 p1 reason
feature_after commands refuses resets address state s0 s1 s2 w0 w1 p0 p1 reason same feature =
    subst (λ (s : SourceState). IsFeature commands refuses resets address state s s2 w0 w1 p0 p1 reason) same feature
