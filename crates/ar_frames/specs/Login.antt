-- The login of a session, and the reply to it.
use Rattle.std.specs.Prelude.{◌≡◌, ◌⊎◌, ℕ, true, false, List, [], ◌∷◌}
use Rattle.ar_disks.specs.declared.address.Host.{Host}
use Rattle.ar_frames.specs.declared.login.Admission.{Admission}
use Rattle.ar_frames.specs.declared.login.Admission.TheVariants.{Admitted, BadLogin, HostInUse}
use Rattle.ar_frames.specs.declared.login.LoginResult.{LoginResult}
use Rattle.ar_frames.specs.declared.login.LoginResult.TheVariants.{Admitted as LoginAdmitted, Ended as LoginEnded}
use Rattle.ar_frames.specs.declared.end.EndReason.TheVariants as reason
use Rattle.ar_frames.specs.declared.end.SessionEnd.{SessionEnd}
use Rattle.ar_frames.specs.Stream.{SourceState, SinkState, Reading, Writing}
use Rattle.ar_frames.specs.Conversation.{Commands}
use Rattle.ar_frames.specs.FrameStep.{RunsObserved}
use Rattle.ar_frames.specs.Observer.{Announces, Reports}
use Rattle.ar_frames.specs.Port.{CommandRefusals, Logins}
use Rattle.ar_frames.specs.Session.{Stage, refused, in_use, admitted, login_bytes, Opening, Session}

-- the stage that an admission leads to
abbrev pub stage_of : Admission → Stage
stage_of (Admitted host) = admitted
stage_of BadLogin = refused
stage_of HostInUse = in_use

-- the byte that reports it to the client
abbrev pub greeting_of : Admission → ℕ
greeting_of (Admitted host) = 0x00
greeting_of BadLogin = 0x01
greeting_of HostInUse = 0x01

-- how a session goes on once the admission is reported
abbrev pub result_of_login : Admission → LoginResult
result_of_login (Admitted host) = LoginAdmitted host
result_of_login BadLogin = LoginEnded reason.BadLogin
result_of_login HostInUse = LoginEnded reason.HostInUse

-- a login is that of this host: its last byte is the host's number
abbrev pub Names : Host → List ℕ → Type 0
Names host login = login ≡ login_bytes host.number

-- the one byte that reports an admission was written, or its write faulted
abbrev pub ReportsAdmission : SinkState → SinkState → Admission → LoginResult → Type 0
ReportsAdmission old new admission (LoginAdmitted host) =
    (admission ≡ Admitted host) × Writing old new (0x00 ∷ []) false
ReportsAdmission old new admission (LoginEnded reason.BadLogin) =
    (admission ≡ BadLogin) × Writing old new (0x01 ∷ []) false
ReportsAdmission old new admission (LoginEnded reason.HostInUse) =
    (admission ≡ HostInUse) × Writing old new (0x01 ∷ []) false
ReportsAdmission old new admission (LoginEnded reason.Write) = Writing old new [] true
ReportsAdmission old new admission (LoginEnded reason.End) = ⊥
ReportsAdmission old new admission (LoginEnded (reason.TooShort n)) = ⊥
ReportsAdmission old new admission (LoginEnded (reason.TooLong n)) = ⊥
ReportsAdmission old new admission (LoginEnded reason.Cut) = ⊥
ReportsAdmission old new admission (LoginEnded reason.Read) = ⊥
ReportsAdmission old new admission (LoginEnded reason.Bound) = ⊥

-- the login of this host was accepted, and the reply to it written
pub record IsAdmitted {P : Type 0} (host : Host) (logins : Logins P) (source source' : SourceState)
    (sink sink' : SinkState) (port port' : P) : Type 0 where
  pub login : List ℕ
  pub names : Names host login
  pub opening : Opening logins port login (0x00 ∷ []) admitted port'
  pub read : Reading source source' login false
  pub written : Writing sink sink' (0x00 ∷ []) false

-- An observed session: the login of a host was accepted, and after it each command was announced with its number, the
-- first one with 1, before it was executed, and reported with it once its reply was written or its write had faulted.
pub record IsObserved {P O : Type 0} (logins : Logins P) (commands : Commands P) (refuses : CommandRefusals P)
    (announces : Announces O) (reports : Reports O) (source source' : SourceState) (sink sink' : SinkState)
    (port port' : P) (observer observer' : O) (end : SessionEnd) : Type 0 where
  pub host : Host
  pub source_mid : SourceState
  pub sink_mid : SinkState
  pub port_mid : P
  pub entry : IsAdmitted host logins source source_mid sink sink_mid port port_mid
  pub runs : RunsObserved commands refuses announces reports host source_mid source' sink_mid sink' port_mid port'
      observer observer' end

-- the same, or no login was accepted, no frame read, and the observer not called
abbrev pub ObservesSession : {P O : Type 0} → Logins P → Commands P → CommandRefusals P → Announces O → Reports O
    → SourceState → SourceState → SinkState → SinkState → P → P → O → O → SessionEnd → Type 0
ObservesSession logins commands refuses announces reports source source' sink sink' port port' observer observer' end =
    IsObserved logins commands refuses announces reports source source' sink sink' port port' observer observer' end
    ⊎ ((end.frames ≡ 0) × (observer' ≡ observer))

-- the login was accepted, or the session has ended without a frame
abbrev pub Enters : {P : Type 0} → Logins P → Commands P → SourceState → SourceState → SinkState → SinkState → P → P
    → LoginResult → Type 0
Enters logins commands source source' sink sink' port port' (LoginAdmitted host) =
    IsAdmitted host logins source source' sink sink' port port'
Enters logins commands source source' sink sink' port port' (LoginEnded end) =
    Session logins commands source source' sink sink' port port' (record { frames = 0; reason = end })
