-- A turn of the login phase: a login request, what it makes of the login, and the response (RFC 7143, 6 and 11.12).
use Rattle.std.specs.Prelude.{◌≡◌, ◌⊎◌, ◌==◌, ℕ, nat_lt, nat_le, if◌then◌else◌, MatchBool, List, [], ◌++◌, length}
use Rattle.std.specs.Prelude.{Option, Some, None, is_some, unwrap_or, Result, Ok, Err}
use Rattle.ar_frames.specs.Port.{Logins}
use Rattle.ar_frames.specs.declared.port.Login.{Login}
use Rattle.ar_frames.specs.declared.port.Login.TheVariants.{Taken, BadHost, InUse}
use Rattle.ar_iscsi.specs.declared.login.LoginState.{LoginState}
use Rattle.ar_iscsi.specs.declared.login.LoginResult.{LoginResult}
use Rattle.ar_iscsi.specs.declared.login.LoginResult.TheVariants as result
use Rattle.ar_iscsi.specs.declared.negotiation.SessionKind.{SessionKind}
use Rattle.ar_iscsi.specs.declared.negotiation.SessionKind.TheVariants.{Normal, Discovery, Unsupported}
use Rattle.ar_iscsi.specs.declared.negotiation.TargetChoice.{TargetChoice}
use Rattle.ar_iscsi.specs.declared.negotiation.TargetChoice.TheVariants.{OfHost}
use Rattle.ar_iscsi.specs.declared.negotiation.Negotiation.{Negotiation}
use Rattle.ar_iscsi.specs.declared.request.LoginRequest.{LoginRequest}
use Rattle.ar_iscsi.specs.declared.response.LoginStage.{LoginStage}
use Rattle.ar_iscsi.specs.declared.response.LoginStage.TheVariants as stage
use Rattle.ar_iscsi.specs.declared.response.SequenceNumbers.{SequenceNumbers}
use Rattle.ar_iscsi.specs.declared.response.TargetPdu.{TargetPdu}
use Rattle.ar_iscsi.specs.declared.response.TargetPdu.TheVariants as pdu
use Rattle.ar_iscsi.specs.declared.verdict.LoginStatus.{LoginStatus}
use Rattle.ar_iscsi.specs.declared.verdict.LoginStatus.TheVariants as status
use Rattle.ar_iscsi.specs.declared.verdict.LoginStep.{LoginStep}
use Rattle.ar_iscsi.specs.declared.verdict.LoginStep.TheVariants as step
use Rattle.ar_iscsi.specs.Flow.{last_in_window, next_sn}
use Rattle.ar_iscsi.specs.Initiator.{named_after}
use Rattle.ar_iscsi.specs.Negotiation.{negotiated}
use Rattle.ar_iscsi.specs.Request.{opcode, login_request}
use Rattle.ar_iscsi.specs.Text.{text_answer}
use Rattle.ar_iscsi.specs.Response.{stage_code, target_pdu}
use Rattle.ar_iscsi.specs.Verdict.{is_success, judged, stage_named, status_code, step_of}

-- where a login is: its state, and the text of requests that go on
pub record LoginSpot : Type 0 where
  pub state : LoginState
  pub text : List ℕ

-- the longest text of a login, and the longest answer: the initiator's default MaxRecvDataSegmentLength
abbrev pub most_text : ℕ
most_text = 8192

-- the stage of a request: any at first, and then the one that the login is in
abbrev pub stage_in : Option LoginStage → ℕ → Option LoginStage
stage_in None code = stage_named code
stage_in (Some at) code = if stage_code at == code then Some at else None

-- a response with this status, in stage `at`; `next` is the stage that it agrees to go on to
abbrev pub login_reply : LoginRequest → LoginStage → Option LoginStage → ℕ → LoginStatus → TargetPdu
login_reply request at next tsih code =
    pdu.Login (record {
      transit = is_some next;
      stage = at;
      next_stage = unwrap_or next stage.SecurityNegotiation;
      isid_high = request.isid_high;
      isid_low = request.isid_low;
      tsih = tsih;
      task_tag = request.task_tag;
      status_class = (status_code code).0;
      status_detail = (status_code code).1;
    })

-- the sequence numbers of a login response: a login request isn't counted, and the window begins with its CmdSN
abbrev pub login_numbers : LoginState → LoginRequest → SequenceNumbers
login_numbers state request = record {
  stat_sn = state.stat_sn;
  exp_cmd_sn = request.cmd_sn;
  max_cmd_sn = last_in_window request.cmd_sn;
}

-- a request is refused with this status, and without text
pub record RefusesLogin (request : LoginRequest) (code : LoginStatus) (state : LoginState) (out : List ℕ)
    (ended : LoginResult) : Type 0 where
  pub out_same :
      out ≡ target_pdu
      (login_reply request (unwrap_or (stage_named request.stage) stage.SecurityNegotiation) None 0 code)
      (login_numbers state request) []
  pub ended_same : ended ≡ result.Refused code

-- a request is answered with this text, and the login goes on in the stage that the response names
pub record AnswersLogin (request : LoginRequest) (at : LoginStage) (next : Option LoginStage) (tsih : ℕ)
    (segment : List ℕ) (so_far : Negotiation)
    (text : List ℕ) (state : LoginState) (out : List ℕ) (new : LoginSpot) : Type 0 where
  pub out_same : out
      ≡ target_pdu (login_reply request at next tsih status.Success) (login_numbers state request) segment
  pub state_same :
      new.state ≡ record {
        stage = Some (unwrap_or next at);
        so_far = so_far;
        stat_sn = next_sn state.stat_sn;
        cmd_sn = request.cmd_sn;
      }
  pub text_same : new.text ≡ text

-- What the port says of the target of a login: a host of this number is there and free, or not. A session for discovery
-- has no target.
abbrev pub AdmitsHost : {P : Type 0} → Logins P → TargetChoice → P → LoginStatus → P → Type 0
AdmitsHost logins (OfHost host) port status.Success port' = logins port host Taken port'
AdmitsHost logins (OfHost host) port status.NotFound port' = logins port host BadHost port'
AdmitsHost logins (OfHost host) port status.OutOfResources port' = logins port host InUse port'
AdmitsHost logins (OfHost host) port other port' = ⊥
AdmitsHost logins other port code port' = (code ≡ status.NotFound) × (port' ≡ port)

-- the same, by the kind of the session
abbrev pub Admits : {P : Type 0} → Logins P → SessionKind → TargetChoice → P → LoginStatus → P → Type 0
Admits logins Normal target port code port' = AdmitsHost logins target port code port'
Admits logins Discovery target port code port' = (code ≡ status.Success) × (port' ≡ port)
Admits logins Unsupported target port code port' = (code ≡ status.SessionTypeNotSupported) × (port' ≡ port)

-- The host that the port observes a login of, if it does: one of the four, or none for discovery. Any other login is
-- refused.
abbrev pub observed_host : SessionKind → TargetChoice → Option (Option ℕ)
observed_host Normal (OfHost host) = if nat_lt host 4 then Some (Some host) else None
observed_host Discovery target = Some None
observed_host kind target = None

-- at most one host was given to the port
abbrev pub MayLogIn : {P : Type 0} → Logins P → P → P → Type 0
MayLogIn logins port port' = (port' ≡ port) ⊎ ((host : ℕ) × (said : Login) × logins port host said port')

-- the login has its host admitted, and enters the full feature phase with TSIH 1, or is refused
pub data EntersLogin {P : Type 0} (logins : Logins P) (request : LoginRequest) (at : LoginStage) (segment : List ℕ)
    (so_far : Negotiation)
    (state : LoginState) (port : P) (out : List ℕ) (new : LoginSpot) (port' : P) (ended : LoginResult) : Type 0 where
  entered :
      Admits logins so_far.kind so_far.target port status.Success port'
      → AnswersLogin request at (Some stage.FullFeature) 1 segment so_far [] state out new → ended ≡ result.Entered
      → EntersLogin logins request at segment so_far state port out new port' ended
  kept_out :
      (code : LoginStatus) → (code ≡ status.Success → ⊥) → Admits logins so_far.kind so_far.target port code port'
      → RefusesLogin request code state out ended
      → EntersLogin logins request at segment so_far state port out new port' ended

-- where a request leads whose text is whole and in order
abbrev pub StepsLogin : {P : Type 0} → Logins P → LoginRequest → LoginStage → LoginStep → List ℕ → Negotiation
    → LoginState → P → List ℕ → LoginSpot → P
    → LoginResult → Type 0
StepsLogin logins request at step.Stays segment so_far state port out new port' ended =
    AnswersLogin request at None 0 segment so_far [] state out new × (ended ≡ result.Next) × (port' ≡ port)
StepsLogin logins request at step.Advances segment so_far state port out new port' ended =
    AnswersLogin request at (Some stage.OperationalNegotiation) 0 segment so_far [] state out new
    × (ended ≡ result.Next) × (port' ≡ port)
StepsLogin logins request at step.Enters segment so_far state port out new port' ended =
    EntersLogin logins request at segment so_far state port out new port' ended

-- what a request does whose text is whole, and what was negotiated with it
unfoldable pub JudgesText : {P : Type 0} → Logins P → LoginRequest → LoginStage → LoginStep → List ℕ → Negotiation
    → LoginState → P → List ℕ → LoginSpot → P
    → LoginResult → LoginStatus → Type 0
JudgesText logins request at which text so_far state port out new port' ended code =
    MatchBool (is_success code)
    (MatchBool (nat_le (length (text_answer so_far.limits.max_burst text)) most_text)
    (StepsLogin logins request at which (text_answer so_far.limits.max_burst text) so_far state port out new port'
    ended)
    (RefusesLogin request status.OutOfResources state out ended × (port' ≡ port)))
    (RefusesLogin request code state out ended × (port' ≡ port))

-- What a request in order does, once the text is `text`: if it goes on, it is kept; otherwise it is judged.
abbrev pub TakesText : {P : Type 0} → Logins P → LoginRequest → LoginStage → LoginStep → List ℕ → LoginState → P
    → List ℕ → LoginSpot → P → LoginResult
    → Type 0
TakesText logins request at which text state port out new port' ended =
    MatchBool request.continues
    (AnswersLogin request at None 0 [] state.so_far text state out new × (ended ≡ result.Next) × (port' ≡ port))
    (JudgesText logins request at which text (negotiated state.so_far text) state port out new port' ended
    (judged (negotiated state.so_far text)))

-- the name of the initiator after a request in order, once the text is `text`: a text that goes on leaves it
abbrev pub name_taken : LoginRequest → List ℕ → List ℕ → List ℕ
name_taken request name text = if request.continues then name else named_after name text

-- a stage, and where a request leads from it
abbrev pub map_step : LoginStage → Result LoginStep LoginStatus → Result (LoginStage × LoginStep) LoginStatus
map_step at (Ok which) = Ok (at, which)
map_step at (Err code) = Err code

-- where a request leads, by its fields alone, or why it is refused
abbrev pub step_in : LoginRequest → Option LoginStage → Result (LoginStage × LoginStep) LoginStatus
step_in request None = Err status.InitiatorError
step_in request (Some at) = map_step at (step_of request at)

-- what a login request does
abbrev pub RequestTurn : {P : Type 0} → Logins P → LoginRequest → List ℕ → Result (LoginStage × LoginStep) LoginStatus
    → LoginSpot → P → List ℕ → LoginSpot
    → P → LoginResult → Type 0
RequestTurn logins request carried (Err code) old port out new port' ended =
    RefusesLogin request code old.state out ended × (port' ≡ port)
RequestTurn logins request carried (Ok step) old port out new port' ended =
    MatchBool (nat_le (length (old.text ++ carried)) most_text)
    (TakesText logins request step.0 step.1 (old.text ++ carried) old.state port out new port' ended)
    (RefusesLogin request status.OutOfResources old.state out ended × (port' ≡ port))

-- A turn of a login: a PDU with this header and this data segment was answered by `out`. One that is no login request
-- is refused.
abbrev pub LoginTurn : {P : Type 0} → Logins P → List ℕ → List ℕ → LoginSpot → P → List ℕ → LoginSpot → P → LoginResult
    → Type 0
LoginTurn logins header carried old port out new port' ended =
    MatchBool (opcode header == 0x03)
    (RequestTurn logins (login_request header) carried
    (step_in (login_request header) (stage_in old.state.stage (login_request header).stage)) old port out new port'
    ended)
    (RefusesLogin (login_request header) status.InvalidDuringLogin old.state out ended × (port' ≡ port))
