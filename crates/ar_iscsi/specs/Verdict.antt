-- What a target answers to a login request (RFC 7143, 6.3 and 11.13).
use Rattle.std.specs.Prelude.{ℕ, ◌==◌, Bool, true, false, not, if◌then◌else◌, Option, Some, None, Result, Ok, Err}
use Rattle.ar_iscsi.specs.declared.negotiation.SessionKind.TheVariants.{Normal, Discovery, Unsupported}
use Rattle.ar_iscsi.specs.declared.negotiation.SessionKind.{SessionKind}
use Rattle.ar_iscsi.specs.declared.negotiation.TargetChoice.{TargetChoice}
use Rattle.ar_iscsi.specs.declared.negotiation.TargetChoice.TheVariants.{Unnamed, Unknown, OfHost}
use Rattle.ar_iscsi.specs.declared.negotiation.Negotiation.{Negotiation}
use Rattle.ar_iscsi.specs.declared.request.LoginRequest.{LoginRequest}
use Rattle.ar_iscsi.specs.declared.response.LoginStage.{LoginStage}
use Rattle.ar_iscsi.specs.declared.response.LoginStage.TheVariants as stage
use Rattle.ar_iscsi.specs.declared.verdict.LoginStatus.{LoginStatus}
use Rattle.ar_iscsi.specs.declared.verdict.LoginStatus.TheVariants as status
use Rattle.ar_iscsi.specs.declared.verdict.LoginStep.{LoginStep}
use Rattle.ar_iscsi.specs.declared.verdict.LoginStep.TheVariants as step

-- Status-Class and Status-Detail (RFC 7143, 11.13.5)
abbrev pub status_code : LoginStatus → ℕ × ℕ
status_code status.Success = (0x00, 0x00)
status_code status.InitiatorError = (0x02, 0x00)
status_code status.AuthenticationFailure = (0x02, 0x01)
status_code status.NotFound = (0x02, 0x03)
status_code status.UnsupportedVersion = (0x02, 0x05)
status_code status.MissingParameter = (0x02, 0x07)
status_code status.SessionTypeNotSupported = (0x02, 0x09)
status_code status.SessionDoesNotExist = (0x02, 0x0A)
status_code status.InvalidDuringLogin = (0x02, 0x0B)
status_code status.OutOfResources = (0x03, 0x02)

-- nothing is wrong
abbrev pub is_success : LoginStatus → Bool
is_success status.Success = true
is_success other = false

-- the stage that a login request may be of (RFC 7143, 11.12.3)
abbrev pub stage_named : ℕ → Option LoginStage
stage_named code =
    if code == 0 then Some
    stage.SecurityNegotiation else (if code == 1 then Some stage.OperationalNegotiation else None)

-- where T and this NSG lead from a stage
abbrev pub next_step : LoginStage → ℕ → Result LoginStep LoginStatus
next_step stage.SecurityNegotiation next =
    if next == 1 then Ok step.Advances else (if next == 3 then Ok step.Enters else Err status.InitiatorError)
next_step stage.OperationalNegotiation next = if next == 3 then Ok step.Enters else Err status.InitiatorError
next_step stage.FullFeature next = Err status.InitiatorError

-- where a request leads from a stage, by its fields alone
abbrev pub step_of : LoginRequest → LoginStage → Result LoginStep LoginStatus
step_of request at =
    if not (request.version_min == 0) then Err status.UnsupportedVersion
    else (if not (request.tsih == 0) then Err status.SessionDoesNotExist
    else (if not request.transit then Ok step.Stays
    else (if request.continues then Err status.InitiatorError
    else next_step at request.next_stage)))

-- what is wrong with the target of a normal session, by its name
abbrev pub target_status : TargetChoice → LoginStatus
target_status Unnamed = status.MissingParameter
target_status Unknown = status.NotFound
target_status (OfHost n) = status.Success

-- the same by the kind of the session: one for discovery needs no target
abbrev pub kind_status : SessionKind → TargetChoice → LoginStatus
kind_status Normal target = target_status target
kind_status Discovery target = status.Success
kind_status Unsupported target = status.SessionTypeNotSupported

-- what is wrong with what was negotiated, once a whole text was read; a key that came twice is an initiator error
abbrev pub judged : Negotiation → LoginStatus
judged so_far =
    if so_far.keys.is_repeated then status.InitiatorError
    else (if not so_far.is_named then status.MissingParameter
    else (if so_far.is_refused then status.AuthenticationFailure
    else kind_status so_far.kind so_far.target))
