-- What a session does with a request that needs no port (RFC 7143, 11).
use Rattle.std.specs.Prelude.{◌==◌, not, ◌||◌, if◌then◌else◌}
use Rattle.ar_iscsi.specs.declared.flow.Flow.{Flow}
use Rattle.ar_iscsi.specs.declared.reaction.Reaction.{Reaction}
use Rattle.ar_iscsi.specs.declared.reaction.Reaction.TheVariants.{Ignores, Counts, Answers, Echoes, AnswersText}
use Rattle.ar_iscsi.specs.declared.reaction.Reaction.TheVariants.{Closes, Rejects}
use Rattle.ar_iscsi.specs.declared.request.NopOut.{NopOut}
use Rattle.ar_iscsi.specs.declared.request.TextRequest.{TextRequest}
use Rattle.ar_iscsi.specs.declared.request.LogoutRequest.{LogoutRequest}
use Rattle.ar_iscsi.specs.declared.response.TargetPdu.TheVariants as pdu
use Rattle.ar_iscsi.specs.Response.{no_tag}
use Rattle.ar_iscsi.specs.Flow.{is_accepted}

-- NOP-Out: it gets its data back, unless it wants no answer (RFC 7143, 11.18)
abbrev pub to_nop_out : Flow → NopOut → Reaction
to_nop_out flow nop =
    if not (is_accepted flow nop.immediate nop.cmd_sn) then Ignores
    else (if nop.task_tag == no_tag then Counts else Echoes (pdu.NopIn nop.lun nop.task_tag))

-- Text: it is answered if its text is whole (RFC 7143, 11.10); 05h is COMMAND NOT SUPPORTED (11.17.1)
abbrev pub to_text : Flow → TextRequest → Reaction
to_text flow request =
    if not (is_accepted flow request.immediate request.cmd_sn) then Ignores
    else (if request.continues || not request.is_final then Rejects 0x05 else AnswersText
    (pdu.TextResponse request.task_tag))

-- Logout by its reason: the session or its one connection is closed; 2 is recovery, which isn't supported (RFC 7143,
-- 11.14 and 11.15); 09h is INVALID PDU FIELD (11.17.1)
abbrev pub to_logout : Flow → LogoutRequest → Reaction
to_logout flow request =
    if not (is_accepted flow request.immediate request.cmd_sn) then Ignores
    else (if (request.reason == 0) || (request.reason == 1) then Closes (pdu.LogoutResponse request.task_tag 0)
    else (if request.reason == 2 then Answers (pdu.LogoutResponse request.task_tag 2) else Rejects 0x09))
