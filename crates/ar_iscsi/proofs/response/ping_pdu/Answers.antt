use Rattle.std.proofs.Common.{◌∙◌, sym, append-nil}
use Rattle.ar_iscsi.proofs.response.ping_pdu.Goals as goal

pub returns : goal.returns
returns c = c.target_header.ensures ∙ sym (append-nil _)
