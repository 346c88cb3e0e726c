use Rattle.ar_iscsi.proofs.Pdus.{no_pdu_begins}
use Rattle.ar_iscsi.proofs.no_pdu_begins_another.Goals as goal

pub returns : goal.returns
returns c = no_pdu_begins
