use Rattle.ar_iscsi.proofs.Headers.{responses_are}
use Rattle.ar_iscsi.proofs.responses_are_pdus.Goals as goal

pub returns : goal.returns
returns c = responses_are
