use Rattle.ar_unit.proofs.Laws.{answer-not_busy}
use Rattle.ar_unit.proofs.no_reply_is_busy.Goals as goal

pub returns : goal.returns
returns c = answer-not_busy
