use Rattle.ar_unit.proofs.Laws.{broken_answer-is}
use Rattle.ar_unit.proofs.broken_replies_go_by_shape.Goals as goal

pub returns : goal.returns
returns c = broken_answer-is
