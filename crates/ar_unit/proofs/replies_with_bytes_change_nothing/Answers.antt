use Rattle.ar_unit.proofs.Laws.{answer-with_bytes}
use Rattle.ar_unit.proofs.replies_with_bytes_change_nothing.Goals as goal

pub returns : goal.returns
returns c = answer-with_bytes
