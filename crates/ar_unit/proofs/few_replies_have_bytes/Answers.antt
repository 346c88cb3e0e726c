use Rattle.ar_unit.proofs.Laws.{answer-takes_no_memory}
use Rattle.ar_unit.proofs.few_replies_have_bytes.Goals as goal

pub returns : goal.returns
returns c = answer-takes_no_memory
