use Rattle.ar_conversation.proofs.Talking.{next_after, next_cut}
use Rattle.ar_conversation.proofs.conversation.answer_next.Goals as goal

pub returns-in-Line : goal.returns-in-Line
returns-in-Line g c =
    next_after g.C.Controller.answers _ _ _ _ _ _ _ _ _ _ c.in-Line.ensures c.answer_line-result.ensures
    c.result_behind.ensures

pub returns-in-Cut : goal.returns-in-Cut
returns-in-Cut g c = next_cut g.C.Controller.answers _ _ _ _ _ _ c.in-Cut.ensures c.answer_cut.ensures
