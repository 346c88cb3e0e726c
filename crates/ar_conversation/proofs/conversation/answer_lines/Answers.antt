use Rattle.std.proofs.Common.{arith}
use Rattle.ar_conversation.proofs.Talking.{talked_none, talked_more, talked_end, talked_full}
use Rattle.ar_conversation.proofs.conversation.answer_lines.Goals as goal

pub loop-init : goal.loop-init
loop-init g c = talked_none g.C.Controller.answers _

pub loop-preserved : goal.loop-preserved
loop-preserved g c = talked_more g.C.Controller.answers _ _ _ _ c.loop.invariant c.in-Answered.ensures

pub returns-in-Ended : goal.returns-in-Ended
returns-in-Ended g c =
    talked_end g.C.Controller.answers _ _ _ _ c.in-Ended.end c.loop.invariant (omega arith) c.in-Ended.ensures

pub returns : goal.returns
returns g c = talked_full g.C.Controller.answers _ _ _ c.loop.invariant (omega arith)
