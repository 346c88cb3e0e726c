use Rattle.ar_conversation.proofs.Talking.{heard}
use Rattle.ar_conversation.proofs.conversation.converse_in.Goals as goal

pub returns : goal.returns
returns g c =
    heard g.C.Controller.answers c.new-piece.result c.answer_lines.new.piece _ _ _ _ _ _ c.answer_lines.result
    c.new-piece.ensures c.answer_lines.ensures
