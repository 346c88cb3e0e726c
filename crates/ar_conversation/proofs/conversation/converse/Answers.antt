use Rattle.ar_conversation.proofs.Talking.{unheard}
use Rattle.ar_conversation.proofs.conversation.converse.Goals as goal

pub returns-in_default : goal.returns-in_default
returns-in_default g c =
    unheard g.C.Controller.answers (g.R.Source.state c.args.reader.now) (g.W.Sink.state c.args.writer.now)
    c.args.controller.now

pub returns : goal.returns
returns g c = c.converse_in.ensures
