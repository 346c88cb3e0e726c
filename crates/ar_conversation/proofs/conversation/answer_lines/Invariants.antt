-- this many lines were answered
use Rattle.ar_conversation.specs.Lines.{seen_behind}
use Rattle.ar_conversation.specs.Talk.{HasTalked}
use Rattle.ar_conversation.proofs.conversation.answer_lines.Given as goal

abbrev pub invariant-loop : goal.invariant-loop
invariant-loop g l =
    HasTalked g.C.Controller.answers
    (record {
      source = seen_behind l.initial.piece (g.R.Source.state l.initial.reader);
      sink = g.W.Sink.state l.initial.writer;
      controller = l.initial.controller;
    })
    l.counter
    (record {
      source = seen_behind l.piece (g.R.Source.state l.reader);
      sink = g.W.Sink.state l.writer;
      controller = l.controller;
    })
