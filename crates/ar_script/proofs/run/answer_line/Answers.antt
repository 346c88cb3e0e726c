use Rattle.std.proofs.Common.{rules}
use Rattle.std.specs.Io.Buffered.{writer_contents}
use Rattle.ar_script.proofs.AnswerLemmas.{answered_line, kept_order, unread}
use Rattle.ar_script.proofs.run.answer_line.Goals as goal

pub returns-in_err-order-clause-meets : goal.returns-in_err-order-clause-meets
returns-in_err-order-clause-meets g c =
    let was = c.in_err-order.was in
    record {
      sound = search rules;
      read = c.order_in.result;
      reads = search rules;
      meets = unread _ _ _ _ was (search rules);
    }

pub returns-in-Some-clause-adds : goal.returns-in-Some-clause-adds
returns-in-Some-clause-adds g c =
    answered_line c.args.lines.now.line.items c.in-Some.order c.answer.result c.args.runner.now c.answer.new.self
    (writer_contents g.W.Write.contents c.args.out.now)
    (writer_contents g.W.Write.contents c.answer.new.out) (search rules) (search rules) c.answer.ensures.leaves
    c.answer.ensures.answers

pub returns-in-Some-clause-kept : goal.returns-in-Some-clause-kept
returns-in-Some-clause-kept g c =
    kept_order c.in-Some.order c.answer.result c.args.out.now c.answer.new.out c.answer.ensures.lost
    c.answer.ensures.memory
