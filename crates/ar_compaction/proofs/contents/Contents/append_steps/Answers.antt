use Rattle.std.proofs.Common.{arith}
use Rattle.ar_record.specs.Record.{all_data}
use Rattle.ar_compaction.specs.Contents.{parts_of}
use Rattle.ar_compaction.proofs.Stepping.{steps_more}
use Rattle.ar_compaction.proofs.contents.Contents.append_steps.Goals as goal

pub loop-step-preserved : goal.loop-step-preserved
loop-step-preserved c = record {
  begun = omega (arith, c.loop-step-test.true);
  made =
      steps_more (parts_of c.args.self.now) c.args.steps c.loop-step.step _ (all_data c.loop-step.records.items)
      (all_data c.append_step.new.records.items) c.loop-step-test.true c.loop-step.invariant.made
      c.in_ok-append_step.ensures.made;
  few = omega (arith, c.len.ensures, c.if-len-lt-MOST_RECORDS.true, c.in_ok-append_step.ensures.one);
}
