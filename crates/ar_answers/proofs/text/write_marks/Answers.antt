use Rattle.std.proofs.Common.{arith}
use Rattle.ar_answers.proofs.Counting.{homes_few}
use Rattle.ar_answers.proofs.text.write_marks.Goals as goal

pub returns-after-loop-rb : goal.returns-after-loop-rb
returns-after-loop-rb g c =
    let few = homes_few c.args.array.now.store.book c.args.addr c.health-health.ensures.kept.space.tables in
    let within = c.loop-rb.invariant.0 in
    absurd (omega arith)
