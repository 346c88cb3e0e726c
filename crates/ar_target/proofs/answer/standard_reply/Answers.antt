use Rattle.std.proofs.Common.{◌<◌, inr, arith}
use Rattle.ar_target.proofs.Taking.{taken_some, over_target_port_some}
use Rattle.ar_target.proofs.answer.standard_reply.Goals as goal

pub returns-in-Err-clause-answer : goal.returns-in-Err-clause-answer
returns-in-Err-clause-answer c =
    let some : 0 < c.args.len = omega arith in
    inr (c.busy.ensures, taken_some _ _ some (over_target_port_some c.args.own_reply.now))
