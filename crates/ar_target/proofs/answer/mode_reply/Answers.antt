use Rattle.std.proofs.Common.{◌<◌, inr, arith}
use Rattle.ar_target.proofs.Taking.{taken_some, mode_data_some}
use Rattle.ar_target.proofs.answer.mode_reply.Goals as goal

pub returns-in-Err-clause-answer : goal.returns-in-Err-clause-answer
returns-in-Err-clause-answer c =
    let some : 0 < c.args.sense.len = omega arith in
    inr (c.busy.ensures, taken_some _ _ some (mode_data_some c.args.write_back c.args.sense c.args.last))
