use Rattle.ar_language.specs.Left.{lines_left}
use Rattle.ar_script.proofs.Ending.{none_begun, there_none}
use Rattle.ar_script.proofs.run.write_answers.Goals as goal

pub returns-in_default-clause-plays : goal.returns-in_default-clause-plays
returns-in_default-clause-plays g c =
    none_begun (lines_left c.args.lines.now) c.args.runner.now c.fault_at.result c.fault_at.ensures.same

pub returns-in_default-clause-there : goal.returns-in_default-clause-there
returns-in_default-clause-there g c = there_none (lines_left c.args.lines.now) c.fault_at.result c.fault_at.ensures.same
