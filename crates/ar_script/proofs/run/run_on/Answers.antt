use Rattle.ar_language.specs.Lines.{lines_of}
use Rattle.ar_script.proofs.Ending.{none_answered, none_begun, there_none}
use Rattle.ar_script.proofs.run.run_on.Goals as goal

pub returns-in_default-clause-answers : goal.returns-in_default-clause-answers
returns-in_default-clause-answers g c =
    none_answered (lines_of (g.R.Read.remaining c.args.reader)) c.args.runner.now c.fault_at.result
    (g.W.Write.contents c.args.writer) c.fault_at.ensures.same

pub returns-in_default-clause-plays : goal.returns-in_default-clause-plays
returns-in_default-clause-plays g c =
    none_begun (lines_of (g.R.Read.remaining c.args.reader)) c.args.runner.now c.fault_at.result c.fault_at.ensures.same

pub returns-in_default-clause-there : goal.returns-in_default-clause-there
returns-in_default-clause-there g c =
    there_none (lines_of (g.R.Read.remaining c.args.reader)) c.fault_at.result c.fault_at.ensures.same
