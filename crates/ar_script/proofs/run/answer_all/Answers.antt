use Rattle.std.proofs.Common.{rules}
use Rattle.std.specs.Io.Buffered.{writer_contents}
use Rattle.ar_language.specs.Left.{lines_left}
use Rattle.ar_script.proofs.Ending.{answered_finished, plays_finished, there_ended, reported_ended}
use Rattle.ar_script.proofs.run.answer_all.Goals as goal

pub returns-clause-plays : goal.returns-clause-plays
returns-clause-plays g c =
    plays_finished (lines_left c.args.lines.now) c.args.runner.now c.run_lines-done.new.runner c.number.result
    c.run_lines-done.result c.finish.result (search rules) c.finish.ensures.ends

pub returns-clause-there : goal.returns-clause-there
returns-clause-there g c =
    there_ended (lines_left c.args.lines.now) c.number.result c.run_lines-done.result c.finish.result (search rules)
    (search rules) c.finish.ensures.ends

pub returns-clause-reported : goal.returns-clause-reported
returns-clause-reported g c =
    reported_ended c.run_lines-done.new.lines c.number.result c.run_lines-done.result c.finish.result
    c.run_lines-done.ensures.reported c.finish.ensures.ends

pub returns-clause-grows : goal.returns-clause-grows
returns-clause-grows g c =
    answered_finished (lines_left c.args.lines.now) c.args.runner.now c.run_lines-done.new.runner c.number.result
    c.run_lines-done.result c.finish.result
    (writer_contents g.W.Write.contents c.args.out.now) (writer_contents g.W.Write.contents c.run_lines-done.new.out)
    (writer_contents g.W.Write.contents c.finish.new.out)
    c.run_lines-done.ensures.grows c.finish.ensures.ends c.finish.ensures.given
