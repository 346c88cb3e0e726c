use Rattle.std.proofs.Common.{rules, ◌≡◌, ◌∙◌, max, suc, true, false, ◌+◌, ◌≤◌, Ok, Err, IfErr, add-zero, refl, sym, ap}
use Rattle.std.proofs.Common.{subst, arith}
use Rattle.ar_language.specs.declared.fault.Fault.TheVariants.{Line}
use Rattle.ar_language.specs.Left.{lines_left, lines_begun, EndsReading}
use Rattle.ar_language.proofs.Going.{begun_there}
use Rattle.ar_language.specs.Lines.{AreThere, IsNextLineFault, IsOfNext, IsNumbered, is_given, is_lacking}
use Rattle.std.proofs.lemmas.Result.{IfOk-at_ok}
use Rattle.std.specs.Io.Buffered.{writer_contents}
use Rattle.ar_script.proofs.AnswerLemmas.{silent_fault}
use Rattle.ar_script.specs.Answers.{AnswersLine}
use Rattle.ar_script.specs.Plays.{PlaysTo}
use Rattle.ar_script.proofs.Ending.{WritesAll, answered_fault, answered_unread, writes_ended, writes_line, writes_none}
use Rattle.ar_script.proofs.Ending.{plays_fault, plays_ended, plays_unread, begun_as, begun_within, there_begun}
use Rattle.ar_script.proofs.Ending.{there_given, reported_next, reported_last}
use Rattle.ar_script.proofs.run.run_lines.Goals as goal

pub loop-init : goal.loop-init
loop-init g c =
    let script = lines_left c.args.lines.now in
    let before = writer_contents g.W.Write.contents c.args.out.now in (
      omega arith,
      subst (λ n. WritesAll script script c.args.runner.now c.args.runner.now n before before)
          (sym c.requires.fresh.none) (writes_none script c.args.runner.now before),
      record { some = λ begun. let no = c.requires.fresh.unbegun in absurd (cc) },
    )

pub returns-in_err-next_line-clause-plays : goal.returns-in_err-next_line-clause-plays
returns-in_err-next_line-clause-plays g c =
    let left = lines_left c.loop.lines in
    let new = c.next_line.new.lines in
    let given = c.loop.lines.given in
    let goes = c.in_err-next_line.ensures.goes_on in
    let same : new.given ≡ given = goes.count ∙ add-zero given in
    let stops : IfErr c.from_residual.result (IsNextLineFault left) = search rules in
    let next : IfErr c.from_residual.result (IsOfNext given (lines_begun new)) = search rules in
    let numbered : IfErr c.from_residual.result IsNumbered = search rules in
    let within = begun_within given new.given new.is_begun same in
    plays_unread (lines_left c.args.lines.now) left c.args.runner.now c.loop.runner given (lines_begun new)
    c.from_residual.result
    c.loop.invariant.1.all c.from_residual.ensures.0 stops next numbered within.0 within.1 new.few

pub returns-then-not-branch-clause-plays : goal.returns-then-not-branch-clause-plays
returns-then-not-branch-clause-plays g c =
    let new = c.next_line.new.lines in
    let given = c.loop.lines.given in
    let goes = c.next_line.ensures.goes_on in
    let none : is_given c.next_line.result ≡ false = search rules in
    let lacking : is_lacking c.next_line.result ≡ true = search rules in
    let same : new.given ≡ given = search rules in
    let within = begun_within given new.given new.is_begun same in
    plays_ended (lines_left c.args.lines.now) (lines_left c.loop.lines) (lines_left new) c.args.runner.now c.loop.runner
    given (lines_begun new) c.loop.invariant.1.all
    (goes.kept none) (goes.none lacking) within.0 within.1 new.few

pub returns-in-Err-clause-plays : goal.returns-in-Err-clause-plays
returns-in-Err-clause-plays g c =
    let script = lines_left c.args.lines.now in
    let new = c.next_line.new.lines in
    let line = new.line.items in
    let goes = c.next_line.ensures.goes_on in
    let one : is_given c.next_line.result ≡ true = search rules in
    let count : new.given ≡ c.loop.lines.given + 1 = search rules in
    let begun = begun_as c.loop.lines.given new.given new.is_begun count (goes.closed one) in
    let is = c.fault_at.ensures.same ∙ ap (λ m. Line (max m 1) c.in-Err.kind) (c.number.ensures.number ∙ begun) in
    subst (λ n. PlaysTo script (Err c.fault_at.result) c.args.runner.now c.answer_line.new.runner n) (sym begun)
    (plays_fault script (lines_left c.loop.lines) (lines_left new) c.args.runner.now c.loop.runner
    c.answer_line.new.runner c.loop.lines.given line c.in-Err.kind c.fault_at.result
    c.loop.invariant.1.all (goes.taken one) c.in-Err.ensures.meets c.in-Err.ensures.reported is
    (subst (λ n. n ≤ 1000000) begun new.few))

pub loop-preserved : goal.loop-preserved
loop-preserved g c =
    let script = lines_left c.args.lines.now in
    let new = c.next_line.new.lines in
    let line = new.line.items in
    let goes = c.next_line.ensures.goes_on in
    let one : is_given c.next_line.result ≡ true = search rules in
    let count : new.given ≡ c.loop.lines.given + 1 = search rules in
    let next : new.given ≡ suc c.loop.lines.given = omega arith in
    let before = writer_contents g.W.Write.contents c.args.out.now in
    let far = writer_contents g.W.Write.contents c.loop.out in
    let flushed = writer_contents g.W.Write.contents c.next_line.new.out in
    let after = writer_contents g.W.Write.contents c.answer_line.new.out in
    let good : c.answer_line.result ≡ Ok tt = search rules in
    let answered : AnswersLine line c.loop.runner c.answer_line.new.runner flushed after =
    IfOk-at_ok (λ _. AnswersLine line c.loop.runner c.answer_line.new.runner flushed after) good
    c.answer_line.ensures.adds in (
      (let few = c.loop.invariant.0 in omega arith),
      subst (λ n. WritesAll script (lines_left new) c.args.runner.now c.answer_line.new.runner n before after)
          (sym next)
          (writes_line script (lines_left c.loop.lines) (lines_left new) c.args.runner.now c.loop.runner
          c.answer_line.new.runner c.loop.lines.given line before far flushed after
          c.loop.invariant.1 c.next_line.ensures.answers (goes.taken one) answered),
      c.next_line.ensures.begun c.loop.invariant.2,
    )

pub returns-in_err-next_line-clause-there : goal.returns-in_err-next_line-clause-there
returns-in_err-next_line-clause-there g c =
    let new = c.next_line.new.lines in
    let given = c.loop.lines.given in
    let goes = c.in_err-next_line.ensures.goes_on in
    there_begun (lines_left c.args.lines.now) (lines_left c.loop.lines) (lines_left new) c.args.runner.now c.loop.runner
    given new.given new.is_begun c.loop.invariant.1.all
    (goes.kept refl) (goes.count ∙ add-zero given) (begun_there new (c.next_line.ensures.begun c.loop.invariant.2))

pub returns-then-not-branch-clause-there : goal.returns-then-not-branch-clause-there
returns-then-not-branch-clause-there g c =
    let new = c.next_line.new.lines in
    let given = c.loop.lines.given in
    let goes = c.next_line.ensures.goes_on in
    let none : is_given c.next_line.result ≡ false = search rules in
    let same : new.given ≡ given = search rules in
    there_begun (lines_left c.args.lines.now) (lines_left c.loop.lines) (lines_left new) c.args.runner.now c.loop.runner
    given new.given new.is_begun c.loop.invariant.1.all
    (goes.kept none) same (begun_there new (c.next_line.ensures.begun c.loop.invariant.2))

pub returns-in-Err-clause-there : goal.returns-in-Err-clause-there
returns-in-Err-clause-there g c =
    let script = lines_left c.args.lines.now in
    let new = c.next_line.new.lines in
    let goes = c.next_line.ensures.goes_on in
    let one : is_given c.next_line.result ≡ true = search rules in
    let count : new.given ≡ c.loop.lines.given + 1 = search rules in
    let begun = begun_as c.loop.lines.given new.given new.is_begun count (goes.closed one) in
    subst (λ n. AreThere script n) (sym begun)
    (there_given script (lines_left c.loop.lines) (lines_left new) c.args.runner.now c.loop.runner c.loop.lines.given
    new.line.items c.loop.invariant.1.all (goes.taken one))

pub returns-in_err-next_line-clause-reported : goal.returns-in_err-next_line-clause-reported
returns-in_err-next_line-clause-reported g c =
    let new = c.next_line.new.lines in
    let stopped : IfErr c.from_residual.result (EndsReading new) = search rules in
    reported_next new c.from_residual.result stopped

pub returns-in-Err-clause-reported : goal.returns-in-Err-clause-reported
returns-in-Err-clause-reported g c =
    let new = c.next_line.new.lines in
    let goes = c.next_line.ensures.goes_on in
    let one : is_given c.next_line.result ≡ true = search rules in
    let count : new.given ≡ c.loop.lines.given + 1 = search rules in
    let is = c.fault_at.ensures.same ∙ ap (λ m. Line (max m 1) c.in-Err.kind) c.number.ensures.number in
    reported_last new c.in-Err.kind c.fault_at.result (goes.closed one) (omega arith) is c.in-Err.ensures.reported

pub returns-in_err-next_line-clause-grows : goal.returns-in_err-next_line-clause-grows
returns-in_err-next_line-clause-grows g c =
    let new = c.next_line.new.lines in
    let given = c.loop.lines.given in
    let next : IfErr c.from_residual.result (IsOfNext given (lines_begun new)) = search rules in
    answered_unread (lines_left c.args.lines.now) (lines_left c.loop.lines) c.args.runner.now c.loop.runner given
    (lines_begun new) c.from_residual.result
    (writer_contents g.W.Write.contents c.args.out.now) (writer_contents g.W.Write.contents c.loop.out)
    (writer_contents g.W.Write.contents c.next_line.new.out)
    c.loop.invariant.1 c.next_line.ensures.answers c.from_residual.ensures.0 next

pub returns-then-not-branch-clause-grows : goal.returns-then-not-branch-clause-grows
returns-then-not-branch-clause-grows g c =
    let before = writer_contents g.W.Write.contents c.args.out.now in
    let far = writer_contents g.W.Write.contents c.loop.out in
    let after = writer_contents g.W.Write.contents c.next_line.new.out in
    let goes = c.next_line.ensures.goes_on in
    let none : is_given c.next_line.result ≡ false = search rules in
    let lacking : is_lacking c.next_line.result ≡ true = search rules in
    writes_ended (lines_left c.args.lines.now) (lines_left c.loop.lines) (lines_left c.next_line.new.lines)
    c.args.runner.now c.loop.runner c.loop.lines.given before far after
    c.loop.invariant.1 c.next_line.ensures.answers (goes.kept none) (goes.none lacking)

pub returns-in-Err-clause-grows : goal.returns-in-Err-clause-grows
returns-in-Err-clause-grows g c =
    let new = c.next_line.new.lines in
    let goes = c.next_line.ensures.goes_on in
    let one : is_given c.next_line.result ≡ true = search rules in
    let count : new.given ≡ c.loop.lines.given + 1 = search rules in
    let begun = begun_as c.loop.lines.given new.given new.is_begun count (goes.closed one) in
    let is = c.fault_at.ensures.same ∙ ap (λ m. Line (max m 1) c.in-Err.kind) (c.number.ensures.number ∙ begun) in
    answered_fault (lines_left c.args.lines.now) (lines_left c.loop.lines) c.args.runner.now c.loop.runner
    c.answer_line.new.runner c.loop.lines.given new.line.items c.in-Err.kind c.fault_at.result
    (writer_contents g.W.Write.contents c.args.out.now) (writer_contents g.W.Write.contents c.loop.out)
    (writer_contents g.W.Write.contents c.next_line.new.out)
    (writer_contents g.W.Write.contents c.answer_line.new.out) c.loop.invariant.1 c.next_line.ensures.answers
    (λ quiet. ap (writer_contents g.W.Write.contents)
    (silent_fault c.in-Err.kind c.answer_line.result c.next_line.new.out c.answer_line.new.out (search rules)
    c.answer_line.ensures.kept quiet))
    c.in-Err.ensures.meets is
