use Rattle.std.proofs.Common.{◌≡◌, IfErr, OnOk, refl, sym, subst, rules}
use Rattle.std.proofs.lemmas.Result.{IfOk-at_ok, on_ok_weaker}
use Rattle.ar_language.specs.declared.fault.FaultKind.TheVariants.{WriteFault}
use Rattle.ar_language.specs.declared.order.Order.{Order}
use Rattle.ar_answers.proofs.FaultLemmas.{ok_before}
use Rattle.std.specs.Io.KnownBytes.{Appends}
use Rattle.ar_language.specs.Notations.{notation_in}
use Rattle.ar_answers.specs.Answers.{AppendsAnswer}
use Rattle.ar_answers.specs.Orders.{Acts, Leaves}
use Rattle.ar_answers.specs.Texts.{outcome_text}
use Rattle.ar_script.proofs.AnswerLemmas.{acted}
use Rattle.ar_script.proofs.runner.Runner.answer.Goals as goal

pub returns-in_ok-outcome-in-Act-clause-leaves : goal.returns-in_ok-outcome-in-Act-clause-leaves
returns-in_ok-outcome-in-Act-clause-leaves g c =
    let old = c.args.self.now in
    let new = c.act.new.self in
    let result = c.map_err-in-Act.result in
    let outcome = c.in_ok-outcome-in-Act.outcome in
    let done = ok_before c.act.result c.map_err.result outcome _ c.map_err.ensures.cases c.in_ok-outcome-in-Act.was in
    let acts : Acts c.in-Act.action old new =
    record { outcome = outcome; steps = IfOk-at_ok _ done c.act.ensures.done } in
    let unwritten : IfErr result (λ kind. kind ≡ WriteFault) = search rules in
    let P : Order → Type 0 = λ order. Leaves order old result new in
    subst P (sym c.in-Act.is) (acted c.in-Act.action old new result unwritten acts)

pub returns-in_ok-outcome-in-Act-clause-answers : goal.returns-in_ok-outcome-in-Act-clause-answers
returns-in_ok-outcome-in-Act-clause-answers g c =
    let old = c.args.self.now in
    let new = c.act.new.self in
    let before = g.W.Write.contents c.args.out.now in
    let after = g.W.Write.contents c.write_outcome.new.out in
    let result = c.map_err-in-Act.result in
    let action = c.in-Act.action in
    let outcome = c.in_ok-outcome-in-Act.outcome in
    let done = ok_before c.act.result c.map_err.result outcome _ c.map_err.ensures.cases c.in_ok-outcome-in-Act.was in
    let acts : Acts action old new = record { outcome = outcome; steps = IfOk-at_ok _ done c.act.ensures.done } in
    let text = outcome_text outcome (notation_in action) in
    let said : OnOk result (Appends before after text) = search rules in
    let P : Order → Type 0 = λ order. AppendsAnswer order old new before after in
    on_ok_weaker {P = Appends before after text} {Q = P c.args.order} result
    (λ appends. subst P (sym c.in-Act.is) (record { text = text; is = (acts, refl); appends = appends })) said
