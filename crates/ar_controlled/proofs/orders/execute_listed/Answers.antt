use Rattle.std.proofs.Common.{◌≡◌, ◌⊎◌, inl, inr, Bool, true, false, Option, Result, Ok, Err, List, ℕ, [], refl, sym}
use Rattle.std.proofs.Common.{subst}
use Rattle.std.specs.Prelude.{OnOk}
use Rattle.std.specs.declared.alloc.AllocError.{AllocError}
use Rattle.ar_controlled.specs.Orders.{AnswersWith, is_act, store_failed}
use Rattle.ar_served.specs.Kept.{KeptState}
use Rattle.ar_operator.specs.Executing.{Executes}
use Rattle.ar_controlled.proofs.orders.execute_listed.Goals as goal

-- by whether it lasts
lasting : (lasts : Bool) (line : Option (List ℕ)) (own result : Result (Unit {0}) AllocError) (written answer : List ℕ)
    (L : Type 0)
    → AnswersWith lasts line own written result answer → (lasts ≡ true → L)
    → OnOk result ((answer ≡ store_failed) ⊎ L)
lasting true line own (Ok done) written answer L with_own here = inr (here refl)
lasting true line own (Err fault) written answer L with_own here = tt
lasting false line own (Ok done) written answer L failed here = inl failed
lasting false line own (Err fault) written answer L failed here = tt

-- under a premise
under : {T E : Type 0} (P X : Type 0) (result : Result T E) → (P → OnOk result X) → OnOk result (P → X)
under P X (Ok done) holds = λ p. holds p
under P X (Err fault) holds = tt

pub returns-clause-lasts : goal.returns-clause-lasts
returns-clause-lasts g c =
    under (is_act c.args.order ≡ true) _ c.answer_with.result (λ act.
    lasting c.lasts_after-lasts.result _ c.execute-done.result c.answer_with.result c.execute-done.new.out.items
    c.answer_with.new.out.items (g.A.ServedArray.lasts c.lasts_after-lasts.new.array) c.answer_with.ensures
    (λ is. c.lasts_after-lasts.ensures.lasts is act))

pub returns-clause-executes : goal.returns-clause-executes
returns-clause-executes g c =
    let state = g.A.ServedArray.state in
    let old = state c.args.array.now in
    let own = c.execute-done.result in
    let written = c.execute-done.new.out.items in
    record {
      own = own;
      written = written;
      executes =
          subst (λ (k : KeptState). Executes c.args.order old [] own written k) (sym c.lasts_after-lasts.ensures.same)
          (subst (λ (l : List ℕ). Executes c.args.order old l own written (state c.execute-done.new.self))
          c.requires.empty c.execute-done.ensures);
      lasts = c.lasts_after-lasts.result;
      store = c.store.result;
      answers =
          subst (λ (l : Option (List ℕ)). AnswersWith c.lasts_after-lasts.result l own written c.answer_with.result
          c.answer_with.new.out.items) c.line_added-line.ensures c.answer_with.ensures;
      failed = c.lasts_after-lasts.ensures.failed;
      absent = c.store.ensures;
    }
