use Rattle.std.proofs.Common.{◌∙◌, ◌+◌, Option, unwrap_or, drop, refl, sym, ap, arith}
use Rattle.ar_iscsi.specs.declared.keys.KeyAnswer.{KeyAnswer}
use Rattle.ar_iscsi.specs.declared.keys.KeyAnswer.TheVariants as says
use Rattle.ar_iscsi.specs.Text.{digest_answer}
use Rattle.ar_iscsi.proofs.Items.{digest_more, digest_last}
use Rattle.ar_iscsi.proofs.keys.digest_answer.Goals as goal

pub returns-in-Some : goal.returns-in-Some
returns-in-Some c =
    let rest = c.loop-end.rest.now in
    let behind = drop (c.loop-end.end + 1) rest in
    sym (sym c.loop-end.invariant.same
    ∙ digest_more rest behind c.loop-end.end refl c.loop-end.invariant.at c.loop-end-test.true
    ∙ ap (λ (d : Option KeyAnswer). unwrap_or d (digest_answer behind)) (sym c.digest_named.ensures ∙ c.in-Some.is))

pub loop-end-preserved : goal.loop-end-preserved
loop-end-preserved c =
    let rest = c.loop-end.rest.now in
    let behind = c.behind-rest.result.now in
    record {
      at = c.place_of-end-in-loop-end.ensures.first;
      shorter = omega (arith, c.loop-end.invariant.shorter, c.behind-rest.ensures.shorter);
      same = sym (digest_more rest behind c.loop-end.end c.behind-rest.ensures.is c.loop-end.invariant.at
          c.loop-end-test.true
          ∙ ap (λ (d : Option KeyAnswer). unwrap_or d (digest_answer behind))
          (sym c.digest_named.ensures ∙ c.in_default.is))
          ∙ c.loop-end.invariant.same;
    }

pub returns : goal.returns
returns c = c.unwrap_or.ensures
    ∙ ap (λ (d : Option KeyAnswer). unwrap_or d says.Reject) c.digest_named-2.ensures
    ∙ sym (digest_last c.loop-end.rest.now c.loop-end.end c.loop-end.invariant.at c.loop-end-test.false)
    ∙ c.loop-end.invariant.same
