use Rattle.std.proofs.Common.{arith, ◌∙◌, sym}
use Rattle.ar_iscsi.proofs.Items.{member_found, member_passed, member_last}
use Rattle.ar_iscsi.proofs.keys.has_member.Goals as goal

pub returns-then-eq : goal.returns-then-eq
returns-then-eq c =
    sym (sym c.loop-end.invariant.same
    ∙ member_found _ c.loop-end.rest.now c.loop-end.end c.loop-end.invariant.at c.loop-end-test.true (sym c.eq.ensures
    ∙ c.if-eq.true))

pub loop-end-preserved : goal.loop-end-preserved
loop-end-preserved c = record {
  at = c.place_of-end-in-loop-end.ensures.first;
  shorter = omega (arith, c.loop-end.invariant.shorter, c.behind-rest.ensures.shorter);
  same = member_passed _ c.loop-end.rest.now c.behind-rest.result.now c.loop-end.end c.behind-rest.ensures.is
      c.loop-end.invariant.at c.loop-end-test.true (sym c.eq.ensures ∙ c.if-eq.false)
      ∙ c.loop-end.invariant.same;
}

pub returns : goal.returns
returns c = c.eq-2.ensures
    ∙ sym (member_last _ c.loop-end.rest.now c.loop-end.end c.loop-end.invariant.at c.loop-end-test.false)
    ∙ c.loop-end.invariant.same
