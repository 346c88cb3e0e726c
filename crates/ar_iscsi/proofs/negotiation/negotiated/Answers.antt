use Rattle.std.proofs.Common.{arith, ◌∙◌}
use Rattle.ar_iscsi.proofs.Items.{negotiated_more, negotiated_last}
use Rattle.ar_iscsi.proofs.negotiation.negotiated.Goals as goal

pub loop-end-preserved : goal.loop-end-preserved
loop-end-preserved c = record {
  at = c.place_of-end-in-loop-end.ensures.first;
  shorter = omega (arith, c.loop-end.invariant.shorter, c.behind-rest.ensures.shorter);
  goes = negotiated_more c.loop-end.so_far c.after_item-so_far.result _ c.loop-end.rest.now _ c.loop-end.end
      c.behind-rest.ensures.is c.loop-end.invariant.at c.loop-end-test.true
      c.after_item-so_far.ensures c.loop-end.invariant.goes;
}

pub returns : goal.returns
returns c = c.after_item.ensures
    ∙ negotiated_last c.loop-end.so_far _ c.loop-end.rest.now c.loop-end.end c.loop-end.invariant.at
    c.loop-end-test.false c.loop-end.invariant.goes
