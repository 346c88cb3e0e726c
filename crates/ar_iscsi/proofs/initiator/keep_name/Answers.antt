use Rattle.std.proofs.Common.{arith}
use Rattle.ar_iscsi.proofs.Items.{named_more, named_last}
use Rattle.ar_iscsi.proofs.Oks.{on_ok}
use Rattle.ar_iscsi.proofs.initiator.keep_name.Goals as goal

pub loop-end-preserved : goal.loop-end-preserved
loop-end-preserved c = record {
  at = c.place_of-end-in-loop-end.ensures.first;
  shorter = omega (arith, c.loop-end.invariant.shorter, c.behind-rest.ensures.shorter);
  keeps = named_more _ _ _ _ _ c.loop-end.end c.behind-rest.ensures.is c.loop-end.invariant.at
      c.loop-end-test.true c.in_ok-keep_item.ensures c.loop-end.invariant.keeps;
}

pub returns : goal.returns
returns c = on_ok c.keep_item-2.result _ _
    (λ e. named_last _ _ _ _ c.loop-end.end c.loop-end.invariant.at c.loop-end-test.false e
    c.loop-end.invariant.keeps) c.keep_item-2.ensures
