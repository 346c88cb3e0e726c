use Rattle.std.proofs.Common.{◌<◌, List, length, subst}
use Rattle.ar_iscsi.specs.declared.waiting_pdu.WaitingPdu.{WaitingPdu}
use Rattle.ar_iscsi.specs.Early.{gathered_by}
use Rattle.ar_iscsi.proofs.Managing.{changed_more}
use Rattle.ar_iscsi.proofs.early.gather_early.Goals as goal

pub loop-kept-preserved : goal.loop-kept-preserved
loop-kept-preserved c =
    changed_more (gathered_by c.args.limits.now c.args.pdu.now c.args.carried.now) c.loop-kept.kept-items
    c.args.waiting.now.items c.loop-kept.kept-index c.kept-item.result c.gather.new.kept
    (subst (λ (l : List WaitingPdu). c.loop-kept.kept-index < length l) c.deref_mut-kept-items.ensures.value
    c.loop-kept-test.true) c.loop-kept.invariant c.in_ok-gather.ensures
