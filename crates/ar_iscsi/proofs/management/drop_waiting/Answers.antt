use Rattle.std.proofs.Common.{◌<◌, List, length, subst}
use Rattle.ar_iscsi.specs.declared.waiting_pdu.WaitingPdu.{WaitingPdu}
use Rattle.ar_iscsi.specs.Management.{managed_by}
use Rattle.ar_iscsi.proofs.Managing.{changed_more}
use Rattle.ar_iscsi.proofs.management.drop_waiting.Goals as goal

pub loop-pdu-preserved : goal.loop-pdu-preserved
loop-pdu-preserved c =
    changed_more (managed_by c.args.request.now) c.loop-pdu.pdu-items c.args.waiting.now.items c.loop-pdu.pdu-index
    c.pdu-item.result c.manage.new.pdu
    (subst (λ (l : List WaitingPdu). c.loop-pdu.pdu-index < length l) c.deref_mut-pdu-items.ensures.value
    c.loop-pdu-test.true) c.loop-pdu.invariant c.manage.ensures
