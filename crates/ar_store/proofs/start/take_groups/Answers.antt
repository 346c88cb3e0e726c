use Rattle.std.proofs.Common.{◌+◌, arith}
use Rattle.ar_store.proofs.Taking.{taking_here, taking_next}
use Rattle.ar_store.proofs.start.take_groups.Goals as goal

pub take_members-requires : goal.take_members-requires
take_members-requires g c =
    (taking_here c.args.set.now c.loop-number.set c.args.book.now c.loop-number.number c.members.result
    c.loop-number.invariant (omega arith) c.members.ensures).0

pub loop-number-preserved : goal.loop-number-preserved
loop-number-preserved g c =
    taking_next c.args.set.now c.loop-number.set c.take_members.new.set c.args.book.now c.loop-number.number
    (c.loop-number.number + 1) c.members.result
    c.loop-number.invariant (omega arith) c.members.ensures c.take_members.ensures (omega arith)
