use Rattle.ar_extents.proofs.Follows.{follows_then}
use Rattle.ar_extents.proofs.Plans.{one_then, carries_broken}
use Rattle.ar_parity.specs.Plans.{write_member}
use Rattle.ar_parity.proofs.stripe.write_both.Goals as goal

pub returns-in-Done-clause-follows : goal.returns-in-Done-clause-follows
returns-in-Done-clause-follows g c =
    follows_then c.args.set.now c.write.new.set c.write-in-Done.new.set c.write.ensures.works.follows
    c.write-in-Done.ensures.works.follows

pub returns-in-Done-clause-plan : goal.returns-in-Done-clause-plan
returns-in-Done-clause-plan g c = one_then _ _ _ _ _ c.write.ensures.plan c.write-in-Done.ensures.plan

pub returns-in-Broken-clause-plan : goal.returns-in-Broken-clause-plan
returns-in-Broken-clause-plan g c =
    one_then _ _ _ _ _ c.write.ensures.plan
    (carries_broken (write_member c.args.members.now c.args.parity c.args.row) _ c.in-Broken.ensures.answer)
