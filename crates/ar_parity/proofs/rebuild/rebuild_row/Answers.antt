use Rattle.ar_parity.proofs.Working.{rebuilt_agrees}
use Rattle.ar_extents.proofs.Asking.{attempt_follows, attempt_keeps}
use Rattle.ar_extents.proofs.Plans.{all_then, all_stopped, carries_one}
use Rattle.ar_parity.proofs.Plans.{rebuilt_next}
use Rattle.ar_parity.proofs.rebuild.rebuild_row.Goals as goal

pub returns-in-Written-clause-agrees : goal.returns-in-Written-clause-agrees
returns-in-Written-clause-agrees g c =
    rebuilt_agrees c.args.set.now c.lost_block.new.set c.put_new.new.self c.args.members.now c.args.row
    c.requires.next.rebuilding
    c.in-Done.ensures.works c.in-Done.ensures.keeps c.in-Done.ensures.health
    (attempt_follows _ _ _ _ c.put_new.ensures.made)
    (attempt_keeps _ _ _ _ c.put_new.ensures.made)

pub returns-in-Broken-clause-plan : goal.returns-in-Broken-clause-plan
returns-in-Broken-clause-plan g c = all_stopped _ _ _ _ c.in-Broken.ensures.made

pub returns-in-Written-clause-plan : goal.returns-in-Written-clause-plan
returns-in-Written-clause-plan g c =
    all_then _ _ _ _ _ c.in-Done.ensures.made
    (carries_one _ _ _ _
    (rebuilt_next c.args.members.now c.args.position c.args.row _ c.args.set.now c.lost_block.new.set
    c.put_new.new.self c.requires.next.next c.in-Done.ensures.health c.put_new.ensures.made))

pub returns-in-GivenUp-clause-plan : goal.returns-in-GivenUp-clause-plan
returns-in-GivenUp-clause-plan g c =
    all_then _ _ _ _ _ c.in-Done.ensures.made
    (carries_one _ _ _ _
    (rebuilt_next c.args.members.now c.args.position c.args.row _ c.args.set.now c.lost_block.new.set
    c.put_new.new.self c.requires.next.next c.in-Done.ensures.health c.put_new.ensures.made))
