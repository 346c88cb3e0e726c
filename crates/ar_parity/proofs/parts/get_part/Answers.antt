use Rattle.ar_extents.specs.Plans.{stops, goes_on, falls_back}
use Rattle.ar_extents.proofs.Plans.{carries_broken}
use Rattle.ar_parity.proofs.Plans.{read_carried, all_read}
use Rattle.ar_parity.proofs.parts.get_part.Goals as goal

pub returns-in-Read-clause-plan : goal.returns-in-Read-clause-plan
returns-in-Read-clause-plan g c =
    read_carried c.args.members.now c.args.slot _ _ _ _ _ c.data_at-position.ensures.position c.row_of_slot-row.ensures
    c.at.ensures
    (goes_on _ _ _ _ _ _ c.in-Read.ensures.made (stops _))

pub returns-in-Missing-clause-plan : goal.returns-in-Missing-clause-plan
returns-in-Missing-clause-plan g c =
    read_carried c.args.members.now c.args.slot _ _ _ _ _ c.data_at-position.ensures.position c.row_of_slot-row.ensures
    c.at.ensures
    (falls_back _ _ _ _ _ _ c.in-Missing.ensures.made (all_read _ _ _ _ c.sum_of_three.ensures.made))

pub returns-in-Broken-clause-plan : goal.returns-in-Broken-clause-plan
returns-in-Broken-clause-plan g c =
    read_carried c.args.members.now c.args.slot _ _ _ _ _ c.data_at-position.ensures.position c.row_of_slot-row.ensures
    c.at.ensures
    (falls_back _ _ _ _ _ _ c.in-Broken.ensures.made (carries_broken _ _ c.in-Broken.ensures.answer.block))
