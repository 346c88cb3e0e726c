use Rattle.std.proofs.Common.{rules}
use Rattle.ar_extents.specs.Plans.{stops, goes_on, falls_back}
use Rattle.ar_extents.proofs.Plans.{carries_one, carries_broken}
use Rattle.ar_mirror.specs.Plans.{read_either}
use Rattle.ar_mirror.proofs.Plans.{carried_at}
use Rattle.ar_mirror.proofs.parts.get_part.Goals as goal

pub returns-in-Read-clause-plan : goal.returns-in-Read-clause-plan
returns-in-Read-clause-plan g c =
    let pair = c.pair_of-pair.ensures in
    carried_at read_either c.args.members.now c.args.slot _ _ _ _ _ _ c.geometry.ensures pair.one pair.other pair.row
    (goes_on _ _ _ _ _ _ c.in-Read.ensures.made (stops _))

pub returns-in-Read-get_part-clause-plan : goal.returns-in-Read-get_part-clause-plan
returns-in-Read-get_part-clause-plan g c =
    let pair = c.pair_of-pair.ensures in
    carried_at read_either c.args.members.now c.args.slot _ _ _ _ _ _ c.geometry.ensures pair.one pair.other pair.row
    (falls_back _ _ _ _ _ _ c.in-Missing.ensures.made (carries_one _ _ _ _ c.get_part-in-Missing.ensures.made))

pub returns-in-Missing-get_part : goal.returns-in-Missing-get_part
returns-in-Missing-get_part g c =
    let pair = c.pair_of-pair.ensures in
    record {
      outcome = search rules;
      gives = search rules;
      plan = carried_at read_either c.args.members.now c.args.slot _ _ _ _ _ _ c.geometry.ensures pair.one pair.other
          pair.row
          (falls_back _ _ _ _ _ _ c.in-Missing.ensures.made (carries_one _ _ _ _ c.get_part-in-Missing.ensures.made));
    }

pub returns-in-Broken-clause-plan : goal.returns-in-Broken-clause-plan
returns-in-Broken-clause-plan g c =
    let pair = c.pair_of-pair.ensures in
    carried_at read_either c.args.members.now c.args.slot _ _ _ _ _ _ c.geometry.ensures pair.one pair.other pair.row
    (falls_back _ _ _ _ _ _ c.in-Broken.ensures.made (carries_broken _ _ c.in-Broken.ensures.answer.block))
