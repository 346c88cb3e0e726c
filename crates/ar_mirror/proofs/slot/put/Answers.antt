use Rattle.std.proofs.Common.{rules}
use Rattle.ar_extents.proofs.Plans.{carries_both, carries_one, carries_broken}
use Rattle.ar_mirror.specs.Plans.{write_pair}
use Rattle.ar_mirror.proofs.Plans.{carried_at}
use Rattle.ar_mirror.proofs.Holding.{slot_written}
use Rattle.ar_mirror.proofs.slot.put.Goals as goal

pub returns-in-Broken-put : goal.returns-in-Broken-put
returns-in-Broken-put g c =
    let pair = c.pair_of-pair.ensures in
    let first = c.put.ensures in
    let second = c.put-in-Written.ensures in
    let written =
    slot_written c.args.members.now c.args.slot _ _ _ _ _ _ _ c.args.from.now _ _ c.requires.group c.requires.slot
    c.geometry.ensures pair.one
    pair.other pair.row first.answer first.made second.answer second.made in
    record {
      outcome = search rules;
      holds = written.holds;
      slots = written.slots;
      groups = written.groups;
      plan = carried_at write_pair c.args.members.now c.args.slot _ _ _ _ _ _ c.geometry.ensures pair.one pair.other
          pair.row
          (carries_both _ _ _ _ _ _ first.made (carries_one _ _ _ _ second.made));
    }

pub returns-in-Written-put : goal.returns-in-Written-put
returns-in-Written-put g c =
    let pair = c.pair_of-pair.ensures in
    let first = c.put.ensures in
    let second = c.put-in-Written.ensures in
    let written =
    slot_written c.args.members.now c.args.slot _ _ _ _ _ _ _ c.args.from.now _ _ c.requires.group c.requires.slot
    c.geometry.ensures pair.one
    pair.other pair.row first.answer first.made second.answer second.made in
    record {
      outcome = search rules;
      holds = written.holds;
      slots = written.slots;
      groups = written.groups;
      plan = carried_at write_pair c.args.members.now c.args.slot _ _ _ _ _ _ c.geometry.ensures pair.one pair.other
          pair.row
          (carries_both _ _ _ _ _ _ first.made (carries_one _ _ _ _ second.made));
    }

pub returns-in-Broken-clause-plan : goal.returns-in-Broken-clause-plan
returns-in-Broken-clause-plan g c =
    let pair = c.pair_of-pair.ensures in
    carried_at write_pair c.args.members.now c.args.slot _ _ _ _ _ _ c.geometry.ensures pair.one pair.other pair.row
    (carries_both _ _ _ _ _ _ c.put.ensures.made (carries_broken _ _ c.in-Broken.ensures.answer))
