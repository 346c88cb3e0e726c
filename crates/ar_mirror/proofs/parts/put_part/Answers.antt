use Rattle.std.proofs.Common.{rules}
use Rattle.ar_extents.proofs.Plans.{carries_both, carries_one, carries_broken}
use Rattle.ar_mirror.specs.Plans.{write_pair}
use Rattle.ar_mirror.proofs.Plans.{carried_at}
use Rattle.ar_mirror.proofs.Overwriting.{part_holds, part_written}
use Rattle.ar_mirror.proofs.parts.put_part.Goals as goal

pub returns-in-Broken-put_part : goal.returns-in-Broken-put_part
returns-in-Broken-put_part g c =
    let pair = c.pair_of-pair.ensures in
    let first = c.put_part.ensures in
    let second = c.put_part-in-Written.ensures in
    let m = c.args.members.now in
    let plan =
    carried_at write_pair m c.args.slot _ _ _ _ _ _ c.geometry.ensures pair.one pair.other pair.row
    (carries_both _ _ _ _ _ _ first.made (carries_one _ _ _ _ second.made)) in
    let written = part_written m c.args.slot _ _ c.requires.group c.requires.slot plan in
    record {
      outcome = search rules;
      holds = λ block has.
          part_holds m c.args.slot _ _ _ _ _ _ _ _ c.args.from.now block _ _ c.requires.group c.requires.slot
          c.geometry.ensures pair.one pair.other pair.row first.answer first.made second.answer second.made has;
      slots = written.slots;
      groups = written.groups;
      plan = plan;
    }

pub returns-in-Written-put_part : goal.returns-in-Written-put_part
returns-in-Written-put_part g c =
    let pair = c.pair_of-pair.ensures in
    let first = c.put_part.ensures in
    let second = c.put_part-in-Written.ensures in
    let m = c.args.members.now in
    let plan =
    carried_at write_pair m c.args.slot _ _ _ _ _ _ c.geometry.ensures pair.one pair.other pair.row
    (carries_both _ _ _ _ _ _ first.made (carries_one _ _ _ _ second.made)) in
    let written = part_written m c.args.slot _ _ c.requires.group c.requires.slot plan in
    record {
      outcome = search rules;
      holds = λ block has.
          part_holds m c.args.slot _ _ _ _ _ _ _ _ c.args.from.now block _ _ c.requires.group c.requires.slot
          c.geometry.ensures pair.one pair.other pair.row first.answer first.made second.answer second.made has;
      slots = written.slots;
      groups = written.groups;
      plan = plan;
    }

pub returns-in-Broken-clause-plan : goal.returns-in-Broken-clause-plan
returns-in-Broken-clause-plan g c =
    let pair = c.pair_of-pair.ensures in
    carried_at write_pair c.args.members.now c.args.slot _ _ _ _ _ _ c.geometry.ensures pair.one pair.other pair.row
    (carries_both _ _ _ _ _ _ c.put_part.ensures.made (carries_broken _ _ c.in-Broken.ensures.answer))
