use Rattle.std.proofs.Common.{arith, ap, ◌∙◌}
use Rattle.ar_disks.specs.Block.{xor, part_at}
use Rattle.ar_parity.specs.Row.{block, parity_position}
use Rattle.ar_parity.proofs.Updates.{lost_changed, broken_part}
use Rattle.ar_extents.proofs.Plans.{all_then, all_stopped}
use Rattle.ar_parity.specs.Plans.{two_reads, write_member, write_lost}
use Rattle.ar_parity.proofs.Plans.{carried_to}
use Rattle.ar_parity.proofs.update.put_lost.Goals as goal

pub returns-in-Done-clause-changes : goal.returns-in-Done-clause-changes
returns-in-Done-clause-changes g c = record {
  agrees = lost_changed c.args.set.now c.sum_of_two.new.set c.write_part.new.set c.args.members.now c.args.row
      c.args.position c.parity_at-parity.result
      (parity_position c.args.row) c.args.first c.args.from.now c.sum_of_two.new.into c.add_into.new.target
      c.requires.group.apart c.parity_at-parity.ensures.position c.requires.below c.parity_at-parity.ensures.below
      c.requires.apart c.requires.within c.requires.lost c.in-Done.ensures.works.follows c.in-Done.ensures.keeps
      c.write_part.ensures.works.follows c.write_part.ensures.keeps
      c.add_into.ensures c.write_part.ensures.here
      (λ blocks agrees. c.in-Done.ensures.sum blocks agrees
      ∙ ap (λ n. part_at (xor (block blocks c.parity_at-parity.result) (block blocks c.args.position)) c.args.first n)
      (c.sum_of_two.auto.into ∙ c.requires.sum_len));
}

pub returns-in-Broken-clause-changes : goal.returns-in-Broken-clause-changes
returns-in-Broken-clause-changes g c = record {
  agrees = broken_part c.args.set.now c.sum_of_two.new.set c.args.members.now c.args.row c.args.position
      (parity_position c.args.row) c.args.first c.args.from.now
      c.in-Broken.ensures.works.follows c.in-Broken.ensures.answer c.requires.below (omega arith) c.requires.apart
      c.requires.within;
}

pub returns-in-Done-clause-plan : goal.returns-in-Done-clause-plan
returns-in-Done-clause-plan g c =
    let m = c.args.members.now in
    let i = c.args.position in
    let j = c.parity_at-parity.result in
    let row = c.args.row in
    carried_to (λ j. write_lost m i j row) _ _ _ _ c.parity_at-parity.ensures.position
    (all_then (two_reads m i j row) (write_member m j row) _ _ _ c.in-Done.ensures.made c.write_part.ensures.plan)

pub returns-in-Broken-clause-plan : goal.returns-in-Broken-clause-plan
returns-in-Broken-clause-plan g c =
    let m = c.args.members.now in
    let i = c.args.position in
    let j = c.parity_at-parity.result in
    let row = c.args.row in
    carried_to (λ j. write_lost m i j row) _ _ _ _ c.parity_at-parity.ensures.position
    (all_stopped (two_reads m i j row) (write_member m j row) _ _ c.in-Broken.ensures.made)
