use Rattle.std.proofs.Common.{length, ap, sym, ◌∙◌}
use Rattle.ar_disks.specs.Block.{xor, part_at}
use Rattle.ar_parity.specs.Row.{block}
use Rattle.ar_parity.proofs.Agrees.{three_sum_done}
use Rattle.ar_disks.specs.Members.{member}
use Rattle.ar_extents.specs.Groups.{IsMember}
use Rattle.ar_extents.proofs.Follows.{works_then}
use Rattle.ar_extents.proofs.GroupLemmas.{works_member}
use Rattle.ar_extents.proofs.Losses.{stays_lost}
use Rattle.ar_parity.proofs.Plans.{three_read, two_failed}
use Rattle.ar_parity.proofs.degraded.sum_of_three.Goals as goal

pub add_beside-requires-clause-beside : goal.add_beside-requires-clause-beside
add_beside-requires-clause-beside g c = record {
  lost = c.args.lost;
  below = c.requires.below;
  apart = c.another-third.ensures.apart;
  is_lost = stays_lost c.args.set.now c.sum_of_two.new.set (member c.args.members.now c.args.lost)
      c.in-Done.ensures.works.follows c.requires.lost;
}

pub returns-in-Done-clause-block : goal.returns-in-Done-clause-block
returns-in-Done-clause-block g c =
    three_sum_done c.add_beside.result c.args.set.now c.sum_of_two.new.set c.args.members.now c.args.row c.args.lost
    c.another-third.result c.args.first (length c.add_beside.new.into)
    c.sum_of_two.new.into c.add_beside.new.into c.another-third.ensures.below
    c.in-Done.ensures.works.follows c.in-Done.ensures.keeps
    (λ blocks agrees. c.in-Done.ensures.sum blocks agrees
    ∙ ap (λ n. part_at (xor (block blocks c.another-third.result) (block blocks c.args.lost)) c.args.first n)
    (sym c.add_beside.auto.into)) c.add_beside.ensures.bytes

pub returns-in-Done-clause-works : goal.returns-in-Done-clause-works
returns-in-Done-clause-works g c =
    let m = c.args.members.now in
    let b = c.sum_of_two.new.set in
    let d = c.add_beside.new.set in
    works_then (IsMember m) c.args.set.now b d c.in-Done.ensures.works
    (works_member m c.another-third.result b d c.another-third.ensures.below c.add_beside.ensures.works)

pub returns-in-Done-clause-made : goal.returns-in-Done-clause-made
returns-in-Done-clause-made g c =
    three_read c.args.members.now c.args.lost c.args.row _ _ _ _ _ c.another-third.ensures.next c.in-Done.ensures.made
    c.add_beside.ensures.made

pub returns-in-Broken-clause-made : goal.returns-in-Broken-clause-made
returns-in-Broken-clause-made g c =
    two_failed c.args.members.now c.args.lost c.args.row _ _ _ c.another-third.ensures.next c.in-Broken.ensures.made
