use Rattle.std.proofs.Common.{length, ap, sym, ◌∙◌}
use Rattle.ar_disks.specs.Block.{part_at}
use Rattle.ar_parity.proofs.Agrees.{two_sum_done}
use Rattle.ar_disks.specs.Members.{member}
use Rattle.ar_extents.specs.Groups.{IsMember}
use Rattle.ar_extents.proofs.Follows.{works_then}
use Rattle.ar_extents.proofs.GroupLemmas.{works_member}
use Rattle.ar_extents.proofs.Losses.{stays_lost}
use Rattle.ar_parity.proofs.Plans.{two_read, first_failed}
use Rattle.ar_parity.proofs.degraded.sum_of_two.Goals as goal

pub read_beside-requires-clause-beside : goal.read_beside-requires-clause-beside
read_beside-requires-clause-beside g c = record {
  lost = c.args.lost;
  below = c.requires.two.other;
  apart = c.lowest_beside-low.ensures.apart_one;
  is_lost = c.requires.lost;
}

pub add_beside-requires-clause-beside : goal.add_beside-requires-clause-beside
add_beside-requires-clause-beside g c = record {
  lost = c.args.lost;
  below = c.requires.two.other;
  apart = c.highest_beside-high.ensures.apart_one;
  is_lost = stays_lost c.args.set.now c.read_beside.new.set (member c.args.members.now c.args.lost)
      c.in-Done.ensures.works.follows c.requires.lost;
}

pub returns-in-Done-clause-sum : goal.returns-in-Done-clause-sum
returns-in-Done-clause-sum g c =
    two_sum_done c.add_beside.result c.args.set.now c.read_beside.new.set c.args.members.now c.args.row c.args.lost
    c.args.beside
    c.lowest_beside-low.result c.highest_beside-high.result c.args.first (length c.add_beside.new.into)
    c.read_beside.new.into c.add_beside.new.into
    c.requires.two.other c.requires.two.one c.requires.two.apart c.lowest_beside-low.ensures.position
    c.highest_beside-high.ensures.position c.lowest_beside-low.ensures.below c.highest_beside-high.ensures.below
    c.in-Done.ensures.works.follows c.in-Done.ensures.keeps
    (λ b stands. c.in-Done.ensures.bytes b stands
    ∙ ap (λ n. part_at b c.args.first n) (sym c.add_beside.auto.into)) c.add_beside.ensures.bytes

pub returns-in-Done-clause-works : goal.returns-in-Done-clause-works
returns-in-Done-clause-works g c =
    let m = c.args.members.now in
    let a = c.args.set.now in
    let b = c.read_beside.new.set in
    let d = c.add_beside.new.set in
    works_then (IsMember m) a b d
    (works_member m c.lowest_beside-low.result a b c.lowest_beside-low.ensures.below c.in-Done.ensures.works)
    (works_member m c.highest_beside-high.result b d c.highest_beside-high.ensures.below c.add_beside.ensures.works)

pub returns-in-Done-clause-made : goal.returns-in-Done-clause-made
returns-in-Done-clause-made g c =
    two_read c.args.members.now c.args.lost c.args.beside c.args.row _ _ _ _ _ _ c.lowest_beside-low.ensures.position
    c.highest_beside-high.ensures.position
    c.in-Done.ensures.made c.add_beside.ensures.made

pub returns-in-Broken-clause-made : goal.returns-in-Broken-clause-made
returns-in-Broken-clause-made g c =
    first_failed c.args.members.now c.args.lost c.args.beside c.args.row _ _ _ c.lowest_beside-low.ensures.position
    c.in-Broken.ensures.made
