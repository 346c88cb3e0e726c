use Rattle.std.proofs.Common.{◌-◌, ap, sym, ◌∙◌, arith, length}
use Rattle.ar_disks.specs.Geometry.{block_len_of}
use Rattle.ar_disks.proofs.Xor.{length-zeros}
use Rattle.ar_extents.specs.Groups.{IsMember}
use Rattle.ar_extents.proofs.Follows.{follows_then, works_then}
use Rattle.ar_extents.proofs.GroupLemmas.{works_member}
use Rattle.ar_parity.proofs.Updates.{zero_agrees, broken_zero_agrees, row_then, stands_then}
use Rattle.ar_extents.proofs.Plans.{carries_broken}
use Rattle.ar_parity.proofs.Plans.{next_written, all_written}
use Rattle.ar_parity.proofs.zero.zero_row.Goals as goal

pub write-requires-clause-whole : goal.write-requires-clause-whole
write-requires-clause-whole g c =
    ap length c.requires.zero ∙ length-zeros (block_len_of c.args.set.now.geometry)
    ∙ ap block_len_of (sym c.loop-position.invariant.works.follows.geometry)

pub returns-in-Broken-clause-agrees : goal.returns-in-Broken-clause-agrees
returns-in-Broken-clause-agrees g c =
    broken_zero_agrees c.args.set.now c.write.new.set c.args.members.now c.args.row
    (follows_then c.args.set.now c.loop-position.set c.write.new.set c.loop-position.invariant.works.follows
    c.write.ensures.works.follows)
    c.in-Broken.ensures.answer

pub loop-position-preserved : goal.loop-position-preserved
loop-position-preserved g c =
    let inv = c.loop-position.invariant in
    let below = c.loop-position-test.true in
    record {
      works = works_then (IsMember c.args.members.now) c.args.set.now c.loop-position.set c.write.new.set inv.works
          (works_member c.args.members.now c.loop-position.position c.loop-position.set c.write.new.set below
          c.write.ensures.works);
      keeps = row_then c.args.set.now c.loop-position.set c.write.new.set c.args.members.now c.args.row
          c.loop-position.position below inv.keeps c.write.ensures.keeps;
      stands = stands_then c.loop-position.set c.write.new.set c.args.members.now c.args.row c.loop-position.position
          c.args.zero.now c.requires.group.apart
          below c.write.ensures.works.follows c.write.ensures.keeps inv.stands c.write.ensures.here;
      plan = λ new rest.
          inv.plan new
          (next_written c.args.members.now c.args.row c.loop-position.position 4 c.loop-position.set c.write.new.set
          new below c.write.ensures.plan rest);
      healthy = λ lt. c.in-Done.ensures.answer;
    }

pub returns-clause-agrees : goal.returns-clause-agrees
returns-clause-agrees g c =
    let inv = c.loop-position.invariant in
    zero_agrees c.args.set.now c.loop-position.set c.args.members.now c.args.row c.args.zero.now c.requires.zero
    inv.works.follows
    (λ i lt. inv.stands i (omega arith))

pub returns-in-Broken-clause-works : goal.returns-in-Broken-clause-works
returns-in-Broken-clause-works g c =
    let m = c.args.members.now in
    let b = c.loop-position.set in
    let d = c.write.new.set in
    works_then (IsMember m) c.args.set.now b d c.loop-position.invariant.works
    (works_member m c.loop-position.position b d c.loop-position-test.true c.write.ensures.works)

pub returns-clause-plan : goal.returns-clause-plan
returns-clause-plan g c =
    let inv = c.loop-position.invariant in
    inv.plan c.loop-position.set
    (all_written c.args.members.now c.args.row c.loop-position.position (4 - c.loop-position.position)
    c.loop-position.set (omega arith))

pub returns-in-Broken-clause-plan : goal.returns-in-Broken-clause-plan
returns-in-Broken-clause-plan g c =
    let inv = c.loop-position.invariant in
    let m = c.args.members.now in
    let i = c.loop-position.position in
    inv.plan c.write.new.set
    (next_written m c.args.row i 4 c.loop-position.set c.write.new.set c.write.new.set c.loop-position-test.true
    c.write.ensures.plan
    (carries_broken _ c.write.new.set c.in-Broken.ensures.answer))
