use Rattle.std.proofs.Common.{◌-◌, ◌∙◌, ap, arith}
use Rattle.ar_disks.specs.Geometry.{rows_of, block_len_of}
use Rattle.ar_extents.proofs.Follows.{keeps_then, works_then}
use Rattle.ar_extents.specs.Groups.{IsMember, IsOutside}
use Rattle.ar_parity.proofs.Updates.{zeros_then}
use Rattle.ar_parity.proofs.SlotLemmas.{zero_slots}
use Rattle.ar_extents.proofs.Plans.{carries_broken}
use Rattle.ar_parity.proofs.Plans.{next_stripe, no_stripes}
use Rattle.ar_parity.proofs.group.open_zero.Goals as goal

pub loop-row-preserved : goal.loop-row-preserved
loop-row-preserved g c =
    let inv = c.loop-row.invariant in
    let row = c.zero_row.ensures in
    let rows = c.rows-row-end.ensures ∙ ap rows_of c.geometry.ensures in
    let below = c.loop-row-test.true in
    record {
      works = works_then (IsMember c.args.members.now) c.args.set.now c.loop-row.set c.zero_row.new.set inv.works
          row.works;
      keeps = keeps_then (IsOutside c.args.members.now) c.args.set.now c.loop-row.set c.zero_row.new.set inv.keeps
          row.keeps.other_places;
      agrees = zeros_then c.args.set.now c.loop-row.set c.zero_row.new.set c.args.members.now c.loop-row.row
          inv.works.follows row.works.follows row.keeps inv.agrees row.agrees;
      past = λ p r le. row.keeps.other_rows p r (omega arith) ∙ inv.past p r (omega arith);
      plan = λ new rest.
          inv.plan new
          (next_stripe c.args.members.now c.loop-row.row (rows_of c.args.set.now.geometry) c.loop-row.set
          c.zero_row.new.set new (omega arith) row.plan rest);
      healthy = λ lt. c.in-Done.ensures.answer;
    }

pub returns-clause-rows : goal.returns-clause-rows
returns-clause-rows g c = λ row lt.
    let rows = c.rows-row-end.ensures ∙ ap rows_of c.geometry.ensures in
    c.loop-row.invariant.agrees row (omega arith)

pub returns-clause-slots : goal.returns-clause-slots
returns-clause-slots g c =
    zero_slots c.loop-row.set c.args.members.now (rows_of c.args.set.now.geometry)
    (block_len_of c.args.set.now.geometry) (returns-clause-rows g c)

pub returns-in-Broken-clause-stopped : goal.returns-in-Broken-clause-stopped
returns-in-Broken-clause-stopped g c = λ broken.
    let inv = c.loop-row.invariant in
    let rows = c.rows-row-end.ensures ∙ ap rows_of c.geometry.ensures in
    let below = c.loop-row-test.true in
    record {
      row = c.loop-row.row;
      there = omega arith;
      opened = c.loop-row.set;
      reached = inv.works;
      goes_on = c.zero_row.ensures.works;
      zeros = inv.agrees;
      usable = inv.healthy;
      past = inv.past;
      here = c.zero_row.ensures.keeps;
    }

pub returns-clause-plan : goal.returns-clause-plan
returns-clause-plan g c =
    let inv = c.loop-row.invariant in
    let rows = c.rows-row-end.ensures ∙ ap rows_of c.geometry.ensures in
    inv.plan c.loop-row.set
    (no_stripes c.args.members.now c.loop-row.row (rows_of c.args.set.now.geometry - c.loop-row.row) c.loop-row.set
    (omega arith))

pub returns-in-Broken-clause-plan : goal.returns-in-Broken-clause-plan
returns-in-Broken-clause-plan g c =
    let inv = c.loop-row.invariant in
    let rows = c.rows-row-end.ensures ∙ ap rows_of c.geometry.ensures in
    let below = c.loop-row-test.true in
    inv.plan c.zero_row.new.set
    (next_stripe c.args.members.now c.loop-row.row (rows_of c.args.set.now.geometry) c.loop-row.set c.zero_row.new.set
    c.zero_row.new.set (omega arith) c.zero_row.ensures.plan
    (carries_broken _ c.zero_row.new.set c.in-Broken.ensures.answer))
