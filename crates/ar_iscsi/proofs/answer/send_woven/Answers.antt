use Rattle.std.proofs.Common.{◌≤◌, ◌<◌, ◌+◌, length, arith}
use Rattle.ar_iscsi.proofs.Weaving.{next_place, sends_next, sends_part_of, sends_rest, sends_part_rest}
use Rattle.ar_iscsi.proofs.answer.send_woven.Goals as goal

pub loop-i-preserved : goal.loop-i-preserved
loop-i-preserved g c =
    let i = c.loop-i.i in
    let within : i < length c.args.cuts.now =
    omega (arith, c.loop-i-test.true, c.saturating_sub-last.ensures) in
    record {
      place = next_place _ _ _ i c.loop-i.from c.loop-i.at c.cut_at-cut.result c.cut_at-cut.ensures
          c.loop-i.invariant.place;
      sends = sends_next _ _ _ i c.loop-i.from c.loop-i.at c.cut_at-cut.result c.cut_at-cut.ensures
          c.loop-i.invariant.place within _ _ _ c.loop-i.invariant.sends c.in-Whole.ensures;
    }

pub returns-in-Part : goal.returns-in-Part
returns-in-Part g c =
    let i = c.loop-i.i in
    let within : i < length c.args.cuts.now =
    omega (arith, c.loop-i-test.true, c.saturating_sub-last.ensures) in
    sends_part_of _ _ _ i c.loop-i.from c.loop-i.at c.cut_at-cut.result c.cut_at-cut.ensures c.loop-i.invariant.place
    within _ _ _ c.in-Part.n c.loop-i.invariant.sends c.in-Part.ensures

pub returns-in-Whole-send_parts : goal.returns-in-Whole-send_parts
returns-in-Whole-send_parts g c =
    let i = c.loop-i.i in
    let within : length c.args.cuts.now ≤ i + 1 =
    omega (arith, c.loop-i-test.false, c.saturating_sub-last.ensures) in
    sends_rest _ _ _ i c.loop-i.from c.loop-i.at c.cut_at-cut-2.result c.cut_at-cut-2.ensures within _ _ _
    c.loop-i.invariant.sends c.in-Whole-send_parts.ensures

pub returns-in-Part-send_parts : goal.returns-in-Part-send_parts
returns-in-Part-send_parts g c =
    let i = c.loop-i.i in
    let within : length c.args.cuts.now ≤ i + 1 =
    omega (arith, c.loop-i-test.false, c.saturating_sub-last.ensures) in
    sends_part_rest _ _ _ i c.loop-i.from c.loop-i.at c.cut_at-cut-2.result c.cut_at-cut-2.ensures within _ _ _
    c.in-Part-send_parts.n c.loop-i.invariant.sends c.in-Part-send_parts.ensures
