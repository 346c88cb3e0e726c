use Rattle.std.proofs.Common.{◌≤◌, ◌<◌, ◌-◌, ◌^◌, ℕ, List, [], ap, length, subst, sym, take}
use Rattle.std.proofs.Common.{arith}
use Rattle.ar_iscsi.specs.Answer.{fronts, lens}
use Rattle.ar_iscsi.specs.Reply.{PutsDataIn}
use Rattle.ar_iscsi.proofs.DataIn.{data_in_none, data_in_more}
use Rattle.ar_iscsi.proofs.Weaving.{cut_placed, cuts_counted, puts_cut, woven_none}
use Rattle.ar_iscsi.proofs.answer.cut_data_in.Goals as goal

pub loop-at-init : goal.loop-at-init
loop-at-init c = record {
  within = omega arith;
  counted = omega arith;
  marked = sym (ap fronts c.requires.uncut);
  placed = omega arith;
  passed = ap lens c.requires.uncut;
  puts = subst (λ (l : List ℕ). PutsDataIn c.args.task_tag c.args.numbers c.args.most
      (take 0 c.args.carried.now) 0 [] l)
      (woven_none c.args.cuts.now.items c.args.bytes.now.items c.args.carried.now c.requires.uncut c.requires.empty)
      (data_in_none c.args.task_tag c.args.numbers c.args.most c.args.carried.now []);
}

pub loop-at-preserved : goal.loop-at-preserved
loop-at-preserved c =
    let at = c.loop-at.at in
    let end = c.min-end.result in
    let carried = c.args.carried.now in
    let now = c.loop-at.invariant in
    let puts = c.in_ok-marked.ensures in
    let some : at < end = omega (arith, c.min-end.ensures, c.requires.some) in
    let within : end ≤ length carried = omega (arith, c.min-end.ensures) in
    let short : end - at < 2 ^ 24 = omega (arith, c.min-end.ensures, c.requires.short) in
    let counts = cuts_counted _ _ _ _ _ _ _ _ _ puts now.marked now.placed in
    record {
      within = within;
      counted = omega (arith, now.counted, some);
      marked = counts.0;
      placed = cut_placed _ _ _ _ _ _ carried (end - at) _ _ at puts (omega (arith, some, within)) short;
      passed = omega (arith, counts.1, now.passed, some);
      puts = data_in_more c.args.task_tag c.args.numbers c.args.most carried [] _ _ at end c.loop-at.count now.puts some
          within (omega (arith, c.min-end.ensures))
          (puts_cut _ _ _ _ _ _ carried (end - at) _ _ at puts now.marked now.placed now.passed
          (omega (arith, some, within)) short);
    }
