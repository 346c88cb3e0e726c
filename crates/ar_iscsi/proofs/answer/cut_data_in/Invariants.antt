-- what was appended so far carries the data in front
use Rattle.std.proofs.Common.{◌≡◌, ◌≤◌, ◌-◌, [], length, take}
use Rattle.ar_iscsi.specs.Answer.{fronts, lens, woven}
use Rattle.ar_iscsi.specs.Reply.{PutsDataIn}
use Rattle.ar_iscsi.proofs.answer.cut_data_in.Given as goal

abbrev pub invariant-loop-at : goal.invariant-loop-at
invariant-loop-at l = record {
  within : l.at ≤ length l.carried;
  counted : l.count ≤ l.at;
  marked : l.marked ≡ fronts l.cuts.items;
  placed : l.marked ≤ length l.bytes.items;
  passed : lens l.cuts.items ≡ l.at;
  puts : PutsDataIn l.task_tag l.numbers l.most (take l.at l.carried) l.count []
      (woven l.cuts.items l.bytes.items l.carried);
}

abbrev pub decreases-loop-at : goal.decreases-loop-at
decreases-loop-at l = length l.carried - l.at
