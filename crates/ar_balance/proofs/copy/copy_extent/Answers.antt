use Rattle.std.proofs.Common.{rules}
use Rattle.ar_extents.specs.Plans.{all_done}
use Rattle.ar_balance.proofs.Copying.{copied_next}
use Rattle.ar_balance.proofs.copy.copy_extent.Goals as goal

pub loop-row-init : goal.loop-row-init
loop-row-init g c = record { copied = search rules; made = all_done c.args.set.now; rest = search rules }

pub loop-row-preserved : goal.loop-row-preserved
loop-row-preserved g c = record {
  copied = search rules;
  made = copied_next c.args.from c.args.to c.loop-row.row c.args.set.now c.loop-row.set c.copy_row.new.set
      c.loop-row.invariant.made (search rules);
  rest = search rules;
}
