use Rattle.std.proofs.Common.{◌≡◌, ◌++◌, ◌≤◌, length}
use Rattle.ar_record.specs.Record.{all_data}
use Rattle.ar_recovery.specs.Recovering.{RedoesAll}
use Rattle.ar_recovery.proofs.from_records.redo_all.Given as goal

abbrev pub invariant-loop-entry : goal.invariant-loop-entry
invariant-loop-entry g l = record {
  redone : RedoesAll l.fn.recovery.history (all_data l.yielded) l.recovery.history;
  taken : l.yielded ++ l.entry-iterator.rest.items ≡ l.fn.records.items;
  number : l.number ≤ length l.yielded;
}
