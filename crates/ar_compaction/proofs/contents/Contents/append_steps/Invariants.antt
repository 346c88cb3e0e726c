use Rattle.std.proofs.Common.{◌≡◌, ◌≤◌, ◌-◌, ◌++◌, vec_len}
use Rattle.ar_record.specs.Record.{all_data}
use Rattle.ar_compaction.specs.Checkpoint.{steps_from}
use Rattle.ar_compaction.specs.Contents.{parts_of}
use Rattle.ar_compaction.proofs.contents.Contents.append_steps.Given as goal

abbrev pub invariant-loop-step : goal.invariant-loop-step
invariant-loop-step l = record {
  begun : l.step ≤ l.steps;
  made :
      all_data l.initial.records.items ++ steps_from (parts_of l.self) (l.steps - l.first) l.first
      ≡ all_data l.records.items ++ steps_from (parts_of l.self) (l.steps - l.step) l.step;
  few : vec_len l.records ≤ 16;
}

abbrev pub decreases-loop-step : goal.decreases-loop-step
decreases-loop-step l = l.steps - l.step
