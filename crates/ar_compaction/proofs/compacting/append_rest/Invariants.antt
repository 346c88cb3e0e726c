use Rattle.std.proofs.Common.{◌≡◌, ◌++◌, length}
use Rattle.ar_record.specs.Record.{all_data}
use Rattle.ar_compaction.proofs.compacting.append_rest.Given as goal

abbrev pub invariant-loop-rest : goal.invariant-loop-rest
invariant-loop-rest l = all_data l.out.items ++ l.rest ≡ all_data l.initial.out.items ++ l.initial.rest

abbrev pub decreases-loop-rest : goal.decreases-loop-rest
decreases-loop-rest l = length l.rest
