-- what is left goes after what was appended
use Rattle.std.proofs.Common.{length}
use Rattle.ar_record.specs.Record.{AreEncodable}
use Rattle.ar_checkpoint.proofs.Appends.{AppendsPart}
use Rattle.ar_checkpoint.proofs.successor.write_unit.Given as goal

abbrev pub invariant-loop-rest : goal.invariant-loop-rest
invariant-loop-rest g l = record {
  part : AppendsPart g.M.Media.seen g.M.Media.may_leave g.M.Media.is_clean l.fn.rest l.rest l.fn.log l.log;
  fit : AreEncodable l.rest;
}

abbrev pub decreases-loop-rest : goal.decreases-loop-rest
decreases-loop-rest g l = length l.rest
