use Rattle.std.proofs.Common.{◌≡◌, true}
use Rattle.ar_extents.specs.Plans.{AttemptsAll}
use Rattle.ar_rebuild.specs.Plans.{rows_attempts}
use Rattle.ar_rebuild.proofs.RowLemmas.{AreWritten}
use Rattle.ar_rebuild.proofs.rows.write_rows.Given as goal

abbrev pub invariant-loop-row : goal.invariant-loop-row
invariant-loop-row g l = record {
  written : AreWritten l.class l.initial.set l.set l.members l.position l.row;
  made : AttemptsAll (rows_attempts l.class l.members l.position l.row) true l.initial.set l.set;
  scratch : l.scratch.geometry ≡ l.initial.scratch.geometry;
}
