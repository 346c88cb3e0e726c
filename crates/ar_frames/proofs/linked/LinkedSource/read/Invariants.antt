-- interruptions moved no byte and are no faults
use Rattle.std.proofs.Common.{◌≡◌}
use Rattle.std.specs.Io.KnownBytes.{Keeps}
use Rattle.ar_frames.proofs.linked.LinkedSource.read.Given as goal

abbrev pub invariant-loop : goal.invariant-loop
invariant-loop g l = record {
  kept : Keeps (g.R.Read.remaining l.initial.self.stream) (g.R.Read.remaining l.self.stream);
  faults : l.self.read_faults ≡ l.initial.self.read_faults;
  apart : l.self.write_faults ≡ l.initial.self.write_faults;
}
