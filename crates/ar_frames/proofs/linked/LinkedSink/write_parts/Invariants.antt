-- interruptions moved no byte and are no faults
use Rattle.std.proofs.Common.{◌≡◌}
use Rattle.std.specs.Io.KnownBytes.{Keeps}
use Rattle.ar_frames.proofs.linked.LinkedSink.write_parts.Given as goal

abbrev pub invariant-loop : goal.invariant-loop
invariant-loop g l = record {
  kept : Keeps (g.W.Write.contents l.initial.self.stream) (g.W.Write.contents l.self.stream);
  faults : l.self.write_faults ≡ l.initial.self.write_faults;
  apart : l.self.read_faults ≡ l.initial.self.read_faults;
}
