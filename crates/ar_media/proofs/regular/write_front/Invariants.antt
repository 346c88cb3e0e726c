use Rattle.std.proofs.Common.{◌≤◌, length}
use Rattle.ar_media.proofs.regular.write_front.Given as goal

abbrev pub invariant-loop : goal.invariant-loop
invariant-loop l = l.done ≤ length l.bytes
