use Rattle.std.proofs.Common.{ℕ, ◌-◌}
use Rattle.ar_sessions.proofs.Parts.{DestagedUpTo}
use Rattle.ar_sessions.proofs.flushing.flush_parts.Given as goal

abbrev pub invariant-parts : goal.invariant-parts
invariant-parts g l = DestagedUpTo l.addr l.first

abbrev pub decreases-parts : goal.decreases-parts
decreases-parts g l = 1048576 - l.first
