-- what is left changes the name so far to what all of it makes
use Rattle.std.proofs.Common.{◌≡◌, ◌≤◌, length}
use Rattle.std.specs.Prelude.{◌==◌}
use Rattle.std.specs.List.{position_or_len}
use Rattle.ar_iscsi.specs.Initiator.{named_after}
use Rattle.ar_iscsi.proofs.initiator.keep_name.Given as goal

abbrev pub invariant-loop-end : goal.invariant-loop-end
invariant-loop-end l = record {
  at : l.end ≡ position_or_len (λ b. b == 0) l.rest;
  shorter : length l.rest ≤ length l.asked;
  keeps : named_after l.name.items l.rest ≡ named_after l.fn.name.items l.asked;
}

abbrev pub decreases-loop-end : goal.decreases-loop-end
decreases-loop-end l = length l.rest
