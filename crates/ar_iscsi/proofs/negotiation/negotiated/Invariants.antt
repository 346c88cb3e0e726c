-- what is left changes what is negotiated so far to what all of it makes
use Rattle.std.proofs.Common.{◌≡◌, ◌≤◌, length}
use Rattle.std.specs.Prelude.{◌==◌}
use Rattle.std.specs.List.{position_or_len}
use Rattle.ar_iscsi.specs.Negotiation.{negotiated}
use Rattle.ar_iscsi.proofs.negotiation.negotiated.Given as goal

abbrev pub invariant-loop-end : goal.invariant-loop-end
invariant-loop-end l = record {
  at : l.end ≡ position_or_len (λ b. b == 0) l.rest;
  shorter : length l.rest ≤ length l.asked;
  goes : negotiated l.so_far l.rest ≡ negotiated l.fn.so_far l.asked;
}

abbrev pub decreases-loop-end : goal.decreases-loop-end
decreases-loop-end l = length l.rest
