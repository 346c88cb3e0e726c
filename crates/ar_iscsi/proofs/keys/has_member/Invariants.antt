-- the member isn't in what came so far
use Rattle.std.proofs.Common.{◌≡◌, ◌≤◌, length}
use Rattle.std.specs.Prelude.{◌==◌}
use Rattle.std.specs.List.{position_or_len}
use Rattle.ar_iscsi.specs.Text.{has_member}
use Rattle.ar_iscsi.proofs.keys.has_member.Given as goal

abbrev pub invariant-loop-end : goal.invariant-loop-end
invariant-loop-end l = record {
  at : l.end ≡ position_or_len (λ b. b == 44) l.rest;
  shorter : length l.rest ≤ length l.offer;
  same : has_member l.member l.rest ≡ has_member l.member l.offer;
}

abbrev pub decreases-loop-end : goal.decreases-loop-end
decreases-loop-end l = length l.rest
