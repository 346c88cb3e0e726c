-- no digest of what came so far is supported
use Rattle.std.proofs.Common.{◌≡◌, ◌≤◌, length}
use Rattle.std.specs.Prelude.{◌==◌}
use Rattle.std.specs.List.{position_or_len}
use Rattle.ar_iscsi.specs.Text.{digest_answer}
use Rattle.ar_iscsi.proofs.keys.digest_answer.Given as goal

abbrev pub invariant-loop-end : goal.invariant-loop-end
invariant-loop-end l = record {
  at : l.end ≡ position_or_len (λ b. b == 44) l.rest;
  shorter : length l.rest ≤ length l.offer;
  same : digest_answer l.rest ≡ digest_answer l.offer;
}

abbrev pub decreases-loop-end : goal.decreases-loop-end
decreases-loop-end l = length l.rest
