-- the answers so far and those to what is left are those to all
use Rattle.std.proofs.Common.{◌≡◌, ◌≤◌, ◌++◌, length}
use Rattle.std.specs.Prelude.{◌==◌}
use Rattle.std.specs.List.{position_or_len}
use Rattle.ar_iscsi.specs.Text.{text_answer}
use Rattle.ar_iscsi.proofs.text.answer_text.Given as goal

abbrev pub invariant-loop-end : goal.invariant-loop-end
invariant-loop-end l = record {
  at : l.end ≡ position_or_len (λ b. b == 0) l.rest;
  shorter : length l.rest ≤ length l.asked;
  answers : l.out.items ++ text_answer l.burst l.rest ≡ l.fn.out.items ++ text_answer l.burst l.asked;
}

abbrev pub decreases-loop-end : goal.decreases-loop-end
decreases-loop-end l = length l.rest
