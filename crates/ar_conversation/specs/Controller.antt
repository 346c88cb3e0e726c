-- What a controller may answer.
use Rattle.std.specs.Prelude.{ℕ, List, Result}
use Rattle.std.specs.declared.alloc.AllocError.{AllocError}
use Rattle.ar_conversation.specs.declared.order.OperatorOrder.{OperatorOrder}

-- what an answer may be at a controller: the controller before, the order, whether there was memory for the answer,
-- its bytes, the controller after
abbrev pub OperatorAnswers : Type 0 → Type 1
OperatorAnswers C = C → OperatorOrder → Result (Unit {0}) AllocError → List ℕ → C → Type 0
