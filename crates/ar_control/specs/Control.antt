-- An operator's orders on the shared array.
use Rattle.std.specs.Prelude.{ℕ, Bool, List, Result}
use Rattle.std.specs.declared.alloc.AllocError.{AllocError}
use Rattle.ar_served.specs.Kept.{KeptState}
use Rattle.ar_controlled.specs.Orders.{ExecutesLasting}
use Rattle.ar_conversation.specs.declared.order.OperatorOrder.{OperatorOrder}
use Rattle.ar_conversation.specs.declared.order.OperatorOrder.TheVariants.{Act, Ask, ForceOut}

-- An order was executed atomically, and answered: there are a state of an array before it and one after it, between
-- which it is executed as `execute` does it. That these are states of the array behind the lock is not specified.
pub record DoneAtOneMoment (persists : Bool) (order : OperatorOrder) (result : Result (Unit {0}) AllocError)
    (answer : List ℕ)
    : Type 0 where
  pub old : KeptState
  pub new : KeptState
  pub executes : ExecutesLasting persists order old result answer new

-- what an order does at the controller, and its answer: one that concerns the array is done at one moment
abbrev pub LockAnswers : Bool → OperatorOrder → Result (Unit {0}) AllocError → List ℕ → Type 0
LockAnswers persists (Act action) result answer = DoneAtOneMoment persists (Act action) result answer
LockAnswers persists (ForceOut disk) result answer = DoneAtOneMoment persists (ForceOut disk) result answer
LockAnswers persists (Ask question) result answer = DoneAtOneMoment persists (Ask question) result answer
LockAnswers persists order result answer = Unit {0}
