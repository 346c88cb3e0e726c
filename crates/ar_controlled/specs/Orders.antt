-- An operator's orders on an array, whose actions are committed.
use Rattle.std.specs.Prelude.{◌≡◌, ℕ, ◌++◌, Bool, true, false, List, [], OnOk, Option, Some, None, Result, Ok, codes}
use Rattle.std.specs.declared.alloc.AllocError.{AllocError}
use Rattle.ar_served.specs.Kept.{KeptState}
use Rattle.ar_served.specs.declared.store_status.StoreState.{StoreState}
use Rattle.ar_served.specs.declared.store_status.StoreState.TheVariants.{Sound, Degraded, Failing, GivenUp}
use Rattle.ar_served.specs.declared.store_status.StoreStatus.{StoreStatus}
use Rattle.ar_language.specs.declared.order.Question.TheVariants as questions
use Rattle.ar_operator.specs.Executing.{Executes}
use Rattle.ar_conversation.specs.declared.order.OperatorOrder.{OperatorOrder}
use Rattle.ar_conversation.specs.declared.order.OperatorOrder.TheVariants.{Act, Ask, ForceOut}

-- the order is an action
abbrev pub is_act : OperatorOrder → Bool
is_act (Act action) = true
is_act (ForceOut disk) = true
is_act order = false

-- the answer where what an order has done may not last
abbrev pub store_failed : List ℕ
store_failed = codes "fault: store failed\n"

-- the line of a store, if it isn't sound
abbrev pub state_line : StoreState → Option (List ℕ)
state_line Sound = None
state_line Degraded = Some (codes "store degraded\n")
state_line Failing = Some (codes "store failing\n")
state_line GivenUp = Some (codes "store given up\n")

-- the same, if there is a store
abbrev pub line_of : Option StoreStatus → Option (List ℕ)
line_of None = None
line_of (Some store) = state_line store.state

-- the line that the store adds to the answer of an order, which asks for the health
abbrev pub line_added : OperatorOrder → Option StoreStatus → Option (List ℕ)
line_added (Ask questions.Health) store = line_of store
line_added order store = None

-- an answer, with one more line or without; out of memory for that line it fails
abbrev pub AddsLine : Option (List ℕ) → Result (Unit {0}) AllocError → List ℕ → Result (Unit {0}) AllocError → List ℕ
    → Type 0
AddsLine None own written result answer = (result ≡ own) × (answer ≡ written)
AddsLine (Some line) own written result answer = OnOk result ((own ≡ Ok tt) × (answer ≡ written ++ line))

-- how an order is answered: as it was executed, with what the store adds or, where the store has failed, by that it has
abbrev pub AnswersWith : Bool → Option (List ℕ) → Result (Unit {0}) AllocError → List ℕ → Result (Unit {0}) AllocError
    → List ℕ → Type 0
AnswersWith true line own written result answer = AddsLine line own written result answer
AnswersWith false line own written result answer = OnOk result (answer ≡ store_failed)

-- An order was executed, and answered. Only where there is a store may the answer be that it has failed, or have a line
-- for it.
pub record ExecutesLasting (persists : Bool) (order : OperatorOrder) (old : KeptState)
    (result : Result (Unit {0}) AllocError) (answer : List ℕ) (new : KeptState) : Type 0 where
  pub own : Result (Unit {0}) AllocError
  pub written : List ℕ
  pub executes : Executes order old [] own written new
  pub lasts : Bool
  pub store : Option StoreStatus
  pub answers : AnswersWith lasts (line_added order store) own written result answer
  pub failed : lasts ≡ false → persists ≡ true
  pub absent : persists ≡ false → store ≡ None
