-- An operator's orders on a kept array.
use Rattle.std.specs.Prelude.{◌≡◌, ◌⊎◌, ◌++◌, Option, Some, None, List, ℕ, OnOk, Result, Ok, Err}
use Rattle.std.specs.declared.alloc.AllocError.{AllocError}
use Rattle.ar_core.specs.Events.{Outcome}
use Rattle.ar_served.specs.Kept.{KeptState, StaysKept, history_entry}
use Rattle.ar_served.specs.Operations.{Does}
use Rattle.ar_language.specs.declared.order.Action.{Action}
use Rattle.ar_language.specs.declared.order.Action.TheVariants.{DiskOut}
use Rattle.ar_language.specs.declared.order.Order.TheVariants as orders
use Rattle.ar_language.specs.Notations.{notation_in}
use Rattle.ar_language.specs.Queries.{IsView}
use Rattle.ar_answers.specs.Answers.{AppendsAnswer}
use Rattle.ar_answers.specs.Orders.{event_in}
use Rattle.ar_answers.specs.Texts.{outcome_text}
use Rattle.ar_operator.specs.Early.{early_refusal, early_text}
use Rattle.ar_conversation.specs.Orders.{IsOperatorAction}
use Rattle.ar_operator.specs.declared.early.EarlyRefusal.{EarlyRefusal}
use Rattle.ar_conversation.specs.declared.order.OperatorOrder.{OperatorOrder}
use Rattle.ar_conversation.specs.declared.order.OperatorOrder.TheVariants.{Act, Ask, ForceOut}

-- an operator's order on the array
abbrev pub IsArrayOrder : OperatorOrder → Type 0
IsArrayOrder (Act action) = IsOperatorAction action
IsArrayOrder (ForceOut disk) = Unit {0}
IsArrayOrder (Ask question) = IsView question
IsArrayOrder order = ⊥

-- The action was one event of the array, the one that a script has for it, or was not begun. The history has grown by
-- what was done, and the array was kept before and after.
pub record Operated (action : Action) (outcome : Outcome) (old new : KeptState) : Type 0 where
  pub does : Does old.array (event_in old.array action) outcome new.array
  pub kept : StaysKept old new
  pub recorded : new.history ≡ old.history ++ history_entry (event_in old.array action) outcome

-- an action was done, with some outcome
pub record IsOperated (action : Action) (old new : KeptState) : Type 0 where
  pub outcome : Outcome
  pub operated : Operated action outcome old new

-- the same, and the outcome's text was appended
pub record OperatesAndAnswers (action : Action) (old : KeptState) (before after : List ℕ) (new : KeptState)
    : Type 0 where
  pub outcome : Outcome
  pub operated : Operated action outcome old new
  pub answered : after ≡ before ++ outcome_text outcome (notation_in action)

-- The effect of an action, and its answer, which is appended to the bytes before: the text of its outcome. Out of
-- memory, it isn't done; or it is, and its answer is lost.
abbrev pub ExecutesAction : Action → KeptState → List ℕ → Result (Unit {0}) AllocError → List ℕ → KeptState → Type 0
ExecutesAction action old before (Ok done) after new = OperatesAndAnswers action old before after new
ExecutesAction action old before (Err fault) after new = (new ≡ old) ⊎ IsOperated action old new

-- an action isn't begun, and the answer says why
pub record RefusesEarly (refusal : EarlyRefusal) (old : KeptState) (before : List ℕ)
    (result : Result (Unit {0}) AllocError) (after : List ℕ) (new : KeptState) : Type 0 where
  pub unchanged : new ≡ old
  pub answered : OnOk result (after ≡ before ++ early_text refusal)

-- an action is done, unless there is a reason not to begin it
abbrev pub ExecutesUnless : Option EarlyRefusal → Action → KeptState → List ℕ → Result (Unit {0}) AllocError → List ℕ
    → KeptState → Type 0
ExecutesUnless (Some refusal) action old before result after new = RefusesEarly refusal old before result after new
ExecutesUnless None action old before result after new = ExecutesAction action old before result after new

-- The effect of an order, and its answer: a query's is that of the array, which it doesn't change. An action that would
-- lose all data is refused, unless it is forced.
abbrev pub Executes : OperatorOrder → KeptState → List ℕ → Result (Unit {0}) AllocError → List ℕ → KeptState → Type 0
Executes (Act action) old before result after new =
    ExecutesUnless (early_refusal old.array action) action old before result after new
Executes (ForceOut disk) old before result after new = ExecutesAction (DiskOut disk) old before result after new
Executes (Ask question) old before (Ok done) after new =
    (new ≡ old) × AppendsAnswer (orders.Ask question) old.array old.array (Some before) (Some after)
Executes (Ask question) old before (Err fault) after new = new ≡ old
Executes order old before result after new = ⊥
