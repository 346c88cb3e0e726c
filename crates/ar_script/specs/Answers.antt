-- The answers to lines, as text.
use Rattle.std.specs.Prelude.{◌≡◌, ℕ, List, Option, Some, None, Result, Ok, Err}
use Rattle.ar_volume.specs.Image.{ArrayState}
use Rattle.ar_language.specs.declared.fault.FaultKind.{FaultKind}
use Rattle.ar_language.specs.Forms.{ReadsLine}
use Rattle.ar_language.specs.Lines.{IsLine}
use Rattle.ar_language.specs.declared.order.Order.{Order}
use Rattle.ar_answers.specs.Answers.{AppendsAnswer}
use Rattle.ar_answers.specs.Orders.{Leaves}

-- a line without a fault was answered, by its parse: not at all if it asks for nothing
abbrev pub IsAnsweredBy : Result (Option Order) FaultKind → ArrayState → ArrayState → Option (List ℕ) → Option (List ℕ)
    → Type 0
IsAnsweredBy (Ok None) old new before after = (new ≡ old) × (after ≡ before)
IsAnsweredBy (Ok (Some order)) old new before after =
    Leaves order old (Ok tt) new × AppendsAnswer order old new before after
IsAnsweredBy (Err kind) old new before after = ⊥

-- the answer to a line, whose bytes have no fault, was appended
pub record AnswersLine (line : List ℕ) (old new : ArrayState) (before after : Option (List ℕ)) : Type 0 where
  pub sound : IsLine line
  pub read : Result (Option Order) FaultKind
  pub reads : ReadsLine line read
  pub answered : IsAnsweredBy read old new before after
