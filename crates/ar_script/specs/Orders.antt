-- The effect of lines on an array.
use Rattle.std.specs.Prelude.{◌≡◌, ℕ, List, Option, Some, None, Result, Ok, Err, IfErr}
use Rattle.ar_volume.specs.Image.{ArrayState}
use Rattle.ar_language.specs.declared.fault.FaultKind.{FaultKind}
use Rattle.ar_language.specs.Forms.{ReadsLine}
use Rattle.ar_language.specs.Lines.{IsLine}
use Rattle.ar_language.specs.declared.order.Order.{Order}
use Rattle.ar_answers.specs.Orders.{IsOrderFault, Leaves}

-- the effect of a line, by its parse: none if the line asks for nothing or has a fault
abbrev pub MeetsParsed : Result (Option Order) FaultKind → ArrayState → Result (Unit {0}) FaultKind → ArrayState
    → Type 0
MeetsParsed (Ok None) old result new = (result ≡ Ok tt) × (new ≡ old)
MeetsParsed (Ok (Some order)) old result new = Leaves order old result new × IfErr result (IsOrderFault order)
MeetsParsed (Err kind) old result new = (result ≡ Err kind) × (new ≡ old)

-- the effect of a line on an array, whose bytes have no fault
pub record MeetsLine (line : List ℕ) (old : ArrayState) (result : Result (Unit {0}) FaultKind) (new : ArrayState)
    : Type 0 where
  pub sound : IsLine line
  pub read : Result (Option Order) FaultKind
  pub reads : ReadsLine line read
  pub meets : MeetsParsed read old result new
