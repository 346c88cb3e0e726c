-- What an order and a line leave, once what was answered is given.
use Rattle.std.proofs.Common.{◌≡◌, ◌≢◌, ◌∙◌, inl, inr, ℕ, List, sym, subst, refl, ap, IsErr, Option, Some, Result, Ok}
use Rattle.std.proofs.Common.{Err, IfErr, OnOk}
use Rattle.ar_volume.specs.Image.{ArrayState}
use Rattle.ar_language.specs.declared.fault.FaultKind.{FaultKind}
use Rattle.ar_language.specs.declared.fault.FaultKind.TheVariants.{NoMemory, WriteFault}
use Rattle.ar_language.specs.declared.order.Action.{Action}
use Rattle.ar_language.specs.declared.order.Order.{Order}
use Rattle.ar_language.specs.declared.order.Order.TheVariants.{Act}
use Rattle.ar_language.specs.Forms.{ReadsLine}
use Rattle.ar_language.specs.Lines.{IsLine}
use Rattle.ar_answers.specs.Answers.{AppendsAnswer}
use Rattle.ar_answers.specs.Orders.{Acts, IsOrderFault, Leaves}
use Rattle.ar_script.specs.Answers.{AnswersLine}
use Rattle.ar_script.specs.Orders.{MeetsParsed}

-- an action that was done stays done where its answer could not be written
pub acted : (action : Action) (old new : ArrayState) (r : Result (Unit {0}) FaultKind)
    → IfErr r (λ kind. kind ≡ WriteFault)
    → Acts action old new → Leaves (Act action) old r new
acted action old new (Ok done) h acts = acts
acted action old new (Err kind) h acts =
    let P : FaultKind → Type 0 = λ k. Leaves (Act action) old (Err k) new in subst P (sym h) acts

-- a line that can't be read leaves the array as it was
pub unread : (s : ArrayState) (read : Result (Option Order) FaultKind) (r : Result (Unit {0}) FaultKind)
    (kind : FaultKind)
    → read ≡ Err kind → r ≡ Err kind → MeetsParsed read s r s
unread s read r kind was is =
    let P : Result (Option Order) FaultKind → Type 0 = λ x. MeetsParsed x s r s in subst P (sym was) (is, refl)

-- a line that asks for something was answered, unless its answer was lost
pub answered_line : (line : List ℕ) (order : Order) (r : Result (Unit {0}) FaultKind) (old new : ArrayState)
    (before after : Option (List ℕ)) → IsLine line
    → ReadsLine line (Ok (Some order)) → Leaves order old r new → OnOk r (AppendsAnswer order old new before after)
    → OnOk r (AnswersLine line old new before after)
answered_line line order (Ok done) old new before after sound reads leaves answers =
    record { sound = sound; read = Ok (Some order); reads = reads; answered = (leaves, answers) }
answered_line line order (Err kind) old new before after sound reads leaves answers = tt

-- nothing was written for an order that has a fault, but for a write fault
pub kept_order : {A : Type 0} (order : Order) (r : Result (Unit {0}) FaultKind) (old new : A)
    → IfErr r (IsOrderFault order) → (r ≡ Err NoMemory → new ≡ old)
    → IsErr r → r ≢ Err WriteFault → new ≡ old
kept_order order (Ok done) old new lost memory is quiet = absurd (cc)
kept_order order (Err kind) old new (inl write) memory is quiet = absurd (quiet (ap Err write))
kept_order order (Err kind) old new (inr refused) memory is quiet = memory (ap Err refused.0)

-- the same, by the fault
pub silent_fault : {A : Type 0} (kind : FaultKind) (r : Result (Unit {0}) FaultKind) (old new : A) → r ≡ Err kind
    → (IsErr r → r ≢ Err WriteFault → new ≡ old) → kind ≢ WriteFault → new ≡ old
silent_fault kind (Ok done) old new is kept quiet = absurd (cc)
silent_fault kind (Err other) old new is kept quiet =
    let same : other ≡ kind = cc in
    kept refl (λ write. let also : other ≡ WriteFault = cc in absurd (quiet (sym same ∙ also)))
