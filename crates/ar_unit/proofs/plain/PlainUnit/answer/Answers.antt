use Rattle.std.proofs.Common.{subst, ◌≡◌, ◌∙◌, ◌⊎◌, sym, inl, inr, true, false, eqb}
use Rattle.ar_scsi.specs.Field.{operation_code}
use Rattle.ar_unit.proofs.Serving.{served_absent, served_reported, served_obeyed, served_refused}
use Rattle.ar_unit.specs.Plain.{state_of}
use Rattle.ar_unit.specs.Unit.{UnitState, answer, IsServed}
use Rattle.ar_unit.proofs.plain.PlainUnit.answer.Goals as goal
use Rattle.ar_unit.proofs.plain.PlainUnit.answer.Goals.{else-self-via-then-self+else-not-is_inquiry}
use Rattle.ar_unit.proofs.plain.PlainUnit.answer.Goals.{else-self-via-else-self}

pub returns-then-not-self : goal.returns-then-not-self
returns-then-not-self c =
    subst (λ (x : UnitState). IsServed x (answer x c.args.cdb.now c.args.bytes.now) c.absent.result x) c.self.view_is
    (served_absent c.self.inside.present c.self.inside.sectors.items c.self.inside.attention _ _ _ c.if-not-self.true
    c.absent.ensures)

pub returns-then-not-is_inquiry : goal.returns-then-not-is_inquiry
returns-then-not-is_inquiry c =
    let new : UnitState = state_of c.self.inside.present c.self.inside.sectors.items false in
    subst (λ (x : UnitState). IsServed x (answer x c.args.cdb.now c.args.bytes.now) c.check.result new) c.self.view_is
    (served_reported c.self.inside.present c.self.inside.sectors.items c.self.inside.attention _ _ _ c.if-not-self.false
    c.if-self.true
    (sym c.is_inquiry.ensures ∙ c.if-not-is_inquiry.true) c.check.ensures)

pub returns-in-Ok : goal.returns-in-Ok
returns-in-Ok c =
    let unit = c.self.inside in
    let new : UnitState = state_of unit.present c.obey.new.sectors.items unit.attention in
    let goes_on : (unit.attention ≡ false) ⊎ (eqb (operation_code c.args.cdb.now) 0x12 ≡ true) =
    elim c.else-self.branch [
      | else-self-via-then-self+else-not-is_inquiry w ↦ inr (sym w.is_inquiry.ensures ∙ w.if-not-is_inquiry.false)
      | else-self-via-else-self w ↦ inl w.if-self.false
    ] in
    subst (λ (x : UnitState). IsServed x (answer x c.args.cdb.now c.args.bytes.now) c.obey.result new) c.self.view_is
    (served_obeyed unit.present unit.sectors.items unit.attention _ _ _ _ c.obey.new.sectors.items c.if-not-self.false
    goes_on
    (sym c.in-Ok.is ∙ c.decode.ensures.value) (c.obey.ensures.served unit.attention))

pub returns-in-Err : goal.returns-in-Err
returns-in-Err c =
    let unit = c.self.inside in
    let goes_on : (unit.attention ≡ false) ⊎ (eqb (operation_code c.args.cdb.now) 0x12 ≡ true) =
    elim c.else-self.branch [
      | else-self-via-then-self+else-not-is_inquiry w ↦ inr (sym w.is_inquiry.ensures ∙ w.if-not-is_inquiry.false)
      | else-self-via-else-self w ↦ inl w.if-self.false
    ] in
    subst (λ (x : UnitState). IsServed x (answer x c.args.cdb.now c.args.bytes.now) c.check-in-Err.result x)
    c.self.view_is
    (served_obeyed unit.present unit.sectors.items unit.attention _ _ _ _ unit.sectors.items c.if-not-self.false goes_on
    (sym c.in-Err.is ∙ c.decode.ensures.value)
    (served_refused unit.sectors.items unit.attention c.in-Err.sense _ _ c.check-in-Err.ensures))
