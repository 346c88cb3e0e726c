use Rattle.std.proofs.Common.{◌≡◌, true, false, Bool, ◌&&◌, not, sym, subst, ap, ◌∙◌}
use Rattle.std.specs.Prelude.{◌==◌}
use Rattle.ar_scsi.specs.Field.{operation_code}
use Rattle.ar_book.specs.Tables.{has_unit}
use Rattle.ar_volume.specs.Image.{ArrayState, attention_at}
use Rattle.ar_volume.specs.Seen.{IsUnit}
use Rattle.ar_core.proofs.Commanding.{tells, commands_served, commands_reported, commands_absent}
use Rattle.ar_core.proofs.array.Array.command.Goals as goal
use Rattle.ar_core.proofs.array.Array.command.Goals.{else-attention-via-then-attention+else-not-is_inquiry}
use Rattle.ar_core.proofs.array.Array.command.Goals.{else-attention-via-else-attention}

pub returns-in_default : goal.returns-in_default
returns-in_default g c =
    commands_absent c.args.self.now c.args.addr c.args.cdb.now c.args.bytes.now c.absent.result
    (ap (λ (s : ArrayState). has_unit s.store.book c.args.addr) (sym c.self.view_is) ∙ c.in_default.ensures)
    c.absent.ensures

pub returns-then-not-is_inquiry : goal.returns-then-not-is_inquiry
returns-then-not-is_inquiry g c =
    let unit = subst (λ (s : ArrayState). IsUnit s c.args.addr c.in-Some.sectors) c.self.view_is c.in-Some.ensures in
    let mark : attention_at c.args.self.now.store.book c.args.addr ≡ true =
    ap (λ (s : ArrayState). attention_at s.store.book c.args.addr) (sym c.self.view_is) ∙ sym c.attention.ensures
    ∙ c.if-attention.true in
    let other : (operation_code c.args.cdb.now == 0x12) ≡ false = sym c.is_inquiry.ensures ∙ c.if-not-is_inquiry.true in
    commands_reported c.args.self.now c.tell_growth.new.self c.args.addr c.in-Some.sectors c.args.cdb.now
    c.args.bytes.now
    c.tell_growth.result unit
    (ap (λ (b : Bool). b && not (operation_code c.args.cdb.now == 0x12)) mark ∙ ap not other)
    c.tell_growth.ensures.reported_to c.tell_growth.ensures.cleared c.tell_growth.ensures.seen

pub returns : goal.returns
returns g c =
    let unit = subst (λ (s : ArrayState). IsUnit s c.args.addr c.in-Some.sectors) c.self.view_is c.in-Some.ensures in
    let marked : attention_at c.args.self.now.store.book c.args.addr ≡ c.attention.result =
    ap (λ (s : ArrayState). attention_at s.store.book c.args.addr) (sym c.self.view_is) ∙ sym c.attention.ensures in
    let quiet : tells c.args.self.now c.args.addr c.args.cdb.now ≡ false =
    elim c.else-attention.branch [
      | else-attention-via-then-attention+else-not-is_inquiry w ↦
          ap (λ (b : Bool). b && not (operation_code c.args.cdb.now == 0x12)) (marked ∙ w.if-attention.true)
          ∙ ap not (sym w.is_inquiry.ensures ∙ w.if-not-is_inquiry.false)
      | else-attention-via-else-attention w ↦ ap (λ (b : Bool). b && not (operation_code c.args.cdb.now == 0x12))
          (marked ∙ w.if-attention.false)
    ] in
    commands_served c.args.self.now c.execute_present.new.self c.args.addr c.in-Some.sectors c.args.cdb.now
    c.args.bytes.now c.execute_present.result unit quiet
    c.execute_present.ensures.serves c.execute_present.ensures.settles c.execute_present.ensures.few
