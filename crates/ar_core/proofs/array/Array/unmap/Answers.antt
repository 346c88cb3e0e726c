use Rattle.std.proofs.Common.{◌≡◌, true, false, sym, subst, ap, ◌∙◌}
use Rattle.ar_book.specs.Tables.{has_unit}
use Rattle.ar_volume.specs.Image.{ArrayState, attention_at}
use Rattle.ar_volume.specs.Seen.{IsUnit}
use Rattle.ar_core.proofs.Unmapping.{steps_unmapped, unmaps_served, unmaps_reported, unmaps_absent}
use Rattle.ar_core.proofs.array.Array.unmap.Goals as goal

pub returns-in_default : goal.returns-in_default
returns-in_default g c =
    steps_unmapped c.args.self.now c.args.self.now c.args.addr c.args.lba c.args.count c.check.result
    (unmaps_absent c.args.self.now c.args.addr c.args.lba c.args.count c.check.result
    (ap (λ (s : ArrayState). has_unit s.store.book c.args.addr) (sym c.self.view_is) ∙ c.in_default.ensures)
    c.check.ensures)

pub returns-then-attention : goal.returns-then-attention
returns-then-attention g c =
    let unit = subst (λ (s : ArrayState). IsUnit s c.args.addr c.in-Some.sectors) c.self.view_is c.in-Some.ensures in
    let mark : attention_at c.args.self.now.store.book c.args.addr ≡ true =
    ap (λ (s : ArrayState). attention_at s.store.book c.args.addr) (sym c.self.view_is) ∙ sym c.attention.ensures
    ∙ c.if-attention.true in
    steps_unmapped c.args.self.now c.tell_growth.new.self c.args.addr c.args.lba c.args.count c.tell_growth.result
    (unmaps_reported c.args.self.now c.tell_growth.new.self c.args.addr c.in-Some.sectors c.args.lba c.args.count
    c.tell_growth.result unit mark c.tell_growth.ensures.reported_to c.tell_growth.ensures.cleared
    c.tell_growth.ensures.seen)

pub returns : goal.returns
returns g c =
    let unit = subst (λ (s : ArrayState). IsUnit s c.args.addr c.in-Some.sectors) c.self.view_is c.in-Some.ensures in
    let quiet : attention_at c.args.self.now.store.book c.args.addr ≡ false =
    ap (λ (s : ArrayState). attention_at s.store.book c.args.addr) (sym c.self.view_is) ∙ sym c.attention.ensures
    ∙ c.if-attention.false in
    steps_unmapped c.args.self.now c.unmap_present.new.self c.args.addr c.args.lba c.args.count c.unmap_present.result
    (unmaps_served c.args.self.now c.unmap_present.new.self c.args.addr c.in-Some.sectors c.args.lba c.args.count
    c.unmap_present.result unit quiet c.unmap_present.ensures.serves c.unmap_present.ensures.settles)
