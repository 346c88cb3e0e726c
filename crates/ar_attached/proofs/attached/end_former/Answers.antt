use Rattle.std.proofs.Common.{◌≡◌, ◌+◌, ◌++◌, ◌∙◌, ap, drop, map, slice_set, subst, sym, take}
use Rattle.std.proofs.lemmas.List.Edits.{map_over_more}
use Rattle.ar_attached.specs.Attached.{after_login}
use Rattle.ar_attached.proofs.attached.end_former.Goals as goal

pub loop-entry-preserved : goal.loop-entry-preserved
loop-entry-preserved c =
    subst
    (λ entry. slice_set c.loop-entry.entry-items c.loop-entry.entry-index entry
    ≡ map (after_login c.args.new.now) (take (c.loop-entry.entry-index + 1) c.deref_mut-entry-items.result.now)
    ++ drop (c.loop-entry.entry-index + 1) c.deref_mut-entry-items.result.now)
    (ap (after_login c.args.new.now) c.entry-item.is ∙ sym c.see_login.ensures)
    (map_over_more (after_login c.args.new.now) c.deref_mut-entry-items.result.now c.loop-entry.entry-items
    c.loop-entry.entry-index
    c.entry-item.result c.loop-entry-test.true c.loop-entry.invariant c.entry-item.is)
