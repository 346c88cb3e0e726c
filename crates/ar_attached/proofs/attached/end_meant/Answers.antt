use Rattle.std.proofs.Common.{◌≡◌, ◌+◌, ◌++◌, ◌∙◌, ap, drop, map, slice_set, subst, sym, take}
use Rattle.std.proofs.lemmas.List.Edits.{map_over_more}
use Rattle.ar_attached.specs.Attached.{after_order}
use Rattle.ar_attached.proofs.attached.end_meant.Goals as goal

pub loop-entry-preserved : goal.loop-entry-preserved
loop-entry-preserved c =
    subst
    (λ entry. slice_set c.loop-entry.entry-items c.loop-entry.entry-index entry
    ≡ map (after_order c.args.host c.args.number)
    (take (c.loop-entry.entry-index + 1) c.deref_mut-entry-items.result.now)
    ++ drop (c.loop-entry.entry-index + 1) c.deref_mut-entry-items.result.now)
    (ap (after_order c.args.host c.args.number) c.entry-item.is ∙ sym c.see_order.ensures)
    (map_over_more (after_order c.args.host c.args.number) c.deref_mut-entry-items.result.now c.loop-entry.entry-items
    c.loop-entry.entry-index
    c.entry-item.result c.loop-entry-test.true c.loop-entry.invariant c.entry-item.is)
