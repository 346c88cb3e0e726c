use Rattle.std.proofs.Common.{List, ℕ, length, subst}
use Rattle.ar_store.specs.Fullest.{HasFewCounts}
use Rattle.ar_store.proofs.Planning.{planning_start, planning_step, planning_unused, planning_less, planning_end}
use Rattle.ar_store.proofs.start.form_groups.Goals as goal

pub loop-four-init : goal.loop-four-init
loop-four-init c =
    planning_start c.args.geometry (length c.args.counts.now.items) c.args.extents c.new-book.result
    c.args.counts.now.items c.new-book.ensures
    c.requires.all

pub form_group-requires-clause-unused : goal.form_group-requires-clause-unused
form_group-requires-clause-unused c =
    planning_unused c.args.geometry (length c.args.counts.now.items) c.args.extents c.loop-four.book
    c.loop-four.counts.items c.deref-in-Some.result.now c.in-Some.four
    c.next_members-members.result c.loop-four.invariant c.deref-in-Some.ensures.value c.next_members-members.ensures

pub loop-four-smaller : goal.loop-four-smaller
loop-four-smaller c =
    planning_less c.loop-four.counts.items c.four_fewer.new.counts.items c.deref.result.now c.in-Some.four
    c.deref.ensures.value c.in-Some.ensures.found
    c.four_fewer.ensures

pub loop-four-preserved : goal.loop-four-preserved
loop-four-preserved c =
    planning_step c.args.geometry (length c.args.counts.now.items) c.args.extents c.loop-four.book c.form_group.new.self
    c.loop-four.counts.items c.four_fewer.new.counts.items
    c.deref.result.now c.deref-in-Some.result.now c.in-Some.four c.next_members-members.result c.loop-four.invariant
    c.deref.ensures.value c.in-Some.ensures.found
    c.deref-in-Some.ensures.value c.next_members-members.ensures c.in_ok-form_group.ensures.formed c.four_fewer.ensures

pub returns : goal.returns
returns c =
    planning_end c.args.geometry (length c.args.counts.now.items) c.args.extents c.loop-four.book
    c.loop-four.counts.items c.loop-four.invariant
    (subst (λ (xs : List ℕ). HasFewCounts xs) c.deref.ensures.value c.in_default.ensures.none)
