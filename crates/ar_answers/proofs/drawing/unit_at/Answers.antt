use Rattle.std.proofs.Common.{arith, ◌∙◌, sym, ap, subst, ◌+◌, Some}
use Rattle.ar_book.specs.Tables.{unit_in}
use Rattle.ar_answers.specs.Pictures.{unit_at, AddsHomes}
use Rattle.ar_answers.proofs.Counting.{Counts, counts_none, counts_unplaced, counts_placed, counts_all, absent_empty}
use Rattle.ar_answers.proofs.Counting.{outside_over, unplaced_inside, placed_inside, shown_is, homes_few, homed_few}
use Rattle.ar_answers.proofs.Counting.{held_few}
use Rattle.ar_answers.proofs.drawing.unit_at.Goals.{in-Unplaced, in-At}
use Rattle.ar_answers.proofs.drawing.unit_at.Goals as goal

pub loop-rb-init : goal.loop-rb-init
loop-rb-init g c =
    counts_none (unit_in c.args.array.now.store.book.units c.addr_at-addr.result).homes c.args.place
    c.args.held.now.items

pub returns-in-Absent-clause-held : goal.returns-in-Absent-clause-held
returns-in-Absent-clause-held g c =
    let t = c.args.array.now.store.book in
    let a = c.addr_at-addr.result in
    let empty = (absent_empty t a c.loop-rb.rb (sym c.in-Absent.is ∙ c.home_of.ensures)).1 in
    let all = counts_all (unit_in t.units a).homes c.args.place c.loop-rb.rb c.loop-rb.placed c.args.held.now.items
    c.loop-rb.held.items c.loop-rb.invariant (omega arith) in
    subst (λ x. AddsHomes (unit_in t.units x).homes c.args.place c.args.held.now.items c.loop-rb.held.items)
    c.addr_at-addr.ensures all.2

pub returns-in-Outside-clause-unit : goal.returns-in-Outside-clause-unit
returns-in-Outside-clause-unit g c =
    let t = c.args.array.now.store.book in
    let a = c.addr_at-addr.result in
    let over = outside_over t a c.loop-rb.rb (sym c.in-Outside.is ∙ c.home_of.ensures) in
    let all = counts_all (unit_in t.units a).homes c.args.place c.loop-rb.rb c.loop-rb.placed c.args.held.now.items
    c.loop-rb.held.items c.loop-rb.invariant over.1 in
    ap Some c.shown.ensures ∙ shown_is t a c.loop-rb.rb c.loop-rb.placed over.0 all.0 all.1
    ∙ ap (unit_at t) c.addr_at-addr.ensures

pub returns-in-Outside-clause-held : goal.returns-in-Outside-clause-held
returns-in-Outside-clause-held g c =
    let t = c.args.array.now.store.book in
    let a = c.addr_at-addr.result in
    let over = outside_over t a c.loop-rb.rb (sym c.in-Outside.is ∙ c.home_of.ensures) in
    let all = counts_all (unit_in t.units a).homes c.args.place c.loop-rb.rb c.loop-rb.placed c.args.held.now.items
    c.loop-rb.held.items c.loop-rb.invariant over.1 in
    subst (λ x. AddsHomes (unit_in t.units x).homes c.args.place c.args.held.now.items c.loop-rb.held.items)
    c.addr_at-addr.ensures all.2

pub overflow_add-placed : goal.overflow_add-placed
overflow_add-placed g c =
    let t = c.args.array.now.store.book in
    let few = homed_few (unit_in t.units c.addr_at-addr.result).homes c.args.place c.loop-rb.rb c.loop-rb.placed
    c.args.held.now.items c.loop-rb.held.items c.loop-rb.invariant in
    let below = c.loop-rb-test.true in
    omega arith

pub count-requires-clause-few : goal.count-requires-clause-few
count-requires-clause-few g c =
    let t = c.args.array.now.store.book in
    let few = held_few (unit_in t.units c.addr_at-addr.result).homes c.args.place c.loop-rb.rb c.loop-rb.placed
    c.in-At.slot.group c.args.held.now.items c.loop-rb.held.items
    c.loop-rb.invariant c.requires.fresh in
    let below = c.loop-rb-test.true in
    omega arith

pub loop-rb-preserved : goal.loop-rb-preserved
loop-rb-preserved g c =
    let t = c.args.array.now.store.book in
    let a = c.addr_at-addr.result in
    let homes = (unit_in t.units a).homes in
    let old = c.args.held.now.items in
    elim c.match-home_of.branch [
      | in-Unplaced w ↦
          let inside = unplaced_inside t a c.loop-rb.rb (sym w.in-Unplaced.is ∙ c.home_of.ensures) in
          let counts =
          counts_unplaced homes c.args.place c.loop-rb.rb c.loop-rb.placed old c.loop-rb.held.items
          c.loop-rb.invariant inside.0 inside.1 in
          let many = subst (λ n. Counts homes c.args.place (c.loop-rb.rb + 1) n old c.loop-rb.held.items)
          (sym w.placed-is) counts in
          subst (λ h. Counts homes c.args.place (c.loop-rb.rb + 1) c.match-home_of.placed old h.items) (sym w.held-is)
          many
      | in-At w ↦
          let slot = w.in-At.slot in
          let inside = placed_inside t a c.loop-rb.rb slot (sym w.in-At.is ∙ c.home_of.ensures) in
          let counts =
          counts_placed homes c.args.place c.loop-rb.rb c.loop-rb.placed slot old c.loop-rb.held.items
          w.count.new.held.items c.loop-rb.invariant inside.0 inside.1
          w.count.ensures in
          let many = subst (λ n. Counts homes c.args.place (c.loop-rb.rb + 1) n old w.count.new.held.items)
          (sym w.placed-is) counts in
          subst (λ h. Counts homes c.args.place (c.loop-rb.rb + 1) c.match-home_of.placed old h.items) (sym w.held-is)
          many
    ]

pub unreachable-requires : goal.unreachable-requires
unreachable-requires g c =
    let t = c.args.array.now.store.book in
    let few = homes_few t c.addr_at-addr.result c.requires.tables in
    let within = c.loop-rb.invariant.within in
    let over = c.loop-rb-test.false in
    omega arith
