use Rattle.std.proofs.Common.{arith}
use Rattle.ar_answers.proofs.Counting.{listed_none, listed_next, listed_all}
use Rattle.ar_answers.proofs.drawing.units_of.Goals as goal

pub loop-place-init : goal.loop-place-init
loop-place-init g c =
    listed_none c.args.array.now.store.book c.new-units.result.items c.args.held.now.items c.new-units.ensures.items
    c.requires.groups c.requires.fresh

pub unit_at-unit-requires-clause-fresh : goal.unit_at-unit-requires-clause-fresh
unit_at-unit-requires-clause-fresh g c = λ group. c.loop-place.invariant.after group c.loop-place.place (omega arith)

pub loop-place-preserved : goal.loop-place-preserved
loop-place-preserved g c =
    listed_next c.args.array.now.store.book c.loop-place.place c.loop-place.units.items c.list.new.units.items
    c.unit_at-unit.result c.loop-place.held.items
    c.unit_at-unit.new.held.items c.loop-place.invariant c.unit_at-unit.ensures.unit c.in_ok-list.ensures
    c.unit_at-unit.ensures.held

pub returns-clause-units : goal.returns-clause-units
returns-clause-units g c =
    let end = c.loop-place.auto.place-end in
    let over = c.loop-place-test.false in
    (listed_all c.args.array.now.store.book c.loop-place.place c.loop-place.units.items c.loop-place.held.items
    c.loop-place.invariant (omega arith)).0

pub returns-clause-held : goal.returns-clause-held
returns-clause-held g c =
    let end = c.loop-place.auto.place-end in
    let over = c.loop-place-test.false in
    (listed_all c.args.array.now.store.book c.loop-place.place c.loop-place.units.items c.loop-place.held.items
    c.loop-place.invariant (omega arith)).1
