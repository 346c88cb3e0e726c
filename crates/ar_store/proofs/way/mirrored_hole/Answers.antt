use Rattle.std.proofs.Common.{refl}
use Rattle.ar_store.proofs.Ways.{hole_found, hole_made}
use Rattle.ar_store.proofs.way.mirrored_hole.Goals as goal

pub returns-in-Some-clause-found : goal.returns-in-Some-clause-found
returns-in-Some-clause-found c =
    hole_found c.args.book.now c.in-Some.slot c.in-Some.ensures.found c.in-Some.ensures.least

pub returns-clause-found : goal.returns-clause-found
returns-clause-found c =
    let opening = c.in_ok-group.ensures in
    hole_made c.args.book.now c.open_group.new.self c.in_ok-group.group c.in_default.ensures.none
    (opening.when.0 refl) opening.opens.lowest opening.opens.opened opening.opens.empty
