use Rattle.std.proofs.Common.{◌<◌, sym, arith}
use Rattle.ar_book.specs.declared.class.Class.TheVariants.{Mirrored}
use Rattle.ar_book.specs.Tables.{free_groups}
use Rattle.ar_store.proofs.Gaps.{lacks_of, hole_offers, found}
use Rattle.ar_store.proofs.way.lacks_mirrored_slot.Goals as goal

pub returns-in-Some : goal.returns-in-Some
returns-in-Some c =
    let t = c.args.book.now in
    let hole = c.in-Some.ensures in
    sym (hole_offers t (found t Mirrored c.in-Some.field-0 (record { hole = hole.found; least = hole.least })).0)

pub returns-in-None : goal.returns-in-None
returns-in-None c =
    let few : free_groups c.args.book.now < 2 = omega (arith, c.free_groups.ensures, c.if-free_groups-ge2.false) in
    sym (lacks_of c.args.book.now (record { none = c.in-None.ensures.none }) few)
