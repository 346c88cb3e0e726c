use Rattle.std.proofs.Common.{sym, ◌∙◌, arith}
use Rattle.ar_extents.proofs.LooseLemmas.{lowest_loose-none}
use Rattle.ar_balance.proofs.choose.lowest_place.Goals as goal

pub unreachable-requires : goal.unreachable-requires
unreachable-requires g c =
    let none = lowest_loose-none c.args.set.now c.args.disk (sym c.lowest_loose.ensures.lowest ∙ c.in-None.is) in
    let some = c.requires.some in
    omega arith
