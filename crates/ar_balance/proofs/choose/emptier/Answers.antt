use Rattle.std.proofs.Common.{arith}
use Rattle.ar_balance.proofs.choose.emptier.Goals as goal

pub bounds-counts-best : goal.bounds-counts-best
bounds-counts-best c = omega (arith, c.requires.best.below, c.requires.there)
