use Rattle.std.proofs.Common.{◌/◌}
use Rattle.ar_index.proofs.Sets.{rest_first, rest_none}
use Rattle.ar_index.proofs.bits.after_in.Goals as goal

pub returns-then-rest-eq0-clause-none : goal.returns-then-rest-eq0-clause-none
returns-then-rest-eq0-clause-none c =
    rest_none c.args.words.now c.args.number (let f = c.type_inv.words (c.args.number / 64) in f.fits)
    c.if-rest-eq0.true

pub returns-clause-found : goal.returns-clause-found
returns-clause-found c =
    rw c.from.ensures
    (rest_first c.args.words.now c.args.number (let f = c.type_inv.words (c.args.number / 64) in f.fits)
    c.lowest_bit.result c.lowest_bit.ensures.set c.lowest_bit.ensures.below)
