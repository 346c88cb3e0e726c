use Rattle.ar_index.proofs.Sets.{first_word}
use Rattle.ar_index.proofs.bits.first_in.Goals as goal

pub returns : goal.returns
returns c =
    rw c.from.ensures
    (first_word c.args.words.now c.args.place c.lowest_bit.result c.lowest_bit.ensures.bound c.lowest_bit.ensures.set
    c.lowest_bit.ensures.below)
