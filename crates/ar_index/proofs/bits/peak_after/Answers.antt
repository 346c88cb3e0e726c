use Rattle.ar_index.proofs.Sets.{next_after}
use Rattle.ar_index.proofs.bits.peak_after.Goals as goal

pub returns : goal.returns
returns c =
    next_after c.from_ref.result.now c.args.root c.args.peak c.after_in.result c.from_ref.ensures.value c.requires
    c.after_in.ensures.found c.after_in.ensures.none
