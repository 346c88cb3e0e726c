use Rattle.ar_book.proofs.FillCounts.{tallied_set}
use Rattle.ar_book.proofs.fills.Chunk.set.Goals as goal

pub invariant_of-self : goal.invariant_of-self
invariant_of-self c =
    tallied_set c.self.inside.fills c.self.inside.counts c.args.place c.args.fill c.self.invariant c.requires.place
    c.requires.fill
