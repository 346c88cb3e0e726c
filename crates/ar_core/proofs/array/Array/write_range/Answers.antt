use Rattle.std.proofs.Common.{◌∙◌, arith}
use Rattle.ar_volume.specs.Laws.{follows_then}
use Rattle.ar_core.proofs.Serving.{writes_then}
use Rattle.ar_core.proofs.array.Array.write_range.Goals as goal

pub force_range-requires-clause-within : goal.force_range-requires-clause-within
force_range-requires-clause-within g c = omega (arith, c.requires.unit.few, c.requires.within)

pub returns-in-Done-clause-writes : goal.returns-in-Done-clause-writes
returns-in-Done-clause-writes g c = λ done.
    writes_then c.args.self.now c.put_range.new.self c.force_range.new.self c.args.addr c.args.lba c.args.count
    c.args.bytes.now (c.put_range.ensures.writes c.in-Done.is) (c.force_range.ensures.seen done)

pub returns-in-Done-clause-nothing : goal.returns-in-Done-clause-nothing
returns-in-Done-clause-nothing g c = λ none. c.force_range.ensures.nothing none ∙ c.put_range.ensures.nothing none

pub returns-in-Done-clause-follows : goal.returns-in-Done-clause-follows
returns-in-Done-clause-follows g c =
    follows_then c.args.self.now c.put_range.new.self c.force_range.new.self c.put_range.ensures.follows
    c.force_range.ensures.follows
