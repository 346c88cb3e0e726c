use Rattle.std.proofs.Common.{arith}
use Rattle.ar_extents.proofs.LooseLemmas.{first_found, none_found}
use Rattle.ar_extents.proofs.marks.first_set.Goals as goal

pub returns-then-marks-i : goal.returns-then-marks-i
returns-then-marks-i c =
    first_found c.args.marks.now c.loop-i.i (omega arith) c.loop-i.invariant c.if-marks-i.true

pub returns : goal.returns
returns c = none_found c.args.marks.now c.loop-i.i (omega arith) c.loop-i.invariant
