use Rattle.ar_compaction.proofs.Zeros.{zeros-more}
use Rattle.ar_compaction.proofs.steps.are_zeros.Goals as goal

pub loop-byte-preserved : goal.loop-byte-preserved
loop-byte-preserved c =
    zeros-more c.args.bytes.now c.loop-byte.byte-index c.loop-byte.any 0 c.loop-byte-test.true c.loop-byte.invariant
