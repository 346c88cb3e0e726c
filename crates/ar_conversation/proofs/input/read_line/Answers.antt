use Rattle.std.proofs.Common.{rules}
use Rattle.ar_conversation.proofs.Coming.{line_ended, so_far_more}
use Rattle.ar_conversation.proofs.input.read_line.Goals as goal

pub returns-in-Byte-eq10 : goal.returns-in-Byte-eq10
returns-in-Byte-eq10 g c =
    line_ended _ _ _ _ _ _ c.loop-taken.invariant c.in-Byte-eq10.field-0 (search rules) c.in-Byte-eq10.ensures

pub loop-taken-preserved : goal.loop-taken-preserved
loop-taken-preserved g c =
    so_far_more _ _ _ _ _ _ c.loop-taken.invariant c.in-Byte.byte _ _ c.in-Byte.ensures (search rules) c.take.ensures
