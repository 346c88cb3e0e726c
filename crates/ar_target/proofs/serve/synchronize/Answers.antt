use Rattle.std.proofs.Common.{◌∙◌, sym}
use Rattle.ar_target.specs.Serving.{unit_unready, range_after, unit_flushed}
use Rattle.ar_target.proofs.serve.synchronize.Goals as goal

pub returns-then-is_after-clause-synchronizes : goal.returns-then-is_after-clause-synchronizes
returns-then-is_after-clause-synchronizes g c =
    rw c.check.ensures
    (range_after _ c.in-Some.last _ c.ask-own_reply.ensures.asked (sym c.last_block.ensures ∙ c.in-Some.is)
    (sym c.is_after.ensures ∙ c.if-is_after.true))

pub returns-in-Some-clause-synchronizes : goal.returns-in-Some-clause-synchronizes
returns-in-Some-clause-synchronizes g c =
    unit_flushed _ c.in-Some.last _ _ _ c.ask-own_reply.ensures.asked (sym c.last_block.ensures ∙ c.in-Some.is)
    (sym c.is_after.ensures ∙ c.if-is_after.false) c.flush_unit.ensures.flushes

pub returns-clause-synchronizes : goal.returns-clause-synchronizes
returns-clause-synchronizes g c =
    rw c.handed_on.ensures.answer
    (unit_unready _ _ c.ask-own_reply.ensures.asked (sym c.last_block.ensures ∙ c.in-None.is))
