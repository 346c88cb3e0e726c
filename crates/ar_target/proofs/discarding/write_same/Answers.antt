use Rattle.std.proofs.Common.{◌∙◌, sym}
use Rattle.ar_target.specs.Discarding.{not_ready, ready}
use Rattle.ar_target.proofs.discarding.write_same.Goals as goal

pub returns-in-Some-clause-writes : goal.returns-in-Some-clause-writes
returns-in-Some-clause-writes g c =
    ready _ c.in-Some.last _ _ _ c.ask-own_reply.ensures.asked (sym c.last_block.ensures ∙ c.in-Some.is)
    c.fill_unit.ensures.fills

pub returns-in-None-clause-writes : goal.returns-in-None-clause-writes
returns-in-None-clause-writes g c =
    rw c.handed_on.ensures.answer
    (not_ready _ _ c.ask-own_reply.ensures.asked (sym c.last_block.ensures ∙ c.in-None.is))
