use Rattle.std.proofs.Common.{◌∙◌, sym}
use Rattle.ar_target.specs.Discarding.{not_ready, ready}
use Rattle.ar_target.proofs.discarding.unmap.Goals as goal

pub returns-in-Some-clause-unmaps : goal.returns-in-Some-clause-unmaps
returns-in-Some-clause-unmaps g c =
    ready _ c.in-Some.last _ _ _ c.ask-own_reply.ensures.asked (sym c.last_block.ensures ∙ c.in-Some.is)
    c.unmap_unit.ensures.unmaps

pub returns-in-None-clause-unmaps : goal.returns-in-None-clause-unmaps
returns-in-None-clause-unmaps g c =
    rw c.handed_on.ensures.answer
    (not_ready _ _ c.ask-own_reply.ensures.asked (sym c.last_block.ensures ∙ c.in-None.is))
