use Rattle.std.proofs.Common.{◌∙◌, sym}
use Rattle.ar_target.specs.Discarding.{not_ready, ready}
use Rattle.ar_target.proofs.lba_status.lba_status.Goals as goal

pub returns-in-Some-clause-status : goal.returns-in-Some-clause-status
returns-in-Some-clause-status g c =
    ready _ c.in-Some.last _ _ _ c.ask-own_reply.ensures.asked (sym c.last_block.ensures ∙ c.in-Some.is)
    c.status_of_unit.ensures.status

pub returns-in-None-clause-status : goal.returns-in-None-clause-status
returns-in-None-clause-status g c =
    rw c.handed_on.ensures.answer
    (not_ready _ _ c.ask-own_reply.ensures.asked (sym c.last_block.ensures ∙ c.in-None.is))
