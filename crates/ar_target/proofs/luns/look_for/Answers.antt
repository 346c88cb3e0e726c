use Rattle.std.proofs.Common.{◌∙◌, sym}
use Rattle.ar_target.specs.Luns.{unstated, unheld}
use Rattle.ar_target.proofs.luns.look_for.Goals as goal

pub returns-in-Some-true-clause-stops : goal.returns-in-Some-true-clause-stops
returns-in-Some-true-clause-stops g c =
    rw c.busy.ensures
    (unheld _ (record { own_reply = c.ask-own_reply.result; asked = c.ask-own_reply.ensures.asked; stated = cc }))

pub returns-clause-stops : goal.returns-clause-stops
returns-clause-stops g c =
    rw c.handed_on.ensures.answer (unstated _ _ c.ask-own_reply.ensures.asked (sym c.presence.ensures ∙ c.in-None.is))
