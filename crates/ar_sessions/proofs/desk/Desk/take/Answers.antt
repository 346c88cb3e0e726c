use Rattle.std.proofs.Common.{◌∙◌}
use Rattle.ar_sessions.proofs.Places.{own_in}
use Rattle.ar_sessions.proofs.desk.Desk.take.Goals as goal

pub returns-clause-own : goal.returns-clause-own
returns-clause-own g c =
    own_in c.self.inside.places c.args.host.number c.from.result c.index-self-from.result c.take.result c.self.invariant
    c.args.host.in_range
    (c.from.ensures ∙ c.number.ensures.same) c.take.ensures.value
