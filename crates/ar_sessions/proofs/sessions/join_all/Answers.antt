use Rattle.std.proofs.Common.{rules, [], subst}
use Rattle.std.proofs.lemmas.List.{append-nil}
use Rattle.std.specs.List.{AllZip}
use Rattle.ar_sessions.specs.Ends.{IsPromised, EndOf}
use Rattle.ar_sessions.proofs.sessions.join_all.Goals as goal

pub returns-clause-order : goal.returns-clause-order
returns-clause-order g c =
    subst (λ ends. AllZip
    (EndOf (λ handle. IsPromised g.A.ServedArray.stores g.A.ServedArray.persists g.S.Source.state g.W.Sink.state
    handle.promise))
    c.args.pending.items ends) (append-nil c.loop-next.ends.items) (c.loop-next.invariant.order [] (search rules))
