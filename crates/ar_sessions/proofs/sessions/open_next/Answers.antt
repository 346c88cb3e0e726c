use Rattle.std.proofs.Common.{subst}
use Rattle.ar_sessions.specs.Ends.{IsSessionEnd, IsServedOver, IsPromised}
use Rattle.ar_sessions.proofs.Ending.{became}
use Rattle.ar_sessions.proofs.sessions.open_next.Goals as goal

pub returns-clause-becomes : goal.returns-clause-becomes
returns-clause-becomes g c =
    became g.O.Door.opens
    (λ handle. IsPromised g.A.ServedArray.stores g.A.ServedArray.persists g.O.Reader.Source.state g.O.Writer.Sink.state
    handle.promise)
    (IsServedOver g.A.ServedArray.stores g.A.ServedArray.persists g.O.Reader.Source.state g.O.Writer.Sink.state) _
    c.begin.result c.args.door.now
    c.accept.new.self _
    (subst (λ came. g.O.Door.opens c.args.door.now came c.accept.new.self) c.in-Some.is c.accept.ensures.opens)
    (λ handle same end kept.
    subst (λ reader. IsSessionEnd g.A.ServedArray.stores g.A.ServedArray.persists (g.O.Reader.Source.state reader)
    (g.O.Writer.Sink.state c.in-Some.writer) end) same.0
    (subst (λ writer. IsSessionEnd g.A.ServedArray.stores g.A.ServedArray.persists
    (g.O.Reader.Source.state handle.promise.reader.value)
    (g.O.Writer.Sink.state writer) end) same.1 kept))
    c.begin.ensures.begun
