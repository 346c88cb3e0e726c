use Rattle.std.proofs.Common.{rules, [], ◌∷◌, sym, subst, arith}
use Rattle.ar_cache.specs.Backing.{InTurn}
use Rattle.ar_cache.proofs.Turns.{in_turn_then, in_turn_one}
use Rattle.ar_sessions.specs.Ends.{IsServedOver, IsPromised, Becomes}
use Rattle.ar_sessions.proofs.Ending.{all_ended}
use Rattle.ar_sessions.proofs.sessions.serve_all.Goals as goal

pub loop-preserved : goal.loop-preserved
loop-preserved g c =
    let step = Becomes g.O.Door.opens
    (λ handle. IsPromised g.A.ServedArray.stores g.A.ServedArray.persists g.O.Reader.Source.state g.O.Writer.Sink.state
    handle.promise)
    (IsServedOver g.A.ServedArray.stores g.A.ServedArray.persists g.O.Reader.Source.state g.O.Writer.Sink.state) in
    let inv = c.loop.invariant in
    let next = c.open_next.ensures in
    record {
      became =
          subst (λ these. InTurn step these c.args.door.now c.open_next.new.door)
          (sym c.push_back_reserved.ensures.items)
          (in_turn_then step c.loop.pending.items (c.open_next.result ∷ []) c.args.door.now c.loop.door
          c.open_next.new.door inv.became
          (in_turn_one step c.open_next.result c.loop.door c.open_next.new.door next.becomes));
      opened = search rules;
      to_come = omega (arith, inv.to_come, next.count);
      room = search rules;
    }

pub returns-clause-ends : goal.returns-clause-ends
returns-clause-ends g c =
    all_ended g.O.Door.opens
    (λ handle. IsPromised g.A.ServedArray.stores g.A.ServedArray.persists g.O.Reader.Source.state g.O.Writer.Sink.state
    handle.promise)
    (IsServedOver g.A.ServedArray.stores g.A.ServedArray.persists g.O.Reader.Source.state g.O.Writer.Sink.state)
    c.loop.pending.items
    c.join_all.result.items c.args.door.now c.loop.door c.loop.invariant.became c.join_all.ensures.order
