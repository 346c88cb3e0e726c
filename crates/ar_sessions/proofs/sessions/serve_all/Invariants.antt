use Rattle.std.proofs.Common.{◌≡◌, ◌+◌, ◌≤◌}
use Rattle.std.specs.VecDeque.{deque_len, deque_capacity}
use Rattle.ar_cache.specs.Backing.{InTurn}
use Rattle.ar_sessions.specs.Ends.{IsServedOver, IsPromised, Becomes}
use Rattle.ar_sessions.proofs.sessions.serve_all.Given as goal

abbrev pub invariant-loop : goal.invariant-loop
invariant-loop g l =
    record {
      became :
          InTurn (Becomes g.O.Door.opens
          (λ handle. IsPromised g.A.ServedArray.stores g.A.ServedArray.persists g.O.Reader.Source.state
          g.O.Writer.Sink.state handle.promise)
          (IsServedOver g.A.ServedArray.stores g.A.ServedArray.persists g.O.Reader.Source.state g.O.Writer.Sink.state))
          l.pending.items
          l.initial.door l.door;
      opened : deque_len l.pending ≡ l.counter;
      to_come : l.counter + g.O.Door.to_come l.door ≡ l.left;
      room : l.left ≤ deque_capacity l.pending;
    }
