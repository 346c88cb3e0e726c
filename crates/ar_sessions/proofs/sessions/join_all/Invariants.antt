use Rattle.std.proofs.Common.{◌≡◌, ◌+◌, ◌++◌, ◌≤◌, List, vec_len, vec_capacity}
use Rattle.std.specs.List.{AllZip}
use Rattle.std.specs.VecDeque.{deque_len}
use Rattle.ar_sessions.specs.declared.sessions.ConnectionEnd.{ConnectionEnd}
use Rattle.ar_sessions.specs.Ends.{IsPromised, EndOf}
use Rattle.ar_sessions.proofs.sessions.join_all.Given as goal

abbrev pub invariant-loop-next : goal.invariant-loop-next
invariant-loop-next g l =
    record {
      count : vec_len l.ends + deque_len l.pending ≡ deque_len l.fn.pending;
      room : vec_len l.ends + deque_len l.pending ≤ vec_capacity l.ends;
      order : (rest : List ConnectionEnd)
          → AllZip (EndOf
          (λ handle. IsPromised g.A.ServedArray.stores g.A.ServedArray.persists g.S.Source.state g.W.Sink.state
          handle.promise))
          l.pending.items rest
          → AllZip (EndOf
          (λ handle. IsPromised g.A.ServedArray.stores g.A.ServedArray.persists g.S.Source.state g.W.Sink.state
          handle.promise))
          l.fn.pending.items (l.ends.items ++ rest);
    }

abbrev pub decreases-loop-next : goal.decreases-loop-next
decreases-loop-next g l = deque_len l.pending
