use Rattle.std.proofs.Common.{◌≡◌, ◌++◌, length, vec_len, vec_capacity}
use Rattle.ar_core.specs.Run.{IsRun, turns_of}
use Rattle.ar_core.proofs.array.Array.run.Given as goal

abbrev pub invariant-loop-event : goal.invariant-loop-event
invariant-loop-event g l = record {
  steps : IsRun l.fn.self (turns_of l.yielded l.outcomes.items) l.self;
  taken : l.yielded ++ l.event-iterator.rest.items ≡ l.fn.events.items;
  room : vec_len l.outcomes ≡ length l.yielded;
  capacity : vec_capacity l.outcomes ≡ length l.fn.events.items;
}
