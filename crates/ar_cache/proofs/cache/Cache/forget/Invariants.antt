use Rattle.ar_cache.proofs.Forgetting.{IsForgetting}
use Rattle.ar_cache.proofs.cache.Cache.forget.Given as goal

abbrev pub invariant-loop : goal.invariant-loop
invariant-loop l = IsForgetting l.addr l.fn.self l.self l.counter
