use Rattle.std.proofs.Common.{sym, subst}
use Rattle.ar_log.specs.Log.{batches_of}
use Rattle.ar_served.specs.Kept.{KeptState}
use Rattle.ar_recovery.specs.Stored.{IsReplayed}
use Rattle.ar_recovery.proofs.restarts.replay.Goals as goal

pub returns-clause-replayed : goal.returns-clause-replayed
returns-clause-replayed g c clean =
    subst (λ (k : KeptState). IsReplayed (batches_of (g.M.Media.seen c.args.reader.now.active)) k.history)
    (sym c.finish.ensures.array) (c.in_ok-count.ensures.replayed clean)
