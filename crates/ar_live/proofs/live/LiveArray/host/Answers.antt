use Rattle.std.proofs.Common.{sym, subst}
use Rattle.ar_served.specs.Kept.{KeptState}
use Rattle.ar_live.specs.Live.{LeavesStorage}
use Rattle.ar_live.proofs.Memory.{steps_leave}
use Rattle.ar_live.proofs.live.LiveArray.host.Goals as goal

pub returns-clause-busy : goal.returns-clause-busy
returns-clause-busy g c =
    λ is.
    subst (λ (k : KeptState). LeavesStorage c.args.self.now.array k.array) (sym c.count_command.ensures.counted)
    (steps_leave c.args.self.now.array c.execute-reply.new.self.array c.args.host c.args.lun c.args.cdb c.args.payload
    c.execute-reply.result c.execute-reply.ensures.steps is)
