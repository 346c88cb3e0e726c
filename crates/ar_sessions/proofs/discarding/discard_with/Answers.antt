use Rattle.std.proofs.Common.{subst, sym}
use Rattle.ar_core.specs.Step.{addr_in}
use Rattle.ar_served.specs.Kept.{KeptState}
use Rattle.ar_served.specs.Served.{DiscardsSectors}
use Rattle.ar_sessions.proofs.Discards.{discard_reply, settled_as_good}
use Rattle.ar_sessions.proofs.discarding.discard_with.Goals as goal

pub settle_now-requires : goal.settle_now-requires
settle_now-requires g c = discard_reply _ _ _ _ _ _ c.discard-reply.ensures

pub returns-clause-discards : goal.returns-clause-discards
returns-clause-discards g c =
    let state = g.A.ServedArray.state in
    record {
      own = c.discard-reply.result;
      discards =
          subst
          (λ (s : KeptState). DiscardsSectors (state c.args.array.now) (addr_in c.args.host c.args.lun) c.args.lba
          c.args.count c.discard-reply.result s)
          (sym c.settle_now.ensures.same) c.discard-reply.ensures;
      settles = settled_as_good _ _ _ _ c.settle_now.ensures.settles;
    }
