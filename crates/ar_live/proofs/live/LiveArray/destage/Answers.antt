use Rattle.std.proofs.Common.{refl, subst}
use Rattle.ar_core.specs.declared.event.EventOf.TheVariants.{FlushPart as FlushPartEvent}
use Rattle.ar_core.specs.declared.event.OutcomeOf.TheVariants.{FlushPart as FlushPartOutcome}
use Rattle.ar_served.specs.Kept.{KeptState, HistoryAgrees}
use Rattle.ar_live.proofs.Keeping.{kept_same}
use Rattle.ar_live.proofs.live.LiveArray.destage.Goals as goal

pub invariant_of-self : goal.invariant_of-self
invariant_of-self g c =
    kept_same c.self.inside.array c.flush_part.new.self (FlushPartEvent c.args.addr c.args.first)
    (FlushPartOutcome c.flush_part.result) c.self.inside.history.entries
    c.self.invariant c.flush_part.ensures (λ a. refl)

pub returns-clause-kept : goal.returns-clause-kept
returns-clause-kept g c = record {
  before = subst (λ (k : KeptState). HistoryAgrees k.array k.history) c.self.view_is c.self.invariant;
  after =
      kept_same c.self.inside.array c.flush_part.new.self (FlushPartEvent c.args.addr c.args.first)
      (FlushPartOutcome c.flush_part.result) c.self.inside.history.entries
      c.self.invariant c.flush_part.ensures (λ a. refl);
}
