use Rattle.std.proofs.Common.{subst}
use Rattle.ar_served.specs.Kept.{KeptState, HistoryAgrees}
use Rattle.ar_live.proofs.Changing.{quiet_none}
use Rattle.ar_live.proofs.Keeping.{kept_same}
use Rattle.ar_live.proofs.live.LiveArray.quiet.Goals as goal

pub invariant_of-self : goal.invariant_of-self
invariant_of-self g c =
    kept_same c.self.inside.array c.step.new.self c.args.event c.step.result c.self.inside.history.entries
    c.self.invariant c.step.ensures
    (λ a. quiet_none c.args.event c.step.result a c.requires)

pub returns-clause-kept : goal.returns-clause-kept
returns-clause-kept g c = record {
  before = subst (λ (k : KeptState). HistoryAgrees k.array k.history) c.self.view_is c.self.invariant;
  after =
      kept_same c.self.inside.array c.step.new.self c.args.event c.step.result c.self.inside.history.entries
      c.self.invariant c.step.ensures
      (λ a. quiet_none c.args.event c.step.result a c.requires);
}
