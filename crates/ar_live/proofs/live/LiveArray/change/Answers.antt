use Rattle.std.proofs.Common.{List, sym, subst, ◌∙◌}
use Rattle.ar_served.specs.declared.entry.Entry.{Entry}
use Rattle.ar_served.specs.Kept.{KeptState, HistoryAgrees}
use Rattle.ar_live.proofs.Changing.{done_kept, not_done_kept}
use Rattle.ar_live.proofs.live.LiveArray.change.Goals as goal

pub invariant_of-self : goal.invariant_of-self
invariant_of-self g c =
    subst (λ (l : List Entry). HistoryAgrees c.step-outcome.new.self l) (sym c.push.ensures)
    (done_kept c.self.inside.array c.step-outcome.new.self c.args.event c.step-outcome.result
    c.self.inside.history.entries c.args.entry.now c.self.invariant
    c.step-outcome.ensures c.requires (sym c.is_done.ensures ∙ c.if-is_done.true))

pub returns-then-is_done-clause-kept : goal.returns-then-is_done-clause-kept
returns-then-is_done-clause-kept g c = record {
  before = subst (λ (k : KeptState). HistoryAgrees k.array k.history) c.self.view_is c.self.invariant;
  after =
      subst (λ (l : List Entry). HistoryAgrees c.step-outcome.new.self l) (sym c.push.ensures)
      (done_kept c.self.inside.array c.step-outcome.new.self c.args.event c.step-outcome.result
      c.self.inside.history.entries c.args.entry.now c.self.invariant
      c.step-outcome.ensures c.requires (sym c.is_done.ensures ∙ c.if-is_done.true));
}

pub invariant_of-self-else-is_done : goal.invariant_of-self-else-is_done
invariant_of-self-else-is_done g c =
    not_done_kept c.self.inside.array c.step-outcome.new.self c.args.event c.step-outcome.result
    c.self.inside.history.entries c.args.entry.now c.self.invariant c.step-outcome.ensures c.requires
    (sym c.is_done.ensures ∙ c.if-is_done.false)

pub returns-else-is_done-clause-kept : goal.returns-else-is_done-clause-kept
returns-else-is_done-clause-kept g c = record {
  before = subst (λ (k : KeptState). HistoryAgrees k.array k.history) c.self.view_is c.self.invariant;
  after =
      not_done_kept c.self.inside.array c.step-outcome.new.self c.args.event c.step-outcome.result
      c.self.inside.history.entries c.args.entry.now c.self.invariant c.step-outcome.ensures c.requires
      (sym c.is_done.ensures ∙ c.if-is_done.false);
}
