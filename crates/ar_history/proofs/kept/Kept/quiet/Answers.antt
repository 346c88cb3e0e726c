use Rattle.std.proofs.Common.{◌≡◌, List, subst, ◌∙◌}
use Rattle.ar_served.specs.declared.entry.Entry.{Entry}
use Rattle.ar_served.specs.Kept.{HistoryAgrees}
use Rattle.ar_history.proofs.kept.Kept.quiet.Goals as goal

pub invariant_of-self : goal.invariant_of-self
invariant_of-self g c =
    let same : c.quiet.new.self.history ≡ c.self.inside.history.items =
    c.quiet.ensures.history ∙ c.self.invariant.2 in (
      subst (λ (l : List Entry). HistoryAgrees c.quiet.new.self.array l) same c.quiet.ensures.kept.after,
      c.self.invariant.1,
      same,
    )
