use Rattle.std.proofs.Common.{◌≡◌, true, List, sym, ap, subst, ◌∙◌}
use Rattle.std.specs.Prelude.{count_by}
use Rattle.ar_served.specs.declared.entry.Entry.{Entry}
use Rattle.ar_served.specs.History.{is_command}
use Rattle.ar_served.specs.Kept.{HistoryAgrees}
use Rattle.ar_live.specs.Live.{is_done}
use Rattle.ar_live.proofs.Changing.{done_count}
use Rattle.ar_history.proofs.Changing.{grown_done}
use Rattle.ar_history.proofs.kept.Kept.change.Goals as goal

pub invariant_of-self : goal.invariant_of-self
invariant_of-self g c =
    let done : is_done c.change-outcome.result ≡ true = sym c.is_done.ensures ∙ c.if-is_done.true in
    let same : c.change-outcome.new.self.history ≡ c.push_reserved.new.self.items =
    grown_done c.args.event c.change-outcome.result c.self.inside.live.history c.self.inside.history.items
    c.change-outcome.new.self.history c.args.entry
    c.self.invariant.2 c.change-outcome.ensures.recorded c.change-outcome.ensures.entry done
    ∙ sym c.push_reserved.ensures.items in (
      subst (λ (l : List Entry). HistoryAgrees c.change-outcome.new.self.array l) same
          c.change-outcome.ensures.kept.after,
      c.self.invariant.1
          ∙ sym (done_count c.self.inside.live.array c.change-outcome.new.self.array c.args.event
          c.change-outcome.result c.self.inside.history.items c.args.entry
          c.self.invariant.0 c.change-outcome.ensures.steps c.requires.asked done)
          ∙ ap (λ (l : List Entry). count_by is_command l) (sym c.push_reserved.ensures.items),
      same,
    )
