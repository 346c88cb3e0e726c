use Rattle.std.proofs.Common.{ap, sym, subst, ◌∙◌, List}
use Rattle.std.specs.Prelude.{count_by}
use Rattle.ar_volume.specs.Image.{ArrayState}
use Rattle.ar_served.specs.declared.entry.Entry.{Entry}
use Rattle.ar_served.specs.History.{is_command}
use Rattle.ar_served.specs.Kept.{HistoryAgrees}
use Rattle.ar_live.proofs.Keeping.{kept_none}
use Rattle.ar_history.proofs.kept.Kept.start.Goals as goal

pub invariant_of-kept : goal.invariant_of-kept
invariant_of-kept g c = (
  subst (λ (s : ArrayState). HistoryAgrees s c.new.result.items) (sym c.start.ensures.array)
      (subst (λ (l : List Entry). HistoryAgrees c.args.array l) (sym c.new.ensures.items)
      (kept_none c.args.array c.requires.no_unit)),
  c.open-book.ensures.total ∙ sym (ap (λ (l : List Entry). count_by is_command l) c.new.ensures.items),
  c.start.ensures.history ∙ sym c.new.ensures.items,
)
