use Rattle.std.proofs.Common.{sym, subst, List}
use Rattle.ar_served.specs.declared.entry.Entry.{Entry}
use Rattle.ar_served.specs.Kept.{HistoryAgrees}
use Rattle.ar_live.proofs.Keeping.{kept_none}
use Rattle.ar_live.proofs.live.LiveArray.start.Goals as goal

pub invariant_of-result : goal.invariant_of-result
invariant_of-result g c =
    subst (λ (l : List Entry). HistoryAgrees c.args.array l) (sym c.new.ensures) (kept_none c.args.array c.requires)
