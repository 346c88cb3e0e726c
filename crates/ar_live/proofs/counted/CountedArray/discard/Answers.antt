use Rattle.std.proofs.Common.{inl, ◌∙◌, sym, subst}
use Rattle.std.proofs.lemmas.Bool.{true≢false}
use Rattle.ar_core.specs.Step.{addr_in}
use Rattle.ar_served.specs.Kept.{KeptState}
use Rattle.ar_served.specs.Served.{DiscardsSectors}
use Rattle.ar_live.proofs.counted.CountedArray.discard.Goals as goal

pub returns : goal.returns
returns g c =
    subst (λ (k : KeptState). DiscardsSectors k (addr_in c.args.host c.args.lun) c.args.lba c.args.count
    c.discard.result
    c.discard.new.self) c.self.view_is
    (record {
      does = inl c.discard.ensures.steps;
      serves = λ _. c.discard.ensures.serves;
      unbegun = λ busy. absurd (true≢false (sym busy ∙ c.discard.ensures.done));
      kept = c.discard.ensures.kept;
      counts = c.discard.ensures.counts;
    })
