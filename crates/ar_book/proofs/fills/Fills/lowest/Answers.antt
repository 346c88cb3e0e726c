use Rattle.std.proofs.Common.{◌∙◌, sum_by, ap, sym, arith}
use Rattle.ar_book.specs.Fills.{FillsState, count_in}
use Rattle.ar_book.proofs.FillPlaces.{lowest_at, lowest_none}
use Rattle.ar_book.proofs.fills.Fills.lowest.Goals as goal

pub returns-then-self-fill-ne0-clause-found : goal.returns-then-self-fill-ne0-clause-found
returns-then-self-fill-ne0-clause-found c =
    lowest_at c.args.self.now.chunks c.args.from c.args.to c.loop-fill.fill c.first.result c.requires.from.0
    c.loop-fill.auto.fill c.loop-fill-test.true
    (λ k high low. ap (λ (x : FillsState). sum_by (count_in k) x.chunks) (sym c.self.view_is)
    ∙ c.loop-fill.invariant.0 k high low) c.first.ensures.found c.first.ensures.least

pub returns-clause-none : goal.returns-clause-none
returns-clause-none c =
    lowest_none c.args.self.now.chunks c.args.from c.args.to c.requires.from.0
    (λ k high low. ap (λ (x : FillsState). sum_by (count_in k) x.chunks) (sym c.self.view_is)
    ∙ c.loop-fill.invariant.0 k high (omega arith))
