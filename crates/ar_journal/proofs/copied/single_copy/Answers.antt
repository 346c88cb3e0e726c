use Rattle.ar_journal.proofs.Showing.{same_batches}
use Rattle.ar_journal.proofs.copied.single_copy.Goals as goal

pub returns-clause-shows : goal.returns-clause-shows
returns-clause-shows g c = record {
  clean = λ is. record {
    selector = c.single.ensures.only_clean is.selector;
    first = c.single-2.ensures.only_clean is.first;
    second = c.single-3.ensures.only_clean is.second;
  };
  same = λ _. same_batches _ _ _ _ _ _ c.single.ensures.seen c.single-2.ensures.seen c.single-3.ensures.seen;
}
