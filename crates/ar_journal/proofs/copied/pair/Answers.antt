use Rattle.ar_journal.proofs.Showing.{same_batches}
use Rattle.ar_journal.proofs.copied.pair.Goals as goal

pub returns-clause-durable : goal.returns-clause-durable
returns-clause-durable g c = record {
  selector = c.pair.ensures.lasting c.requires.one.selector c.requires.other.selector;
  first = c.pair-2.ensures.lasting c.requires.one.first c.requires.other.first;
  second = c.pair-3.ensures.lasting c.requires.one.second c.requires.other.second;
}

pub returns-clause-shows : goal.returns-clause-shows
returns-clause-shows g c = record {
  clean = λ is. record {
    selector = (c.pair.ensures.only_clean is.selector).0;
    first = (c.pair-2.ensures.only_clean is.first).0;
    second = (c.pair-3.ensures.only_clean is.second).0;
  };
  same = λ _. same_batches _ _ _ _ _ _ c.pair.ensures.seen c.pair-2.ensures.seen c.pair-3.ensures.seen;
}

pub returns-clause-clean : goal.returns-clause-clean
returns-clause-clean g c is = record {
  selector = (c.pair.ensures.only_clean is.selector).1;
  first = (c.pair-2.ensures.only_clean is.first).1;
  second = (c.pair-3.ensures.only_clean is.second).1;
}
