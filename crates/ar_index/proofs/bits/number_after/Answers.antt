use Rattle.std.proofs.Common.{None, Some, ◌/◌, ◌+◌, arith}
use Rattle.ar_index.proofs.Sets.{first_under, none_above, none_near, topped, word_there}
use Rattle.ar_index.proofs.bits.number_after.Goals as goal

pub first_in-requires : goal.first_in-requires
first_in-requires c =
    let some = topped _ _ c.requires.topped.of_words _ c.in-Some-word_after.ensures.inside in
    record { there = word_there _ _ some; few = c.requires.topped.of_words.few; some = some }

pub returns-in-Some-word_after : goal.returns-in-Some-word_after
returns-in-Some-word_after c =
    none_near _ _ (Some c.first_in.result) c.in-None.ensures.none
    (first_under _ _ c.requires.topped.of_words (c.args.number / 64 + 1) _ _ c.in-Some-word_after.ensures
    c.first_in.ensures)

pub returns-in-None-word_after : goal.returns-in-None-word_after
returns-in-None-word_after c =
    none_near _ _ None c.in-None.ensures.none
    (none_above _ _ c.requires.topped.of_words (c.args.number / 64 + 1) c.in-None-word_after.ensures)

pub after_in-requires-clause-few : goal.after_in-requires-clause-few
after_in-requires-clause-few c = c.requires.topped.of_words.few

pub word_after-requires : goal.word_after-requires
word_after-requires c = record {
  tops = c.requires.topped.of_tops;
  peaks = c.requires.topped.of_peaks;
  there = omega (arith, c.requires.there, c.requires.topped.of_words.covered);
}
