use Rattle.std.proofs.Common.{ap, subst, get_or, arith}
use Rattle.ar_index.specs.Bits.{IsLeastFrom}
use Rattle.ar_index.proofs.Sets.{first_under, topped, word_there, blank_root, none_above}
use Rattle.ar_index.proofs.bits.lowest.Goals as goal

pub first_in-peak-requires : goal.first_in-peak-requires
first_in-peak-requires c = record {
  there = omega (arith, c.from_ref.ensures.len);
  few = omega (arith, c.from_ref.ensures.len);
  some = omega (arith, ap (λ w. get_or w 0 0) c.from_ref.ensures.value);
}

pub first_in-top-requires : goal.first_in-top-requires
first_in-top-requires c =
    let found = subst (λ w. IsLeastFrom w 0 c.first_in-peak.result) c.from_ref.ensures.value c.first_in-peak.ensures in
    let some = topped _ _ c.requires.of_peaks c.first_in-peak.result found.inside in
    record { there = word_there _ _ some; few = c.requires.of_peaks.few; some = some }

pub first_in-word-requires : goal.first_in-word-requires
first_in-word-requires c =
    let some = topped _ _ c.requires.of_tops c.first_in-top.result c.first_in-top.ensures.inside in
    record { there = word_there _ _ some; few = c.requires.of_tops.few; some = some }

pub first_in-requires : goal.first_in-requires
first_in-requires c =
    let some = topped _ _ c.requires.of_words c.first_in-word.result c.first_in-word.ensures.inside in
    record { there = word_there _ _ some; few = c.requires.of_words.few; some = some }

pub returns : goal.returns
returns c =
    let peak = subst (λ w. IsLeastFrom w 0 c.first_in-peak.result) c.from_ref.ensures.value c.first_in-peak.ensures in
    let top = first_under _ _ c.requires.of_peaks 0 _ _ peak c.first_in-top.ensures in
    let word = first_under _ _ c.requires.of_tops 0 _ _ top c.first_in-word.ensures in
    first_under _ _ c.requires.of_words 0 _ _ word c.first_in.ensures

pub returns-then-root-eq0 : goal.returns-then-root-eq0
returns-then-root-eq0 c = none_above _ _ c.requires.of_words 0
    (none_above _ _ c.requires.of_tops 0
    (none_above _ _ c.requires.of_peaks 0 (λ p low. blank_root c.args.root p c.if-root-eq0.true)))
