use Rattle.std.proofs.Common.{◌≡◌, ◌∙◌, ◌+◌, ◌<◌, [], length, map, drop, sym, refl, arith}
use Rattle.std.proofs.lemmas.List.{length-map}
use Rattle.std.specs.List.{slice_range}
use Rattle.ar_language.proofs.Gathering.{Gathered, words_of, gathered_none, gathered_next, gathered_full, gathered_gap}
use Rattle.ar_language.proofs.Gathering.{gathered_all, no_words, no_word, some_bytes, some_word, first_word, last_word}
use Rattle.ar_language.proofs.Gathering.{cut_at, cut_behind}
use Rattle.ar_language.proofs.words.first_words.Goals.{then-count-lt-MOST_WORDS, else-count-lt-MOST_WORDS}
use Rattle.ar_language.proofs.words.first_words.Goals as goal

pub loop-rest-init : goal.loop-rest-init
loop-rest-init c =
    record {
      text = c.utf8.line;
      taken = gathered_none _ _
          (omega (arith, length-map c.args.words.now (λ word. word.now)));
      shorter = omega arith;
    }

pub returns-then-end-eq0-clause-none : goal.returns-then-end-eq0-clause-none
returns-then-end-eq0-clause-none c =
    let rest = c.loop-rest.rest.now in
    let some : 0 < length rest = some_bytes rest (sym c.is_empty.ensures ∙ c.loop-rest-test.true) in
    gathered_gap _ _ _ _ _ c.loop-rest.invariant.taken
    (no_word rest c.word_end-end.result c.word_end-end.ensures some c.if-end-eq0.true)

pub range-requires-clause-end_boundary : goal.range-requires-clause-end_boundary
range-requires-clause-end_boundary c = cut_at c.loop-rest.rest.now c.word_end-end.result c.word_end-end.ensures

-- the last word is taken
all_taken : (c : goal.Then-end-rest)
    → Gathered (words_of c.args.line.now) [] (map (λ word. word.now) c.if-count-lt-MOST_WORDS.words)
    c.if-count-lt-MOST_WORDS.count
all_taken c =
    let rest = c.loop-rest.rest.now in
    let end = c.word_end-end.result in
    let at = c.word_end-end.ensures in
    elim c.if-count-lt-MOST_WORDS.branch [
      | then-count-lt-MOST_WORDS w ↦ gathered_next _ _ _ c.loop-rest.words c.if-count-lt-MOST_WORDS.words _ _
          c.loop-rest.invariant.taken w.range.result
          (last_word rest end at w.range.result.now w.range.ensures.value c.if-end-rest.true)
          (some_word rest end at w.range.result.now w.range.ensures.value c.if-end-eq0.false)
          w.if-count-lt-MOST_WORDS.true w.words-is w.count-is
      | else-count-lt-MOST_WORDS w ↦ gathered_full _ _ _ c.loop-rest.words c.if-count-lt-MOST_WORDS.words _ _
          c.loop-rest.invariant.taken (slice_range rest 0 end)
          (last_word rest end at (slice_range rest 0 end) refl c.if-end-rest.true)
          (some_word rest end at (slice_range rest 0 end) refl c.if-end-eq0.false)
          w.if-count-lt-MOST_WORDS.false w.words-is w.count-is
    ]

pub returns-then-end-rest-clause-some : goal.returns-then-end-rest-clause-some
returns-then-end-rest-clause-some c = (gathered_all _ _ _ (all_taken c)).0

pub returns-then-end-rest-clause-count : goal.returns-then-end-rest-clause-count
returns-then-end-rest-clause-count c = (gathered_all _ _ _ (all_taken c)).1

pub returns-then-end-rest-clause-words : goal.returns-then-end-rest-clause-words
returns-then-end-rest-clause-words c = (gathered_all _ _ _ (all_taken c)).2

pub overflow_add-end : goal.overflow_add-end
overflow_add-end c =
    let cut = cut_behind c.loop-rest.rest.now c.word_end-end.result c.word_end-end.ensures c.loop-rest.invariant.text
    c.if-end-rest.false in
    omega (arith, cut.0, c.loop-rest.invariant.shorter)

pub range_from-rest-requires : goal.range_from-rest-requires
range_from-rest-requires c =
    λ _. cut_behind c.loop-rest.rest.now c.word_end-end.result c.word_end-end.ensures c.loop-rest.invariant.text
    c.if-end-rest.false

pub loop-rest-smaller : goal.loop-rest-smaller
loop-rest-smaller c =
    let cut = cut_behind c.loop-rest.rest.now c.word_end-end.result c.word_end-end.ensures c.loop-rest.invariant.text
    c.if-end-rest.false in
    let smaller : length c.range_from-rest.result.now < length c.loop-rest.rest.now =
    omega (arith, c.range_from-rest.ensures.len, cut.0) in
    smaller

pub loop-rest-preserved : goal.loop-rest-preserved
loop-rest-preserved c =
    let rest = c.loop-rest.rest.now in
    let end = c.word_end-end.result in
    let at = c.word_end-end.ensures in
    let left = c.range_from-rest.result.now in
    let behind : left ≡ drop (end + 1) rest = c.range_from-rest.ensures.value in
    let taken : Gathered (words_of c.args.line.now) (words_of left)
    (map (λ word. word.now) c.if-count-lt-MOST_WORDS.words) c.if-count-lt-MOST_WORDS.count =
    elim c.if-count-lt-MOST_WORDS.branch [
      | then-count-lt-MOST_WORDS w ↦ gathered_next _ _ _ c.loop-rest.words c.if-count-lt-MOST_WORDS.words _ _
          c.loop-rest.invariant.taken w.range.result
          (first_word rest end at w.range.result.now w.range.ensures.value left behind c.if-end-rest.false)
          (some_word rest end at w.range.result.now w.range.ensures.value c.if-end-eq0.false)
          w.if-count-lt-MOST_WORDS.true w.words-is w.count-is
      | else-count-lt-MOST_WORDS w ↦ gathered_full _ _ _ c.loop-rest.words c.if-count-lt-MOST_WORDS.words _ _
          c.loop-rest.invariant.taken (slice_range rest 0 end)
          (first_word rest end at (slice_range rest 0 end) refl left behind c.if-end-rest.false)
          (some_word rest end at (slice_range rest 0 end) refl c.if-end-eq0.false)
          w.if-count-lt-MOST_WORDS.false w.words-is w.count-is
    ] in
    record {
      text = c.range_from-rest.utf8;
      taken = taken;
      shorter = omega (arith, c.loop-rest.invariant.shorter, c.range_from-rest.ensures.len);
    }

pub returns-clause-none : goal.returns-clause-none
returns-clause-none c =
    gathered_gap _ _ _ _ _ c.loop-rest.invariant.taken
    (no_words c.loop-rest.rest.now (sym c.is_empty.ensures ∙ c.loop-rest-test.false))
