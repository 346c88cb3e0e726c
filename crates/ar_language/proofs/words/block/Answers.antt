use Rattle.std.proofs.Common.{◌≡◌, ◌%◌, ℕ, ◌/◌, take, replicate, length, refl, arith, rules}
use Rattle.std.proofs.lemmas.List.{length-take-le}
use Rattle.std.proofs.lemmas.Bool.{false≢true}
use Rattle.ar_language.proofs.WordLemmas.{decodes, decoded_value, padded, ok_unless_err, not_ok_and_err}
use Rattle.ar_language.proofs.words.block.Goals as goal

pub returns-then-is_err-clause-valid : goal.returns-then-is_err-clause-valid
returns-then-is_err-clause-valid c =
    let word = c.args.word.now in
    let half = length word / 2 in
    let room : length (take half (replicate 16 0)) ≡ half =
    length-take-le half (replicate {A = ℕ} 16 0) (omega arith) in
    let sized = decodes word c.decode_to_slice.new.out (length (take half (replicate 16 0))) c.decode_to_slice.result
    c.decode_to_slice.ensures.value in (
      λ e. absurd (false≢true e),
      λ h. absurd (not_ok_and_err _ _ c.is_err.ensures.negation c.if-is_err.true
          (sized.1 (omega (arith, h.whole, room), h.digits))),
    )

pub returns-clause-valid : goal.returns-clause-valid
returns-clause-valid c =
    let word = c.args.word.now in
    let half = length word / 2 in
    let room : length (take half (replicate 16 0)) ≡ half =
    length-take-le half (replicate {A = ℕ} 16 0) (omega arith) in
    let sized = decodes word c.decode_to_slice.new.out (length (take half (replicate 16 0))) c.decode_to_slice.result
    c.decode_to_slice.ensures.value in
    let good = sized.0 (ok_unless_err _ _ c.is_err.ensures.negation c.if-is_err.false) in
    let even : length word % 2 ≡ 0 = omega (arith, good.0, room) in
    (λ _. record { some = search rules; at_most_sixteen = omega arith; whole = even; digits = good.1 }, λ _. refl)

pub returns-clause-value : goal.returns-clause-value
returns-clause-value c =
    let out = c.decode_to_slice.new.out in
    let word = c.args.word.now in
    let half = length word / 2 in
    let room : length (take half (replicate 16 0)) ≡ half =
    length-take-le half (replicate {A = ℕ} 16 0) (omega arith) in
    let ok = ok_unless_err _ _ c.is_err.ensures.negation c.if-is_err.false in (
      out,
      decoded_value word out (length (take half (replicate 16 0))) c.decode_to_slice.result
          c.decode_to_slice.ensures.value ok,
      padded out half (search rules),
    )
