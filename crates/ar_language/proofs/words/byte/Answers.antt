use Rattle.std.proofs.Common.{refl}
use Rattle.std.proofs.lemmas.Bool.{false≢true}
use Rattle.ar_language.proofs.WordLemmas.{decodes, ok_unless_err, not_ok_and_err}
use Rattle.ar_language.proofs.words.byte.Goals as goal

pub returns-then-is_err-clause-valid : goal.returns-then-is_err-clause-valid
returns-then-is_err-clause-valid c =
    let sized = decodes c.args.word.now c.decode_to_slice.new.out 1 c.decode_to_slice.result
    c.decode_to_slice.ensures.value in (
      λ e. absurd (false≢true e),
      λ h. absurd (not_ok_and_err _ _ c.is_err.ensures.negation c.if-is_err.true (sized.1 (h.two, h.digits))),
    )

pub returns-clause-valid : goal.returns-clause-valid
returns-clause-valid c =
    let sized = decodes c.args.word.now c.decode_to_slice.new.out 1 c.decode_to_slice.result
    c.decode_to_slice.ensures.value in
    let good = sized.0 (ok_unless_err _ _ c.is_err.ensures.negation c.if-is_err.false) in
    (λ _. record { two = good.0; digits = good.1 }, λ _. refl)
