use Rattle.std.proofs.Common.{◌≡◌, ◌∙◌, ◌≤◌, length, get_or, ap, sym, arith}
use Rattle.std.specs.Char.{digit_value, is_ascii_digit}
use Rattle.std.proofs.lemmas.Bool.Decides.{nat_tests}
use Rattle.std.proofs.lemmas.Int.Digits.{digits_value_more}
use Rattle.std.proofs.lemmas.List.Folds.{list_all_more}
use Rattle.ar_numbers.proofs.DigitLemmas.{small, both}
use Rattle.ar_numbers.proofs.digits.Goals as goal

pub overflow_mul-number : goal.overflow_mul-number
overflow_mul-number c =
    let bytes = c.args.bytes.now in
    let short : length bytes ≤ 10 = omega (arith, c.if-bytes-gt10.false) in
    omega (arith, small bytes c.loop-byte.byte-index c.loop-byte.invariant.digits short, c.loop-byte.invariant.value)

pub overflow_add-number : goal.overflow_add-number
overflow_add-number c =
    let bytes = c.args.bytes.now in
    let short : length bytes ≤ 10 = omega (arith, c.if-bytes-gt10.false) in
    omega (arith, small bytes c.loop-byte.byte-index c.loop-byte.invariant.digits short, c.loop-byte.invariant.value)

pub loop-byte-preserved : goal.loop-byte-preserved
loop-byte-preserved c =
    let bytes = c.args.bytes.now in
    let i = c.loop-byte.byte-index in
    let digit : digit_value (get_or bytes i 0) ≡ c.from.result = grind (arith, nat_tests) in
    record {
      digits = list_all_more is_ascii_digit bytes i 0 c.loop-byte-test.true
          ∙ both _ _ c.loop-byte.invariant.digits (sym c.if-not-is_ascii_digit.ensures.value);
      value = omega (arith, digits_value_more 10 bytes i c.loop-byte-test.true, c.loop-byte.invariant.value, digit);
    }

pub returns-clause-below : goal.returns-clause-below
returns-clause-below c =
    let bytes = c.args.bytes.now in
    let short : length bytes ≤ 10 = omega (arith, c.if-bytes-gt10.false) in
    omega (arith, small bytes c.loop-byte.byte-index c.loop-byte.invariant.digits short, c.loop-byte.invariant.value)
