-- the digits so far make the number, and those to come go on from it
use Rattle.std.proofs.Common.{◌≡◌, ◌<◌, drop}
use Rattle.ar_iscsi.specs.Text.{numeral_from}
use Rattle.ar_iscsi.proofs.keys.decimal_number.Given as goal

abbrev pub invariant-loop-digit : goal.invariant-loop-digit
invariant-loop-digit l = record {
  small : l.number < 268435456;
  rest : numeral_from l.number (drop l.digit-index l.digits) ≡ numeral_from 0 l.digits;
}
