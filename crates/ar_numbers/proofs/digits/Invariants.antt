use Rattle.std.proofs.Common.{◌≡◌, take, true}
use Rattle.std.specs.Char.{is_ascii_digit}
use Rattle.std.specs.List.{list_all}
use Rattle.std.specs.Str.Parse.{digits_value}
use Rattle.ar_numbers.proofs.digits.Given as goal

-- the bytes so far are digits, and it is what they say
abbrev pub invariant-loop-byte : goal.invariant-loop-byte
invariant-loop-byte l =
    record {
      digits : list_all is_ascii_digit (take l.byte-index l.bytes) ≡ true;
      value : l.number ≡ digits_value 10 (take l.byte-index l.bytes);
    }
