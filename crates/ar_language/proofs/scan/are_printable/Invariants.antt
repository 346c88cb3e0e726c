-- Whether the bytes so far are printable.
use Rattle.std.proofs.Common.{◌≡◌, take}
use Rattle.std.specs.List.{list_all}
use Rattle.ar_language.specs.Lines.{is_printable}
use Rattle.ar_language.proofs.scan.are_printable.Given as goal

abbrev pub invariant-loop-byte : goal.invariant-loop-byte
invariant-loop-byte l = l.all ≡ list_all is_printable (take l.byte-index l.bytes)
