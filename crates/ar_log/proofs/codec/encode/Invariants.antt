use Rattle.std.proofs.Common.{◌≡◌, take}
use Rattle.ar_log.specs.Codec.{encoded, items_of}
use Rattle.ar_log.proofs.codec.encode.Given as goal

abbrev pub invariant-loop-one : goal.invariant-loop-one
invariant-loop-one l = l.bytes.items ≡ encoded (items_of (take l.one-index l.records))
