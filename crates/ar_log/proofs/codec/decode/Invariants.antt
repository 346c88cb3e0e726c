use Rattle.std.proofs.Common.{◌≡◌, ◌++◌, length}
use Rattle.ar_log.specs.Codec.{encoded, items_of}
use Rattle.ar_log.proofs.codec.decode.Given as goal

abbrev pub invariant-loop-rest : goal.invariant-loop-rest
invariant-loop-rest l = encoded (items_of l.records.items) ++ l.rest ≡ l.payload

abbrev pub decreases-loop-rest : goal.decreases-loop-rest
decreases-loop-rest l = length l.rest
