use Rattle.std.proofs.Common.{◌≡◌, take}
use Rattle.ar_log.specs.Codec.{items_of}
use Rattle.ar_journal.proofs.copying.is_same.Given as goal

abbrev pub invariant-loop-index : goal.invariant-loop-index
invariant-loop-index l = items_of (take l.index l.one) ≡ items_of (take l.index l.other)
