use Rattle.std.proofs.Common.{◌≡◌, map, drop}
use Rattle.ar_compaction.specs.Addresses.{is_among}
use Rattle.ar_compaction.specs.Replaying.{unit_address}
use Rattle.ar_compaction.proofs.addresses.is_among.Given as goal

abbrev pub invariant-loop-other : goal.invariant-loop-other
invariant-loop-other l =
    is_among (unit_address l.addr) (map unit_address (drop l.other-index l.addresses))
    ≡ is_among (unit_address l.addr) (map unit_address l.addresses)
