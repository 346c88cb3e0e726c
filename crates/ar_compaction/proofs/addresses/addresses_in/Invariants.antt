use Rattle.std.proofs.Common.{map, take}
use Rattle.ar_record.specs.Record.{all_data}
use Rattle.ar_compaction.specs.Addresses.{AreAddresses}
use Rattle.ar_compaction.specs.Replaying.{unit_address}
use Rattle.ar_compaction.proofs.addresses.addresses_in.Given as goal

abbrev pub invariant-loop-entry : goal.invariant-loop-entry
invariant-loop-entry l =
    AreAddresses (all_data (take l.entry-index l.records)) (map unit_address l.addresses.items)
