use Rattle.std.proofs.Common.{◌≡◌, take, map}
use Rattle.ar_record.specs.Encoding.{encodings_of}
use Rattle.ar_record.specs.Record.{all_data}
use Rattle.ar_record.proofs.encoding.encode_each.Given as goal

abbrev pub invariant-loop-entry : goal.invariant-loop-entry
invariant-loop-entry l = map (λ item. item.items) l.items.items ≡ encodings_of (all_data (take l.entry-index l.records))
