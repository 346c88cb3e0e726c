use Rattle.ar_record.proofs.Records.{record_fits}
use Rattle.ar_record.proofs.encoding.encode_each.Goals as goal

pub encoded_record-requires : goal.encoded_record-requires
encoded_record-requires c =
    rw c.entry-item.is (record_fits c.args.records.now c.requires.fit c.loop-entry.entry-index _ c.loop-entry-test.true)
