use Rattle.std.proofs.Common.{◌≡◌, IsTrue, ap, subst, ◌∙◌}
use Rattle.ar_log.specs.Codec.{Batch, items_of}
use Rattle.ar_log.specs.Log.{batches_of}
use Rattle.ar_record.specs.Encoding.{encodings_of}
use Rattle.ar_record.specs.Record.{all_data}
use Rattle.ar_checkpoint.proofs.Appends.{has_one}
use Rattle.ar_checkpoint.proofs.successor.append.Goals as goal

pub returns-clause-written : goal.returns-clause-written
returns-clause-written g c =
    let done = c.in-Ok.ensures.acknowledged in
    let batch : Batch = items_of c.deref.result.now in
    let encoded : batch ≡ encodings_of (all_data c.args.records.now) =
    ap items_of c.deref.ensures.value ∙ c.in_ok-batch.ensures.encoded in
    record {
      appendable = record {
        is_open = c.in-Ok.ensures.open;
        synced = λ now. (done (subst IsTrue c.append.ensures.clean now)).settled;
      };
      clean = c.append.ensures.clean;
      appended = λ clean.
          has_one (all_data c.args.records.now) batch (batches_of (g.M.Media.seen c.args.log.now.media))
          (batches_of (g.M.Media.seen c.append.new.self.media)) c.requires.fit encoded (done clean).batches;
    }
