use Rattle.std.proofs.Common.{◌≡◌, ◌+◌, ◌∙◌, ◌++◌, ◌∷◌, [], List, take, ap, sym}
use Rattle.std.proofs.lemmas.List.{map_more}
use Rattle.ar_record.specs.Record.{RecordData, all_data, data_of}
use Rattle.ar_record.specs.Replay.{unit_of}
use Rattle.ar_compaction.specs.Replaying.{ReplayState, unit_address}
use Rattle.ar_compaction.proofs.Looping.{replay_more}
use Rattle.ar_compaction.proofs.compacting.replay.Goals as goal

pub loop-entry-preserved : goal.loop-entry-preserved
loop-entry-preserved c =
    let entries = c.args.records.now in
    let done : List RecordData = all_data (take c.loop-entry.entry-index entries) in
    let more : all_data (take (c.loop-entry.entry-index + 1) entries) ≡ done ++ data_of c.entry-item.result ∷ [] =
    map_more data_of entries c.loop-entry.entry-index c.entry-item.result c.loop-entry-test.true
    ∙ ap (λ r. done ++ data_of r ∷ []) (sym c.entry-item.is) in
    let applied = c.in_ok-apply.ensures.applied in
    record {
      addr = ap (λ (s : ReplayState). s.addr) applied ∙ c.loop-entry.invariant.addr;
      unit =
          ap (λ (s : ReplayState). s.unit) applied
          ∙ replay_more c.loop-entry.unit (unit_address c.args.addr) done (data_of c.entry-item.result)
          c.loop-entry.invariant.addr c.loop-entry.invariant.unit
          ∙ ap (λ (l : List RecordData). unit_of l (unit_address c.args.addr)) (sym more);
    }
