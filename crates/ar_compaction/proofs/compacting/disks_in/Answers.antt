use Rattle.std.proofs.Common.{◌≡◌, ◌+◌, ◌∙◌, ◌++◌, ◌∷◌, [], List, take, ap, sym, subst}
use Rattle.std.proofs.lemmas.List.{map_more}
use Rattle.ar_record.specs.Record.{RecordData, all_data, data_of, AreEncodable}
use Rattle.ar_compaction.specs.Compaction.{disk_records}
use Rattle.ar_compaction.proofs.Building.{disk_records-append}
use Rattle.ar_compaction.proofs.Creation.{fit-append}
use Rattle.ar_compaction.proofs.compacting.disks_in.Goals as goal

pub loop-entry-preserved : goal.loop-entry-preserved
loop-entry-preserved c =
    let entries = c.args.records.now in
    let done : List RecordData = all_data (take c.loop-entry.entry-index entries) in
    let one : List RecordData = data_of c.entry-item.result ∷ [] in
    let more : all_data (take (c.loop-entry.entry-index + 1) entries) ≡ done ++ one =
    map_more data_of entries c.loop-entry.entry-index c.entry-item.result c.loop-entry-test.true
    ∙ ap (λ r. done ++ data_of r ∷ []) (sym c.entry-item.is) in
    let now = c.in_ok-append_disk.ensures.disks in
    record {
      disks =
          now
          ∙ ap (λ (l : List RecordData). l ++ disk_records one) c.loop-entry.invariant.disks
          ∙ sym (disk_records-append done one)
          ∙ ap disk_records (sym more);
      fit =
          subst AreEncodable (sym now)
          (fit-append (all_data c.loop-entry.found.items) (disk_records one) c.loop-entry.invariant.fit
          c.in_ok-append_disk.ensures.fit);
    }
