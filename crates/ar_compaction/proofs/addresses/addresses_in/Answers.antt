use Rattle.std.proofs.Common.{◌≡◌, ◌+◌, ◌∙◌, ◌++◌, ◌∷◌, [], List, map, take, ap, sym, subst, ℕ}
use Rattle.std.proofs.lemmas.List.{map_more}
use Rattle.ar_record.specs.Record.{RecordData, all_data, data_of}
use Rattle.ar_compaction.specs.Addresses.{AreAddresses}
use Rattle.ar_compaction.specs.Replaying.{unit_address}
use Rattle.ar_compaction.proofs.Noting.{one_noted}
use Rattle.ar_compaction.proofs.addresses.addresses_in.Goals as goal

pub loop-entry-preserved : goal.loop-entry-preserved
loop-entry-preserved c =
    let done : List RecordData = all_data (take c.loop-entry.entry-index c.args.records.now) in
    let more : all_data (take (c.loop-entry.entry-index + 1) c.args.records.now) ≡ done
    ++ data_of c.entry-item.result ∷ [] =
    map_more data_of c.args.records.now c.loop-entry.entry-index c.entry-item.result c.loop-entry-test.true
    ∙ ap (λ r. done ++ data_of r ∷ []) (sym c.entry-item.is) in
    subst (λ (l : List RecordData). AreAddresses l (map unit_address c.note_address.new.addresses.items)) (sym more)
    (subst (λ (l : List (ℕ × ℕ)). AreAddresses (done ++ data_of c.entry-item.result ∷ []) l)
    (sym c.in_ok-note_address.ensures.noted)
    (one_noted done (map unit_address c.loop-entry.addresses.items)
    (data_of c.entry-item.result) c.loop-entry.invariant))
