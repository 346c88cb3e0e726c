use Rattle.std.proofs.Common.{arith, ◌≡◌, ◌<◌, ℕ, List, length, get_or, map, sym, ap, subst, ◌∙◌, [], ◌∷◌, ◌++◌}
use Rattle.std.proofs.lemmas.List.{get_or-map, length-map}
use Rattle.ar_record.specs.Record.{data_of}
use Rattle.ar_compaction.specs.Replaying.{ReplayState, unit_address}
use Rattle.ar_checkpoint.specs.LogReplay.{AreReplayed}
use Rattle.ar_checkpoint.proofs.Replays.{with_new}
use Rattle.ar_checkpoint.proofs.log_replay.note_unit.Goals as goal

pub returns-in_ok-push-clause-replayed : goal.returns-in_ok-push-clause-replayed
returns-in_ok-push-clause-replayed c records are before =
    let units = c.args.units.now in
    let now = c.note_address.new.addresses in
    let a = unit_address c.index-addr.result.now in
    let longer : length units.items < length now.items =
    omega (arith, c.if-len.true, units.ok.0, now.ok.0, c.len.ensures, c.len-2.ensures) in
    let is : c.index-addr.result.now ≡ get_or now.items (length units.items) c.index-addr.result.now =
    c.index-addr.ensures
    ∙ ap (λ (n : ℕ). get_or now.items n c.index-addr.result.now) (omega (arith, c.len-then-len.ensures, units.ok.0)) in
    let at : a ≡ get_or (map unit_address now.items) (length units.items) a =
    ap unit_address is
    ∙ sym (get_or-map unit_address now.items (length units.items) c.index-addr.result.now a longer) in
    subst (λ (l : List ReplayState). AreReplayed records (map unit_address now.items) l)
    (sym (c.in_ok-push.ensures.items ∙ ap (λ (u : ReplayState). units.items ++ u ∷ []) c.new.ensures))
    (with_new records (map unit_address c.args.addresses.now.items) (map unit_address now.items)
    (data_of c.args.entry.now) units.items a
    are before c.in_ok-note_address.ensures.noted (omega (arith, longer, length-map now.items unit_address)) at)
