use Rattle.std.proofs.Common.{List, ◌<◌, length, subst, sym, ap, ◌∙◌}
use Rattle.std.specs.Prelude.{slice_set}
use Rattle.std.proofs.lemmas.List.Edits.{map_over_more}
use Rattle.ar_record.specs.Record.{data_of}
use Rattle.ar_compaction.specs.Replaying.{ReplayState, replayed}
use Rattle.ar_checkpoint.proofs.log_replay.execute.Goals as goal

pub loop-unit-preserved : goal.loop-unit-preserved
loop-unit-preserved c =
    let r = data_of c.args.entry.now in
    let now = c.loop-unit.unit-items in
    let i = c.loop-unit.unit-index in
    let x = c.unit-item.result in
    ap (slice_set now i)
    (c.in_ok-apply.ensures.applied ∙ ap (λ (unit : ReplayState). replayed unit r) (sym c.unit-item.is))
    ∙ map_over_more (λ (unit : ReplayState). replayed unit r) c.args.units.now.items now i x
    (subst (λ (l : List ReplayState). i < length l) c.deref_mut-unit-items.ensures.value c.loop-unit-test.true)
    c.loop-unit.invariant c.unit-item.is
