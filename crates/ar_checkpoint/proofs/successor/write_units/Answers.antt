use Rattle.std.proofs.Common.{List, [], ◌∷◌, ◌++◌, append_assoc, sym, ap, ◌∙◌}
use Rattle.ar_compaction.specs.Replaying.{ReplayState}
use Rattle.ar_checkpoint.proofs.Appends.{units_more}
use Rattle.ar_checkpoint.proofs.successor.write_units.Goals as goal

pub loop-unit-preserved : goal.loop-unit-preserved
loop-unit-preserved g c = record {
  written =
      units_more g.M.Media.seen g.M.Media.may_leave g.M.Media.is_clean c.loop-unit.yielded c.in-Some.unit
      c.into_records.result
      c.args.log.now c.loop-unit.log c.write_unit.new.log c.loop-unit.invariant.written c.into_records.ensures
      c.in_ok-write_unit.ensures.written;
  taken =
      append_assoc c.loop-unit.yielded (c.in-Some.unit ∷ []) c.next.new.self.rest.items
      ∙ ap (λ (l : List ReplayState). c.loop-unit.yielded ++ l) (sym c.in-Some.ensures.steps.0)
      ∙ c.loop-unit.invariant.taken;
}
