use Rattle.std.proofs.Common.{List, [], ◌∷◌, ◌++◌, sym, ap, subst, ◌∙◌, arith, append_assoc, length-append}
use Rattle.std.proofs.lemmas.List.{map_push}
use Rattle.ar_record.specs.declared.record.Record.{Record as Stored}
use Rattle.ar_record.specs.Record.{RecordData, all_data, data_of}
use Rattle.ar_recovery.specs.Recovering.{RedoesAll}
use Rattle.ar_recovery.proofs.Recovering.{redoes_more}
use Rattle.ar_recovery.proofs.from_records.redo_all.Goals as goal

pub loop-entry-preserved : goal.loop-entry-preserved
loop-entry-preserved g c = record {
  redone =
      subst (λ (l : List RecordData). RedoesAll c.args.recovery.now.history l c.redo.new.self.history)
      (sym (map_push data_of c.loop-entry.yielded c.in-Some.entry))
      (redoes_more c.args.recovery.now.history c.loop-entry.recovery.history c.redo.new.self.history
      (all_data c.loop-entry.yielded) (data_of c.in-Some.entry) c.loop-entry.invariant.redone
      (c.redo.ensures.done c.if-not-redo.false));
  taken =
      append_assoc c.loop-entry.yielded (c.in-Some.entry ∷ []) c.next.new.self.rest.items
      ∙ ap (λ (l : List Stored). c.loop-entry.yielded ++ l) (sym c.in-Some.ensures.steps.0)
      ∙ c.loop-entry.invariant.taken;
  number = omega (
    arith,
    length-append c.loop-entry.yielded (c.in-Some.entry ∷ []),
    c.loop-entry.invariant.number,
    c.saturating_add-number.ensures,
  );
}
