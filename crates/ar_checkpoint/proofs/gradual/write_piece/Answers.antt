use Rattle.std.proofs.Common.{Option, List, refl, sym, subst}
use Rattle.ar_record.specs.Record.{RecordData}
use Rattle.ar_checkpoint.specs.Gradual.{StaysAt}
use Rattle.ar_checkpoint.specs.declared.gradual.Stage.{Stage}
use Rattle.ar_checkpoint.proofs.Graduating.{keeps_all}
use Rattle.ar_checkpoint.proofs.gradual.write_piece.Goals as goal
use Rattle.ar_checkpoint.proofs.gradual.write_piece.Goals.{in-None, in-Some+in-Ok}

pub returns-clause-done : goal.returns-clause-done
returns-clause-done g c =
    let seen = g.M.Media.seen in
    let may_leave = g.M.Media.may_leave in
    let is_clean = g.M.Media.is_clean in
    let journal = c.args.journal.now in
    let writer = c.args.writer in
    let At : Option (List RecordData) → Stage g.row.M.Denot → Type 0 = λ rest stage.
    StaysAt seen may_leave is_clean (record { log = writer.log; rest = rest; units = writer.units }) stage in
    let stays : StaysAt seen may_leave is_clean writer c.match-rest.stage = elim c.match-rest.branch [
      | in-None w ↦ subst (λ s. StaysAt seen may_leave is_clean writer s) (sym w.stage-is)
          (subst (λ r. At r w.next_unit-stage.result) (sym w.in-None.is) w.next_unit-stage.ensures)
      | in-Some+in-Ok w ↦ subst (λ s. StaysAt seen may_leave is_clean writer s) (sym w.stage-is)
          (subst (λ r. At r w.in-Ok.stage) (sym w.in-Some.is) w.in-Ok.ensures.written)
    ] in
    record {
      keeps =
          keeps_all seen may_leave g.M.Media.moment g.M.Media.left_since is_clean journal journal journal.spare refl;
      follows = λ now. stays.stays journal c.args.head.items c.args.place c.requires.writing;
      head = refl;
      clean = stays.clean journal.spare;
    }
