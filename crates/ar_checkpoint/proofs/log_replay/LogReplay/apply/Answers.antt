use Rattle.std.proofs.Common.{refl}
use Rattle.ar_checkpoint.proofs.Clauses.{on_ok}
use Rattle.ar_checkpoint.proofs.Replays.{replays_more}
use Rattle.ar_record.specs.Record.{data_of}
use Rattle.ar_checkpoint.proofs.log_replay.LogReplay.apply.Goals as goal

pub returns-clause-replayed : goal.returns-clause-replayed
returns-clause-replayed c =
    on_ok _ _ c.execute.result
    (λ executed records is.
    replays_more records (data_of c.args.entry.now) c.args.self.now _ c.note_unit.new.units.items
    c.in_ok-note_disk.ensures
    c.in_ok-note_unit.ensures.noted c.in_ok-note_unit.ensures.replayed executed c.note.ensures refl is)
    c.execute.ensures
