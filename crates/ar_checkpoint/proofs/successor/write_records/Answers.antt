use Rattle.std.proofs.Common.{List, ℕ, map, subst}
use Rattle.ar_record.specs.Record.{AddDisk}
use Rattle.ar_checkpoint.specs.Writing.{AppendsRecords}
use Rattle.ar_checkpoint.proofs.Appends.{replay_written}
use Rattle.ar_checkpoint.proofs.Clauses.{on_ok}
use Rattle.ar_checkpoint.proofs.successor.write_records.Goals as goal

pub returns-clause-written : goal.returns-clause-written
returns-clause-written g c =
    on_ok _ _ c.write_units.result
    (replay_written g.M.Media.seen g.M.Media.may_leave g.M.Media.is_clean c.args.replay c.args.log.now
    c.write_disks.new.log
    c.write_units.new.log
    (subst
    (λ (l : List ℕ). AppendsRecords g.M.Media.seen g.M.Media.may_leave g.M.Media.is_clean
    (map AddDisk l) c.args.log.now
    c.write_disks.new.log) c.deref.ensures.value c.in_ok-write_disks.ensures.written))
    c.write_units.ensures.written
