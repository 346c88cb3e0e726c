use Rattle.ar_checkpoint.proofs.Appends.{successor_written}
use Rattle.ar_checkpoint.proofs.successor.write_successor.Goals as goal

pub returns-in-Ok-write_records-clause-written : goal.returns-in-Ok-write_records-clause-written
returns-in-Ok-write_records-clause-written g c =
    successor_written g.M.Media.seen g.M.Media.may_leave g.M.Media.is_clean c.args.head.now c.args.replay
    c.args.medium c.in-Ok.log
    c.write_records.new.log c.in-Ok.ensures.batches c.in-Ok.ensures.clean c.in-Ok-write_records.ensures.written
