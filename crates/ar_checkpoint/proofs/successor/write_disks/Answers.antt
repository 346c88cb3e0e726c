use Rattle.std.proofs.Common.{◌≡◌, [], map, ap}
use Rattle.ar_record.specs.Record.{AddDisk}
use Rattle.ar_checkpoint.proofs.Appends.{appends_none}
use Rattle.ar_checkpoint.proofs.Clauses.{none_of}
use Rattle.ar_checkpoint.proofs.successor.write_disks.Goals as goal

pub returns-then-is_empty-clause-written : goal.returns-then-is_empty-clause-written
returns-then-is_empty-clause-written g c =
    let none : c.args.disks.now ≡ [] = none_of c.args.disks.now c.if-is_empty.ensures in
    appends_none g.M.Media.seen g.M.Media.may_leave g.M.Media.is_clean (map AddDisk c.args.disks.now) c.args.log.now
    (ap (map AddDisk) none) c.requires
