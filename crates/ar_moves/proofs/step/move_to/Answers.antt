use Rattle.ar_store.proofs.Accesses.{move_accessed}
use Rattle.ar_moves.proofs.step.move_to.Goals as goal

pub returns-in-Done-clause-leaves : goal.returns-in-Done-clause-leaves
returns-in-Done-clause-leaves g c =
    let moved = c.move_rb.ensures in
    record {
      stands = moved.done.stands;
      units = moved.units;
      accessed = move_accessed c.args.store.now c.args.key c.args.to c.move_rb.new.self.disks moved.done.plan;
      broken = moved.broken;
    }

pub returns-in-Broken-clause-leaves : goal.returns-in-Broken-clause-leaves
returns-in-Broken-clause-leaves g c =
    let moved = c.move_rb.ensures in
    record {
      stands = moved.done.stands;
      units = moved.units;
      accessed = move_accessed c.args.store.now c.args.key c.args.to c.move_rb.new.self.disks moved.done.plan;
      broken = moved.broken;
    }
