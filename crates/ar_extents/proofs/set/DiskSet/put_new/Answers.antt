use Rattle.std.proofs.Common.{true, false, refl}
use Rattle.ar_extents.proofs.Access.{new_answer}
use Rattle.ar_extents.proofs.Accounts.{new_made}
use Rattle.ar_extents.proofs.set.DiskSet.put_new.Goals as goal

pub returns-then-write_disk-clause-answer : goal.returns-then-write_disk-clause-answer
returns-then-write_disk-clause-answer g c =
    new_answer _ _ _ _ (record { disk = c.in-Rebuilding.disk; extent = c.in-Rebuilding.extent }) c.args.row _
    c.self.view_is c.in-Rebuilding.is c.if-write_disk.ensures.written

pub returns-then-write_disk-clause-made : goal.returns-then-write_disk-clause-made
returns-then-write_disk-clause-made g c =
    new_made _ _ _ _ _ (record { disk = c.in-Rebuilding.disk; extent = c.in-Rebuilding.extent }) c.args.row true _
    c.self.view_is c.self.invariant c.in-Rebuilding.is refl
    c.if-write_disk.ensures.written c.write_disk.ensures.others c.if-write_disk.ensures.logged

pub returns-clause-made : goal.returns-clause-made
returns-clause-made g c =
    new_made _ _ _ _ _ (record { disk = c.in-Rebuilding.disk; extent = c.in-Rebuilding.extent }) c.args.row false _
    c.self.view_is c.self.invariant c.in-Rebuilding.is c.after_fault-self-inside.ensures
    c.if-write_disk.ensures.written c.write_disk.ensures.others c.if-write_disk.ensures.logged
