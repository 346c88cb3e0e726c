use Rattle.std.proofs.Common.{true, false, refl, sym, ◌∙◌}
use Rattle.ar_extents.proofs.Access.{write_answer}
use Rattle.ar_extents.proofs.Accounts.{write_made, put_made}
use Rattle.ar_extents.proofs.set.DiskSet.put.Goals as goal

pub returns-then-write_disk-clause-answer : goal.returns-then-write_disk-clause-answer
returns-then-write_disk-clause-answer g c =
    write_answer _ _ _ _ c.args.place c.args.row _ c.self.view_is (sym c.is_lost.ensures ∙ c.if-is_lost.false)
    c.if-write_disk.ensures.written

pub returns-then-write_disk-clause-made : goal.returns-then-write_disk-clause-made
returns-then-write_disk-clause-made g c =
    write_made _ _ _ _ _ c.args.place c.args.row true _ c.self.view_is c.self.invariant c.requires.place
    (sym c.is_lost.ensures ∙ c.if-is_lost.false) refl
    c.if-write_disk.ensures.written c.write_disk.ensures.others c.if-write_disk.ensures.logged

pub returns-clause-made : goal.returns-clause-made
returns-clause-made g c =
    put_made _ _ _ _ _ c.lost-2.ensures
    (write_made _ _ _ _ _ c.args.place c.args.row false _ c.self.view_is c.self.invariant c.requires.place
    (sym c.is_lost.ensures ∙ c.if-is_lost.false)
    c.after_fault-self-inside.ensures c.if-write_disk.ensures.written c.write_disk.ensures.others
    c.if-write_disk.ensures.logged)
