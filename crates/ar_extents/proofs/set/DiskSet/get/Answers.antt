use Rattle.std.proofs.Common.{true, false, refl, sym, ◌∙◌}
use Rattle.ar_extents.proofs.Access.{read_answer}
use Rattle.ar_extents.proofs.Accounts.{read_made, got_made}
use Rattle.ar_extents.proofs.set.DiskSet.get.Goals as goal

pub returns-then-read_disk-clause-answer : goal.returns-then-read_disk-clause-answer
returns-then-read_disk-clause-answer g c =
    read_answer _ _ _ _ c.args.place c.args.row _ c.self.view_is (sym c.is_lost.ensures ∙ c.if-is_lost.false)
    c.if-read_disk.ensures.read

pub returns-then-read_disk-clause-made : goal.returns-then-read_disk-clause-made
returns-then-read_disk-clause-made g c =
    read_made _ _ _ _ _ c.args.place c.args.row true _ c.self.view_is c.self.invariant c.requires.place
    (sym c.is_lost.ensures ∙ c.if-is_lost.false) refl
    c.if-read_disk.ensures.read c.read_disk.ensures.others c.if-read_disk.ensures.logged

pub returns-clause-made : goal.returns-clause-made
returns-clause-made g c =
    got_made _ _ _ _ _ c.lost-2.ensures
    (read_made _ _ _ _ _ c.args.place c.args.row false _ c.self.view_is c.self.invariant c.requires.place
    (sym c.is_lost.ensures ∙ c.if-is_lost.false)
    c.after_fault-self-inside.ensures c.if-read_disk.ensures.read c.read_disk.ensures.others
    c.if-read_disk.ensures.logged)
