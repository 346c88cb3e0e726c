use Rattle.std.proofs.Common.{true, false, refl, sym, ◌∙◌}
use Rattle.ar_extents.proofs.Access.{part_read}
use Rattle.ar_extents.proofs.Accounts.{read_made, got_made}
use Rattle.ar_extents.proofs.set.DiskSet.get_part.Goals as goal

pub returns-then-read_part-clause-answer : goal.returns-then-read_part-clause-answer
returns-then-read_part-clause-answer g c =
    part_read _ _ _ _ c.args.place c.args.row c.args.first _ c.self.view_is
    (sym c.is_lost.ensures ∙ c.if-is_lost.false) c.if-read_part.ensures.read

pub returns-then-read_part-clause-made : goal.returns-then-read_part-clause-made
returns-then-read_part-clause-made g c =
    read_made _ _ _ _ _ c.args.place c.args.row true _ c.self.view_is c.self.invariant c.requires.place
    (sym c.is_lost.ensures ∙ c.if-is_lost.false) refl
    c.if-read_part.ensures.read.block c.read_part.ensures.others c.if-read_part.ensures.logged

pub returns-clause-made : goal.returns-clause-made
returns-clause-made g c =
    got_made _ _ _ _ _ c.lost-2.ensures
    (read_made _ _ _ _ _ c.args.place c.args.row false _ c.self.view_is c.self.invariant c.requires.place
    (sym c.is_lost.ensures ∙ c.if-is_lost.false)
    c.after_fault-self-inside.ensures c.if-read_part.ensures.read.block c.read_part.ensures.others
    c.if-read_part.ensures.logged)
