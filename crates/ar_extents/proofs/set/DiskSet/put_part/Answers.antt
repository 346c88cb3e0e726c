use Rattle.std.proofs.Common.{true, false, refl, sym, ◌∙◌}
use Rattle.ar_extents.proofs.Access.{part_written}
use Rattle.ar_extents.proofs.Accounts.{write_made, put_made}
use Rattle.ar_extents.proofs.set.DiskSet.put_part.Goals as goal

pub returns-then-write_part-clause-answer : goal.returns-then-write_part-clause-answer
returns-then-write_part-clause-answer g c =
    part_written _ _ _ _ c.args.place c.args.row c.args.first _ c.self.view_is
    (sym c.is_lost.ensures ∙ c.if-is_lost.false) c.if-write_part.ensures.written

pub returns-then-write_part-clause-made : goal.returns-then-write_part-clause-made
returns-then-write_part-clause-made g c =
    write_made _ _ _ _ _ c.args.place c.args.row true _ c.self.view_is c.self.invariant c.requires.place
    (sym c.is_lost.ensures ∙ c.if-is_lost.false) refl
    c.if-write_part.ensures.written c.write_part.ensures.others c.if-write_part.ensures.logged

pub returns-clause-made : goal.returns-clause-made
returns-clause-made g c =
    put_made _ _ _ _ _ c.lost-2.ensures
    (write_made _ _ _ _ _ c.args.place c.args.row false _ c.self.view_is c.self.invariant c.requires.place
    (sym c.is_lost.ensures ∙ c.if-is_lost.false)
    c.after_fault-self-inside.ensures c.if-write_part.ensures.written c.write_part.ensures.others
    c.if-write_part.ensures.logged)
