use Rattle.std.proofs.Common.{refl, sym, ◌∙◌}
use Rattle.ar_extents.proofs.Changes.{kept_replacing, replacing}
use Rattle.ar_extents.proofs.set.DiskSet.replace.Goals as goal

pub invariant_of-self : goal.invariant_of-self
invariant_of-self g c =
    kept_replacing g.D.Disk.state c.self.inside.disks.items c.args.number c.args.disk _ _ refl c.self.view_is
    c.self.invariant
    (sym c.replace_refusal.ensures ∙ c.in_default.is) c.requires

pub returns-clause-replaced : goal.returns-clause-replaced
returns-clause-replaced g c =
    replacing g.D.Disk.state c.self.inside.disks.items c.args.number c.args.disk _ _ refl c.self.view_is
