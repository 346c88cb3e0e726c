use Rattle.std.proofs.Common.{◌≡◌, false, refl, ap, subst, sym, ◌∙◌}
use Rattle.ar_disks.specs.Disk.{DiskState, Writes}
use Rattle.ar_disks.specs.Fuse.{FuseState}
use Rattle.ar_disks.proofs.Fused.{fused, blown_writes, passed_writes}
use Rattle.ar_disks.proofs.fuse.FuseDiskDisk.write.Goals as goal

pub returns-then-passes-clause-written : goal.returns-then-passes-clause-written
returns-then-passes-clause-written c =
    let was : fused c.self.inside.disk c.self.inside.gone c.self.inside.faults ≡ c.args.self.now.disk =
    ap (λ (f : FuseState). f.disk) (c.self.view_is ∙ c.if-passes.ensures.used) in
    let there : c.self.inside.gone ≡ false = ap (λ (d : DiskState). d.gone) was ∙ c.if-passes.ensures.there refl in
    subst
    (λ (d : DiskState).
    Writes d (fused c.write.new.self c.self.inside.gone c.self.inside.faults) c.args.ext c.args.row c.write.result
    c.args.from.now)
    was
    (passed_writes c.self.inside.disk c.write.new.self c.self.inside.gone c.self.inside.faults c.args.ext c.args.row
    c.write.result c.args.from.now
    there c.write.ensures.sound c.write.ensures.written)

pub returns-else-passes-clause-written : goal.returns-else-passes-clause-written
returns-else-passes-clause-written c =
    subst (λ (f : FuseState). Writes c.args.self.now.disk f.disk c.args.ext c.args.row c.passes.result c.args.from.now)
    (sym c.if-passes.ensures.blown)
    (blown_writes c.args.self.now c.passes.result c.args.ext c.args.row c.args.from.now c.if-passes.false)
