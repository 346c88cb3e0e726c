use Rattle.std.proofs.Common.{◌≡◌, ◌∙◌, false, refl, ap, subst, sym}
use Rattle.ar_disks.specs.Disk.{DiskState, Writes}
use Rattle.ar_disks.proofs.Fused.{fused, blown_writes, passed_writes}
use Rattle.ar_fuses.proofs.fused.FusedDiskDisk.write.Goals as goal

pub returns-then-passes : goal.returns-then-passes
returns-then-passes c =
    let was : fused c.self.inside.disk c.self.inside.gone c.self.inside.faults ≡ c.args.self.now =
    c.self.view_is ∙ c.if-passes.ensures.passed in
    let there : c.self.inside.gone ≡ false = ap (λ (d : DiskState). d.gone) was ∙ c.if-passes.ensures.there refl in
    record {
      written = subst
          (λ (d : DiskState). Writes d (fused c.write.new.self c.self.inside.gone c.self.inside.faults) c.args.ext
          c.args.row c.write.result c.args.from.now)
          was
          (passed_writes c.self.inside.disk c.write.new.self c.self.inside.gone c.self.inside.faults c.args.ext
          c.args.row c.write.result c.args.from.now
          there c.write.ensures.sound c.write.ensures.written);
    }

pub returns-else-passes : goal.returns-else-passes
returns-else-passes c = record {
  written =
      subst (λ (d : DiskState). Writes c.args.self.now d c.args.ext c.args.row c.passes.result c.args.from.now)
      (sym c.if-passes.ensures.blown)
      (blown_writes (record { disk = c.args.self.now; left = 0 }) c.passes.result c.args.ext c.args.row c.args.from.now
      c.if-passes.false);
}
