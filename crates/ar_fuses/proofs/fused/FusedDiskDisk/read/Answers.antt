use Rattle.std.proofs.Common.{◌≡◌, ◌∙◌, false, refl, ap, subst, sym}
use Rattle.ar_disks.specs.Disk.{DiskState, Reads}
use Rattle.ar_disks.proofs.Fused.{fused, blown_reads, passed_reads}
use Rattle.ar_fuses.proofs.fused.FusedDiskDisk.read.Goals as goal

pub returns-then-passes : goal.returns-then-passes
returns-then-passes c =
    let was : fused c.self.inside.disk c.self.inside.gone c.self.inside.faults ≡ c.args.self.now =
    c.self.view_is ∙ c.if-passes.ensures.passed in
    let there : c.self.inside.gone ≡ false = ap (λ (d : DiskState). d.gone) was ∙ c.if-passes.ensures.there refl in
    record {
      read = subst
          (λ (d : DiskState). Reads d (fused c.read.new.self c.self.inside.gone c.self.inside.faults) c.args.ext
          c.args.row c.read.result c.read.new.into)
          was
          (passed_reads c.self.inside.disk c.read.new.self c.self.inside.gone c.self.inside.faults c.args.ext c.args.row
          c.read.result c.read.new.into
          there c.read.ensures.sound c.read.ensures.read);
    }

pub returns-else-passes : goal.returns-else-passes
returns-else-passes c = record {
  read =
      subst (λ (d : DiskState). Reads c.args.self.now d c.args.ext c.args.row c.passes.result c.args.into.now)
      (sym c.if-passes.ensures.blown)
      (blown_reads (record { disk = c.args.self.now; left = 0 }) c.passes.result c.args.ext c.args.row c.args.into.now
      c.if-passes.false);
}
