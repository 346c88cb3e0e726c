use Rattle.std.proofs.Common.{◌≡◌, ◌∙◌, false, refl, ap, subst, sym}
use Rattle.ar_disks.specs.Disk.{DiskState, ReadsPart}
use Rattle.ar_disks.proofs.Fused.{fused, blown_reads_part, passed_reads_part}
use Rattle.ar_fuses.proofs.fused.FusedDiskDisk.read_part.Goals as goal

pub returns-then-passes : goal.returns-then-passes
returns-then-passes c =
    let was : fused c.self.inside.disk c.self.inside.gone c.self.inside.faults ≡ c.args.self.now =
    c.self.view_is ∙ c.if-passes.ensures.passed in
    let there : c.self.inside.gone ≡ false = ap (λ (d : DiskState). d.gone) was ∙ c.if-passes.ensures.there refl in
    record {
      read = subst
          (λ (d : DiskState). ReadsPart d (fused c.read_part.new.self c.self.inside.gone c.self.inside.faults)
          c.args.ext c.args.row c.args.first c.read_part.result c.read_part.new.into)
          was
          (passed_reads_part c.self.inside.disk c.read_part.new.self c.self.inside.gone c.self.inside.faults c.args.ext
          c.args.row c.args.first c.read_part.result c.read_part.new.into
          there c.read_part.ensures.sound c.read_part.ensures.read);
    }

pub returns-else-passes : goal.returns-else-passes
returns-else-passes c = record {
  read =
      subst (λ (d : DiskState).
      ReadsPart c.args.self.now d c.args.ext c.args.row c.args.first c.passes.result c.args.into.now)
      (sym c.if-passes.ensures.blown)
      (blown_reads_part (record { disk = c.args.self.now; left = 0 }) c.passes.result c.args.ext c.args.row
      c.args.first c.args.into.now c.if-passes.false);
}
