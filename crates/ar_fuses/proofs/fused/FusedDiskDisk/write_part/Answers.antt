use Rattle.std.proofs.Common.{◌≡◌, ◌∙◌, ℕ, List, false, refl, ap, subst, sym}
use Rattle.ar_disks.specs.Block.{with_sectors}
use Rattle.ar_disks.specs.Disk.{DiskState, Writes, block_at}
use Rattle.ar_disks.proofs.Fused.{fused, block_at-fused, blown_writes, passed_writes}
use Rattle.ar_fuses.proofs.fused.FusedDiskDisk.write_part.Goals as goal

pub returns-then-passes : goal.returns-then-passes
returns-then-passes c =
    let e : ℕ = c.args.ext in
    let r : ℕ = c.args.row in
    let disk : DiskState = c.self.inside.disk in
    let old : DiskState = fused disk c.self.inside.gone c.self.inside.faults in
    let new : DiskState = fused c.write_part.new.self c.self.inside.gone c.self.inside.faults in
    let was : old ≡ c.args.self.now = c.self.view_is ∙ c.if-passes.ensures.passed in
    let there : c.self.inside.gone ≡ false = ap (λ (d : DiskState). d.gone) was ∙ c.if-passes.ensures.there refl in
    let after : List ℕ → List ℕ = λ block. with_sectors block c.args.first c.args.from.now in
    record {
      written = subst (λ (d : DiskState). Writes d new e r c.write_part.result (after (block_at d e r))) was
          (subst (λ (block : List ℕ). Writes old new e r c.write_part.result (after block))
          (sym (block_at-fused disk c.self.inside.gone c.self.inside.faults e r))
          (passed_writes disk c.write_part.new.self c.self.inside.gone c.self.inside.faults e r c.write_part.result
          (after (block_at disk e r)) there c.write_part.ensures.sound c.write_part.ensures.written));
    }

pub returns-else-passes : goal.returns-else-passes
returns-else-passes c =
    let after : List ℕ = with_sectors (block_at c.args.self.now c.args.ext c.args.row) c.args.first c.args.from.now in
    record {
      written =
          subst (λ (d : DiskState). Writes c.args.self.now d c.args.ext c.args.row c.passes.result after)
          (sym c.if-passes.ensures.blown)
          (blown_writes (record { disk = c.args.self.now; left = 0 }) c.passes.result c.args.ext c.args.row after
          c.if-passes.false);
    }
