use Rattle.std.proofs.Common.{◌≡◌, ℕ, List, false, refl, ap, subst, sym, ◌∙◌}
use Rattle.ar_disks.specs.Block.{with_sectors}
use Rattle.ar_disks.specs.Disk.{DiskState, Writes, block_at}
use Rattle.ar_disks.specs.Fuse.{FuseState}
use Rattle.ar_disks.proofs.Fused.{fused, block_at-fused, blown_writes, passed_writes}
use Rattle.ar_disks.proofs.fuse.FuseDiskDisk.write_part.Goals as goal

pub returns-then-passes-clause-written : goal.returns-then-passes-clause-written
returns-then-passes-clause-written c =
    let e : ℕ = c.args.ext in
    let r : ℕ = c.args.row in
    let disk : DiskState = c.self.inside.disk in
    let old : DiskState = fused disk c.self.inside.gone c.self.inside.faults in
    let new : DiskState = fused c.write_part.new.self c.self.inside.gone c.self.inside.faults in
    let was : old ≡ c.args.self.now.disk =
    ap (λ (f : FuseState). f.disk) (c.self.view_is ∙ c.if-passes.ensures.used) in
    let there : c.self.inside.gone ≡ false = ap (λ (d : DiskState). d.gone) was ∙ c.if-passes.ensures.there refl in
    let after : List ℕ → List ℕ = λ block. with_sectors block c.args.first c.args.from.now in
    subst (λ (d : DiskState). Writes d new e r c.write_part.result (after (block_at d e r))) was
    (subst (λ (block : List ℕ). Writes old new e r c.write_part.result (after block))
    (sym (block_at-fused disk c.self.inside.gone c.self.inside.faults e r))
    (passed_writes disk c.write_part.new.self c.self.inside.gone c.self.inside.faults e r c.write_part.result
    (after (block_at disk e r)) there c.write_part.ensures.sound c.write_part.ensures.written))

pub returns-else-passes-clause-written : goal.returns-else-passes-clause-written
returns-else-passes-clause-written c =
    let after : List ℕ =
    with_sectors (block_at c.args.self.now.disk c.args.ext c.args.row) c.args.first c.args.from.now in
    subst (λ (f : FuseState). Writes c.args.self.now.disk f.disk c.args.ext c.args.row c.passes.result after)
    (sym c.if-passes.ensures.blown)
    (blown_writes c.args.self.now c.passes.result c.args.ext c.args.row after c.if-passes.false)
