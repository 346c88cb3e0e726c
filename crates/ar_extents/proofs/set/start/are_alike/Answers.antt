use Rattle.std.proofs.Common.{ap, sym, ◌∙◌, arith}
use Rattle.ar_disks.specs.Disk.{DiskState}
use Rattle.ar_extents.proofs.Disks.{disk_in-read}
use Rattle.ar_extents.proofs.Changes.{are_alike_is}
use Rattle.ar_extents.proofs.set.start.are_alike.Goals as goal

pub returns : goal.returns
returns g c =
    are_alike_is g.D.Disk.state c.args.disks.now c.geometry-geometry.result c.extents-extents.result
    c.all_have_shape.result
    (c.geometry-geometry.ensures
    ∙ ap (λ (s : DiskState). s.geometry)
    (sym (disk_in-read g.D.Disk.state c.args.disks.now 0 _ (omega arith) c.index-disks-0.is)))
    (c.extents-extents.ensures
    ∙ ap (λ (s : DiskState). s.extents)
    (sym (disk_in-read g.D.Disk.state c.args.disks.now 0 _ (omega arith) c.index-disks-0-2.is)))
    c.if-extents-eq0.false c.if-extents-gt1024.false
    c.all_have_shape.ensures
