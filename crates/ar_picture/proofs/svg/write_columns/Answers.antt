use Rattle.ar_picture.specs.Drawings.{disk_svg}
use Rattle.ar_picture.proofs.DrawingLemmas.{appends_next}
use Rattle.ar_picture.proofs.svg.write_columns.Goals as goal

pub loop-disk-preserved : goal.loop-disk-preserved
loop-disk-preserved g c =
    let old = g.W.Write.contents c.args.out.now in
    let before = g.W.Write.contents c.loop-disk.out in
    let new = g.W.Write.contents c.write_disk.new.out in
    let disk = c.loop-disk.disk in
    appends_next (disk_svg c.args.scale c.args.picture.now) old before new disk c.loop-disk.invariant
    c.in_ok-write_disk.ensures.text
