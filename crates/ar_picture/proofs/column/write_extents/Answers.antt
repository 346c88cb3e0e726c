use Rattle.ar_picture.specs.Drawings.{row_svg}
use Rattle.ar_picture.proofs.DrawingLemmas.{appends_next}
use Rattle.ar_picture.proofs.column.write_extents.Goals as goal

pub loop-extent-preserved : goal.loop-extent-preserved
loop-extent-preserved g c =
    let old = g.W.Write.contents c.args.out.now in
    let before = g.W.Write.contents c.loop-extent.out in
    let new = g.W.Write.contents c.write_extent.new.out in
    let extent = c.loop-extent.extent in
    appends_next (row_svg c.args.scale c.args.picture.now c.args.disk) old before new extent c.loop-extent.invariant
    c.in_ok-write_extent.ensures.text
