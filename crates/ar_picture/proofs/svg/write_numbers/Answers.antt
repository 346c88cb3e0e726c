use Rattle.ar_picture.specs.Drawings.{number_svg}
use Rattle.ar_picture.proofs.DrawingLemmas.{appends_next}
use Rattle.ar_picture.proofs.svg.write_numbers.Goals as goal

pub loop-extent-preserved : goal.loop-extent-preserved
loop-extent-preserved g c =
    let old = g.W.Write.contents c.args.out.now in
    let before = g.W.Write.contents c.loop-extent.out in
    let new = g.W.Write.contents c.write_number.new.out in
    let extent = c.loop-extent.extent in
    appends_next (number_svg c.args.scale) old before new extent c.loop-extent.invariant
    c.in_ok-write_number.ensures.text
