use Rattle.std.proofs.Common.{◌+◌, ◌*◌, ap}
use Rattle.ar_picture.specs.Drawings.{patch_svg, placed_svg}
use Rattle.ar_picture.specs.Looks.{colour_at}
use Rattle.ar_picture.proofs.DrawingLemmas.{Adds, adds_as, adds_last}
use Rattle.ar_picture.proofs.legend.write_unit.Goals as goal

pub returns : goal.returns
returns g c =
    let old = g.W.Write.contents c.args.out.now in
    let shown = g.W.Write.contents c.write_patch.new.out in
    let new = g.W.Write.contents c.write_count.new.out in
    let x = c.args.x in
    let line = c.args.line in
    let unit = c.args.unit in
    let shown_text : Adds old shown (patch_svg x line (colour_at (8 * unit.host + unit.lun))) =
    adds_as (ap (patch_svg x line) c.colour_of.ensures) c.in_ok-write_patch.ensures.text in
    record {
      text =
          adds_last c.write_count.result new (placed_svg (x + 36) line unit) shown_text c.write_count.ensures.text;
    }
