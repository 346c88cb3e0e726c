use Rattle.std.proofs.Common.{◌+◌, []}
use Rattle.ar_picture.specs.Drawings.{line_svg, swatch_svg}
use Rattle.ar_picture.proofs.DrawingLemmas.{Adds, adds_last}
use Rattle.ar_picture.proofs.legend.write_sample.Goals as goal

pub returns : goal.returns
returns g c =
    let old = g.W.Write.contents c.args.out.now in
    let shown = g.W.Write.contents c.write_swatch.new.out in
    let new = g.W.Write.contents c.write_line.new.out in
    let x = c.args.x in
    let line = c.args.line in
    let shown_text : Adds old shown (swatch_svg x line c.args.style.now) =
    record { it = c.in_ok-write_swatch.ensures.text } in
    record {
      text =
          adds_last c.write_line.result new
          (line_svg (x + 36) line [] c.args.meaning.now) shown_text c.write_line.ensures.text;
    }
