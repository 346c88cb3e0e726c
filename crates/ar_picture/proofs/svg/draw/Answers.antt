use Rattle.std.proofs.Common.{codes}
use Rattle.std.specs.List.{flat_map, range_with_len}
use Rattle.ar_picture.specs.Drawings.{disks_svg, frame_svg, legend_svg, number_svg}
use Rattle.ar_picture.specs.Layouts.{legend_at}
use Rattle.ar_picture.proofs.DrawingLemmas.{Adds, adds_last, adds_then}
use Rattle.ar_picture.proofs.svg.draw.Goals as goal

pub returns : goal.returns
returns g c =
    let old = g.W.Write.contents c.args.out.now in
    let framed = g.W.Write.contents c.write_frame.new.out in
    let numbered = g.W.Write.contents c.write_numbers.new.out in
    let drawn = g.W.Write.contents c.write_disks.new.out in
    let reported = g.W.Write.contents c.write_legend.new.out in
    let new = g.W.Write.contents c.writeln.new.self in
    let picture = c.args.picture.now in
    let scale = c.args.scale in
    let framed_text : Adds old framed (frame_svg scale picture) = record { it = c.in_ok-write_frame.ensures.text } in
    let numbered_text : Adds framed numbered (flat_map (number_svg scale) (range_with_len 0 picture.extents)) =
    record { it = c.in_ok-write_numbers.ensures.text } in
    let drawn_text : Adds numbered drawn (disks_svg scale picture) = record { it = c.in_ok-write_disks.ensures.text } in
    let reported_text : Adds drawn reported (legend_svg (legend_at picture.disks) picture.units.items) =
    record { it = c.in_ok-write_legend.ensures.text } in
    record {
      text =
          adds_last c.writeln.result new (codes "</svg>\n")
          (adds_then (adds_then (adds_then framed_text numbered_text) drawn_text) reported_text)
          c.writeln.ensures.bytes;
    }
