use Rattle.std.proofs.Common.{codes}
use Rattle.ar_picture.specs.Drawings.{pieces_svg, slots_svg}
use Rattle.ar_picture.proofs.DrawingLemmas.{Adds, adds_last, adds_then}
use Rattle.ar_picture.proofs.column.write_bar.Goals as goal

pub returns : goal.returns
returns g c =
    let old = g.W.Write.contents c.args.out.now in
    let begun = g.W.Write.contents c.write_slots.new.out in
    let filled = g.W.Write.contents c.write_pieces.new.out in
    let new = g.W.Write.contents c.writeln.new.self in
    let begun_text : Adds old begun (slots_svg c.args.scale c.args.place c.args.group.now.slots) =
    record { it = c.in_ok-write_slots.ensures.text } in
    let filled_text : Adds begun filled (pieces_svg c.args.held.now.blocks) =
    record { it = c.in_ok-write_pieces.ensures.text } in
    record {
      text =
          adds_last c.writeln.result new (codes "</svg>\n") (adds_then begun_text filled_text) c.writeln.ensures.bytes;
    }
