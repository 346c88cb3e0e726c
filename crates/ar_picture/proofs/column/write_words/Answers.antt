use Rattle.ar_picture.specs.Drawings.{label_svg, use_svg}
use Rattle.ar_picture.proofs.DrawingLemmas.{Adds, adds_last}
use Rattle.ar_picture.proofs.column.write_words.Goals as goal

pub returns : goal.returns
returns g c =
    let old = g.W.Write.contents c.args.out.now in
    let numbered = g.W.Write.contents c.write_number.new.out in
    let new = g.W.Write.contents c.write_use.new.out in
    let numbered_text : Adds old numbered (label_svg c.args.scale c.args.place c.args.number) =
    record { it = c.in_ok-write_number.ensures.text } in
    record {
      text =
          adds_last c.write_use.result new
          (use_svg c.args.group.class c.args.group.blocks c.args.group.slots) numbered_text c.write_use.ensures.text;
    }
