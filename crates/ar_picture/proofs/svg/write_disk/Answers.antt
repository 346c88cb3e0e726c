use Rattle.std.specs.List.{flat_map, range_with_len}
use Rattle.ar_picture.specs.Drawings.{name_svg, row_svg, state_svg}
use Rattle.ar_picture.proofs.DrawingLemmas.{Adds, adds_last, adds_then}
use Rattle.ar_picture.proofs.svg.write_disk.Goals as goal

pub returns : goal.returns
returns g c =
    let old = g.W.Write.contents c.args.out.now in
    let named = g.W.Write.contents c.write_name.new.out in
    let marked = g.W.Write.contents c.write_state.new.out in
    let new = g.W.Write.contents c.write_extents.new.out in
    let picture = c.args.picture.now in
    let disk = c.args.disk in
    let named_text : Adds old named (name_svg disk) = record { it = c.in_ok-write_name.ensures.text } in
    let marked_text : Adds named marked (state_svg disk picture.health) =
    record { it = c.in_ok-write_state.ensures.text } in
    record {
      text =
          adds_last c.write_extents.result new
          (flat_map (row_svg c.args.scale picture disk) (range_with_len 0 picture.extents))
          (adds_then named_text marked_text) c.write_extents.ensures.text;
    }
