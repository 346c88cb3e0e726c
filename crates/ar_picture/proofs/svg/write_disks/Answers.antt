use Rattle.std.proofs.Common.{◌++◌, ℕ, List, ap, codes}
use Rattle.std.specs.List.{flat_map, range_with_len}
use Rattle.ar_picture.specs.Drawings.{disk_svg}
use Rattle.ar_picture.specs.Layouts.{outline_of}
use Rattle.ar_picture.proofs.DrawingLemmas.{Adds, adds_as, adds_last, adds_then}
use Rattle.ar_picture.proofs.svg.write_disks.Goals as goal

pub returns : goal.returns
returns g c =
    let old = g.W.Write.contents c.args.out.now in
    let begun = g.W.Write.contents c.writeln.new.self in
    let drawn = g.W.Write.contents c.write_columns.new.out in
    let new = g.W.Write.contents c.writeln-2.new.self in
    let picture = c.args.picture.now in
    let scale = c.args.scale in
    let begun_text : Adds old begun (codes "<g stroke-width='" ++ (outline_of scale.height ++ codes "'>\n")) =
    adds_as (ap
    (λ (t : List ℕ). codes "<g stroke-width='" ++
    (t ++ codes "'>\n")) c.outline-outline.ensures) c.in_ok-writeln.ensures.bytes in
    let drawn_text : Adds begun drawn (flat_map (disk_svg scale picture) (range_with_len 0 picture.disks)) =
    record { it = c.in_ok-write_columns.ensures.text } in
    record {
      text =
          adds_last c.writeln-2.result new (codes "</g>\n") (adds_then begun_text drawn_text) c.writeln-2.ensures.bytes;
    }
