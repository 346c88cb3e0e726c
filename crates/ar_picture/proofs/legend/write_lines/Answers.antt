use Rattle.std.proofs.Common.{◌∙◌, ap, codes, take}
use Rattle.std.proofs.lemmas.List.{take_min}
use Rattle.ar_picture.proofs.Appending.{said_as}
use Rattle.ar_picture.specs.Drawings.{line_svg, samples_svg, units_svg}
use Rattle.ar_picture.proofs.DrawingLemmas.{Adds, adds_last, adds_then}
use Rattle.ar_picture.proofs.legend.write_lines.Goals as goal

pub returns : goal.returns
returns g c =
    let old = g.W.Write.contents c.args.out.now in
    let headed = g.W.Write.contents c.write_line.new.out in
    let sampled = g.W.Write.contents c.write_samples.new.out in
    let explained = g.W.Write.contents c.write_line-2.new.out in
    let titled = g.W.Write.contents c.write_line-3.new.out in
    let new = g.W.Write.contents c.write_units.new.out in
    let x = c.args.x in
    let units = c.args.units.now in
    let same = ap (units_svg x 9) (ap (λ n. take n units) c.min-shown.ensures ∙ take_min 32 units) in
    let headed_text : Adds old headed (line_svg x 0 (codes "head") (codes "Extents")) =
    record { it = c.in_ok-write_line.ensures.text } in
    let sampled_text : Adds headed sampled (samples_svg x) = record { it = c.in_ok-write_samples.ensures.text } in
    let explained_text : Adds sampled explained
    (line_svg x 6 (codes "small") (codes "1: 3 of 4 is group 1, 3 of its 4 slots hold a block")) =
    record { it = c.in_ok-write_line-2.ensures.text } in
    let titled_text : Adds explained titled (line_svg x 8 (codes "head") (codes "Blocks of units on the disks")) =
    record { it = c.in_ok-write_line-3.ensures.text } in
    record {
      text =
          adds_last c.write_units.result new (units_svg x 9 (take 32 units))
          (adds_then (adds_then (adds_then headed_text sampled_text) explained_text) titled_text)
          (said_as c.write_units.result titled new same c.write_units.ensures.text);
    }
