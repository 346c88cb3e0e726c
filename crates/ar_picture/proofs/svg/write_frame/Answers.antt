use Rattle.ar_picture.specs.Drawings.{ground_svg, heading_svg, health_svg, opening_svg, styles_svg, title_svg}
use Rattle.ar_picture.specs.Layouts.{height_of, width_of}
use Rattle.ar_picture.proofs.DrawingLemmas.{Adds, adds_last, adds_then}
use Rattle.ar_picture.proofs.svg.write_frame.Goals as goal

pub returns : goal.returns
returns g c =
    let old = g.W.Write.contents c.args.out.now in
    let opened = g.W.Write.contents c.write_opening.new.out in
    let titled = g.W.Write.contents c.writeln.new.self in
    let styled = g.W.Write.contents c.write_styles.new.out in
    let grounded = g.W.Write.contents c.write_ground.new.out in
    let headed = g.W.Write.contents c.writeln-2.new.self in
    let new = g.W.Write.contents c.write_health.new.out in
    let picture = c.args.picture.now in
    let width = width_of picture in
    let height = height_of c.args.scale picture in
    let opened_text : Adds old opened (opening_svg width height) = record { it = c.in_ok-write_opening.ensures.text } in
    let titled_text : Adds opened titled (title_svg picture) = record { it = c.in_ok-writeln.ensures.bytes } in
    let styled_text : Adds titled styled styles_svg = record { it = c.in_ok-write_styles.ensures.text } in
    let grounded_text : Adds styled grounded (ground_svg width height) =
    record { it = c.in_ok-write_ground.ensures.text } in
    let headed_text : Adds grounded headed (heading_svg picture) = record { it = c.in_ok-writeln-2.ensures.bytes } in
    record {
      text =
          adds_last c.write_health.result new (health_svg picture.extents picture.health)
          (adds_then (adds_then (adds_then (adds_then opened_text titled_text) styled_text) grounded_text) headed_text)
          c.write_health.ensures.text;
    }
