use Rattle.std.proofs.Common.{◌∙◌, ap}
use Rattle.ar_picture.specs.Drawings.{ground_svg}
use Rattle.ar_picture.specs.Layouts.{width_of}
use Rattle.ar_picture.proofs.Appending.{said_as}
use Rattle.ar_picture.proofs.svg.write_ground.Goals as goal

pub returns : goal.returns
returns g c =
    let old = g.W.Write.contents c.args.out.now in
    let new = g.W.Write.contents c.writeln.new.self in
    let same = ap (λ width. ground_svg width c.size_of-width.result.1) c.size_of-width.ensures.wide
    ∙ ap (ground_svg (width_of c.args.picture.now)) c.size_of-width.ensures.tall in
    record { text = said_as c.writeln.result old new same c.writeln.ensures.bytes }
