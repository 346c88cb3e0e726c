use Rattle.std.proofs.Common.{ap}
use Rattle.ar_picture.specs.Drawings.{picture_svg}
use Rattle.ar_picture.proofs.Appending.{said_as}
use Rattle.ar_picture.proofs.svg.write_svg.Goals as goal

pub returns : goal.returns
returns g c =
    let old = g.W.Write.contents c.args.out.now in
    let new = g.W.Write.contents c.draw.new.out in
    let same = ap (λ scale. picture_svg scale c.args.picture.now) c.of.ensures.same in
    record { text = said_as c.draw.result old new same c.draw.ensures.text }
