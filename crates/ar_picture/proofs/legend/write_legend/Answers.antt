use Rattle.std.proofs.Common.{◌∙◌, ap}
use Rattle.ar_picture.specs.Drawings.{legend_svg}
use Rattle.ar_picture.specs.Layouts.{legend_at}
use Rattle.ar_picture.proofs.Appending.{said_as}
use Rattle.ar_picture.proofs.legend.write_legend.Goals as goal

pub returns : goal.returns
returns g c =
    let old = g.W.Write.contents c.args.out.now in
    let new = g.W.Write.contents c.write_lines.new.out in
    let same = ap (λ x. legend_svg x c.deref.result.now) c.legend_left.ensures.left
    ∙ ap (legend_svg (legend_at c.args.picture.now.disks)) c.deref.ensures.value in
    record { text = said_as c.write_lines.result old new same c.write_lines.ensures.text }
