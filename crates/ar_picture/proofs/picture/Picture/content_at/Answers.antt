use Rattle.std.proofs.Common.{◌∙◌, ap}
use Rattle.ar_picture.specs.Cells.{content_numbered}
use Rattle.ar_picture.proofs.GroupLemmas.{numbered_at}
use Rattle.ar_picture.proofs.picture.Picture.content_at.Goals as goal

pub returns : goal.returns
returns c =
    let groups = c.args.self.now.groups.items in
    c.content_numbered.ensures ∙ ap (content_numbered groups) c.group_at.ensures ∙ numbered_at groups c.args.place
