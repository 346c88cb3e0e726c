use Rattle.std.proofs.Common.{◌∙◌, ap}
use Rattle.ar_picture.specs.Drawings.{bar_at, cell_svg, hatch_svg, style_of, words_at}
use Rattle.ar_picture.specs.Cells.{content_at, content_numbered, group_at, is_missing_place}
use Rattle.ar_picture.proofs.Appending.{said_as}
use Rattle.ar_picture.proofs.DrawingLemmas.{Adds, adds_as, adds_last, adds_then}
use Rattle.ar_picture.proofs.GroupLemmas.{numbered_at}
use Rattle.ar_picture.proofs.column.write_extent.Goals as goal

pub returns : goal.returns
returns g c =
    let old = g.W.Write.contents c.args.out.now in
    let styled = g.W.Write.contents c.write_cell.new.out in
    let barred = g.W.Write.contents c.write_bar_at.new.out in
    let hatched = g.W.Write.contents c.write_hatch.new.out in
    let new = g.W.Write.contents c.write_words_at.new.out in
    let picture = c.args.picture.now in
    let groups = picture.groups.items in
    let scale = c.args.scale in
    let place = c.args.place in
    let content =
    c.content_numbered-content.ensures ∙ ap (content_numbered groups) c.requires ∙ numbered_at groups place in
    let styled_text : Adds old styled (cell_svg scale place (style_of (content_at groups place))) =
    adds_as (ap (cell_svg scale place) (c.style_of.ensures ∙ ap style_of content)) c.in_ok-write_cell.ensures.text in
    let barred_text : Adds styled barred (bar_at scale picture place (group_at groups place)) =
    adds_as (ap (bar_at scale picture place) c.requires) c.in_ok-write_bar_at.ensures.text in
    let hatched_text : Adds barred hatched (hatch_svg scale place (is_missing_place picture.health place)) =
    adds_as (ap (hatch_svg scale place) c.is_missing-is_missing.ensures) c.in_ok-write_hatch.ensures.text in
    record {
      text =
          adds_last c.write_words_at.result new (words_at scale picture place (group_at groups place))
          (adds_then (adds_then styled_text barred_text) hatched_text)
          (said_as c.write_words_at.result hatched new (ap (words_at scale picture place) c.requires)
          c.write_words_at.ensures.text);
    }
