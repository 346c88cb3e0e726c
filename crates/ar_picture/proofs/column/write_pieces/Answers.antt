use Rattle.std.proofs.Common.{◌≡◌, ◌∙◌, ◌+◌, ◌<◌, ap, arith, get_or, length, subst, sym, take}
use Rattle.std.proofs.lemmas.List.Sums.{sum_by_more}
use Rattle.std.specs.Io.KnownBytes.{Appends}
use Rattle.std.specs.List.{flat_map, range_with_len, sum}
use Rattle.ar_picture.specs.Drawings.{piece_at, piece_svg}
use Rattle.ar_picture.proofs.Appending.{appends_as}
use Rattle.ar_picture.proofs.DrawingLemmas.{appends_next}
use Rattle.ar_picture.proofs.column.write_pieces.Goals as goal

pub loop-index-preserved : goal.loop-index-preserved
loop-index-preserved g c =
    let old = g.W.Write.contents c.args.out.now in
    let before = g.W.Write.contents c.loop-index.out in
    let new = g.W.Write.contents c.write_piece.new.out in
    let blocks = c.args.blocks.now in
    let index = c.loop-index.index in
    let count = get_or blocks index 0 in
    let kept = c.loop-index.invariant in
    let below : index < length blocks = omega (arith, c.told-blocks) in
    let piece : piece_svg c.loop-index.from count c.colour_at.result.now ≡ piece_at blocks index =
    ap (λ from. piece_svg from count c.colour_at.result.now) kept.from
    ∙ ap (piece_svg (sum (take index blocks)) count) c.colour_at.ensures in
    record {
      from = ap (λ n. n + c.from-from.result) kept.from ∙ ap (λ n. sum (take index blocks) + n) c.from-from.ensures
          ∙ sym (sum_by_more (λ n. n) blocks index 0 below);
      few = omega (arith, c.fits-blocks index);
      text = appends_next (piece_at blocks) old before new index kept.text
          (appends_as before new (piece_svg c.loop-index.from count c.colour_at.result.now)
          (piece_at blocks index) piece c.in_ok-write_piece.ensures.text);
    }

pub returns : goal.returns
returns g c =
    let old = g.W.Write.contents c.args.out.now in
    let new = g.W.Write.contents c.loop-index.out in
    let blocks = c.args.blocks.now in
    let all : c.loop-index.index ≡ length blocks = omega (arith, c.told-blocks) in
    record {
      text = subst
          (λ n. Appends old new (flat_map (piece_at blocks) (range_with_len 0 n))) all c.loop-index.invariant.text;
    }
