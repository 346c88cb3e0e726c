use Rattle.std.proofs.Common.{◌≡◌, ◌-◌, ◌∙◌, ◌++◌, List, ℕ, min, length, ap, arith, length-append, rules}
use Rattle.ar_media.proofs.Pieces.{unwritten_then, more_copied}
use Rattle.ar_media.proofs.copying.append_front.Goals as goal

pub loop-at-preserved : goal.loop-at-preserved
loop-at-preserved g c =
    let so_far = c.loop-at.invariant in
    let count = min (c.args.len - c.loop-at.at) (length c.loop-at.piece.items) in
    let all : c.len-at.result ≡ count = search rules in
    let piece : List ℕ = c.append_piece.new.piece.items in
    let size : length piece ≡ count = c.append_piece.ensures.len in
    let to : List ℕ = g.M.Media.seen c.loop-at.to in
    let new : List ℕ = g.M.Media.seen c.append_piece.new.to in
    let appended : new ≡ to ++ piece = c.in_ok-append_piece.ensures.appended in
    record {
      source = unwritten_then g.M.Media.seen g.M.Media.may_leave g.M.Media.moment g.M.Media.left_since
          g.M.Media.is_clean c.args.from.now c.loop-at.from c.append_piece.new.from so_far.source
          c.append_piece.ensures.from;
      clean = c.append_piece.ensures.clean ∙ so_far.clean;
      later = omega (arith, so_far.later, c.append_piece.ensures.cause.later);
      within = omega (arith, all, so_far.within);
      some = λ more. omega (arith, all, size, more, so_far.some c.loop-at-test.true);
      reached = omega (arith, all, size, so_far.reached, ap length appended, length-append to piece);
      copied = λ clean.
          more_copied c.loop-at.at c.len-at.result count (g.M.Media.seen c.args.from.now)
          (g.M.Media.seen c.loop-at.from) to new piece all so_far.source.same
          (so_far.copied (c.append_piece.ensures.from.clean clean)) appended
          (c.in_ok-append_piece.ensures.piece clean);
    }
