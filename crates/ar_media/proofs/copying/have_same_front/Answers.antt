use Rattle.std.proofs.Common.{◌≡◌, ◌-◌, min, length, true, arith, rules}
use Rattle.ar_media.proofs.Pieces.{unwritten_then, more_same}
use Rattle.ar_media.proofs.copying.have_same_front.Goals as goal

pub loop-at-preserved : goal.loop-at-preserved
loop-at-preserved g c =
    let so_far = c.loop-at.invariant in
    let count = min (c.args.len - c.loop-at.at) (length c.loop-at.piece.items) in
    let is_same : c.in_ok-is_same_piece.field-0 ≡ true = search rules in
    let all : c.len.result ≡ count = search rules in
    let size : length c.is_same_piece.new.piece.items ≡ count = c.is_same_piece.ensures.len in
    let other_size : length c.is_same_piece.new.other_piece.items ≡ count = c.in_ok-is_same_piece.ensures.other_len in
    record {
      first = unwritten_then g.M.Media.seen g.M.Media.may_leave g.M.Media.moment g.M.Media.left_since
          g.M.Media.is_clean c.args.one.now c.loop-at.one c.is_same_piece.new.one so_far.first
          c.is_same_piece.ensures.one;
      second = unwritten_then g.M.Media.seen g.M.Media.may_leave g.M.Media.moment g.M.Media.left_since
          g.M.Media.is_clean c.args.other.now c.loop-at.other c.is_same_piece.new.other so_far.second
          c.is_same_piece.ensures.other;
      later = omega (arith, so_far.later, c.is_same_piece.ensures.cause.later);
      within = omega (arith, all, so_far.within);
      some = λ more. omega (arith, all, size, more, so_far.some c.loop-at-test.true);
      as_long = omega (arith, size, other_size);
      same = λ clean other_clean.
          more_same c.loop-at.at c.len.result count (g.M.Media.seen c.args.one.now) (g.M.Media.seen c.args.other.now)
          (g.M.Media.seen c.loop-at.one) (g.M.Media.seen c.loop-at.other) all so_far.first.same so_far.second.same
          (so_far.same (c.is_same_piece.ensures.one.clean clean) (c.is_same_piece.ensures.other.clean other_clean))
          (c.in_ok-is_same_piece.ensures.same is_same clean other_clean);
    }
