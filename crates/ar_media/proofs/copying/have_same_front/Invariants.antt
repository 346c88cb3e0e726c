-- the first `at` bytes were read, and are the same in both
use Rattle.std.proofs.Common.{◌≡◌, ◌<◌, ◌≤◌, ◌+◌, ◌-◌, length, take, IsTrue}
use Rattle.ar_media.specs.Copying.{IsUnwritten}
use Rattle.ar_media.proofs.copying.have_same_front.Given as goal

abbrev pub invariant-loop-at : goal.invariant-loop-at
invariant-loop-at g l = record {
  first : IsUnwritten g.M.Media.seen g.M.Media.may_leave g.M.Media.moment g.M.Media.left_since g.M.Media.is_clean
      l.fn.one l.one;
  second : IsUnwritten g.M.Media.seen g.M.Media.may_leave g.M.Media.moment g.M.Media.left_since g.M.Media.is_clean
      l.fn.other l.other;
  later : g.M.Media.faults l.fn.one + g.M.Media.faults l.fn.other
      ≤ g.M.Media.faults l.one + g.M.Media.faults l.other;
  within : l.at ≤ l.len;
  some : l.at < l.len → 0 < length l.piece.items;
  as_long : length l.other_piece.items ≡ length l.piece.items;
  same : IsTrue (g.M.Media.is_clean l.one) → IsTrue (g.M.Media.is_clean l.other)
      → take l.at (g.M.Media.seen l.fn.other) ≡ take l.at (g.M.Media.seen l.fn.one);
}

abbrev pub decreases-loop-at : goal.decreases-loop-at
decreases-loop-at g l = l.len - l.at
