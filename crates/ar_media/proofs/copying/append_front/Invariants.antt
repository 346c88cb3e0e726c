-- the first `at` bytes were read, and are the bytes of the copy
use Rattle.std.proofs.Common.{◌≡◌, ◌<◌, ◌≤◌, ◌+◌, ◌-◌, length, take, IsTrue}
use Rattle.ar_media.specs.Copying.{IsUnwritten}
use Rattle.ar_media.proofs.copying.append_front.Given as goal

abbrev pub invariant-loop-at : goal.invariant-loop-at
invariant-loop-at g l = record {
  source : IsUnwritten g.M.Media.seen g.M.Media.may_leave g.M.Media.moment g.M.Media.left_since g.M.Media.is_clean
      l.fn.from l.from;
  clean : g.M.Media.is_clean l.to ≡ g.M.Media.is_clean l.fn.to;
  later : g.M.Media.faults l.fn.from + g.M.Media.faults l.fn.to ≤ g.M.Media.faults l.from + g.M.Media.faults l.to;
  within : l.at ≤ l.len;
  some : l.at < l.len → 0 < length l.piece.items;
  reached : length (g.M.Media.seen l.to) ≡ l.at;
  copied : IsTrue (g.M.Media.is_clean l.from) → g.M.Media.seen l.to ≡ take l.at (g.M.Media.seen l.fn.from);
}

abbrev pub decreases-loop-at : goal.decreases-loop-at
decreases-loop-at g l = l.len - l.at
