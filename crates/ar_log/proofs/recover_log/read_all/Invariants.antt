use Rattle.std.proofs.Common.{◌≡◌, ◌≤◌, ◌-◌, ◌^◌, IsTrue}
use Rattle.ar_log.specs.Reading.{OnlyReads, batches_before, IsAt, all_items}
use Rattle.ar_log.proofs.recover_log.read_all.Given as goal

abbrev pub invariant-reading : goal.invariant-reading
invariant-reading g l = record {
  reads : OnlyReads g.M.Media.seen g.M.Media.may_leave g.M.Media.moment g.M.Media.left_since g.M.Media.is_clean
      l.fn.media l.media;
  later : g.M.Media.faults l.fn.media ≤ g.M.Media.faults l.media;
  at : IsTrue (g.M.Media.is_clean l.media) → IsAt (g.M.Media.seen l.fn.media) l.place;
  items : IsTrue (g.M.Media.is_clean l.media)
      → batches_before l.place.at (g.M.Media.seen l.fn.media) ≡ all_items l.batches.items;
}

abbrev pub decreases-reading : goal.decreases-reading
decreases-reading g l = 2 ^ 64 - l.place.at
