use Rattle.std.proofs.Common.{◌≡◌, ◌-◌, ◌^◌, take, IsTrue}
use Rattle.ar_journal.specs.Journal.{IsReady, IsAfter, ReadsLog, batches_now}
use Rattle.ar_journal.proofs.copying.place_after.Given as goal

abbrev pub invariant-comparing : goal.invariant-comparing
invariant-comparing g l = record {
  from_reads : ReadsLog g.M.Media.seen g.M.Media.may_leave g.M.Media.moment g.M.Media.left_since g.M.Media.is_clean
      l.fn.from l.from;
  to_reads : ReadsLog g.M.Media.seen g.M.Media.may_leave g.M.Media.moment g.M.Media.left_since g.M.Media.is_clean
      l.fn.to l.to;
  from_ready : IsReady g.M.Media.seen g.M.Media.may_leave g.M.Media.is_clean l.from;
  to_ready : IsReady g.M.Media.seen g.M.Media.may_leave g.M.Media.is_clean l.to;
  behind : IsTrue (g.M.Media.is_clean l.from.active.media) → IsAfter (batches_now g.M.Media.seen l.fn.from) l.place;
  also : IsTrue (g.M.Media.is_clean l.to.active.media) → IsAfter (batches_now g.M.Media.seen l.fn.to) l.other;
  same : IsTrue (g.M.Media.is_clean l.from.active.media) → IsTrue (g.M.Media.is_clean l.to.active.media)
      → take l.place.number (batches_now g.M.Media.seen l.fn.from) ≡ take l.other.number
      (batches_now g.M.Media.seen l.fn.to);
}

abbrev pub decreases-comparing : goal.decreases-comparing
decreases-comparing g l = 2 ^ 64 - l.other.at
