use Rattle.std.proofs.Common.{◌≡◌, ◌-◌, ◌^◌, take, IsTrue}
use Rattle.ar_journal.specs.Journal.{IsReady, IsAfter, ReadsLog, KeepsOthers, batches_now}
use Rattle.ar_journal.proofs.copying.copy_rest.Given as goal

abbrev pub invariant-copying : goal.invariant-copying
invariant-copying g l = record {
  from_reads : ReadsLog g.M.Media.seen g.M.Media.may_leave g.M.Media.moment g.M.Media.left_since g.M.Media.is_clean
      l.fn.from l.from;
  from_ready : IsReady g.M.Media.seen g.M.Media.may_leave g.M.Media.is_clean l.from;
  to_ready : IsReady g.M.Media.seen g.M.Media.may_leave g.M.Media.is_clean l.to;
  clean : g.M.Media.is_clean l.to.active.media ≡ g.M.Media.is_clean l.fn.to.active.media;
  others : KeepsOthers l.fn.to l.to;
  behind : IsTrue (g.M.Media.is_clean l.from.active.media) → IsAfter (batches_now g.M.Media.seen l.fn.from) l.place;
  same : IsTrue (g.M.Media.is_clean l.from.active.media) → IsTrue (g.M.Media.is_clean l.to.active.media)
      → take l.fn.place.number (batches_now g.M.Media.seen l.fn.from) ≡ batches_now g.M.Media.seen l.fn.to
      → take l.place.number (batches_now g.M.Media.seen l.fn.from) ≡ batches_now g.M.Media.seen l.to;
}

abbrev pub decreases-copying : goal.decreases-copying
decreases-copying g l = 2 ^ 64 - l.place.at
