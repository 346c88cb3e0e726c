use Rattle.std.proofs.Common.{◌≡◌, List, [], ◌++◌, IsTrue, append-nil, refl, sym, ap, subst, ◌∙◌}
use Rattle.ar_log.specs.Log.{batches_of}
use Rattle.ar_journal.specs.Journal.{batches_now}
use Rattle.ar_record.specs.Record.{RecordData}
use Rattle.ar_compaction.specs.Makes.{makes_after}
use Rattle.ar_record.specs.Replay.{own_of}
use Rattle.ar_recovery.specs.Recovering.{IsRecovered}
use Rattle.ar_recovery.proofs.Recovering.{recovered_is}
use Rattle.ar_checkpoint.specs.Successor.{log_records}
use Rattle.ar_recovery.specs.Stored.{AreRecords}
use Rattle.ar_checkpoint.specs.Store.{RecordStore}
use Rattle.ar_recovery.proofs.restarts.restart.Goals as goal

pub returns-in-Ok-clause-records : goal.returns-in-Ok-clause-records
returns-in-Ok-clause-records g c =
    let seen = g.M.Media.seen in
    let journal = c.in-Ok.journal in
    let history = c.in_ok-live.live.history in
    subst
    (λ (s : RecordStore g.row.M.Denot). AreRecords seen g.M.Media.is_clean s history)
    (sym c.new.ensures)
    (λ going all.
    let clean = all.active in
    let replayed = c.in_ok-live.ensures.replayed (c.in-Ok.ensures.clean clean) in
    let same = c.in-Ok.ensures.batches clean ∙ ap batches_of c.in_ok-live.ensures.reads.active.same in
    record {
      full = log_records (batches_now seen journal) ++ [];
      log = record {
        own = λ a.
            ap (λ (l : List RecordData). own_of a l)
            (append-nil (log_records (batches_now seen journal)) ∙ ap log_records same)
            ∙ sym (replayed.redone.own a);
      };
      same = λ a. refl;
    })

pub returns-in-Ok-clause-units : goal.returns-in-Ok-clause-units
returns-in-Ok-clause-units g c =
    let live = c.in_ok-live.live in
    let records = log_records (batches_of (g.M.Media.seen c.args.reader.active)) in
    subst
    (λ (s : RecordStore g.row.M.Denot). IsTrue (g.M.Media.is_clean s.journal.active.media) → IsRecovered records live)
    (sym c.new.ensures)
    (λ clean. recovered_is records live (c.in_ok-live.ensures.replayed (c.in-Ok.ensures.clean clean)).redone
    c.in_ok-live.ensures.kept)

pub returns-in-Ok-clause-makes : goal.returns-in-Ok-clause-makes
returns-in-Ok-clause-makes g c =
    let records = log_records (batches_of (g.M.Media.seen c.args.reader.active)) in
    subst
    (λ (s : RecordStore g.row.M.Denot). IsTrue (g.M.Media.is_clean s.journal.active.media)
    → c.replay.new.makes.bytes ≡ makes_after c.args.makes.now.bytes records)
    (sym c.new.ensures)
    (λ clean. c.in_ok-live.ensures.makes (c.in-Ok.ensures.clean clean))
