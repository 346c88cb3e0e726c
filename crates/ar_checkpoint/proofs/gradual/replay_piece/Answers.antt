use Rattle.std.proofs.Common.{IsTrue, List, Vec, ℕ, Global, refl, ap, subst}
use Rattle.ar_log.specs.Codec.{items_of}
use Rattle.ar_log.specs.declared.place.ReadBatch.{ReadBatch}
use Rattle.ar_journal.specs.Journal.{ReadsNext, batches_now}
use Rattle.ar_checkpoint.specs.Gradual.{ReplaysBatch, is_other_clean}
use Rattle.ar_checkpoint.proofs.Clauses.{if_some}
use Rattle.ar_checkpoint.proofs.Graduating.{keeps_read, replaying_more}
use Rattle.ar_checkpoint.proofs.gradual.replay_piece.Goals as goal

pub returns-in_ok-replay-in-Ok-Some-clause-done : goal.returns-in_ok-replay-in-Ok-Some-clause-done
returns-in_ok-replay-in-Ok-Some-clause-done g c =
    let old = c.args.journal.now in
    let new = c.read_at_place.new.self in
    let reads = c.read_at_place.ensures.reads in
    let replay = c.in_ok-replay-in-Ok-Some.replay in
    record {
      keeps =
          keeps_read g.M.Media.seen g.M.Media.may_leave g.M.Media.moment g.M.Media.left_since g.M.Media.is_clean old new
          new new.spare reads refl;
      follows = λ now.
          replaying_more g.M.Media.seen g.M.Media.may_leave g.M.Media.moment g.M.Media.left_since g.M.Media.is_clean old
          new c.in-Ok-Some.read.records.items c.args.place c.in-Ok-Some.read.next c.args.replay replay reads
          (if_some (λ (read : ReadBatch). IsTrue (g.M.Media.is_clean new.active.media)
          → ReadsNext (batches_now g.M.Media.seen old) (items_of read.records.items) c.args.place read.next) _
          c.in-Ok-Some.read c.in-Ok-Some.field-0-is c.in-Ok-Some.ensures.batch)
          (subst (λ (l : List (Vec ℕ Global)). ReplaysBatch c.args.replay c.args.place.number l replay)
          c.deref.ensures.value c.in_ok-replay-in-Ok-Some.ensures)
          c.requires.replaying;
      head = refl;
      clean = ap (is_other_clean g.M.Media.is_clean) reads.others.spare;
    }
