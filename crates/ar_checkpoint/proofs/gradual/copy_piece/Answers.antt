use Rattle.std.proofs.Common.{◌≡◌, IsTrue, List, Vec, ℕ, Global, Some, length, refl, ap, subst}
use Rattle.ar_log.specs.Codec.{items_of}
use Rattle.ar_log.specs.Log.{Appends}
use Rattle.ar_log.specs.declared.place.ReadBatch.{ReadBatch}
use Rattle.ar_journal.specs.Journal.{ReadsNext, batches_now}
use Rattle.ar_checkpoint.proofs.Clauses.{if_none, if_some}
use Rattle.ar_journal.specs.declared.journal.Journal.{Journal}
use Rattle.ar_checkpoint.specs.Gradual.{is_other_clean}
use Rattle.ar_checkpoint.proofs.Graduating.{always_err, copied_leaves, copying_more, keeps_read, replaced}
use Rattle.ar_checkpoint.proofs.gradual.copy_piece.Goals as goal

pub returns-in_ok-switch_to-in-Ok-None-clause-done : goal.returns-in_ok-switch_to-in-Ok-None-clause-done
returns-in_ok-switch_to-in-Ok-None-clause-done g c =
    replaced g.M.Media.seen g.M.Media.may_leave g.M.Media.moment g.M.Media.left_since g.M.Media.is_clean
    c.args.journal.now c.read_at_place.new.self c.switch_to.new.journal c.args.head c.args.log c.args.place
    c.read_at_place.ensures.reads c.in_ok-switch_to-in-Ok-None.ensures.switched
    c.in_ok-switch_to-in-Ok-None.ensures.either c.requires.is_open
    (if_none (IsTrue (g.M.Media.is_clean c.read_at_place.new.self.active.media)
    → c.args.place.number ≡ length (batches_now g.M.Media.seen c.args.journal.now)) _ c.in-Ok-None.field-0-is
    c.in-Ok-None.ensures.last)
    c.requires.copying

pub returns-in-Ok-clause-done : goal.returns-in-Ok-clause-done
returns-in-Ok-clause-done g c =
    let old = c.args.journal.now in
    let new = c.read_at_place.new.self in
    let reads = c.read_at_place.ensures.reads in
    let batch = c.in-Ok-Some.read.records.items in
    record {
      keeps =
          keeps_read g.M.Media.seen g.M.Media.may_leave g.M.Media.moment g.M.Media.left_since g.M.Media.is_clean old new
          new new.spare reads refl;
      follows = λ now.
          copying_more g.M.Media.seen g.M.Media.may_leave g.M.Media.moment g.M.Media.left_since g.M.Media.is_clean old
          new c.args.head.items c.args.log c.append.new.self batch c.args.place c.in-Ok-Some.read.next reads
          (if_some (λ (read : ReadBatch). IsTrue (g.M.Media.is_clean new.active.media)
          → ReadsNext (batches_now g.M.Media.seen old) (items_of read.records.items) c.args.place read.next) _
          c.in-Ok-Some.read c.in-Ok-Some.field-0-is c.in-Ok-Some.ensures.batch)
          c.in-Ok.ensures.open c.append.ensures.clean
          (subst (λ (l : List (Vec ℕ Global)). IsTrue (g.M.Media.is_clean c.args.log.media)
          → Appends g.M.Media.seen g.M.Media.may_leave (items_of l) c.args.log c.append.new.self) c.deref.ensures.value
          c.in-Ok.ensures.acknowledged)
          c.requires.copying;
      head = refl;
      clean = c.append.ensures.clean;
    }

pub returns-in_err-switch_to-in-Ok-None-clause-given_up : goal.returns-in_err-switch_to-in-Ok-None-clause-given_up
returns-in_err-switch_to-in-Ok-None-clause-given_up g c =
    let seen = g.M.Media.seen in
    let may_leave = g.M.Media.may_leave in
    let moment = g.M.Media.moment in
    let left_since = g.M.Media.left_since in
    let is_clean = g.M.Media.is_clean in
    let old = c.args.journal.now in
    let read = c.read_at_place.new.self in
    let new = c.switch_to.new.journal in
    let reads = c.read_at_place.ensures.reads in
    let failed = c.in_err-switch_to-in-Ok-None.ensures.failed in
    always_err c.from_residual.result _ (record {
      leaves =
          copied_leaves seen may_leave moment left_since is_clean old read new c.args.head.items c.args.log c.args.place
          reads c.switch_to.ensures.either
          (if_none (IsTrue (is_clean read.active.media) → c.args.place.number ≡ length (batches_now seen old)) _
          c.in-Ok-None.field-0-is c.in-Ok-None.ensures.last)
          c.requires.copying;
      keeps = λ now.
          keeps_read seen may_leave moment left_since is_clean old read new (Some c.args.log.media) reads (failed now);
      clean = λ now. ap (λ (j : Journal _). is_other_clean is_clean j.spare) (failed now);
    })
