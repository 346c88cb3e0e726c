use Rattle.std.proofs.Common.{◌≡◌, ◌+◌, ℕ, List, length, refl, ◌∙◌, subst, arith}
use Rattle.ar_log.specs.Codec.{Batch, items_of}
use Rattle.ar_log.specs.Log.{HoldsBatches, batches_of}
use Rattle.ar_log.specs.Reading.{batches_before, IsAt, ReadsOn}
use Rattle.ar_log.proofs.Ahead.{reads_then, then_err, then_some, then_none}
use Rattle.ar_log.proofs.Whole.{read_run}
use Rattle.ar_journal.proofs.Places.{inside, is_at, reads_next, is_last}
use Rattle.ar_journal.proofs.Reading.{only_read, ready_read}
use Rattle.ar_journal.proofs.Writing.{leaves_journal}
use Rattle.ar_journal.proofs.journal.Journal.read_at_place.Goals as goal

pub returns-in-Err-clause-any_moment : goal.returns-in-Err-clause-any_moment
returns-in-Err-clause-any_moment g c is_open clean =
    let journal = c.args.self.now in
    let media = journal.active.media in
    let len =
    only_read g.M.Media.seen g.M.Media.may_leave g.M.Media.moment g.M.Media.left_since g.M.Media.is_clean media
    c.len.new.self c.len.ensures.seen c.len.ensures.crash c.len.ensures.time c.len.ensures.clean in
    let synced = c.requires.ready.log is_open (len.clean clean.active) in
    let P : List ℕ → Type 0 = HoldsBatches (batches_of (g.M.Media.seen media)) in
    leaves_journal g.M.Media.moment g.M.Media.left_since journal _ P refl
    (λ s left. c.requires.ready.named is_open clean.selector s (g.met.M.Media.only_now journal.selector s left))
    (read_run g.M.Media.seen g.M.Media.may_leave g.M.Media.moment g.M.Media.left_since g.M.Media.is_clean media
    c.len.new.self P len
    (λ f left. synced.durable f (g.met.M.Media.only_now media f left)) (λ f left. synced.durable f left))

pub returns-in-None-clause-any_moment : goal.returns-in-None-clause-any_moment
returns-in-None-clause-any_moment g c is_open clean =
    let journal = c.args.self.now in
    let media = journal.active.media in
    let len =
    only_read g.M.Media.seen g.M.Media.may_leave g.M.Media.moment g.M.Media.left_since g.M.Media.is_clean media
    c.len.new.self c.len.ensures.seen c.len.ensures.crash c.len.ensures.time c.len.ensures.clean in
    let synced = c.requires.ready.log is_open (len.clean clean.active) in
    let P : List ℕ → Type 0 = HoldsBatches (batches_of (g.M.Media.seen media)) in
    leaves_journal g.M.Media.moment g.M.Media.left_since journal _ P refl
    (λ s left. c.requires.ready.named is_open clean.selector s (g.met.M.Media.only_now journal.selector s left))
    (read_run g.M.Media.seen g.M.Media.may_leave g.M.Media.moment g.M.Media.left_since g.M.Media.is_clean media
    c.len.new.self P len
    (λ f left. synced.durable f (g.met.M.Media.only_now media f left)) (λ f left. synced.durable f left))

pub returns-in-Some-clause-any_moment : goal.returns-in-Some-clause-any_moment
returns-in-Some-clause-any_moment g c is_open clean =
    let journal = c.args.self.now in
    let media = journal.active.media in
    let len =
    only_read g.M.Media.seen g.M.Media.may_leave g.M.Media.moment g.M.Media.left_since g.M.Media.is_clean media
    c.len.new.self c.len.ensures.seen c.len.ensures.crash c.len.ensures.time c.len.ensures.clean in
    let reads =
    reads_then g.M.Media.seen g.M.Media.may_leave g.M.Media.moment g.M.Media.left_since g.M.Media.is_clean media
    c.len.new.self c.next_batch.new.media len c.next_batch.ensures.reads in
    let synced = c.requires.ready.log is_open (reads.clean clean.active) in
    let P : List ℕ → Type 0 = HoldsBatches (batches_of (g.M.Media.seen media)) in
    leaves_journal g.M.Media.moment g.M.Media.left_since journal _ P refl
    (λ s left. c.requires.ready.named is_open clean.selector s (g.met.M.Media.only_now journal.selector s left))
    (read_run g.M.Media.seen g.M.Media.may_leave g.M.Media.moment g.M.Media.left_since g.M.Media.is_clean media
    c.next_batch.new.media P reads
    (λ f left. synced.durable f (g.met.M.Media.only_now media f left)) (λ f left. synced.durable f left))

pub returns-in-None-clause-sound : goal.returns-in-None-clause-sound
returns-in-None-clause-sound g c is clean =
    let first = c.len.ensures.clean clean in
    let media = c.args.self.now.active.media in
    let synced = c.requires.ready.log c.if-self.false first in
    omega (
      arith,
      c.in-None.ensures.inside,
      c.in-Ok.ensures.len clean,
      inside
          (g.M.Media.seen media) synced.file c.args.place (c.requires.place first),
    )

pub returns-in-Some-clause-ready : goal.returns-in-Some-clause-ready
returns-in-Some-clause-ready g c =
    let journal = c.args.self.now in
    let media = journal.active.media in
    let len =
    only_read g.M.Media.seen g.M.Media.may_leave g.M.Media.moment g.M.Media.left_since g.M.Media.is_clean media
    c.len.new.self c.len.ensures.seen c.len.ensures.crash c.len.ensures.time c.len.ensures.clean in
    let reads =
    reads_then g.M.Media.seen g.M.Media.may_leave g.M.Media.moment g.M.Media.left_since g.M.Media.is_clean media
    c.len.new.self c.next_batch.new.media len c.next_batch.ensures.reads in
    ready_read g.M.Media.seen g.M.Media.may_leave g.M.Media.moment g.M.Media.left_since g.M.Media.is_clean journal _
    record {
      media = reads;
      end = refl;
      number = refl;
      is_closed = refl;
      others = record { selector = refl; spare = refl; is_second = refl };
    } c.requires.ready

pub returns-in-Some-clause-batch : goal.returns-in-Some-clause-batch
returns-in-Some-clause-batch g c =
    let media = c.args.self.now.active.media in
    let file = g.M.Media.seen media in
    let now = c.in-Some.place in
    let same = c.in-Some.ensures.same in
    then_some _ _ _ c.next_batch.result c.next_batch.ensures.batch c.next_batch.ensures.batch
    (λ read reads _ clean.
    let back = c.next_batch.ensures.reads.clean clean in
    let first = c.len.ensures.clean back in
    let synced = c.requires.ready.log c.if-self.false first in
    let behind = c.requires.place first in
    let left : now.at + now.left ≡ length file = c.in-Some.ensures.rest ∙ c.in-Ok.ensures.len back in
    let here = is_at file synced.file c.args.place behind now same.0 same.1 left in
    let P : List ℕ → Type 0 = λ f. IsAt f now → ReadsOn f (items_of read.records.items) now read.next in
    reads_next file synced.file c.args.place behind (items_of read.records.items) now read.next same.0
    (subst P c.len.ensures.seen (reads clean) here))

pub returns-in-Some-clause-last : goal.returns-in-Some-clause-last
returns-in-Some-clause-last g c =
    let media = c.args.self.now.active.media in
    let file = g.M.Media.seen media in
    let now = c.in-Some.place in
    let same = c.in-Some.ensures.same in
    then_none _ _ c.next_batch.result c.next_batch.ensures.last
    (λ reads clean.
    let back = c.next_batch.ensures.reads.clean clean in
    let first = c.len.ensures.clean back in
    let synced = c.requires.ready.log c.if-self.false first in
    let behind = c.requires.place first in
    let left : now.at + now.left ≡ length file = c.in-Some.ensures.rest ∙ c.in-Ok.ensures.len back in
    let here = is_at file synced.file c.args.place behind now same.0 same.1 left in
    let P : List ℕ → Type 0 = λ f. IsAt f now → HoldsBatches (batches_before now.at f) f in
    is_last file synced.file c.args.place behind now same.0 (subst P c.len.ensures.seen (reads clean) here))

pub returns-in-Some-clause-sound : goal.returns-in-Some-clause-sound
returns-in-Some-clause-sound g c =
    let media = c.args.self.now.active.media in
    let file = g.M.Media.seen media in
    let now = c.in-Some.place in
    let same = c.in-Some.ensures.same in
    then_err _ _ c.next_batch.result c.next_batch.ensures.damaged
    (λ e damaged is clean.
    let back = c.next_batch.ensures.reads.clean clean in
    let first = c.len.ensures.clean back in
    let synced = c.requires.ready.log c.if-self.false first in
    let behind = c.requires.place first in
    let left : now.at + now.left ≡ length file = c.in-Some.ensures.rest ∙ c.in-Ok.ensures.len back in
    let here = is_at file synced.file c.args.place behind now same.0 same.1 left in
    let P : List ℕ → Type 0 = λ f. IsAt f now → (batches : List Batch) → HoldsBatches batches f → ⊥ in
    subst P c.len.ensures.seen (damaged is clean) here (batches_of file) synced.file)
