use Rattle.std.proofs.Common.{ℕ, List, IsTrue, sym, subst}
use Rattle.ar_media.proofs.Moments.{then_goes_on}
use Rattle.ar_log.specs.Log.{HoldsBatches, batches_of}
use Rattle.ar_log.proofs.Whole.{read_run}
use Rattle.ar_journal.proofs.Reading.{leaves_read, is_read, on_ok}
use Rattle.ar_journal.proofs.reader.JournalReader.cut_rest.Goals as goal

pub returns-in-Err-clause-any_moment : goal.returns-in-Err-clause-any_moment
returns-in-Err-clause-any_moment g c clean held =
    let reader = c.args.self.now in
    let mid = c.read_rest.new.self in
    let file = g.M.Media.seen reader.active in
    let reads = c.read_rest.ensures.reads.active in
    let P : List ℕ → Type 0 = HoldsBatches (batches_of file) in
    let all : (f : List ℕ) → g.M.Media.may_leave reader.active f → P f =
    λ f left. subst P (sym (c.requires.durable f left)) held in
    let read =
    read_run g.M.Media.seen g.M.Media.may_leave g.M.Media.moment g.M.Media.left_since g.M.Media.is_clean
    reader.active mid.active P reads (λ f left. all f (g.met.M.Media.only_now reader.active f left)) all in
    leaves_read g.M.Media.seen g.M.Media.may_leave g.M.Media.moment g.M.Media.left_since g.M.Media.is_clean reader
    mid.active c.requires read

pub returns-in-Ok-clause-any_moment : goal.returns-in-Ok-clause-any_moment
returns-in-Ok-clause-any_moment g c clean _ =
    let reader = c.args.self.now in
    let mid = c.read_rest.new.self in
    let file = g.M.Media.seen reader.active in
    let reads = c.read_rest.ensures.reads.active in
    let P : List ℕ → Type 0 = HoldsBatches (batches_of file) in
    let back = subst IsTrue c.cut_torn.ensures.clean clean in
    let is = is_read file (g.M.Media.seen mid.active) mid.place reads.same (c.read_rest.ensures.reading.at back)
    (c.in-Ok.ensures.whole back) in
    let held = is.held in
    let all : (f : List ℕ) → g.M.Media.may_leave reader.active f → P f =
    λ f left. subst P (sym (c.requires.durable f left)) held in
    let read =
    read_run g.M.Media.seen g.M.Media.may_leave g.M.Media.moment g.M.Media.left_since g.M.Media.is_clean
    reader.active mid.active P reads (λ f left. all f (g.met.M.Media.only_now reader.active f left)) all in
    let cut = c.cut_torn.ensures.any_moment (batches_of file) is.at (λ f left. all f (reads.crash f left)) in
    leaves_read g.M.Media.seen g.M.Media.may_leave g.M.Media.moment g.M.Media.left_since g.M.Media.is_clean reader
    c.cut_torn.new.media c.requires
    (then_goes_on g.M.Media.moment g.M.Media.left_since reader.active mid.active c.cut_torn.new.media P read cut)

pub returns-in-Ok-clause-cut : goal.returns-in-Ok-clause-cut
returns-in-Ok-clause-cut g c =
    on_ok _ c.cut_torn.result (λ clean.
    let reader = c.args.self.now in
    let mid = c.read_rest.new.self in
    let file = g.M.Media.seen reader.active in
    let reads = c.read_rest.ensures.reads.active in
    let P : List ℕ → Type 0 = HoldsBatches (batches_of file) in
    let back = subst IsTrue c.cut_torn.ensures.clean clean in
    let is = is_read file (g.M.Media.seen mid.active) mid.place reads.same (c.read_rest.ensures.reading.at back)
    (c.in-Ok.ensures.whole back) in
    let held = is.held in
    let all : (f : List ℕ) → g.M.Media.may_leave reader.active f → P f =
    λ f left. subst P (sym (c.requires.durable f left)) held in
    let read =
    read_run g.M.Media.seen g.M.Media.may_leave g.M.Media.moment g.M.Media.left_since g.M.Media.is_clean
    reader.active mid.active P reads (λ f left. all f (g.met.M.Media.only_now reader.active f left)) all in
    let cut = c.cut_torn.ensures.any_moment (batches_of file) is.at (λ f left. all f (reads.crash f left)) in
    record {
      held = held;
      durable =
          λ f left. cut.each f
          (g.met.M.Media.counts_now c.cut_torn.new.media (g.M.Media.moment mid.active) f cut.later left);
      at = is.at;
      number = is.number;
    })
