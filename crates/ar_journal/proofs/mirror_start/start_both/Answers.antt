use Rattle.std.proofs.Common.{inl, inr, List, sym, ◌∙◌, subst}
use Rattle.ar_log.specs.Codec.{Batch}
use Rattle.ar_log.specs.Log.{batches_of}
use Rattle.ar_journal.specs.Copying.{HasCleanFiles}
use Rattle.ar_journal.specs.declared.journal.Journal.{Journal}
use Rattle.ar_journal.proofs.Further.{as_far, as_far_second, clean_before, takes_further}
use Rattle.ar_journal.proofs.Starting.{starts_first, starts_second, reads_log_then}
use Rattle.ar_journal.proofs.Taking.{takes_first, takes_second}
use Rattle.ar_journal.proofs.mirror_start.start_both.Goals as goal

pub returns-in-Ok-true-clause-starts : goal.returns-in-Ok-true-clause-starts
returns-in-Ok-true-clause-starts g c =
    let taken = c.bring_up-second.new.from in
    let reads =
    reads_log_then g.M.Media.seen g.M.Media.may_leave g.M.Media.moment g.M.Media.left_since g.M.Media.is_clean
    c.args.one c.is_further.new.one taken c.is_further.ensures.one_reads c.bring_up-second.ensures.reads in
    inl (starts_first g.M.Media.seen g.M.Media.may_leave g.M.Media.moment g.M.Media.left_since g.M.Media.is_clean
    c.args.one taken c.bring_up-second.result.0 reads c.bring_up-second.ensures.ready c.requires.one_open
    c.bring_up-second.ensures.mirrors c.started.result.journal c.started.ensures.first c.started.ensures.second)

pub returns-in-Ok-false-clause-starts : goal.returns-in-Ok-false-clause-starts
returns-in-Ok-false-clause-starts g c =
    let taken = c.bring_up-first.new.from in
    let reads =
    reads_log_then g.M.Media.seen g.M.Media.may_leave g.M.Media.moment g.M.Media.left_since g.M.Media.is_clean
    c.args.other c.is_further.new.other taken c.is_further.ensures.other_reads c.bring_up-first.ensures.reads in
    inr (starts_second g.M.Media.seen g.M.Media.may_leave g.M.Media.moment g.M.Media.left_since g.M.Media.is_clean
    c.args.other taken c.bring_up-first.result.0 reads c.bring_up-first.ensures.ready c.requires.other_open
    c.bring_up-first.ensures.mirrors c.started-in-Ok-false.result.journal c.started-in-Ok-false.ensures.second
    c.started-in-Ok-false.ensures.first)

pub returns-in-Ok-true-clause-taken : goal.returns-in-Ok-true-clause-taken
returns-in-Ok-true-clause-taken g c =
    let taken = c.bring_up-second.new.from in
    let reads =
    reads_log_then g.M.Media.seen g.M.Media.may_leave g.M.Media.moment g.M.Media.left_since g.M.Media.is_clean
    c.args.one c.is_further.new.one taken c.is_further.ensures.one_reads c.bring_up-second.ensures.reads in
    inl (takes_first g.M.Media.seen g.M.Media.may_leave g.M.Media.moment g.M.Media.left_since g.M.Media.is_clean
    c.args.one taken reads c.requires.one_open c.started.result c.bring_up-second.result.1 c.started.ensures.first
    c.started.ensures.first_state c.started.ensures.second_state c.bring_up-second.ensures.state)

pub returns-in-Ok-false-clause-taken : goal.returns-in-Ok-false-clause-taken
returns-in-Ok-false-clause-taken g c =
    let taken = c.bring_up-first.new.from in
    let reads =
    reads_log_then g.M.Media.seen g.M.Media.may_leave g.M.Media.moment g.M.Media.left_since g.M.Media.is_clean
    c.args.other c.is_further.new.other taken c.is_further.ensures.other_reads c.bring_up-first.ensures.reads in
    inr (takes_second g.M.Media.seen g.M.Media.may_leave g.M.Media.moment g.M.Media.left_since g.M.Media.is_clean
    c.args.other taken reads c.requires.other_open c.started-in-Ok-false.result c.bring_up-first.result.1
    c.started-in-Ok-false.ensures.second c.started-in-Ok-false.ensures.second_state
    c.started-in-Ok-false.ensures.first_state c.bring_up-first.ensures.state)

pub returns-in-Ok-true-clause-further : goal.returns-in-Ok-true-clause-further
returns-in-Ok-true-clause-further g c =
    let seen = g.M.Media.seen in
    let is_clean = g.M.Media.is_clean in
    let start = c.started.result in
    let one : List Batch = batches_of (seen c.args.one.active.media) in
    let other : List Batch = batches_of (seen c.args.other.active.media) in
    let taken = c.bring_up-second.new.from in
    let reads =
    reads_log_then seen g.M.Media.may_leave g.M.Media.moment g.M.Media.left_since is_clean
    c.args.one c.is_further.new.one taken c.is_further.ensures.one_reads c.bring_up-second.ensures.reads in
    let C : Journal g.row.M.Denot → Type 0 = λ j. HasCleanFiles is_clean j in
    record {
      compared = c.started.ensures.compared;
      clean = λ clean. (
        clean_before seen g.M.Media.may_leave g.M.Media.moment g.M.Media.left_since is_clean c.args.one taken reads
            (subst C c.started.ensures.first clean.first).named,
        clean_before seen g.M.Media.may_leave g.M.Media.moment g.M.Media.left_since is_clean c.args.other
            c.is_further.new.other c.is_further.ensures.other_reads
            (c.bring_up-second.ensures.clean (subst C c.started.ensures.second clean.second)),
      );
      takes = λ clean. takes_further seen is_clean c.args.one start one other
          (as_far one other (sym
          (c.in-Ok-true.ensures.further
          (c.bring_up-second.ensures.reads.media.clean (subst C c.started.ensures.first clean.first).named.active)
          (c.bring_up-second.ensures.clean (subst C c.started.ensures.second clean.second)).active)
          ∙ c.in-Ok-true.field-0-test))
          (takes_first seen g.M.Media.may_leave g.M.Media.moment g.M.Media.left_since is_clean c.args.one taken reads
          c.requires.one_open start c.bring_up-second.result.1 c.started.ensures.first c.started.ensures.first_state
          c.started.ensures.second_state c.bring_up-second.ensures.state);
    }

pub returns-in-Ok-false-clause-further : goal.returns-in-Ok-false-clause-further
returns-in-Ok-false-clause-further g c =
    let seen = g.M.Media.seen in
    let is_clean = g.M.Media.is_clean in
    let start = c.started-in-Ok-false.result in
    let one : List Batch = batches_of (seen c.args.one.active.media) in
    let other : List Batch = batches_of (seen c.args.other.active.media) in
    let taken = c.bring_up-first.new.from in
    let reads =
    reads_log_then seen g.M.Media.may_leave g.M.Media.moment g.M.Media.left_since is_clean
    c.args.other c.is_further.new.other taken c.is_further.ensures.other_reads c.bring_up-first.ensures.reads in
    let C : Journal g.row.M.Denot → Type 0 = λ j. HasCleanFiles is_clean j in
    record {
      compared = c.started-in-Ok-false.ensures.compared;
      clean = λ clean. (
        clean_before seen g.M.Media.may_leave g.M.Media.moment g.M.Media.left_since is_clean c.args.one
            c.is_further.new.one c.is_further.ensures.one_reads
            (c.bring_up-first.ensures.clean (subst C c.started-in-Ok-false.ensures.first clean.first)),
        clean_before seen g.M.Media.may_leave g.M.Media.moment g.M.Media.left_since is_clean c.args.other taken reads
            (subst C c.started-in-Ok-false.ensures.second clean.second).named,
      );
      takes = λ clean. takes_further seen is_clean c.args.other start one other
          (as_far_second one other (sym
          (c.in-Ok-false.ensures.further
          (c.bring_up-first.ensures.clean (subst C c.started-in-Ok-false.ensures.first clean.first)).active
          (c.bring_up-first.ensures.reads.media.clean
          (subst C c.started-in-Ok-false.ensures.second clean.second).named.active))
          ∙ c.in-Ok-false.field-0-test))
          (takes_second seen g.M.Media.may_leave g.M.Media.moment g.M.Media.left_since is_clean c.args.other taken reads
          c.requires.other_open start c.bring_up-first.result.1 c.started-in-Ok-false.ensures.second
          c.started-in-Ok-false.ensures.second_state c.started-in-Ok-false.ensures.first_state
          c.bring_up-first.ensures.state);
    }
