use Rattle.std.proofs.Common.{◌≡◌, ◌∙◌, ap}
use Rattle.ar_compaction.specs.Head.{head_data, head_encoding}
use Rattle.ar_checkpoint.specs.declared.error.CheckpointError.TheVariants.{Log}
use Rattle.ar_compaction.specs.declared.makes.Makes.{Makes}
use Rattle.ar_checkpoint.specs.LogReplay.{replay_makes}
use Rattle.ar_checkpoint.specs.Successor.{next_head}
use Rattle.ar_checkpoint.proofs.Clauses.{if_err, if_ok}
use Rattle.ar_checkpoint.proofs.Switching.{log_replaced, leaves_either, fails_to_replace, fails_to_read, fails_to_cut}
use Rattle.ar_checkpoint.proofs.replacing.checkpoint.Goals as goal

pub returns-in-Ok-finish-clause-replaced : goal.returns-in-Ok-finish-clause-replaced
returns-in-Ok-finish-clause-replaced g c =
    let bytes : c.deref.result.now
    ≡ head_encoding (next_head (head_data c.args.head.now) (replay_makes c.in-Ok.replay)) =
    c.deref.ensures.value ∙ c.in-Ok-encode_next.ensures.bytes in
    let fin = c.in-Ok-finish.ensures in
    if_ok _ _ c.replace_log.result
    (λ now switched.
    log_replaced g.M.Media.seen g.M.Media.may_leave g.M.Media.moment g.M.Media.left_since g.M.Media.is_clean
    (head_data c.args.head.now) c.deref.result.now c.in-Ok.replay c.args.reader c.replay_rest.new.reader
    c.in-Ok-finish.journal now bytes (ap (λ (m : Makes). m.bytes) c.in-Ok.ensures.before)
    c.in-Ok.ensures.replayed fin.clean switched)
    c.replace_log.ensures.switched

pub returns-in-Ok-finish-clause-any_moment : goal.returns-in-Ok-finish-clause-any_moment
returns-in-Ok-finish-clause-any_moment g c =
    let fin = c.in-Ok-finish.ensures in
    if_ok _ _ c.replace_log.result
    (λ now switched.
    leaves_either g.M.Media.seen g.M.Media.may_leave g.M.Media.moment g.M.Media.left_since g.M.Media.is_clean
    c.args.reader c.replay_rest.new.reader c.in-Ok-finish.journal c.requires.reading g.met.M.Media.only_now
    c.replay_rest.ensures.reads c.in-Ok.ensures.whole fin.clean fin.batches fin.files fin.any_moment
    c.deref.result.now c.in-Ok.replay now switched)
    c.replace_log.ensures.switched

pub returns-in-Ok-finish-clause-any_moment_err : goal.returns-in-Ok-finish-clause-any_moment_err
returns-in-Ok-finish-clause-any_moment_err g c =
    let fin = c.in-Ok-finish.ensures in
    if_err _ _ c.replace_log.result
    (λ e failed.
    fails_to_replace g.M.Media.seen g.M.Media.may_leave g.M.Media.moment g.M.Media.left_since g.M.Media.is_clean
    c.args.reader c.replay_rest.new.reader c.in-Ok-finish.journal c.requires.reading g.met.M.Media.only_now
    c.replay_rest.ensures.reads c.in-Ok.ensures.whole fin.clean fin.batches fin.files fin.any_moment
    (head_data c.args.head.now) c.deref.result.now c.in-Ok.replay e.0 e.1
    (c.deref.ensures.value ∙ c.in-Ok-encode_next.ensures.bytes) (ap (λ (m : Makes). m.bytes) c.in-Ok.ensures.before)
    c.in-Ok.ensures.replayed failed)
    c.replace_log.ensures.failed

pub returns-in-Err-clause-any_moment_err : goal.returns-in-Err-clause-any_moment_err
returns-in-Err-clause-any_moment_err g c =
    let files = c.into_files.ensures in
    fails_to_read g.M.Media.seen g.M.Media.may_leave g.M.Media.moment g.M.Media.left_since g.M.Media.is_clean
    (head_data c.args.head.now) c.args.reader c.replay_rest.new.reader c.in-Err.error c.into_files.result
    c.requires.reading g.met.M.Media.only_now c.replay_rest.ensures.reads
    c.in-Err.ensures.error files.selector files.first files.second

pub returns-in-Err-encode_next-clause-any_moment_err : goal.returns-in-Err-encode_next-clause-any_moment_err
returns-in-Err-encode_next-clause-any_moment_err g c =
    let files = c.into_files-in-Err-encode_next.ensures in
    fails_to_read g.M.Media.seen g.M.Media.may_leave g.M.Media.moment g.M.Media.left_since g.M.Media.is_clean
    (head_data c.args.head.now) c.args.reader c.replay_rest.new.reader c.in-Err-encode_next.error
    c.into_files-in-Err-encode_next.result c.requires.reading g.met.M.Media.only_now
    c.replay_rest.ensures.reads c.in-Err-encode_next.ensures.error files.selector files.first files.second

pub returns-in-Err-finish-clause-any_moment_err : goal.returns-in-Err-finish-clause-any_moment_err
returns-in-Err-finish-clause-any_moment_err g c =
    let files = c.into_files-in-Err-finish.ensures in
    let fin = c.in-Err-finish.ensures in
    fails_to_cut g.M.Media.seen g.M.Media.may_leave g.M.Media.moment g.M.Media.left_since g.M.Media.is_clean
    (head_data c.args.head.now) c.args.reader c.replay_rest.new.reader c.in-Err-finish.reader
    (Log c.in-Err-finish.error) c.into_files-in-Err-finish.result c.requires.reading g.met.M.Media.only_now
    c.replay_rest.ensures.reads fin.files_err fin.any_moment_err tt files.selector files.first files.second
