use Rattle.ar_checkpoint.proofs.Switching.{switch_failed}
use Rattle.ar_checkpoint.proofs.replacing.switch_to.Goals as goal

pub returns-in-Err-clause-failed : goal.returns-in-Err-clause-failed
returns-in-Err-clause-failed g c =
    let kept = c.in-Err.ensures.kept in
    let files = c.files_of-files.ensures in
    switch_failed g.M.Media.seen g.M.Media.may_leave g.M.Media.moment g.M.Media.left_since g.M.Media.is_clean
    c.args.journal
    c.switch.new.self c.args.successor c.in-Err.successor c.in-Err.error c.files_of-files.result
    (c.switch.ensures.any_moment c.requires.is_open c.requires.also_open) kept.back_is kept.media files.selector
    files.old files.new
