use Rattle.ar_checkpoint.proofs.Switching.{log_switched, replace_failed}
use Rattle.ar_checkpoint.proofs.replacing.replace_log.Goals as goal

pub returns-in-Ok-clause-switched : goal.returns-in-Ok-clause-switched
returns-in-Ok-clause-switched g c =
    log_switched g.M.Media.seen g.M.Media.may_leave g.M.Media.moment g.M.Media.left_since g.M.Media.is_clean
    c.args.head.now c.args.replay
    c.args.journal c.take_spare.new.self c.in-Some.spare c.in-Ok.successor c.switch_to.result
    (c.take_spare.ensures.taken c.requires.is_open).1 c.in-Ok.ensures.written c.switch_to.ensures.ready
    c.switch_to.ensures.switched
    c.switch_to.ensures.any_moment

pub returns-in-Ok-clause-failed : goal.returns-in-Ok-clause-failed
returns-in-Ok-clause-failed g c =
    replace_failed g.M.Media.seen g.M.Media.may_leave g.M.Media.moment g.M.Media.left_since g.M.Media.is_clean
    c.args.head.now
    c.args.replay c.args.journal c.take_spare.new.self c.in-Some.spare c.in-Ok.successor c.switch_to.result
    (c.take_spare.ensures.taken c.requires.is_open).1 c.in-Ok.ensures.written c.switch_to.ensures.failed
