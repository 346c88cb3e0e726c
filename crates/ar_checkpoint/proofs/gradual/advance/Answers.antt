use Rattle.ar_checkpoint.specs.declared.gradual.Stage.TheVariants.{Replaying, Replayed, Writing, Copying}
use Rattle.ar_checkpoint.proofs.Graduating.{comes_at}
use Rattle.ar_checkpoint.proofs.gradual.advance.Goals as goal

pub returns-in-Replaying-clause-done : goal.returns-in-Replaying-clause-done
returns-in-Replaying-clause-done g c =
    comes_at g.M.Media.seen g.M.Media.may_leave g.M.Media.moment g.M.Media.left_since g.M.Media.is_clean
    c.args.journal.now c.replay_piece.new.journal c.args.checkpoint
    (Replaying c.in-Replaying.replay c.in-Replaying.count)
    c.replay_piece.result c.in-Replaying.is
    c.replay_piece.ensures.done

pub returns-in-Replayed-clause-done : goal.returns-in-Replayed-clause-done
returns-in-Replayed-clause-done g c =
    comes_at g.M.Media.seen g.M.Media.may_leave g.M.Media.moment g.M.Media.left_since g.M.Media.is_clean
    c.args.journal.now c.begin_successor.new.journal c.args.checkpoint (Replayed c.in-Replayed.replay)
    c.begin_successor.result c.in-Replayed.is
    c.begin_successor.ensures.done

pub returns-in-Writing-clause-done : goal.returns-in-Writing-clause-done
returns-in-Writing-clause-done g c =
    comes_at g.M.Media.seen g.M.Media.may_leave g.M.Media.moment g.M.Media.left_since g.M.Media.is_clean
    c.args.journal.now c.write_piece.new.journal c.args.checkpoint (Writing c.in-Writing.writer)
    c.write_piece.result c.in-Writing.is
    c.write_piece.ensures.done

pub returns-in-Copying-clause-done : goal.returns-in-Copying-clause-done
returns-in-Copying-clause-done g c =
    comes_at g.M.Media.seen g.M.Media.may_leave g.M.Media.moment g.M.Media.left_since g.M.Media.is_clean
    c.args.journal.now c.copy_piece.new.journal c.args.checkpoint (Copying c.in-Copying.log)
    c.copy_piece.result c.in-Copying.is
    c.copy_piece.ensures.done
