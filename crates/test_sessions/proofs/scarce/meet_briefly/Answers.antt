-- The kept array may go to another thread, since its disks may.
use denote.Exit.{yes}
use denote.Param.Send.{param_send, arg_send}
use Rattle.ar_disks.proofs.fuse.FuseDisk.TheSendSync as fuse
use Rattle.ar_history.proofs.kept.Kept.TheSendSync as kept
use Rattle.test_sessions.proofs.scarce.meet_briefly.Goals as goal

pub run_beside_background-met-requires-send-A : goal.run_beside_background-met-requires-send-A
run_beside_background-met-requires-send-A g c κs within =
    param_send 1 _ (arg_send _ yes _ (kept.the_send _ g.row.L _ g.L.Ledger fuse.the_send))
