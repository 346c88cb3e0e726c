use denote.Exit.{yes}
use denote.Param.Send.{param_send, arg_send, given_send}
use Rattle.ar_live.proofs.counted.CountedArray.TheSendSync as counted
use Rattle.ar_history.proofs.kept.Kept.TheSendSync as kept
use Rattle.ar_service.proofs.service.serve.Goals as goal

pub serve_array-stops-requires-send-A : goal.serve_array-stops-requires-send-A
serve_array-stops-requires-send-A g c κs within =
    param_send 0 _
    (arg_send _ yes _ (kept.the_send _ g.row.L g.D.Disk g.L.Ledger (given_send 0 _ g.row.D c.type_bounds.send-D)))

pub serve_array-stops-requires-send-L : goal.serve_array-stops-requires-send-L
serve_array-stops-requires-send-L g c κs within = c.type_bounds.send-L

pub serve_array-stops-requires-send-M : goal.serve_array-stops-requires-send-M
serve_array-stops-requires-send-M g c κs within = c.type_bounds.send-M

pub serve_array-stops-requires-sync-L : goal.serve_array-stops-requires-sync-L
serve_array-stops-requires-sync-L g c κs within = c.type_bounds.sync-L

pub serve_array-stops-requires-sync-M : goal.serve_array-stops-requires-sync-M
serve_array-stops-requires-sync-M g c κs within = c.type_bounds.sync-M

pub serve_array-stops-requires-else-audits-send-A : goal.serve_array-stops-requires-else-audits-send-A
serve_array-stops-requires-else-audits-send-A g c κs within =
    param_send 0 _
    (arg_send _ yes _ (counted.the_send _ g.row.L g.D.Disk g.L.Ledger (given_send 0 _ g.row.D c.type_bounds.send-D)))

pub serve_array-stops-requires-else-audits-send-L : goal.serve_array-stops-requires-else-audits-send-L
serve_array-stops-requires-else-audits-send-L g c κs within = c.type_bounds.send-L

pub serve_array-stops-requires-else-audits-send-M : goal.serve_array-stops-requires-else-audits-send-M
serve_array-stops-requires-else-audits-send-M g c κs within = c.type_bounds.send-M

pub serve_array-stops-requires-else-audits-sync-L : goal.serve_array-stops-requires-else-audits-sync-L
serve_array-stops-requires-else-audits-sync-L g c κs within = c.type_bounds.sync-L

pub serve_array-stops-requires-else-audits-sync-M : goal.serve_array-stops-requires-else-audits-sync-M
serve_array-stops-requires-else-audits-sync-M g c κs within = c.type_bounds.sync-M

pub serve_array-stops-requires-sync-R : goal.serve_array-stops-requires-sync-R
serve_array-stops-requires-sync-R g c κs within = c.type_bounds.sync-R

pub serve_array-stops-requires-else-audits-sync-R : goal.serve_array-stops-requires-else-audits-sync-R
serve_array-stops-requires-else-audits-sync-R g c κs within = c.type_bounds.sync-R
