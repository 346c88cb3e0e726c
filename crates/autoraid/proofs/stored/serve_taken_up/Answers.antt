use denote.Exit.{yes}
use denote.Param.{param}
use denote.Param.Send.{param_send, arg_send}
use mir.Syntax.{named}
use Rattle.ar_durable.proofs.durable.DurableArray.TheSendSync as durable
use Rattle.autoraid.proofs.stored.serve_taken_up.Goals as goal

pub serve_array-stops-requires-send-A : goal.serve_array-stops-requires-send-A
serve_array-stops-requires-send-A g c κs within =
    param_send 0 _
    (arg_send _ yes _ (durable.the_send (record { mir = named 7; lft = κs.1.1.1.1.1.1.1.0 }) (param 0 g.row.D)
    (param 1 g.row.L) (param 4 g.row.M) (param 3 g.row.R) g.D.Disk g.L.Ledger g.M.Media c.type_bounds.send-D
    c.type_bounds.send-M c.type_bounds.sync-R))

pub serve_array-stops-requires-send-L : goal.serve_array-stops-requires-send-L
serve_array-stops-requires-send-L g c κs within = c.type_bounds.send-L

pub serve_array-stops-requires-send-M : goal.serve_array-stops-requires-send-M
serve_array-stops-requires-send-M g c κs within = c.type_bounds.send-C

pub serve_array-stops-requires-sync-L : goal.serve_array-stops-requires-sync-L
serve_array-stops-requires-sync-L g c κs within = c.type_bounds.sync-L

pub serve_array-stops-requires-sync-M : goal.serve_array-stops-requires-sync-M
serve_array-stops-requires-sync-M g c κs within = c.type_bounds.sync-C

pub serve_array-stops-requires-sync-R : goal.serve_array-stops-requires-sync-R
serve_array-stops-requires-sync-R g c κs within = c.type_bounds.sync-R
