-- The kept array may go to another thread, since its disks may, and so may a connection. (`search` gives up at both.)
use denote.Exit.{yes}
use denote.Param.{param}
use denote.Param.Send.{param_send, arg_send}
use mir.Syntax.{named}
use Rattle.std.proofs.Common.{rules}
use Rattle.std.proofs.Crossing as heap
use Rattle.std.proofs.io.buffered.BufReader.TheSendSync as buffered
use Rattle.std.specs.contracts.alloc.Global as global
use Rattle.std.specs.contracts.impls.GlobalAllocator.TheImpl as allocator
use Rattle.ar_disks.proofs.fuse.FuseDisk.TheSendSync as fuse
use Rattle.ar_frames.proofs.linked.Linked.TheSendSync as linked
use Rattle.ar_history.proofs.kept.Kept.TheSendSync as kept
use Rattle.ar_doors.specs.contracts.socket.SocketReader as reader
use Rattle.ar_doors.proofs.socket.SocketReader.TheSendSync as socket
use Rattle.test_sessions.proofs.sockets.fn.meets.scope.Goals as goal

pub run_beside_background-requires-send-A : goal.run_beside_background-requires-send-A
run_beside_background-requires-send-A g c κs within =
    param_send 1 _ (arg_send _ yes _ (kept.the_send _ g.row.L _ g.L.Ledger fuse.the_send))

pub run_beside_background-requires-send-O-Reader : goal.run_beside_background-requires-send-O-Reader
run_beside_background-requires-send-O-Reader g c κs within =
    let row = reader.the_row (record { mir = named 7; lft = κs.1.1.1.1.1.1.1.0 }) (param 1 g.row.R) in
    let sent = socket.the_send _ (param 1 g.row.R) (search rules) in
    param_send 5 _
    (arg_send _ yes _
    (linked.the_send _ (buffered.the_send row global.the_row allocator.ghosts sent heap.send heap.frees)))
