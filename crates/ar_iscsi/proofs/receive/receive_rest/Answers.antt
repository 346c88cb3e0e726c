use Rattle.std.proofs.Common.{◌<◌, [], length, length-take-le, take, arith, List, ℕ, subst, append-nil}
use Rattle.ar_iscsi.specs.Pdu.{ahs_len}
use Rattle.ar_iscsi.specs.declared.receive.ReceiveEnd.TheVariants as end
use Rattle.ar_iscsi.specs.Receive.{ReadsNoPdu}
use Rattle.ar_iscsi.proofs.Receiving.{receives_front, stops_cut, stops_read}
use Rattle.ar_iscsi.proofs.receive.receive_rest.Goals as goal

pub returns-in-Full : goal.returns-in-Full
returns-in-Full g c =
    receives_front _ _ _ c.args.header.now _ _ _ c.receive_segment.result c.in-Full.ensures.comes.read
    (c.receive_segment.ensures c.in-Full.ensures.piece c.in-Full.ensures.piece_is)

pub returns-in-Ended : goal.returns-in-Ended
returns-in-Ended g c =
    let n = c.in-Ended.field-0 in
    let header = c.args.header.now in
    let came = c.in-Ended.ensures in
    let short : n < length came.piece = came.comes.stops.0 in
    subst (λ (l : List ℕ). ReadsNoPdu l (length c.args.buffer.now) (g.R.Source.state c.args.reader.now)
    (g.R.Source.state c.skip.new.reader) end.Cut)
    (append-nil header)
    (stops_cut _ _ _ header [] (take n came.piece) (ahs_len header) c.told-header (omega arith) (omega arith)
    (omega (arith, length-take-le n came.piece (omega arith), short, came.piece_is)) came.comes.read came.comes.stops.1)

pub returns-in-Failed : goal.returns-in-Failed
returns-in-Failed g c =
    let n = c.in-Failed.field-0 in
    let header = c.args.header.now in
    let came = c.in-Failed.ensures in
    let short : n < length came.piece = came.comes.stops in
    subst (λ (l : List ℕ). ReadsNoPdu l (length c.args.buffer.now) (g.R.Source.state c.args.reader.now)
    (g.R.Source.state c.skip.new.reader) end.Read)
    (append-nil header)
    (stops_read _ _ _ header [] (take n came.piece) (ahs_len header) c.told-header (omega arith) (omega arith)
    (omega (arith, length-take-le n came.piece (omega arith), short, came.piece_is)) came.comes.read)
