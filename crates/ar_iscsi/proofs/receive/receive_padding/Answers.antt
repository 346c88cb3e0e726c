use Rattle.std.proofs.Common.{◌≡◌, ◌<◌, ◌++◌, ◌∙◌, length, ap, length-append, sym, length-take-le, take, arith}
use Rattle.std.proofs.Common.{append_assoc, subst, List, ℕ}
use Rattle.ar_iscsi.specs.Pdu.{padding_len, segment_len}
use Rattle.ar_iscsi.specs.declared.receive.ReceiveEnd.TheVariants as end
use Rattle.ar_iscsi.specs.Receive.{ReadsNoPdu}
use Rattle.ar_iscsi.proofs.Receiving.{stops_cut, stops_read}
use Rattle.ar_iscsi.proofs.receive.receive_padding.Goals as goal

pub returns-in-Ended : goal.returns-in-Ended
returns-in-Ended g c = λ buffer ahs within ahs_is.
    let n = c.in-Ended.field-0 in
    let header = c.args.header.now in
    let payload = take c.args.len buffer in
    let came = c.in-Ended.ensures in
    let size : length payload ≡ c.args.len = length-take-le c.args.len buffer within in
    let wanted : length came.piece ≡ padding_len (segment_len header) =
    came.piece_is ∙ ap padding_len c.requires in
    let part : length (take n came.piece) < padding_len (segment_len header) =
    omega (arith, length-take-le n came.piece (omega (arith, came.comes.stops.0)), came.comes.stops.0, wanted) in
    subst (λ (l : List ℕ). ReadsNoPdu l (length buffer) (g.R.Source.state c.args.reader.now)
    (g.R.Source.state c.skip.new.reader) end.Cut)
    (sym (append_assoc header ahs payload))
    (stops_cut _ _ _ header (ahs ++ payload) (take n came.piece) (padding_len (segment_len header)) c.told-header
    (omega (arith, within, c.requires))
    (omega (arith, length-append ahs payload, ahs_is, size, c.requires)) part came.comes.read came.comes.stops.1)

pub returns-in-Failed : goal.returns-in-Failed
returns-in-Failed g c = λ buffer ahs within ahs_is.
    let n = c.in-Failed.field-0 in
    let header = c.args.header.now in
    let payload = take c.args.len buffer in
    let came = c.in-Failed.ensures in
    let size : length payload ≡ c.args.len = length-take-le c.args.len buffer within in
    let wanted : length came.piece ≡ padding_len (segment_len header) =
    came.piece_is ∙ ap padding_len c.requires in
    let part : length (take n came.piece) < padding_len (segment_len header) =
    omega (arith, length-take-le n came.piece (omega (arith, came.comes.stops)), came.comes.stops, wanted) in
    subst (λ (l : List ℕ). ReadsNoPdu l (length buffer) (g.R.Source.state c.args.reader.now)
    (g.R.Source.state c.skip.new.reader) end.Read)
    (sym (append_assoc header ahs payload))
    (stops_read _ _ _ header (ahs ++ payload) (take n came.piece) (padding_len (segment_len header)) c.told-header
    (omega (arith, within, c.requires))
    (omega (arith, length-append ahs payload, ahs_is, size, c.requires)) part came.comes.read)
