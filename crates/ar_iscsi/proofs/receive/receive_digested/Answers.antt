use Rattle.std.proofs.Common.{[]}
use Rattle.ar_iscsi.proofs.Receiving.{digested_front}
use Rattle.ar_iscsi.proofs.receive.receive_digested.Goals as goal

pub returns-in-Full : goal.returns-in-Full
returns-in-Full g c =
    digested_front c.args.digests _ _ _ [] c.fill.new.into _ _ c.receive_front.result c.in-Full.ensures.read
    c.receive_front.ensures
