use Rattle.std.proofs.Common.{◌≡◌, List, ℕ, refl, take, length, length-take-le, subst, sym, arith}
use Rattle.ar_iscsi.specs.Pdu.{ahs_len}
use Rattle.ar_iscsi.specs.Digest.{after_header}
use Rattle.ar_iscsi.specs.Receive.{ReceivesDigested}
use Rattle.ar_iscsi.proofs.Receiving.{digested_front}
use Rattle.ar_iscsi.proofs.receive.receive_front.Goals as goal

pub returns-in-Full : goal.returns-in-Full
returns-in-Full g c =
    let header = c.args.header.now in
    let front = c.fill.new.into in
    let ahs = take (ahs_len header) front in
    let ahs_is : length ahs ≡ ahs_len header =
    length-take-le (ahs_len header) front (omega (arith, c.is_right.ensures.size)) in
    digested_front c.args.digests _ _ _ header front _ _ c.receive_body.result c.in-Full.ensures.read
    (subst (λ (base : List ℕ). ReceivesDigested c.args.digests base (length c.receive_body.new.buffer)
    (g.R.Source.state c.fill.new.reader) (g.R.Source.state c.receive_body.new.reader) c.receive_body.new.buffer
    c.receive_body.result) (sym (c.if-is_right.ensures.right refl)) (c.receive_body.ensures ahs ahs_is))

pub returns-in-Full-2 : goal.returns-in-Full-2
returns-in-Full-2 g c = (
  c.fill.new.into,
  after_header c.args.header.now c.fill.new.into c.told-header (c.if-is_right.ensures.wrong refl),
  c.in-Full.ensures.read,
  tt,
)
