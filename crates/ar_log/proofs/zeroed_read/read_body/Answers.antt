use Rattle.std.proofs.Common.{rules, arith, ◌≡◌, ◌<◌, ◌^◌, ◌∙◌, length, take, drop, ap, sym, length-append}
use Rattle.ar_log.specs.Codec.{encoded, number_bytes, batch_digest}
use Rattle.ar_log.proofs.Encoding.{length_number_bytes}
use Rattle.ar_log.proofs.Found.{body_parts, other_digest}
use Rattle.ar_log.proofs.Ahead.{then_err}
use Rattle.ar_log.proofs.zeroed_read.read_body.Goals as goal

pub returns-in_default-clause-damaged : goal.returns-in_default-clause-damaged
returns-in_default-clause-damaged c _ batch is =
    let short : length c.args.body.now < 8 = search (rules, arith) in
    omega (
      arith,
      short,
      ap length is,
      length-append (number_bytes (batch_digest 0 (encoded batch))) (encoded batch),
      length_number_bytes (batch_digest 0 (encoded batch)),
    )

pub returns-then-digest-batch_digest-clause-damaged : goal.returns-then-digest-batch_digest-clause-damaged
returns-then-digest-batch_digest-clause-damaged c _ batch is =
    let body = c.args.body.now in
    let payload : c.in-Some.payload.now ≡ drop 8 body = search rules in
    let head : c.in-Some.digest.now ≡ take 8 body = search rules in
    let fits : c.number_of-digest.result < 2 ^ 64 = search rules in
    let small : c.batch_digest.result < 2 ^ 64 = search rules in
    other_digest batch body c.in-Some.payload.now c.in-Some.digest.now c.number_of-digest.result c.batch_digest.result
    payload (c.number_of-digest.ensures.back ∙ head) fits c.batch_digest.ensures small
    c.if-digest-batch_digest.true is

pub returns-clause-damaged : goal.returns-clause-damaged
returns-clause-damaged c =
    let body = c.args.body.now in
    let payload : c.in-Some.payload.now ≡ drop 8 body = search rules in
    then_err _ _ c.decode.result c.decode.ensures.damaged
    (λ e none damage batch is. none damage batch ((body_parts batch body is).0 ∙ sym payload))
