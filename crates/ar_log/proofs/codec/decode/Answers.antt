use Rattle.std.proofs.Common.{rules, arith, ◌<◌, ◌^◌, inl, inr, length, drop, take}
use Rattle.ar_log.specs.Codec.{number_of, items_of}
use Rattle.ar_log.proofs.Encoding.{malformed}
use Rattle.ar_log.proofs.codec.decode.Goals as goal

pub returns-in_default-clause-damaged : goal.returns-in_default-clause-damaged
returns-in_default-clause-damaged c _ =
    let fits : length c.args.payload.now < 2 ^ 64 = search rules in
    let some : 0 < length c.loop-rest.rest.now = search (rules, arith) in
    let short : length c.loop-rest.rest.now < 8 = search (rules, arith) in
    malformed (items_of c.loop-rest.records.items) c.loop-rest.rest.now c.args.payload.now c.loop-rest.invariant fits
    some (inl short)

pub returns-then-len-after-clause-damaged : goal.returns-then-len-after-clause-damaged
returns-then-len-after-clause-damaged c _ =
    let fits : length c.args.payload.now < 2 ^ 64 = search rules in
    let some : 0 < length c.loop-rest.rest.now = search (rules, arith) in
    let less : length (drop 8 c.loop-rest.rest.now) < number_of (take 8 c.loop-rest.rest.now) = search (rules, arith) in
    malformed (items_of c.loop-rest.records.items) c.loop-rest.rest.now c.args.payload.now c.loop-rest.invariant fits
    some (inr less)
