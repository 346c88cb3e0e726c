use Rattle.std.proofs.Common.{rules, arith, ◌≡◌, ◌-◌, ◌<◌, ◌^◌, ◌∙◌, length, take, drop, ap}
use Rattle.std.proofs.lemmas.List.{take-take}
use Rattle.ar_log.specs.Zeroed.{zeros_in}
use Rattle.ar_log.proofs.Found.{number_read, lacks_sum, lacks_end, lacks_zeros, no_batch_sum, no_batch_zeros}
use Rattle.ar_log.proofs.Found.{whole_from}
use Rattle.ar_log.proofs.zeroed_read.body_len.Goals as goal

pub returns-then-lack-len-clause-none : goal.returns-then-lack-len-clause-none
returns-then-lack-len-clause-none c =
    let bytes = c.args.bytes.now in
    let len = c.number_at-len.result in
    let lack = c.number_at-lack.result in
    let fits : len < 2 ^ 64 = search rules in
    let small : lack < 2 ^ 64 = search rules in
    lacks_sum bytes len lack (number_read len 0 bytes c.number_at-len.ensures fits)
    (number_read lack 8 bytes c.number_at-lack.ensures small) c.if-bytes-lt24.false fits c.if-lack-len.true

pub returns-then-lack-len-2-clause-damaged : goal.returns-then-lack-len-2-clause-damaged
returns-then-lack-len-2-clause-damaged c =
    let bytes = c.args.bytes.now in
    let len = c.number_at-len.result in
    let lack = c.number_at-lack.result in
    let fits : len < 2 ^ 64 = search rules in
    let small : lack < 2 ^ 64 = search rules in
    no_batch_sum bytes len lack (number_read len 0 bytes c.number_at-len.ensures fits)
    (number_read lack 8 bytes c.number_at-lack.ensures small) c.if-bytes-lt24.false fits c.if-lack-len-2.true

pub returns-then-len-bytes-clause-none : goal.returns-then-len-bytes-clause-none
returns-then-len-bytes-clause-none c =
    let bytes = c.args.bytes.now in
    let len = c.number_at-len.result in
    let lack = c.number_at-lack.result in
    let fits : len < 2 ^ 64 = search rules in
    let small : lack < 2 ^ 64 = search rules in
    lacks_end bytes len lack (number_read len 0 bytes c.number_at-len.ensures fits)
    (number_read lack 8 bytes c.number_at-lack.ensures small) c.if-bytes-lt24.false fits
    (omega (arith, c.if-lack-len.false, c.if-lack-len-2.false))
    (omega (arith, c.if-len-bytes.true, c.if-bytes-lt24.false))

pub returns-then-count-zeros-clause-none : goal.returns-then-count-zeros-clause-none
returns-then-count-zeros-clause-none c =
    let bytes = c.args.bytes.now in
    let len = c.number_at-len.result in
    let lack = c.number_at-lack.result in
    let count = c.number_at-count.result in
    let fits : len < 2 ^ 64 = search rules in
    let small : lack < 2 ^ 64 = search rules in
    let few : count < 2 ^ 64 = search rules in
    let body : c.zeros_in-zeros.result ≡ zeros_in (take len (drop 24 bytes)) =
    c.zeros_in-zeros.ensures.count ∙ ap zeros_in
    (c.split_at.ensures.front ∙ take-take len (length bytes - 24) (drop 24 bytes) c.if-len-bytes.false) in
    lacks_zeros bytes len lack (number_read len 0 bytes c.number_at-len.ensures fits)
    (number_read lack 8 bytes c.number_at-lack.ensures small) c.if-bytes-lt24.false fits count
    (omega (arith, c.if-lack-len.false, c.if-lack-len-2.false))
    (number_read count 16 bytes c.number_at-count.ensures few)
    (omega (arith, c.if-count-zeros.true, body))

pub returns-then-count-zeros-2-clause-damaged : goal.returns-then-count-zeros-2-clause-damaged
returns-then-count-zeros-2-clause-damaged c =
    let bytes = c.args.bytes.now in
    let len = c.number_at-len.result in
    let lack = c.number_at-lack.result in
    let count = c.number_at-count.result in
    let fits : len < 2 ^ 64 = search rules in
    let small : lack < 2 ^ 64 = search rules in
    let few : count < 2 ^ 64 = search rules in
    let body : c.zeros_in-zeros.result ≡ zeros_in (take len (drop 24 bytes)) =
    c.zeros_in-zeros.ensures.count ∙ ap zeros_in
    (c.split_at.ensures.front ∙ take-take len (length bytes - 24) (drop 24 bytes) c.if-len-bytes.false) in
    no_batch_zeros bytes len lack (number_read len 0 bytes c.number_at-len.ensures fits)
    (number_read lack 8 bytes c.number_at-lack.ensures small) c.if-bytes-lt24.false fits count
    (omega (arith, c.if-lack-len.false, c.if-lack-len-2.false))
    (omega (arith, c.if-len-bytes.false, c.if-bytes-lt24.false))
    (number_read count 16 bytes c.number_at-count.ensures few)
    (omega (arith, c.if-count-zeros-2.true, body))

pub returns-clause-some : goal.returns-clause-some
returns-clause-some c =
    let bytes = c.args.bytes.now in
    let len = c.number_at-len.result in
    let lack = c.number_at-lack.result in
    let count = c.number_at-count.result in
    let body : c.zeros_in-zeros.result ≡ zeros_in (take len (drop 24 bytes)) =
    c.zeros_in-zeros.ensures.count ∙ ap zeros_in
    (c.split_at.ensures.front ∙ take-take len (length bytes - 24) (drop 24 bytes) c.if-len-bytes.false) in
    whole_from bytes len lack count c.number_at-len.ensures c.number_at-lack.ensures c.number_at-count.ensures
    (omega (arith, c.if-len-bytes.false, c.if-bytes-lt24.false))
    (omega (arith, c.if-lack-len.false, c.if-lack-len-2.false))
    (omega (arith, body, c.if-count-zeros.false, c.if-count-zeros-2.false))
