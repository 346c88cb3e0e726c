use Rattle.std.proofs.Common.{rules, arith, ◌≡◌, ◌+◌, ◌<◌, ◌-◌, ◌^◌, ◌∙◌, ℕ, length, take, drop, ap, length-drop}
use Rattle.std.proofs.lemmas.List.{length-take-le}
use Rattle.ar_log.proofs.Found.{no_batch_body}
use Rattle.ar_log.proofs.zeroed_read.first_counted.Goals as goal

pub returns-in-Err-read_body-clause-damaged : goal.returns-in-Err-read_body-clause-damaged
returns-in-Err-read_body-clause-damaged c damage =
    let got = rw c.in-Ok-Some.field-0-is at c.in-Ok-Some.ensures in
    let none = c.in-Err-read_body.ensures.damaged damage in
    let bytes = c.args.bytes.now in
    let n = c.in-Ok-Some.len in
    let minus : n ≡ (24 + n) - 24 = omega arith in
    let small : length bytes < 2 ^ 64 = search rules in
    let size : length (take n (drop 24 bytes)) ≡ n =
    length-take-le n (drop 24 bytes) (omega (arith, got.within, length-drop 24 bytes)) in
    no_batch_body (take n (drop 24 bytes)) (drop (24 + n) bytes) bytes (omega (arith, got.within, small, size)) got.some
    (λ batch is. none batch (is ∙ ap (λ (k : ℕ). take k (drop 24 bytes)) minus))
