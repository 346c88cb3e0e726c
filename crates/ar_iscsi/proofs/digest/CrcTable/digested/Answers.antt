use Rattle.std.proofs.Common.{◌≡◌, ◌∙◌, ◌+◌, ◌-◌, ◌/◌, ◌++◌, ℕ, suc, ap, arith, length}
use Rattle.ar_iscsi.specs.Digest.{digested_by}
use Rattle.ar_iscsi.proofs.digest.CrcTable.digested.Goals as goal

pub loop-preserved : goal.loop-preserved
loop-preserved c =
    let count : ℕ = length c.args.pdus.now / 48 in
    let left : ℕ = count - (c.loop.counter + 1) in
    let one_less : suc left ≡ count - c.loop.counter = omega (arith, c.loop-test.true) in
    c.in_ok-rest.ensures left
    ∙ ap (λ (most : ℕ). c.loop.all.items ++ digested_by c.args.digests most c.loop.rest.now) one_less
    ∙ c.loop.invariant
