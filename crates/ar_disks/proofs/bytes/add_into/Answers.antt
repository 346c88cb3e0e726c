use Rattle.std.proofs.Common.{◌≡◌, length, ap, add-one, ◌∙◌, arith}
use Rattle.ar_disks.proofs.Xor.{xor_first, xor_first-length, xor_first-more}
use Rattle.ar_disks.proofs.bytes.add_into.Goals as goal

pub loop-i-preserved : goal.loop-i-preserved
loop-i-preserved c =
    rw (c.loop-i.invariant, add-one)
    (xor_first-more c.loop-i.i c.args.target.now c.args.bytes.now (omega arith) (omega arith))

pub returns : goal.returns
returns c =
    let at_end : c.loop-i.i ≡ length c.args.bytes.now = omega arith in
    c.loop-i.invariant
    ∙ ap (λ n. xor_first n c.args.target.now c.args.bytes.now) at_end
    ∙ xor_first-length c.args.target.now c.args.bytes.now (omega arith)
