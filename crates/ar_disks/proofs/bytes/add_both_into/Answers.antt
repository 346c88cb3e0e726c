use Rattle.std.proofs.Common.{◌≡◌, length, ap, add-one, ◌∙◌, arith}
use Rattle.ar_disks.specs.Block.{xor}
use Rattle.ar_disks.proofs.Xor.{xor_first, xor_first-length, length-xor_first, xor_both-more}
use Rattle.ar_disks.proofs.bytes.add_both_into.Goals as goal

pub loop-i-preserved : goal.loop-i-preserved
loop-i-preserved c =
    rw (c.loop-i.invariant, add-one)
    (xor_both-more c.loop-i.i c.args.target.now c.args.one.now c.args.other.now
    (omega arith) (omega arith) (omega arith))

pub returns : goal.returns
returns c =
    let target = c.args.target.now in
    let one = c.args.one.now in
    let other = c.args.other.now in
    let at_one : c.loop-i.i ≡ length one = omega arith in
    let at_other : c.loop-i.i ≡ length other = omega arith in
    let kept : length (xor_first c.loop-i.i target one) ≡ length other =
    length-xor_first c.loop-i.i target one ∙ c.requires.other in
    c.loop-i.invariant
    ∙ ap (λ n. xor_first n (xor_first c.loop-i.i target one) other) at_other
    ∙ xor_first-length (xor_first c.loop-i.i target one) other kept
    ∙ ap (λ l. xor l other) (ap (λ n. xor_first n target one) at_one ∙ xor_first-length target one c.requires.one)
