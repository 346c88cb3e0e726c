use Rattle.std.proofs.Common.{◌≡◌, ◌∙◌, ℕ, ◌+◌, ◌-◌, ◌*◌, ap, [], take, drop, arith}
use Rattle.ar_unit.proofs.Pieces.{overwrite-more}
use Rattle.ar_unit.proofs.plain.overwrite.Goals as goal

pub loop-i-preserved : goal.loop-i-preserved
loop-i-preserved c =
    let i = c.loop-i.i in
    let width : 512 * (i + 1) - 512 * i ≡ 512 = omega arith in
    overwrite-more 512 _ _ _ _ _ [] c.loop-i.invariant (omega arith)
    (c.copy_from_slice.ensures.after ∙ ap (λ (n : ℕ). take n (drop (512 * i) c.args.bytes.now)) width)
