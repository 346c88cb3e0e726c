use Rattle.std.proofs.Common.{rules, arith, ◌≡◌, ◌∙◌, [], ◌∷◌, ap, length, vec_len, length-append}
use Rattle.ar_log.specs.Codec.{sealed}
use Rattle.ar_log.proofs.Standing.{length_sealed}
use Rattle.ar_log.proofs.codec.sealed_batch.Goals as goal

pub returns-clause-len : goal.returns-clause-len
returns-clause-len c =
    let size : vec_len c.in_ok-bytes.bytes ≡ length c.in_ok-bytes.bytes.items = search rules in
    omega (
      arith,
      size,
      ap length c.in_ok-bytes.ensures,
      length-append (sealed c.args.number c.deref.result.now) (0 ∷ 0 ∷ []),
      length_sealed c.args.number c.deref.result.now,
      ap length (c.deref.ensures.value ∙ c.in_ok-payload.ensures),
    )
