use Rattle.std.proofs.Common.{◌∙◌, ◌/◌, ◌%◌, ℕ, ap, arith}
use Rattle.std.specs.Int.Bits.{bit_xor}
use Rattle.ar_iscsi.specs.Digest.{after_bits}
use Rattle.ar_iscsi.proofs.Remainders.{table_step}
use Rattle.ar_iscsi.proofs.digest.CrcTable.after_byte.Goals as goal

pub returns : goal.returns
returns c =
    ap (λ (w : ℕ). bit_xor w (c.args.x / 256))
    (c.args.self.now.are (bit_xor c.args.x c.from.result % 256) (omega arith))
    ∙ ap (λ (b : ℕ). bit_xor (after_bits 8 (bit_xor c.args.x b % 256)) (c.args.x / 256)) c.from.ensures
    ∙ table_step c.args.x c.args.byte c.ranges.byte.fits
