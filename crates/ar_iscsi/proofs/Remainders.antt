-- The remainder after a byte by a table: reduction by the polynomial respects XOR, and only moves the high bytes down.
use Rattle.std.proofs.Common.{◌≡◌, ◌∙◌, ℕ, zero, suc, ◌+◌, ◌*◌, ◌/◌, ◌%◌, ◌<◌, Bool, true, false, ltb}
use Rattle.std.proofs.Common.{List, [], ◌∷◌, ◌++◌, length, refl, sym, ap, arith}
use Rattle.std.specs.Prelude.{slice_index, slice_set}
use Rattle.std.proofs.lemmas.Bool.{ltb-true, ltb-false}
use Rattle.std.proofs.lemmas.List.{get_or-set_other}
use Rattle.std.proofs.lemmas.Grind.{get_or-set_at}
use Rattle.std.specs.Int.Bits.{bit_xor, xor_zero_r, xor_assoc, xor_comm, xor_shr, xor_mod, xor_shifted}
use Rattle.ar_iscsi.specs.Digest.{polynomial, after_bit, after_bits, after_byte, after_bytes}

swapped : (a b c d : ℕ) → bit_xor (bit_xor a b) (bit_xor c d) ≡ bit_xor (bit_xor a c) (bit_xor b d)
swapped a b c d =
    xor_assoc a b (bit_xor c d)
    ∙ ap (bit_xor a) (sym (xor_assoc b c d) ∙ ap (λ (x : ℕ). bit_xor x d) (xor_comm b c) ∙ xor_assoc c b d)
    ∙ sym (xor_assoc a c (bit_xor b d))

-- for one bit
low : (i j : ℕ) → i < 2 → j < 2 → bit_xor i j * polynomial ≡ bit_xor (i * polynomial) (j * polynomial)
low zero j i_bit j_bit = refl
low (suc zero) zero i_bit j_bit = refl
low (suc zero) (suc zero) i_bit j_bit = refl
low (suc zero) (suc (suc j)) i_bit j_bit = absurd (omega (arith, j_bit))
low (suc (suc i)) j i_bit j_bit = absurd (omega (arith, i_bit))

linear : (a b : ℕ) → after_bit (bit_xor a b) ≡ bit_xor (after_bit a) (after_bit b)
linear a b =
    ap (λ (x : ℕ). bit_xor x (bit_xor a b % 2 * polynomial)) (xor_shr a b 1)
    ∙ ap (λ (x : ℕ). bit_xor (bit_xor (a / 2) (b / 2)) (x * polynomial)) (xor_mod a b 1)
    ∙ ap (bit_xor (bit_xor (a / 2) (b / 2))) (low (a % 2) (b % 2) (omega arith) (omega arith))
    ∙ swapped (a / 2) (b / 2) (a % 2 * polynomial) (b % 2 * polynomial)

linear_bits : (n a b : ℕ) → after_bits n (bit_xor a b) ≡ bit_xor (after_bits n a) (after_bits n b)
linear_bits zero a b = refl
linear_bits (suc n) a b = ap (after_bits n) (linear a b) ∙ linear_bits n (after_bit a) (after_bit b)

-- an even number is only halved
even : (k : ℕ) → after_bit (k * 2) ≡ k
even k =
    let half : k * 2 / 2 ≡ k = omega arith in
    let rest : k * 2 % 2 ≡ 0 = omega arith in
    ap (λ (x : ℕ). bit_xor x (k * 2 % 2 * polynomial)) half
    ∙ ap (λ (x : ℕ). bit_xor k (x * polynomial)) rest ∙ xor_zero_r k

halved : (n h k m : ℕ) → m ≡ k * 2 → after_bits n k ≡ h → after_bits (suc n) m ≡ h
halved n h k m is rest = ap (λ (x : ℕ). after_bits n (after_bit x)) is ∙ ap (after_bits n) (even k) ∙ rest

-- eight times
shifted : (h : ℕ) → after_bits 8 (h * 256) ≡ h
shifted h =
    halved 7 h (h * 128) (h * 256) (omega arith)
    (halved 6 h (h * 64) (h * 128) (omega arith)
    (halved 5 h (h * 32) (h * 64) (omega arith)
    (halved 4 h (h * 16) (h * 32) (omega arith)
    (halved 3 h (h * 8) (h * 16) (omega arith)
    (halved 2 h (h * 4) (h * 8) (omega arith)
    (halved 1 h (h * 2) (h * 4) (omega arith)
    (halved 0 h h (h * 2) (omega arith) refl)))))))

pub table_step : (x byte : ℕ) → byte < 256
    → bit_xor (after_bits 8 (bit_xor x byte % 256)) (x / 256) ≡ after_byte x byte
table_step x byte small =
    let y : ℕ = bit_xor x byte in
    let none : byte / 256 ≡ 0 = omega (arith, small) in
    let high : y / 256 ≡ x / 256 =
    xor_shr x byte 8 ∙ ap (bit_xor (x / 256)) none ∙ xor_zero_r (x / 256) in
    let split : bit_xor (y / 256 * 256) (y % 256) ≡ y =
    xor_shifted (y / 256) 8 (y % 256) (omega arith) ∙ omega arith in
    xor_comm (after_bits 8 (y % 256)) (x / 256)
    ∙ ap (λ (h : ℕ). bit_xor h (after_bits 8 (y % 256))) (sym high ∙ sym (shifted (y / 256)))
    ∙ sym (linear_bits 8 (y / 256 * 256) (y % 256)) ∙ ap (after_bits 8) split

-- bytes in two pieces
pub after_both : (x : ℕ) (first second : List ℕ)
    → after_bytes (after_bytes x first) second ≡ after_bytes x (first ++ second)
after_both x [] second = refl
after_both x (byte ∷ first) second = after_both (after_byte x byte) first second

-- one more word of the table
table_at : (words : List ℕ) (i x j : ℕ) (b : Bool) → ltb j i ≡ b → i < length words → x ≡ after_bits 8 i
    → ((k : ℕ) → k < i → slice_index words k ≡ after_bits 8 k) → j < i + 1
    → slice_index (slice_set words i x) j ≡ after_bits 8 j
table_at words i x j true e within is before small =
    get_or-set_other words i j x 0 (λ same. omega (arith, ltb-true j i e, same)) ∙ before j (ltb-true j i e)
table_at words i x j false e within is before small =
    let same : j ≡ i = omega (arith, small, ltb-false j i e) in
    get_or-set_at words i j x 0 same within ∙ is ∙ ap (after_bits 8) (sym same)

pub table_more : (words : List ℕ) (i x : ℕ) → i < length words → x ≡ after_bits 8 i
    → ((k : ℕ) → k < i → slice_index words k ≡ after_bits 8 k)
    → (j : ℕ) → j < i + 1 → slice_index (slice_set words i x) j ≡ after_bits 8 j
table_more words i x within is before j small = table_at words i x j (ltb j i) refl within is before small
