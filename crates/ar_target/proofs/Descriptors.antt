-- The ranges of an UNMAP's descriptors, none of which is past the end of a unit.
use Rattle.std.proofs.Common.{◌≡◌, ◌<◌, ◌≤◌, ◌+◌, ◌^◌, ℕ, zero, suc, Bool, true, false, ◌||◌, List, refl, subst, arith}
use Rattle.std.specs.Prelude.{nat_lt}
use Rattle.std.proofs.lemmas.Bool.{ltb-true, ltb-false}
use Rattle.ar_target.specs.Provisioning.{names_past, range_at}
use Rattle.ar_target.specs.Ranges.{is_past}

-- neither is true
neither : (p q : Bool) → p || q ≡ false → (p ≡ false) × (q ≡ false)
neither false false e = (refl, refl)
neither false true e = absurd (cc)
neither true q e = absurd (cc)

-- what holds below `n` and at `n`
up_to :
    (P : ℕ → Type 0) (i n : ℕ) (below : Bool) → nat_lt i n ≡ below → i < suc n → (i < n → P i) → P n → P i
up_to P i n true is less before here = before (ltb-true i n is)
up_to P i n false is less before here =
    let low = ltb-false i n is in
    let same : n ≡ i = omega (arith, low, less) in
    subst P same here

-- one of several ranges, none of which is past the end
pub none_past :
    (last : ℕ) (list : List ℕ) (i count : ℕ) → i < count → names_past last list count ≡ false
    → is_past last (range_at list i).lba (range_at list i).count ≡ false
none_past last list i zero less none = absurd (omega (arith, less))
none_past last list i (suc n) less none =
    let parts = neither (names_past last list n) (is_past last (range_at list n).lba (range_at list n).count) none in
    up_to (λ (k : ℕ). is_past last (range_at list k).lba (range_at list k).count ≡ false) i n (nat_lt i n) refl less
    (λ (b : i < n). none_past last list i n b parts.0) parts.1

-- a range that isn't past the end ends at 2^32 at most
pub fits_unit :
    (last lba count : ℕ) → last < 2 ^ 32 → is_past last lba count ≡ false → lba + count ≤ 2 ^ 32
fits_unit last lba count small within =
    let low = ltb-false (last + 1) (lba + count) within in omega (arith, low, small)
