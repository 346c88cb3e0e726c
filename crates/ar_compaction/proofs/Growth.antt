-- The last record of a unit with a pending UNIT ATTENTION.
use Rattle.std.proofs.Common.{◌≡◌, ◌<◌, ◌≤◌, ◌^◌, ◌+◌, ◌-◌, ◌*◌, ℕ, Bool, true, false, cond, ◌&&◌, ltb}
use Rattle.std.proofs.Common.{List, [], ◌∷◌, ◌++◌, length, take, drop, refl, sym, ap, subst, ◌∙◌, arith, append-nil}
use Rattle.std.proofs.Common.{length-drop}
use Rattle.std.specs.Prelude.{replicate, get_or}
use Rattle.std.proofs.lemmas.Bool.{true≢false, ltb-true, lt-ltb, and_parts}
use Rattle.std.proofs.lemmas.List.{take_all}
use Rattle.ar_unit.specs.Sectors.{Sector, cut, zero_sector, zero_sectors}
use Rattle.ar_unit.specs.Unit.{Present, Grow as UnitGrow}
use Rattle.ar_unit.proofs.Laws.{length-cut}
use Rattle.ar_record.specs.Record.{Grow, HasUnitNumbers}
use Rattle.ar_compaction.specs.Bytes.{are_zeros}
use Rattle.ar_compaction.specs.Checkpoint.{UnitParts, ends_in_zeros, base_of, growth_record, CanBeGrown, CanBeCreated}
use Rattle.ar_compaction.proofs.Cutting.{cut-add, drop-cut}
use Rattle.ar_compaction.proofs.Zeros.{zeros-are, zeros-all, cut-zeros}
use Rattle.ar_compaction.proofs.Creation.{Makes, makes_none, makes_one}

-- the sectors with a last one that is zero
with_last : (sectors : ℕ) (bytes : List ℕ) → length bytes ≡ sectors * 512 → ends_in_zeros sectors bytes ≡ true
    → cut 512 (sectors - 1) bytes ++ zero_sectors 1 ≡ cut 512 sectors bytes
with_last sectors bytes len ends =
    let two = and_parts (ltb 1 sectors) (are_zeros (drop ((sectors - 1) * 512) bytes)) ends in
    let several : 1 < sectors = ltb-true 1 sectors two.0 in
    let last : List ℕ = drop ((sectors - 1) * 512) bytes in
    let last_len : length last ≡ 1 * 512 = omega (arith, length-drop ((sectors - 1) * 512) bytes, len, several) in
    let zeros : last ≡ replicate (1 * 512) 0 = zeros-are last two.1 ∙ ap (λ (n : ℕ). replicate n 0) last_len in
    let sum : sectors - 1 + 1 ≡ sectors = omega (arith, several) in
    ap (λ (l : List Sector). cut 512 (sectors - 1) bytes ++ l)
    (sym (ap (λ (l : List ℕ). cut 512 1 l) zeros ∙ cut-zeros 1))
    ∙ sym (cut-add (sectors - 1) 1 bytes)
    ∙ ap (λ (n : ℕ). cut 512 n bytes) sum

-- sectors of which the last is zero end in zeros
ends : (sectors : ℕ) (bytes : List ℕ) → length bytes ≡ sectors * 512 → CanBeGrown (cut 512 sectors bytes)
    → ends_in_zeros sectors bytes ≡ true
unfolding zero_sector
ends sectors bytes len grown =
    let count = length-cut 512 sectors bytes in
    let several : 1 < sectors = omega (arith, count, grown.several) in
    let last : List ℕ = drop ((sectors - 1) * 512) bytes in
    let last_len : length last ≡ 512 = omega (arith, length-drop ((sectors - 1) * 512) bytes, len, several) in
    let one : sectors - (sectors - 1) ≡ 1 = omega (arith, several) in
    let lists : take 512 last ∷ [] ≡ zero_sector ∷ [] =
    sym (ap (λ (n : ℕ). cut 512 n last) one)
    ∙ sym (drop-cut (sectors - 1) sectors bytes (omega arith))
    ∙ ap (λ (n : ℕ). drop (n - 1) (cut 512 sectors bytes)) (sym count)
    ∙ grown.zero_last in
    let same : take 512 last ≡ zero_sector = ap (λ (l : List Sector). get_or l 0 []) lists in
    let is : last ≡ replicate 512 0 = sym (take_all 512 last (omega (arith, last_len))) ∙ same in
    let zeros : are_zeros last ≡ true = ap are_zeros is ∙ zeros-all 512 in
    rw (lt-ltb 1 sectors several) zeros

-- what the growth makes, by whether it adds the last sector
grows_by : (addr : ℕ × ℕ) (sectors : ℕ) (bytes : List ℕ) (zeros : Bool) → ends_in_zeros sectors bytes ≡ zeros
    → length bytes ≡ sectors * 512 → HasUnitNumbers addr.0 addr.1 → sectors < 2 ^ 32
    → Makes (CanBeCreated (Present (cut 512 sectors bytes) true)) addr
    (Present (cut 512 (cond zeros (sectors - 1) sectors) bytes) false)
    (Grow addr.0 addr.1 sectors ∷ []) (Present (cut 512 sectors bytes) true)
grows_by addr sectors bytes true is len known fits =
    let two = and_parts (ltb 1 sectors) (are_zeros (drop ((sectors - 1) * 512) bytes)) is in
    let several : 1 < sectors = ltb-true 1 sectors two.0 in
    let front = length-cut 512 (sectors - 1) bytes in
    let more : sectors - length (cut 512 (sectors - 1) bytes) ≡ 1 = omega (arith, front, several) in
    makes_one (CanBeCreated (Present (cut 512 sectors bytes) true)) addr
    (Present (cut 512 (sectors - 1) bytes) false) (Present (cut 512 sectors bytes) true)
    (Grow addr.0 addr.1 sectors) (UnitGrow sectors) (λ b. refl) refl (known, fits)
    (λ p. (refl, omega (arith, front, several)))
    (ap (λ (n : ℕ). Present (cut 512 (sectors - 1) bytes ++ zero_sectors n) true) more
    ∙ ap (λ (l : List Sector). Present l true) (with_last sectors bytes len is))
grows_by addr sectors bytes false is len known fits =
    let whole = length-cut 512 sectors bytes in
    let none : sectors - length (cut 512 sectors bytes) ≡ 0 = omega (arith, whole) in
    makes_one (CanBeCreated (Present (cut 512 sectors bytes) true)) addr
    (Present (cut 512 sectors bytes) false) (Present (cut 512 sectors bytes) true)
    (Grow addr.0 addr.1 sectors) (UnitGrow sectors) (λ b. refl) refl (known, fits)
    (λ p. absurd (true≢false (sym (ends sectors bytes len (p.1 refl)) ∙ is)))
    (ap (λ (n : ℕ). Present (cut 512 sectors bytes ++ zero_sectors n) true) none
    ∙ ap (λ (l : List Sector). Present l true) (append-nil (cut 512 sectors bytes)))

pub growth_makes : (unit : UnitParts) → unit.base ≡ base_of unit.sectors unit.attention unit.bytes
    → length unit.bytes ≡ unit.sectors * 512 → HasUnitNumbers unit.addr.0 unit.addr.1 → unit.sectors < 2 ^ 32
    → Makes (CanBeCreated (Present (cut 512 unit.sectors unit.bytes) unit.attention)) unit.addr
    (Present (cut 512 unit.base unit.bytes) false) (growth_record unit)
    (Present (cut 512 unit.sectors unit.bytes) unit.attention)
growth_makes unit based len known fits =
    subst (λ (n : ℕ). Makes (CanBeCreated (Present (cut 512 unit.sectors unit.bytes) unit.attention)) unit.addr
    (Present (cut 512 n unit.bytes) false) (growth_record unit)
    (Present (cut 512 unit.sectors unit.bytes) unit.attention)) (sym based)
    (by unit.addr unit.sectors unit.bytes unit.attention len known fits)
  where
    by : (addr : ℕ × ℕ) (sectors : ℕ) (bytes : List ℕ) (attention : Bool) → length bytes ≡ sectors * 512
        → HasUnitNumbers addr.0 addr.1 → sectors < 2 ^ 32
        → Makes (CanBeCreated (Present (cut 512 sectors bytes) attention)) addr
        (Present (cut 512 (base_of sectors attention bytes) bytes) false)
        (cond attention (Grow addr.0 addr.1 sectors ∷ []) [])
        (Present (cut 512 sectors bytes) attention)
    by addr sectors bytes false len known fits = makes_none _ addr _ _ refl
    by addr sectors bytes true len known fits =
        grows_by addr sectors bytes (ends_in_zeros sectors bytes) refl len known fits

-- where the unit can be made, it is created with a sector at least
pub some_base : (sectors : ℕ) (attention : Bool) (bytes : List ℕ)
    → CanBeCreated (Present (cut 512 sectors bytes) attention) → 1 ≤ base_of sectors attention bytes
some_base sectors attention bytes can = by (attention && ends_in_zeros sectors bytes) refl
  where
    by : (b : Bool) → attention && ends_in_zeros sectors bytes ≡ b → 1 ≤ cond b (sectors - 1) sectors
    by true e =
        let two = and_parts attention (ends_in_zeros sectors bytes) e in
        let both = and_parts (ltb 1 sectors) (are_zeros (drop ((sectors - 1) * 512) bytes)) two.1 in
        omega (arith, ltb-true 1 sectors both.0)
    by false e = omega (arith, length-cut 512 sectors bytes, can.0)
