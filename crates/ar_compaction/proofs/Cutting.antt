-- Bytes that are cut into sectors.
use Rattle.std.proofs.Common.{◌≡◌, ◌≤◌, ◌+◌, ◌-◌, ◌*◌, ℕ, zero, suc, List, ◌∷◌, ◌++◌, length, take, drop, refl, sym, ap}
use Rattle.std.proofs.Common.{◌∙◌, arith, append_assoc, length-take}
use Rattle.std.proofs.Math.Nat.{suc-mul}
use Rattle.std.proofs.lemmas.List.{take-take, take_at, drop_at, drop-drop, drop-take}
use Rattle.ar_unit.specs.Sectors.{Sector, cut, written}
use Rattle.ar_unit.proofs.Laws.{length-cut}

-- the first sectors, and those after them
pub cut-add : (m n : ℕ) (bytes : List ℕ)
    → cut 512 (m + n) bytes ≡ cut 512 m bytes ++ cut 512 n (drop (m * 512) bytes)
cut-add zero n bytes =
    let none : 0 + n ≡ n = omega arith in
    let near : 0 ≡ 0 * 512 = omega arith in
    ap (λ (k : ℕ). cut 512 k bytes) none ∙ ap (λ (k : ℕ). cut 512 n (drop k bytes)) near
cut-add (suc m) n bytes =
    let sum : suc m + n ≡ suc (m + n) = omega arith in
    let far : 512 + m * 512 ≡ suc m * 512 = omega (arith, suc-mul m 512) in
    ap (λ (k : ℕ). cut 512 k bytes) sum
    ∙ ap (λ (l : List Sector). take 512 bytes ∷ l)
    (cut-add m n (drop 512 bytes)
    ∙ ap (λ (l : List ℕ). cut 512 m (drop 512 bytes) ++ cut 512 n l)
    (drop-drop (m * 512) 512 bytes ∙ ap (λ (k : ℕ). drop k bytes) far))

-- bytes past the sectors don't matter
pub cut-take : (m k : ℕ) (bytes : List ℕ) → m * 512 ≤ k → cut 512 m (take k bytes) ≡ cut 512 m bytes
cut-take zero k bytes h = refl
cut-take (suc m) k bytes h =
    let near : 512 ≤ k = omega (arith, suc-mul m 512, h) in
    let left : m * 512 ≤ k - 512 = omega (arith, suc-mul m 512, h) in
    let split : k ≡ 512 + (k - 512) = omega arith in
    ap (λ (l : Sector). l ∷ cut 512 m (drop 512 (take k bytes))) (take-take 512 k bytes near)
    ∙ ap (λ (l : List ℕ). take 512 bytes ∷ cut 512 m l)
    (ap (λ (j : ℕ). drop 512 (take j bytes)) split ∙ drop-take 512 (k - 512) bytes)
    ∙ ap (λ (l : List Sector). take 512 bytes ∷ l) (cut-take m (k - 512) (drop 512 bytes) left)

-- sectors of bytes that are put together
pub cut-append : (m n : ℕ) (front rest : List ℕ) → length front ≡ m * 512
    → cut 512 (m + n) (front ++ rest) ≡ cut 512 m front ++ cut 512 n rest
cut-append m n front rest len =
    let whole : m * 512 ≤ m * 512 = omega arith in
    cut-add m n (front ++ rest)
    ∙ ap (λ (l : List Sector). l ++ cut 512 n (drop (m * 512) (front ++ rest)))
    (sym (cut-take m (m * 512) (front ++ rest) whole)
    ∙ ap (λ (l : List ℕ). cut 512 m l) (take_at front rest (m * 512) len))
    ∙ ap (λ (l : List ℕ). cut 512 m front ++ cut 512 n l) (drop_at front rest (m * 512) len)

pub take-cut : (m n : ℕ) (bytes : List ℕ) → m ≤ n → take m (cut 512 n bytes) ≡ cut 512 m bytes
take-cut m n bytes le =
    let sum : n ≡ m + (n - m) = omega arith in
    ap (λ (k : ℕ). take m (cut 512 k bytes)) sum
    ∙ ap (λ (l : List Sector). take m l) (cut-add m (n - m) bytes)
    ∙ take_at (cut 512 m bytes) (cut 512 (n - m) (drop (m * 512) bytes)) m (length-cut 512 m bytes)

pub drop-cut : (m n : ℕ) (bytes : List ℕ) → m ≤ n → drop m (cut 512 n bytes) ≡ cut 512 (n - m) (drop (m * 512) bytes)
drop-cut m n bytes le =
    let sum : n ≡ m + (n - m) = omega arith in
    ap (λ (k : ℕ). drop m (cut 512 k bytes)) sum
    ∙ ap (λ (l : List Sector). drop m l) (cut-add m (n - m) bytes)
    ∙ drop_at (cut 512 m bytes) (cut 512 (n - m) (drop (m * 512) bytes)) m (length-cut 512 m bytes)

-- bytes written over those of some sectors
pub cut-written : (n lba count : ℕ) (bytes sent : List ℕ) → length bytes ≡ n * 512 → lba + count ≤ n
    → length sent ≡ count * 512
    → cut 512 n (take (lba * 512) bytes ++ (sent ++ drop ((lba + count) * 512) bytes))
    ≡ written (cut 512 n bytes) lba count sent
cut-written n lba count bytes sent len within sent_len =
    let rest : ℕ = n - (lba + count) in
    let tail : List ℕ = drop ((lba + count) * 512) bytes in
    let sum : n ≡ lba + (count + rest) = omega arith in
    let front : length (take (lba * 512) bytes) ≡ lba * 512 = omega (arith, length-take (lba * 512) bytes, len) in
    let whole : lba * 512 ≤ lba * 512 = omega arith in
    let below : lba ≤ n = omega arith in
    ap (λ (k : ℕ). cut 512 k (take (lba * 512) bytes ++ (sent ++ tail))) sum
    ∙ cut-append lba (count + rest) (take (lba * 512) bytes) (sent ++ tail) front
    ∙ ap (λ (l : List Sector). l ++ cut 512 (count + rest) (sent ++ tail))
    (cut-take lba (lba * 512) bytes whole ∙ sym (take-cut lba n bytes below))
    ∙ ap (λ (l : List Sector). take lba (cut 512 n bytes) ++ l)
    (cut-append count rest sent tail sent_len
    ∙ ap (λ (l : List Sector). cut 512 count sent ++ l) (sym (drop-cut (lba + count) n bytes within)))
    ∙ sym (append_assoc (take lba (cut 512 n bytes)) (cut 512 count sent) (drop (lba + count) (cut 512 n bytes)))
