-- Sectors: the logical blocks of a unit (SBC-2, Logical blocks), of 512 bytes each.
use Rattle.std.specs.List.{concat}
use Rattle.std.specs.Prelude.{ℕ, zero, suc, ◌+◌, List, [], ◌∷◌, ◌++◌, take, drop, replicate}

-- the bytes of one logical block
abbrev pub Sector : Type 0
Sector = List ℕ

-- 512 zeros
unfoldable pub zero_sector : Sector
zero_sector = replicate 512 0

-- `n` zero sectors
abbrev pub zero_sectors : ℕ → List Sector
zero_sectors n = replicate n zero_sector

-- the bytes of the sectors, concatenated
abbrev pub joined : List Sector → List ℕ
joined sectors = concat sectors

-- the bytes cut into `n` pieces of length `len`
abbrev pub cut : ℕ → ℕ → List ℕ → List (List ℕ)
cut len zero bytes = []
cut len (suc n) bytes = take len bytes ∷ cut len n (drop len bytes)

-- the sectors, `count` of them from `lba` on overwritten by `bytes`
abbrev pub written : List Sector → ℕ → ℕ → List ℕ → List Sector
written sectors lba count bytes = take lba sectors ++ cut 512 count bytes ++ drop (lba + count) sectors

-- the sectors, `count` of them from `lba` on zero
abbrev pub zeroed : List Sector → ℕ → ℕ → List Sector
zeroed sectors lba count = take lba sectors ++ zero_sectors count ++ drop (lba + count) sectors
