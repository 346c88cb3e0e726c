-- A unit's sectors as bytes, one sector after another.
use Rattle.std.specs.Prelude.{ℕ, ◌*◌, ◌==◌, ◌&&◌, Bool, true, List, [], ◌∷◌, take, drop}
use Rattle.ar_unit.specs.Sectors.{Sector, cut}

-- the first `count` sectors of the bytes
abbrev pub sectors_of_bytes : ℕ → List ℕ → List Sector
sectors_of_bytes count bytes = cut 512 count bytes

-- the bytes of `count` sectors from `lba` on
abbrev pub bytes_of_sectors : ℕ → ℕ → List ℕ → List ℕ
bytes_of_sectors lba count bytes = take (count * 512) (drop (lba * 512) bytes)

-- each byte is zero
abbrev pub are_zeros : List ℕ → Bool
are_zeros [] = true
are_zeros (b ∷ bytes) = (b == 0) && are_zeros bytes
