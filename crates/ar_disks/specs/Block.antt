-- Blocks as lists of bytes: their sectors and their XOR.
use Rattle.std.specs.Prelude.{ℕ, ◌+◌, ◌*◌, List, [], ◌∷◌, ◌++◌, length, take, drop, replicate, slice_range, bit_xor}

-- `n` zero bytes
unfoldable pub zeros : ℕ → List ℕ
zeros n = replicate n 0

-- the XOR of two blocks, byte by byte, as long as the shorter
unfoldable pub xor : List ℕ → List ℕ → List ℕ
xor [] ys = []
xor (x ∷ xs) [] = []
xor (x ∷ xs) (y ∷ ys) = bit_xor x y ∷ xor xs ys

-- `count` sectors of a block, from sector `first` on
unfoldable pub sectors_at : List ℕ → ℕ → ℕ → List ℕ
sectors_at block first count = slice_range block (512 * first) (512 * (first + count))

-- `len` bytes of a block, from sector `first` on
unfoldable pub part_at : List ℕ → ℕ → ℕ → List ℕ
part_at block first len = slice_range block (512 * first) (512 * first + len)

-- the block with its contents overwritten by `bytes`, from sector `first` on
unfoldable pub with_sectors : List ℕ → ℕ → List ℕ → List ℕ
with_sectors block first bytes = take (512 * first) block ++ (bytes ++ drop (512 * first + length bytes) block)
