-- A block whose bytes are lent out.
use Rattle.std.specs.Prelude.{ℕ, List, ◌++◌, length, take, drop}
use Rattle.std.specs.Borrow.{Lends, MutBor, Fml, Array, u8}
use Rattle.ar_disks.specs.contracts.block.Block.{the_row}

-- the block with its first bytes overwritten by these; of as many bytes as the block has, it is these
abbrev pub refilled : List ℕ → List ℕ → List ℕ
refilled block bytes = take (length block) (bytes ++ drop (length bytes) block)

-- once `r` isn't used any more, the block is the last bytes after it
abbrev pub LendsBytes : MutBor (List ℕ) → MutBor (List ℕ) → Fml
LendsBytes b r = Lends the_row (Array u8 0) b r (refilled b.now)
