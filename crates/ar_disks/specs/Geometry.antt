-- The sizes of a geometry.
use Rattle.std.specs.Prelude.{ℕ, ◌*◌}
use Rattle.ar_disks.specs.declared.geometry.Geometry.{Geometry}
use Rattle.ar_disks.specs.declared.geometry.Geometry.TheVariants.{Paper, Small}

-- sectors of a block
abbrev pub sectors_of : Geometry → ℕ
sectors_of Paper = 128
sectors_of Small = 2

-- rows of an extent
abbrev pub rows_of : Geometry → ℕ
rows_of Paper = 16
rows_of Small = 2

-- bytes of a block
abbrev pub block_len_of : Geometry → ℕ
block_len_of Paper = 65536
block_len_of Small = 1024

-- bytes of an extent
abbrev pub extent_len_of : Geometry → ℕ
extent_len_of g = rows_of g * block_len_of g
