-- Where blocks lie among bytes.
use Rattle.std.proofs.Common.{ℕ, ◌<◌, ◌≤◌, ◌+◌, ◌*◌, arith}
use Rattle.ar_disks.specs.declared.geometry.Geometry.{Geometry}
use Rattle.ar_disks.specs.declared.geometry.Geometry.TheVariants.{Paper, Small}
use Rattle.ar_disks.specs.Geometry.{block_len_of}

-- A block with a number below their count ends where they end, or before.
pub block_fits : (g : Geometry) (n count : ℕ) → n < count → n * block_len_of g + block_len_of g ≤ count * block_len_of g
block_fits Paper n count h = omega arith
block_fits Small n count h = omega arith
