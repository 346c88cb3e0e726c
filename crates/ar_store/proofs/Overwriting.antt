-- Where a block is overwritten in part: in its home, as a put of the whole block would be.
use Rattle.std.proofs.Common.{◌≡◌, ℕ, ◌+◌, ◌-◌, ◌*◌, ◌≤◌, List, length, take, drop, replicate}
use Rattle.std.proofs.Common.{ap, ◌∙◌, arith}
use Rattle.std.proofs.lemmas.List.{drop-replicate, take-replicate}
use Rattle.ar_disks.specs.Block.{zeros, part_at, with_sectors}
use Rattle.ar_disks.specs.Geometry.{block_len_of}
use Rattle.ar_extents.specs.Set.{SetState}
use Rattle.ar_parity.proofs.PartSums.{length-with_sectors, part_at-whole}

-- a part of zeros
pub part_at_zeros : (n first len : ℕ) → 512 * first + len ≤ n → part_at (zeros n) first len ≡ zeros len
unfolding part_at zeros
part_at_zeros n first len fits =
    let size : 512 * first + len - 512 * first ≡ len = omega arith in
    ap (λ k. take k (drop (512 * first) (replicate n 0))) size
    ∙ ap (λ l. take len l) (drop-replicate (512 * first) n 0)
    ∙ take-replicate len (n - 512 * first) 0 (omega arith)

-- a block that is overwritten in part keeps its length
pub part_len : (s : SetState) (block bytes : List ℕ) (first : ℕ) → length block ≡ block_len_of s.geometry
    → 512 * first + length bytes ≤ block_len_of s.geometry
    → length (with_sectors block first bytes) ≡ block_len_of s.geometry
part_len s block bytes first len within =
    let fits : 512 * first + length bytes ≤ length block = rw len within in
    length-with_sectors block bytes first fits ∙ len

-- all of a block is a part of it
pub all_within : (n len : ℕ) → n ≡ len → 512 * 0 + n ≤ len
all_within n len same = omega arith

pub all_given : (block bytes : List ℕ) → length bytes ≡ length block → bytes ≡ part_at block 0 (length bytes)
    → bytes ≡ block
all_given block bytes len part = part ∙ ap (λ n. part_at block 0 n) len ∙ part_at-whole block
