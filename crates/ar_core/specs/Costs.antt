-- What commands cost in disk accesses.
use Rattle.std.specs.Prelude.{ℕ, List, [], ◌∷◌, ◌++◌, Option, None, Some}
use Rattle.ar_disks.specs.declared.address.Key.{Key}
use Rattle.ar_extents.specs.declared.log.RowAccess.{RowAccess}
use Rattle.ar_extents.specs.Plans.{planned}
use Rattle.ar_store.specs.Plans.{get_plan}
use Rattle.ar_cache.specs.Cache.{cached}
use Rattle.ar_volume.specs.Image.{ArrayState}

-- these accesses, or none where there is a cached block
abbrev pub unless_cached : Option (List ℕ) → List RowAccess → List RowAccess
unless_cached None made = made
unless_cached (Some block) made = []

-- the accesses of a block's read where no disk faults: those that the read of its home plans, none if it has no home,
-- and none if it is cached
abbrev pub block_reads : ArrayState → Key → List RowAccess
block_reads s k = unless_cached (cached s.cache k) (planned (get_plan s.store k) s.store.disks.health)

-- those of several blocks, in order
abbrev pub reads_of : ArrayState → List Key → List RowAccess
reads_of s [] = []
reads_of s (k ∷ rest) = block_reads s k ++ reads_of s rest
