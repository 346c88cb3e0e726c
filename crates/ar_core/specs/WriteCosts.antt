-- What a WRITE costs in disk accesses where no disk faults.
use Rattle.std.specs.Prelude.{◌≡◌, ℕ, ◌<◌, ◌||◌, Bool, true, false, IsSome, List, [], ◌∷◌, ◌++◌, None, All}
use Rattle.ar_disks.specs.declared.address.Addr.{Addr}
use Rattle.ar_disks.specs.declared.address.Key.{Key}
use Rattle.ar_extents.specs.declared.health.Health.TheVariants.{Whole}
use Rattle.ar_extents.specs.declared.log.AccessKind.{AccessKind}
use Rattle.ar_extents.specs.declared.log.RowAccess.{RowAccess}
use Rattle.ar_extents.specs.Set.{SetState}
use Rattle.ar_extents.specs.Plans.{planned}
use Rattle.ar_book.specs.declared.class.Class.TheVariants.{Mirrored}
use Rattle.ar_book.specs.declared.class.Level.TheVariants.{Mirrored as MirroredLevel, Parity as ParityLevel}
use Rattle.ar_book.specs.Tables.{Tables, level, free_groups}
use Rattle.ar_store.specs.Store.{StoreState}
use Rattle.ar_store.specs.Placing.{HasNoHole}
use Rattle.ar_store.specs.Plans.{put_plan}
use Rattle.ar_cache.specs.Cache.{cached}
use Rattle.ar_volume.specs.Following.{PutsStored}
use Rattle.ar_volume.specs.Image.{ArrayState, geometry_of}
use Rattle.ar_volume.specs.Sectors.{keys_in}
use Rattle.ar_volume.specs.Storing.{ReadsBlock, PutsBlock, ForcesBlock, destaged, in_place_at, is_whole}
use Rattle.ar_core.specs.Costs.{block_reads}

-- Between two states of the disks exactly some accesses were made, of which this holds, and health stayed.
pub record CostsExactly (makes : List RowAccess → Type 0) (old new : SetState) : Type 0 where
  pub made : List RowAccess
  pub is_made : makes made
  pub log : new.log ≡ old.log ++ made
  pub health : new.health ≡ old.health

-- one step for each item, in order, and the accesses of all of them, joined
abbrev pub MakesInTurn : {S X : Type 0} → (S → X → S → List RowAccess → Type 0) → List X → S → S → List RowAccess
    → Type 0
MakesInTurn makes [] from to made = (to ≡ from) × (made ≡ [])
MakesInTurn {S} makes (this ∷ rest) from to made =
    (next : S) × (first : List RowAccess) × (more : List RowAccess)
    × makes from this next first × MakesInTurn makes rest next to more × (made ≡ first ++ more)

-- One block was put into a store by these accesses: those that its plan makes where none faults.
pub record PutMakes (old : StoreState) (key : Key) (new : StoreState) (made : List RowAccess) : Type 0 where
  pub put : PutsStored old key new
  pub made_is : made ≡ planned (put_plan old key) old.disks.health
  pub health : new.disks.health ≡ old.disks.health

-- One block was read by these accesses: those of its home's read, none if it has no home or is cached.
pub record BlockReadMakes (old : ArrayState) (key : Key) (new : ArrayState) (made : List RowAccess) : Type 0 where
  pub read : ReadsBlock old key new
  pub made_is : made ≡ block_reads old key
  pub health : new.store.disks.health ≡ old.store.disks.health

-- One block was put by these accesses: those of the puts of the blocks that it destages, in order.
pub record BlockPutMakes (old : ArrayState) (key : Key) (new : ArrayState) (made : List RowAccess) : Type 0 where
  pub put : PutsBlock old key new
  pub destages : MakesInTurn PutMakes (destaged old.cache key new.cache) old.store new.store made

-- A block that is given whole or overwritten in place was put by these accesses; another was read by the first of them,
-- and put by the others.
abbrev pub OverwriteMakes : Bool → ArrayState → Key → ArrayState → List RowAccess → Type 0
OverwriteMakes true old key new made = BlockPutMakes old key new made
OverwriteMakes false old key new made =
    (read : ArrayState) × (first : List RowAccess) × (more : List RowAccess)
    × BlockReadMakes old key read first × BlockPutMakes read key new more × (made ≡ first ++ more)

-- A cached block was destaged by these accesses, those of one put; and by none if it wasn't cached.
pub record ForceMakes (old : ArrayState) (key : Key) (new : ArrayState) (made : List RowAccess) : Type 0 where
  pub force : ForcesBlock old key new
  pub present : IsSome (cached old.cache key) → PutMakes old.store key new.store made
  pub absent : cached old.cache key ≡ None → made ≡ []

-- Each block of these sectors was overwritten once, in ascending order, by these accesses. It was read first, unless
-- they cover all of it or it was overwritten in place.
abbrev pub BlocksPutMake : Addr → ℕ → ℕ → ArrayState → ArrayState → List RowAccess → Type 0
BlocksPutMake addr lba count old new made =
    MakesInTurn (λ a key b accesses.
    OverwriteMakes (is_whole (geometry_of old) lba count key || in_place_at a key) a key b accesses)
    (keys_in (geometry_of old) addr lba count) old new made

-- And then, with FORCE UNIT ACCESS, each was forced to the disks, in ascending order.
abbrev pub WriteMakes : Addr → ℕ → ℕ → Bool → ArrayState → ArrayState → List RowAccess → Type 0
WriteMakes addr lba count false old new made = BlocksPutMake addr lba count old new made
WriteMakes addr lba count true old new made =
    (put : ArrayState) × (first : List RowAccess) × (more : List RowAccess) × BlocksPutMake addr lba count old put first
    × MakesInTurn ForceMakes (keys_in (geometry_of old) addr lba count) put new more × (made ≡ first ++ more)

-- these kinds for each item
abbrev pub for_each : {X : Type 0} → List X → List AccessKind → List AccessKind
for_each [] kinds = []
for_each (this ∷ rest) kinds = kinds ++ for_each rest kinds

-- all disks are present, nothing is cached, and no block can be
pub record WritesThrough (old : ArrayState) : Type 0 where
  pub healthy : old.store.disks.health ≡ Whole
  pub capacity : old.cache.capacity ≡ 0
  pub empty : old.cache.entries ≡ []

-- the blocks are mirrored
abbrev pub AreMirrored : Tables → List Key → Type 0
AreMirrored t keys = All (λ key. level t key ≡ MirroredLevel) keys

-- the blocks are at the parity level, and stay there when they are put, as there is no mirrored slot for them
pub record StayAtParity (t : Tables) (keys : List Key) : Type 0 where
  pub at_level : All (λ key. level t key ≡ ParityLevel) keys
  pub none : HasNoHole t Mirrored
  pub few : free_groups t < 2
