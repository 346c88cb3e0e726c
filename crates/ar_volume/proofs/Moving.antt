-- Moves of the store, as moves behind the cache.
use Rattle.std.proofs.Common.{◌≡◌, ◌↔◌, false, refl, ap, arith}
use Rattle.ar_extents.specs.declared.health.Health.TheVariants.{Broken as AllBroken}
use Rattle.ar_extents.specs.Changes.{is_broken_set}
use Rattle.ar_store.specs.Store.{StoreState}
use Rattle.ar_cache.specs.Cache.{CacheState}
use Rattle.ar_moves.specs.declared.step.Move.{Move}
use Rattle.ar_moves.specs.declared.step.Move.TheVariants.{Broken}
use Rattle.ar_moves.specs.Moves.{LeavesBlocks}
use Rattle.ar_volume.specs.Image.{ArrayState, CacheAgrees}
use Rattle.ar_volume.specs.Following.{ArrayFollows}
use Rattle.ar_volume.specs.Seen.{SameSeen}
use Rattle.ar_volume.specs.Moves.{MovesBlock}
use Rattle.ar_volume.proofs.Breaking.{broken_is, not_broken}
use Rattle.ar_volume.proofs.Seeing.{all_seen, joined_more}

-- the store behind a cache
abbrev behind : StoreState → CacheState → ArrayState
behind s c = record { store = s; cache = c }

pub moves_block : (a b : StoreState) (c : CacheState) (answer : Move) → LeavesBlocks a b
    → ((answer ≡ Broken) ↔ (b.disks.health ≡ AllBroken))
    → MovesBlock (record { store = a; cache = c }) answer (record { store = b; cache = c })
moves_block a b c answer leaves broken = record {
  leaves = leaves;
  cache = refl;
  broken = (λ is. ap is_broken_set (broken.0 is), λ lost. broken.1 (broken_is b.disks.health lost));
}

pub moves_seen : (a b : StoreState) (c : CacheState) → LeavesBlocks a b → is_broken_set b.disks.health ≡ false
    → SameSeen (record { store = a; cache = c }) (record { store = b; cache = c })
moves_seen a b c leaves sound =
    all_seen (behind a c) (behind b c) refl (leaves.stands.blocks (not_broken b.disks.health sound))

pub moves_follow : (a b : StoreState) (c : CacheState) → LeavesBlocks a b
    → ArrayFollows (record { store = a; cache = c }) (record { store = b; cache = c })
moves_follow a b c leaves =
    record { store = record { units = leaves.units; accessed = leaves.accessed }; geometry = refl; capacity = refl }

pub moves_joined : (a b : StoreState) (c : CacheState) → LeavesBlocks a b
    → CacheAgrees (record { store = a; cache = c }) → CacheAgrees (record { store = b; cache = c })
moves_joined a b c leaves joined =
    joined_more a b c leaves.accessed.follows.geometry (λ x. (let same = leaves.units.blocks x in omega arith)) joined
