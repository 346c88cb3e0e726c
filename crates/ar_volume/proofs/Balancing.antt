-- Balancing of the store, as balancing behind the cache.
use Rattle.std.proofs.Common.{◌≡◌, false, refl, ap, arith}
use Rattle.std.specs.Prelude.{length}
use Rattle.ar_extents.specs.Changes.{is_broken_set}
use Rattle.ar_book.specs.Tables.{unit_in}
use Rattle.ar_store.specs.Store.{StoreState}
use Rattle.ar_cache.specs.Cache.{CacheState}
use Rattle.ar_balance.specs.Balance.{LeavesAll}
use Rattle.ar_volume.specs.Image.{CacheAgrees}
use Rattle.ar_volume.specs.Seen.{SameSeen}
use Rattle.ar_volume.proofs.Breaking.{not_broken}
use Rattle.ar_volume.proofs.Seeing.{all_seen, joined_more}

pub balance_seen : (a b : StoreState) (c : CacheState) → LeavesAll a b → is_broken_set b.disks.health ≡ false
    → SameSeen (record { store = a; cache = c }) (record { store = b; cache = c })
balance_seen a b c leaves sound =
    all_seen (record { store = a; cache = c }) (record { store = b; cache = c }) refl
    (leaves.stands.blocks (not_broken b.disks.health sound))

pub balance_joined : (a b : StoreState) (c : CacheState) → LeavesAll a b → CacheAgrees (record { store = a; cache = c })
    → CacheAgrees (record { store = b; cache = c })
balance_joined a b c leaves joined =
    joined_more a b c leaves.follows.geometry
    (λ x. (let same = ap (λ units. length (unit_in units x).homes) leaves.units.units in omega arith)) joined
