-- A rebuild of the store, as one behind the cache.
use Rattle.std.proofs.Common.{◌≡◌, false, refl, ap, arith}
use Rattle.std.specs.Prelude.{length}
use Rattle.ar_extents.specs.Changes.{is_broken_set}
use Rattle.ar_book.specs.Tables.{Tables, unit_in}
use Rattle.ar_store.specs.Store.{StoreState}
use Rattle.ar_store.specs.Slots.{AllStand}
use Rattle.ar_cache.specs.Cache.{CacheState}
use Rattle.ar_rebuild.specs.Rebuild.{Advances}
use Rattle.ar_volume.specs.Image.{CacheAgrees}
use Rattle.ar_volume.specs.Seen.{SameSeen}
use Rattle.ar_volume.proofs.Breaking.{not_broken}
use Rattle.ar_volume.proofs.Seeing.{all_seen, joined_more}

pub rebuild_seen : (a b : StoreState) (c : CacheState) → AllStand a b → is_broken_set b.disks.health ≡ false
    → SameSeen (record { store = a; cache = c }) (record { store = b; cache = c })
rebuild_seen a b c stand sound =
    all_seen (record { store = a; cache = c }) (record { store = b; cache = c }) refl
    (stand.blocks (not_broken b.disks.health sound))

pub rebuild_joined : (a b : StoreState) (c : CacheState) → b.book ≡ a.book → Advances a.disks b.disks
    → CacheAgrees (record { store = a; cache = c })
    → CacheAgrees (record { store = b; cache = c })
rebuild_joined a b c tables advances joined =
    joined_more a b c advances.geometry
    (λ x. (let same = ap (λ (t : Tables). length (unit_in t.units x).homes) tables in omega arith)) joined
