-- Laws of what READ and WRITE keep: the relations are reflexive and transitive, so they hold of any sequence.
use Rattle.std.proofs.Common.{◌≡◌, ℕ, List, [], ◌∷◌, Option, None, Some, IsSome, refl, sym, ◌∙◌, subst}
use Rattle.ar_disks.specs.declared.address.Key.{Key}
use Rattle.ar_store.specs.Store.{StoreState}
use Rattle.ar_cache.specs.Backing.{InTurn}
use Rattle.ar_cache.specs.Cache.{cached}
use Rattle.ar_store.proofs.Changes.{units_refl, units_then}
use Rattle.ar_store.proofs.Fills.{accessed_refl, accessed_then}
use Rattle.ar_volume.specs.Image.{ArrayState}
use Rattle.ar_store.specs.Calls.{StoreFollows}
use Rattle.ar_volume.specs.Following.{StoreReads, ArrayFollows}
use Rattle.ar_volume.specs.Seen.{SamePlaces}
use Rattle.ar_volume.specs.Storing.{ReadsBlock}

pub store_refl : (s : StoreState) → StoreFollows s s
store_refl s = record { units = units_refl s.book; accessed = accessed_refl s.disks }

pub store_then : (a b c : StoreState) → StoreFollows a b → StoreFollows b c → StoreFollows a c
store_then a b c p q = record {
  units = units_then a.book b.book c.book p.units q.units;
  accessed = accessed_then a.disks b.disks c.disks p.accessed q.accessed;
}

pub reads_refl : (s : StoreState) → StoreReads s s
reads_refl s = record { tables = refl; rows = record { rows = λ place these row. refl } }

pub reads_then : (a b c : StoreState) → StoreReads a b → StoreReads b c → StoreReads a c
reads_then a b c p q = record {
  tables = q.tables ∙ p.tables;
  rows = record { rows = λ place these row. q.rows.rows place these row ∙ p.rows.rows place these row };
}

pub follows_refl : (s : ArrayState) → ArrayFollows s s
follows_refl s = record { store = store_refl s.store; geometry = refl; capacity = refl }

pub follows_then : (a b c : ArrayState) → ArrayFollows a b → ArrayFollows b c → ArrayFollows a c
follows_then a b c p q = record {
  store = store_then a.store b.store c.store p.store q.store;
  geometry = q.geometry ∙ p.geometry;
  capacity = q.capacity ∙ p.capacity;
}

pub places_refl : (s : ArrayState) → SamePlaces s s
places_refl s = record { reads = reads_refl s.store; cache = refl }

pub places_then : (a b c : ArrayState) → SamePlaces a b → SamePlaces b c → SamePlaces a c
places_then a b c p q = record { reads = reads_then a.store b.store c.store p.reads q.reads; cache = q.cache ∙ p.cache }

-- what the read of one block keeps
pub places_read : (a b : ArrayState) (key : Key) → ReadsBlock a key b → SamePlaces a b
places_read a b key read = by (cached a.cache key) refl
  where
    by : (o : Option (List ℕ)) → cached a.cache key ≡ o → SamePlaces a b
    by None is = record { reads = (read.miss is).reads; cache = read.cache }
    by (Some block) is =
        let hit : IsSome (cached a.cache key) = rw is refl in
        record { reads = subst (StoreReads a.store) (sym (read.hit hit)) (reads_refl a.store); cache = read.cache }

-- and the reads of several, in order
pub places_in_turn : (keys : List Key) (a b : ArrayState) → InTurn ReadsBlock keys a b → SamePlaces a b
places_in_turn [] a b same = subst (SamePlaces a) (sym same) (places_refl a)
places_in_turn (key ∷ keys) a b turn =
    places_then a turn.0 b (places_read a turn.0 key turn.1) (places_in_turn keys turn.0 b turn.2)
