-- What the calls of the ordered map leave, as a cache's words say it.
use Rattle.std.proofs.Common.{◌≡◌, ℕ, ◌-◌, ◌<◌, ◌≤◌, true, false, List, [], ◌∷◌, Option, Some, None, IsSome, is_some}
use Rattle.std.proofs.Common.{length, take, refl, sym, ap, arith}
use Rattle.std.specs.List.{slice_get}
use Rattle.std.specs.Prelude.{nat_lt}
use Rattle.std.specs.Map.{lookup, lookup_entry, set_value}
use Rattle.std.proofs.lemmas.List.{take_all, length-take}
use Rattle.std.proofs.lemmas.Bool.{false≢true, le-ltb}
use Rattle.lru.specs.LruCache.{LruCache, promoted, put_entries, displaced}
use Rattle.ar_disks.specs.declared.address.Key.{Key}
use Rattle.ar_cache.specs.Cache.{same_key, without_key, without_last, CacheState, with_room, cached, last_keys}
use Rattle.ar_cache.specs.Cache.{pushed_out}
use Rattle.ar_cache.proofs.Keys.{same_key_true, same_key_refl}

-- a look-up that finds a block finds the entry of the key itself
pub lookup_entry_found : (es : List (Key × List ℕ)) (k : Key) (x : List ℕ) → lookup (same_key k) es ≡ Some x
    → lookup_entry (same_key k) es ≡ Some (k, x)
lookup_entry_found [] k x h = cc
lookup_entry_found (e ∷ es) k x h =
    (elim (same_key k e.0) as (λ y. same_key k e.0 ≡ y → lookup_entry (same_key k) (e ∷ es) ≡ Some (k, x)) [
      | true ↦ λ t.
          let key : e.0 ≡ k = sym (same_key_true k e.0 t) in
          let found : Some e.1 ≡ Some x = rw t at h in
          let block : e.1 ≡ x = cc in
          rw t (ap Some (λ i. (key i, block i)))
      | false ↦ λ t. rw t (lookup_entry_found es k x (rw t at h))
    ]) refl

-- and one that finds none finds no entry
pub lookup_entry_absent : (es : List (Key × List ℕ)) (k : Key) → lookup (same_key k) es ≡ None
    → lookup_entry (same_key k) es ≡ None
lookup_entry_absent [] k h = refl
lookup_entry_absent (e ∷ es) k h =
    (elim (same_key k e.0) as (λ y. same_key k e.0 ≡ y → lookup_entry (same_key k) (e ∷ es) ≡ None) [
      | true ↦ λ t. let found : Some e.1 ≡ None = rw t at h in cc
      | false ↦ λ t. rw t (lookup_entry_absent es k (rw t at h))
    ]) refl

-- a block written into a present entry, which comes first
pub promoted_set : (es : List (Key × List ℕ)) (k : Key) (x w : List ℕ) → lookup (same_key k) es ≡ Some x
    → set_value (same_key k) (promoted (same_key k) es) w ≡ (k, w) ∷ without_key es k
promoted_set es k x w h = rw (lookup_entry_found es k x h, same_key_refl k)

-- a present entry, which comes first
pub promoted_is : (es : List (Key × List ℕ)) (k : Key) (x : List ℕ) → lookup (same_key k) es ≡ Some x
    → promoted (same_key k) es ≡ (k, x) ∷ without_key es k
promoted_is es k x h = rw (lookup_entry_found es k x h)

-- a new pair put in
pub put_absent : (c : LruCache Key (List ℕ)) (k : Key) (b : List ℕ) → lookup (same_key k) c.entries ≡ None
    → put_entries same_key c k b ≡ (k, b) ∷ take (c.cap - 1) c.entries
put_absent c k b h = rw (lookup_entry_absent c.entries k h)

-- what a new pair pushed out
pub displaced_absent : (c : LruCache Key (List ℕ)) (k : Key) (b : List ℕ) → lookup (same_key k) c.entries ≡ None
    → displaced same_key c k b ≡ slice_get c.entries (c.cap - 1)
displaced_absent c k b h = rw h

pub with_room_spare : (c : CacheState) → length c.entries < c.capacity → with_room c ≡ c.entries
with_room_spare c h = take_all (c.capacity - 1) c.entries (omega arith)

pub with_room_full : (c : CacheState) → length c.entries ≡ c.capacity → with_room c ≡ without_last c.entries
with_room_full c h = rw h

pub some_is : (o : Option (List ℕ)) → IsSome o → (x : List ℕ) × (o ≡ Some x)
some_is None h = absurd (false≢true h)
some_is (Some x) h = (x, refl)

pub ≤_antisym : {n m : ℕ} → n ≤ m → m ≤ n → n ≡ m
≤_antisym h k = omega arith

pub fits_put : (c : CacheState) (k : Key) (b : List ℕ) → 0 < c.capacity → length ((k, b) ∷ with_room c) ≤ c.capacity
fits_put c k b some = omega (arith, length-take (c.capacity - 1) c.entries)

pub fits_without_last : (c : CacheState) → length c.entries ≤ c.capacity → length (without_last c.entries) ≤ c.capacity
fits_without_last c fits = omega (arith, length-take (length c.entries - 1) c.entries)

pub none_is : (o : Option (List ℕ)) → is_some o ≡ false → o ≡ None
none_is None h = refl
none_is (Some x) h = absurd (false≢true (sym h))

-- a new key evicts the least recently used of a full cache
pub pushed_full : (c : CacheState) (k : Key) → cached c k ≡ None → c.capacity ≤ length c.entries
    → pushed_out c k ≡ last_keys c.entries
pushed_full c k miss full = let no : nat_lt (length c.entries) c.capacity ≡ false =
    le-ltb (length c.entries) c.capacity full in rw (miss, no)
