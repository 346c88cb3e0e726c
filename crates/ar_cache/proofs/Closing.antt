-- What a cache's fields keep when one call of the ordered map changed its entries.
use Rattle.std.proofs.Common.{◌≡◌, ℕ, ◌-◌, ◌<◌, max, List, ◌∷◌, Some, None, length, take, sym, ap, ◌∙◌, subst, arith}
use Rattle.std.specs.Map.{lookup}
use Rattle.lru.specs.LruCache.{LruCache, lru_cache, put_entries}
use Rattle.ar_disks.specs.declared.address.Key.{Key}
use Rattle.ar_disks.specs.declared.geometry.Geometry.{Geometry}
use Rattle.ar_disks.specs.Geometry.{block_len_of}
use Rattle.ar_cache.specs.Cache.{same_key, without_key, without_last, with_room, CacheState, with_entries, IsValidCache}
use Rattle.ar_cache.proofs.Sound.{sound_without_key, sound_without_last, sound_replaced, sound_put}
use Rattle.ar_cache.proofs.Uses.{put_absent}

abbrev pub Ordered : Type 0
Ordered = LruCache Key (List ℕ)

-- what clauses see of the fields
abbrev pub state_of : Geometry → ℕ → LruCache Key (List ℕ) → CacheState
state_of g n m = record { geometry = g; capacity = n; entries = m.entries }

-- the part of the invariant that speaks of the entries
abbrev pub IsKept : Geometry → ℕ → LruCache Key (List ℕ) → Type 0
IsKept g n m = IsValidCache (state_of g n m) × (m.cap ≡ max n 1)

module _ (g : Geometry) (n : ℕ) (m : LruCache Key (List ℕ)) where
  pub kept_without_key : (m' : LruCache Key (List ℕ)) (k : Key) → IsKept g n m
      → m' ≡ lru_cache (without_key m.entries k) m.cap → IsKept g n m'
  kept_without_key m' k h e = subst (IsKept g n) (sym e) (sound_without_key (state_of g n m) k h.0, h.1)

  pub kept_without_last : (m' : LruCache Key (List ℕ)) → IsKept g n m → m' ≡ lru_cache (without_last m.entries) m.cap
      → IsKept g n m'
  kept_without_last m' h e = subst (IsKept g n) (sym e) (sound_without_last (state_of g n m) h.0, h.1)

  pub kept_replaced : (m' : LruCache Key (List ℕ)) (k : Key) (b x : List ℕ) → IsKept g n m
      → lookup (same_key k) m.entries ≡ Some x → length b ≡ block_len_of g
      → m' ≡ lru_cache ((k, b) ∷ without_key m.entries k) m.cap → IsKept g n m'
  kept_replaced m' k b x h hit len e =
      subst (IsKept g n) (sym e) (sound_replaced (state_of g n m) k b x h.0 hit len, h.1)

  -- the entries after a new key was put
  pub put_is : (m' : LruCache Key (List ℕ)) (k : Key) (b : List ℕ) → m.cap ≡ max n 1 → 0 < n
      → lookup (same_key k) m.entries ≡ None → m' ≡ lru_cache (put_entries same_key m k b) m.cap
      → m' ≡ lru_cache ((k, b) ∷ with_room (state_of g n m)) m.cap
  put_is m' k b cap some absent e =
      let whole : m.cap ≡ n = omega arith in
      e ∙ ap (λ es. lru_cache es m.cap) (put_absent m k b absent ∙ ap (λ l. (k, b) ∷ take (l - 1) m.entries) whole)

  pub kept_put : (m' : LruCache Key (List ℕ)) (k : Key) (b : List ℕ) → IsKept g n m → 0 < n
      → lookup (same_key k) m.entries ≡ None → length b ≡ block_len_of g
      → m' ≡ lru_cache ((k, b) ∷ with_room (state_of g n m)) m.cap → IsKept g n m'
  kept_put m' k b h some absent len e =
      subst (IsKept g n) (sym e) (sound_put (state_of g n m) k b h.0 some absent len, h.1)

  -- what clauses see then
  pub seen_as : (m' : LruCache Key (List ℕ)) (s : CacheState) (f : CacheState → List (Key × List ℕ))
      → state_of g n m ≡ s → m'.entries ≡ f (state_of g n m) → state_of g n m' ≡ with_entries s (f s)
  seen_as m' s f v e =
      subst (λ t. state_of g n m' ≡ with_entries t (f t)) v (ap (λ es. with_entries (state_of g n m) es) e)
