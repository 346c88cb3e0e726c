-- What holds of every cache holds after the changes of its entries.
use Rattle.std.proofs.Common.{◌≡◌, ℕ, ◌+◌, ◌-◌, ◌<◌, ◌≤◌, true, false, List, [], ◌∷◌, Some, None, All, length, inl, inr}
use Rattle.std.proofs.Common.{refl, sym, ap, ◌∙◌, subst, arith}
use Rattle.std.specs.List.{IsDistinct, AllByRecursion, slice_get}
use Rattle.std.specs.Map.{keys_of, lookup}
use Rattle.std.proofs.lemmas.List.{length-take}
use Rattle.std.proofs.lemmas.List.Elements.{All-cons, All-head, All-tail}
use Rattle.std.proofs.lemmas.Map.{none_passes_from_lookup}
use Rattle.std.proofs.lemmas.Map.Keys.{IsDistinct-cons}
use Rattle.std.proofs.lemmas.Map.Entries.{All-lookup, lookup_from_place}
use Rattle.std.specs.Option.{IfSome}
use Rattle.lru.proofs.Splits.{all_map}
use Rattle.ar_disks.specs.declared.address.Key.{Key}
use Rattle.ar_disks.specs.Geometry.{block_len_of}
use Rattle.ar_cache.specs.Cache.{same_key, without_key, CacheState, with_entries, without_last, with_room, cached}
use Rattle.ar_cache.specs.Cache.{IsValidCache}
use Rattle.ar_cache.proofs.Keys.{key_equiv, same_key_refl}
use Rattle.ar_cache.proofs.Lookups.{lookup-without_key, absent_without_key, last_cases, room_cases}

length-without_key : (es : List (Key × List ℕ)) (k : Key) → length (without_key es k) ≤ length es
length-without_key [] k = omega arith
length-without_key (e ∷ es) k =
    (elim (same_key k e.0) as (λ y. same_key k e.0 ≡ y → length (without_key (e ∷ es) k) ≤ length (e ∷ es)) [
      | true ↦ λ t. rw t (omega arith)
      | false ↦ λ t. rw t (omega (arith, length-without_key es k))
    ]) refl

-- a key that has an entry leaves one entry less
length-found : (es : List (Key × List ℕ)) (k : Key) (b : List ℕ) → lookup (same_key k) es ≡ Some b
    → length (without_key es k) + 1 ≡ length es
length-found [] k b h = cc
length-found (e ∷ es) k b h =
    (elim (same_key k e.0) as (λ y. same_key k e.0 ≡ y → length (without_key (e ∷ es) k) + 1 ≡ length (e ∷ es)) [
      | true ↦ λ t. rw t (omega arith)
      | false ↦ λ t. let on = length-found es k b (rw t at h) in rw t (omega (arith, on))
    ]) refl

pub All-without_key : (P : Key × List ℕ → Type 0) (es : List (Key × List ℕ)) (k : Key) → All P es
    → All P (without_key es k)
All-without_key P [] k h = h
All-without_key P (e ∷ es) k h =
    (elim (same_key k e.0) as (λ y. same_key k e.0 ≡ y → All P (without_key (e ∷ es) k)) [
      | true ↦ λ t. rw t (All-tail P e es h)
      | false ↦ λ t. rw t
          (All-cons P e (without_key es k) (All-head P e es h) (All-without_key P es k (All-tail P e es h)))
    ]) refl

differ_without_key : (j : Key) (es : List (Key × List ℕ)) (k : Key)
    → AllByRecursion (λ i. same_key j i ≡ false) (keys_of es)
    → AllByRecursion (λ i. same_key j i ≡ false) (keys_of (without_key es k))
differ_without_key j [] k h = h
differ_without_key j (e ∷ es) k h =
    (elim (same_key k e.0) as (λ y. same_key k e.0 ≡ y
    → AllByRecursion (λ i. same_key j i ≡ false) (keys_of (without_key (e ∷ es) k))) [
      | true ↦ λ t. rw t h.1
      | false ↦ λ t. rw t (h.0, differ_without_key j es k h.1)
    ]) refl

distinct_without_key : (es : List (Key × List ℕ)) (k : Key) → IsDistinct same_key (keys_of es)
    → IsDistinct same_key (keys_of (without_key es k))
unfolding IsDistinct
distinct_without_key [] k h = h
distinct_without_key (e ∷ es) k h =
    (elim (same_key k e.0) as (λ y. same_key k e.0 ≡ y → IsDistinct same_key (keys_of (without_key (e ∷ es) k))) [
      | true ↦ λ t. rw t h.1
      | false ↦ λ t. rw t (differ_without_key e.0 es k h.0, distinct_without_key es k h.1)
    ]) refl

pub sound_without_key : (c : CacheState) (k : Key) → IsValidCache c
    → IsValidCache (with_entries c (without_key c.entries k))
sound_without_key c k s = record {
  fits = omega (arith, s.fits, length-without_key c.entries k);
  whole = All-without_key (λ e. length e.1 ≡ block_len_of c.geometry) c.entries k s.whole;
  distinct = distinct_without_key c.entries k s.distinct;
}

pub sound_front : (c : CacheState) (k : Key) (b : List ℕ) → IsValidCache c → length c.entries < c.capacity
    → cached c k ≡ None → length b ≡ block_len_of c.geometry → IsValidCache (with_entries c ((k, b) ∷ c.entries))
sound_front c k b s room absent len = record {
  fits = omega arith;
  whole = All-cons (λ e. length e.1 ≡ block_len_of c.geometry) (k, b) c.entries len s.whole;
  distinct = IsDistinct-cons same_key k (keys_of c.entries)
      (all_map (λ e. e.0) (λ j. same_key k j ≡ false) c.entries (none_passes_from_lookup (same_key k) c.entries absent))
      s.distinct;
}

pub sound_replaced : (c : CacheState) (k : Key) (b x : List ℕ) → IsValidCache c → cached c k ≡ Some x
    → length b ≡ block_len_of c.geometry → IsValidCache (with_entries c ((k, b) ∷ without_key c.entries k))
sound_replaced c k b x s hit len =
    let left = with_entries c (without_key c.entries k) in
    let gone : cached left k ≡ None = rw (lookup-without_key c.entries k k s.distinct, same_key_refl k) in
    sound_front left k b (sound_without_key c k s) (omega (arith, s.fits, length-found c.entries k x hit)) gone len

-- a cached block is as long as the geometry says
pub cached_whole : (c : CacheState) (k : Key) (b : List ℕ) → IsValidCache c → cached c k ≡ Some b
    → length b ≡ block_len_of c.geometry
cached_whole c k b s hit =
    let P = λ (x : List ℕ). length x ≡ block_len_of c.geometry in
    subst (λ o. IfSome o P) hit (All-lookup P (same_key k) c.entries s.whole)

pub sound_without_last : (c : CacheState) → IsValidCache c → IsValidCache (with_entries c (without_last c.entries))
sound_without_last c s = elim (last_cases c.entries s.distinct) [
  | inl empty ↦ subst (λ es. IsValidCache (with_entries c es)) (empty ∙ sym (ap without_last empty)) s
  | inr last ↦ subst (λ es. IsValidCache (with_entries c es)) (sym last.2) (sound_without_key c last.0.0 s)
]

-- a new key in front, once there is room
pub sound_put : (c : CacheState) (k : Key) (b : List ℕ) → IsValidCache c → 0 < c.capacity → cached c k ≡ None
    → length b ≡ block_len_of c.geometry → IsValidCache (with_entries c ((k, b) ∷ with_room c))
sound_put c k b s some absent len = elim (room_cases c s.fits s.distinct) [
  | inl as_is ↦
      let len_is : length (with_room c) ≡ length c.entries = ap length as_is in
      subst (λ es. IsValidCache (with_entries c ((k, b) ∷ es))) (sym as_is)
      (sound_front c k b s (omega (arith, len_is, length-take (c.capacity - 1) c.entries)) absent len)
  | inr last ↦
      let left = with_entries c (without_key c.entries last.0.0) in
      let len_is : length (with_room c) ≡ length (without_key c.entries last.0.0) = ap length last.2 in
      subst (λ es. IsValidCache (with_entries c ((k, b) ∷ es))) (sym last.2)
      (sound_front left k b (sound_without_key c last.0.0 s)
      (omega (arith, len_is, length-take (c.capacity - 1) c.entries))
      (absent_without_key c.entries last.0.0 k s.distinct absent) len)
]

pub whole_at : (c : CacheState) (i : ℕ) (k : Key) (b : List ℕ) → IsValidCache c → slice_get c.entries i ≡ Some (k, b)
    → length b ≡ block_len_of c.geometry
whole_at c i k b s at = cached_whole c k b s (lookup_from_place key_equiv c.entries i k b s.distinct at)
