-- What a WRITE costs in numbers, while all disks are present and nothing is cached: each of its blocks is one put.
use Rattle.std.proofs.Common.{◌≡◌, inl, inr, ℕ, zero, suc, ◌-◌, ◌<◌, ◌≤◌, ◌==◌, ◌&&◌, ◌||◌, Bool}
use Rattle.std.proofs.Common.{true, false, if◌then◌else◌, Option, None, is_some, List, [], ◌∷◌, ◌++◌, length, take}
use Rattle.std.proofs.Common.{refl, sym, ap, subst, ◌∙◌, arith}
use Rattle.std.specs.Prelude.{All, nat_lt, slice_index_or}
use Rattle.std.specs.Map.{lookup}
use Rattle.ar_disks.specs.declared.address.Addr.{Addr}
use Rattle.ar_disks.specs.declared.address.Key.{Key}
use Rattle.ar_disks.specs.declared.geometry.Geometry.{Geometry}
use Rattle.ar_extents.specs.declared.health.Health.TheVariants.{Whole}
use Rattle.ar_extents.specs.declared.log.AccessKind.{AccessKind}
use Rattle.ar_extents.specs.declared.log.AccessKind.TheVariants.{Read, Write}
use Rattle.ar_extents.specs.Plans.{NoneFaults}
use Rattle.ar_book.specs.declared.class.Class.TheVariants.{Mirrored}
use Rattle.ar_book.specs.declared.class.Level.{Level}
use Rattle.ar_book.specs.declared.class.Level.TheVariants.{Mirrored as MirroredLevel, Parity as ParityLevel}
use Rattle.ar_book.specs.Tables.{Tables, level, free_groups}
use Rattle.ar_book.specs.Changes.{stamped}
use Rattle.ar_book.proofs.AfterStamp.{stamped_level}
use Rattle.ar_store.specs.Store.{StoreState}
use Rattle.ar_store.specs.Placing.{HasNoHole, after_put, case_level, is_in_place_at, is_put_in_place}
use Rattle.ar_store.specs.Placing.{BySqueeze, InPlace}
use Rattle.ar_store.specs.Plans.{MakesAccesses}
use Rattle.ar_store.proofs.Gaps.{lacks_of}
use Rattle.ar_store.proofs.PutCosts.{put_to_mirrored, put_to_parity}
use Rattle.ar_store.proofs.SqueezeCosts.{made_none, made_then}
use Rattle.ar_store.proofs.Ways.{in_place_case, stamped_in_place}
use Rattle.ar_cache.specs.Backing.{InTurn}
use Rattle.ar_cache.specs.Cache.{CacheState, same_key, cached, with_room, without_key, last_keys}
use Rattle.ar_cache.specs.Cache.{giving_way, pushed_out, put_through}
use Rattle.ar_volume.specs.Following.{PutsStored}
use Rattle.ar_volume.specs.Image.{ArrayState, geometry_of, seen_at}
use Rattle.ar_volume.specs.Sectors.{keys_in}
use Rattle.ar_volume.specs.Storing.{ReadsBlock, PutsBlock, ForcesBlock, Overwrites, Replaces, StoresBlocks, destaged}
use Rattle.ar_volume.specs.Storing.{in_place_at, is_whole}
use Rattle.ar_core.specs.WriteCosts.{for_each, WritesThrough, AreMirrored, StayAtParity}
use Rattle.ar_core.proofs.WriteCosts.{calm_first, calm_last, block_grows, block_costs, blocks_grow, forced_grow}

none_cached : (c : CacheState) (k : Key) → c.entries ≡ [] → cached c k ≡ None
none_cached c k empty = ap (λ (es : List (Key × List ℕ)). lookup (same_key k) es) empty

take_none : (n : ℕ) (es : List (Key × List ℕ)) → es ≡ [] → take n es ≡ []
take_none n es empty = ap (λ l. take n l) empty ∙ by n
  where
    by : (m : ℕ) → take m (let l : List (Key × List ℕ) = [] in l) ≡ []
    by zero = refl
    by (suc m) = refl

either_none : (b : Bool) → (if b then (let l : List Key = [] in l) else []) ≡ []
either_none true = refl
either_none false = refl

-- nothing is evicted
none_pushed : (c : CacheState) (k : Key) → c.entries ≡ [] → pushed_out c k ≡ []
none_pushed c k empty =
    ap (λ (o : Option (List ℕ)). if is_some o then (let l : List Key = [] in l) else giving_way c)
    (none_cached c k empty)
    ∙ ap (λ (es : List (Key × List ℕ)). if nat_lt (length es)
    c.capacity then (let l : List Key = [] in l) else last_keys es) empty
    ∙ either_none (nat_lt 0 c.capacity)

-- the block itself is written through
one_destaged : (old new : CacheState) (k : Key) → old.entries ≡ [] → new.entries ≡ [] → destaged old k new ≡ k ∷ []
one_destaged old new k before after =
    ap (λ l. l ++ put_through new k) (none_pushed old k before)
    ∙ ap (λ (o : Option (List ℕ)). if is_some o then (let l : List Key = [] in l) else (k ∷ []))
    (none_cached new k after)

-- nothing is cached by a put
stays_empty : (a : ArrayState) (k : Key) (b : ArrayState) → WritesThrough a → PutsBlock a k b
    → (b.cache.entries ≡ []) × (b.cache.capacity ≡ 0)
stays_empty a k b through put = elim (put.absent (none_cached a.cache k through.empty)) [
  | inl taken ↦ absurd (
      let P : CacheState → Type 0 = λ c. length c.entries ≤ c.capacity in
      let fits : length ((k, seen_at b k) ∷ with_room a.cache) ≤ a.cache.capacity = subst P taken put.fits in
      let none = through.capacity in
      omega arith)
  | inr left ↦ (
    ap (λ (c : CacheState). c.entries) left ∙ take_none (a.cache.capacity - 1) a.cache.entries through.empty,
    ap (λ (c : CacheState). c.capacity) left ∙ through.capacity,
  )
]

one_put : (a : ArrayState) (k : Key) (b : ArrayState) → WritesThrough a → PutsBlock a k b → PutsStored a.store k b.store
one_put a k b through put =
    let empty = (stays_empty a k b through put).0 in
    let puts = subst (λ ks. InTurn PutsStored ks a.store b.store) (one_destaged a.cache b.cache k through.empty empty)
    put.stored in
    subst (λ (s : StoreState). PutsStored a.store k s) (sym puts.2) puts.1

still_through : (a : ArrayState) (k : Key) (b : ArrayState) → WritesThrough a → PutsBlock a k b
    → NoneFaults a.store.disks b.store.disks → WritesThrough b
still_through a k b through put none =
    let empty = stays_empty a k b through put in
    record { healthy = (block_costs a k b put none).health ∙ through.healthy; capacity = empty.1; empty = empty.0 }

-- Puts without a read before them that leave the tables but for the block's stamp, and cost the same each.
module _ (P : Tables → Key → Type 0) (kinds : List AccessKind)
    (stamps : (t : Tables) (k : Key) (new : Tables) → P t k → new ≡ after_put t k → new ≡ stamped t k)
    (stays : (t : Tables) (k j : Key) → P t j → P (stamped t k) j)
    (makes : (a b : StoreState) (k : Key) → a.disks.health ≡ Whole → NoneFaults a.disks b.disks → P a.book k
    → PutsStored a k b
    → MakesAccesses kinds a.disks b.disks) where
  all_stay : (keys : List Key) (a b : StoreState) (k : Key) → P a.book k → PutsStored a k b → All (P a.book) keys
      → All (P b.book) keys
  all_stay keys a b k this put all = λ i d lt.
      subst (λ (t : Tables). P t (slice_index_or keys i d)) (sym (stamps a.book k b.book this put.tables))
      (stays a.book k (slice_index_or keys i d) (all i d lt))

  -- no block with P is read before it is put
  abbrev AreDirect : Geometry → ℕ → ℕ → Type 0
  AreDirect g lba count =
      (a : ArrayState) (k : Key) → WritesThrough a → P a.store.book k → is_whole g lba count k || in_place_at a k ≡ true

  through_turns : (g : Geometry) (lba count : ℕ) → AreDirect g lba count → (keys : List Key) (a b : ArrayState)
      → WritesThrough a → All (P a.store.book) keys
      → InTurn (Overwrites ReadsBlock PutsBlock in_place_at g lba count) keys a b
      → NoneFaults a.store.disks b.store.disks
      → MakesAccesses (for_each keys kinds) a.store.disks b.store.disks × WritesThrough b
  through_turns g lba count direct [] a b through all same none =
      let P_same : ArrayState → Type 0 = λ s. MakesAccesses [] a.store.disks s.store.disks × WritesThrough s in
      subst P_same (sym same) (made_none a.store.disks, through)
  through_turns g lba count direct (k ∷ rest) a b through all turns none =
      let mid = turns.0 in
      let this : P a.store.book k = all 0 k (omega arith) in
      let is = direct a k through this in
      let put : PutsBlock a k mid = subst (λ (w : Bool). Replaces ReadsBlock PutsBlock w a k mid) is turns.1 in
      let here = block_grows a k mid put in
      let later = blocks_grow g lba count rest mid b turns.2 in
      let calm = calm_first a.store.disks mid.store.disks b.store.disks here later none in
      let stored = one_put a k mid through put in
      let next = still_through a k mid through put calm in
      let rest_all : All (P a.store.book) rest = λ i d lt. all (suc i) d (omega arith) in
      let last = through_turns g lba count direct rest mid b next
      (all_stay rest a.store mid.store k this stored rest_all) turns.2
      (calm_last a.store.disks mid.store.disks b.store.disks here later none) in (
        made_then kinds (for_each rest kinds) a.store.disks mid.store.disks b.store.disks
            (makes a.store mid.store k through.healthy calm this stored) last.0,
        last.1,
      )

  -- nothing is cached, so nothing is forced
  none_forced : (keys : List Key) (a b : ArrayState) → WritesThrough a → InTurn ForcesBlock keys a b → b.store ≡ a.store
  none_forced [] a b through same = ap (λ (s : ArrayState). s.store) same
  none_forced (k ∷ rest) a b through turns =
      let mid = turns.0 in
      let force = turns.1 in
      let same = force.absent (none_cached a.cache k through.empty) in
      let next : WritesThrough mid = record {
        healthy = ap (λ (s : StoreState). s.disks.health) same ∙ through.healthy;
        capacity = ap (λ (c : CacheState). c.capacity) force.entries ∙ through.capacity;
        empty = ap (λ (c : CacheState). c.entries) force.entries
            ∙ ap (λ (es : List (Key × List ℕ)). without_key es k) through.empty;
      } in
      none_forced rest mid b next turns.2 ∙ same

  through_write : (addr : Addr) (lba count : ℕ) (fua : Bool) (old new : ArrayState)
      → AreDirect (geometry_of old) lba count → StoresBlocks addr lba count fua old new
      → NoneFaults old.store.disks new.store.disks → WritesThrough old
      → All (P old.store.book) (keys_in (geometry_of old) addr lba count)
      → MakesAccesses (for_each (keys_in (geometry_of old) addr lba count) kinds) old.store.disks new.store.disks
  through_write addr lba count false old new direct stores none through all =
      (through_turns (geometry_of old) lba count direct (keys_in (geometry_of old) addr lba count) old new through all
      stores none).0
  through_write addr lba count true old new direct stores none through all =
      let keys = keys_in (geometry_of old) addr lba count in
      let put = stores.0 in
      let here = blocks_grow (geometry_of old) lba count keys old put stores.1 in
      let later = forced_grow keys put new stores.2 in
      let first = through_turns (geometry_of old) lba count direct keys old put through all stores.1
      (calm_first old.store.disks put.store.disks new.store.disks here later none) in
      subst (λ (s : StoreState). MakesAccesses (for_each keys kinds) old.store.disks s.disks)
      (sym (none_forced keys put new first.1 stores.2)) first.0

either_true : (b : Bool) → b || true ≡ true
either_true true = refl
either_true false = refl

-- a block that a put overwrites in place is so in part where nothing can be cached
through_in_place : (a : ArrayState) (k : Key) → WritesThrough a → is_put_in_place a.store.book k ≡ true
    → in_place_at a k ≡ true
through_in_place a k through is = ap (λ n. (n == 0) && is_put_in_place a.store.book k) through.capacity ∙ is

-- and so is a mirrored one, which a put overwrites in place
high_in_place : (t : Tables) (k : Key) → level t k ≡ MirroredLevel → is_put_in_place t k ≡ true
high_in_place t k at = ap (λ (l : Level). is_in_place_at l t) at

mirrored_in_place : (a : ArrayState) (k : Key) → WritesThrough a → level a.store.book k ≡ MirroredLevel
    → in_place_at a k ≡ true
mirrored_in_place a k through at =
    through_in_place a k through (high_in_place a.store.book k at)

-- mirrored blocks stay mirrored, and each costs two writes, whether it is given whole or in part
pub mirrored_write : (addr : Addr) (lba count : ℕ) (fua : Bool) (old new : ArrayState)
    → StoresBlocks addr lba count fua old new
    → NoneFaults old.store.disks new.store.disks → WritesThrough old
    → AreMirrored old.store.book (keys_in (geometry_of old) addr lba count)
    → MakesAccesses (for_each (keys_in (geometry_of old) addr lba count) (Write ∷ Write ∷ [])) old.store.disks
    new.store.disks
mirrored_write addr lba count fua old new =
    through_write (λ t k. level t k ≡ MirroredLevel) (Write ∷ Write ∷ [])
    (λ t k new at puts. puts ∙ stamped_in_place t k (high_in_place t k at))
    (λ t k j at. stamped_level t k j ∙ at)
    (λ a b k whole none at put. put_to_mirrored a b k none put.plan.plan whole
    (ap (case_level a.book k) (in_place_case a.book k (high_in_place a.book k at)) ∙ at))
    addr lba count fua old new
    (λ a k through at. ap (λ b. is_whole (geometry_of old) lba count k || b) (mirrored_in_place a k through at)
    ∙ either_true (is_whole (geometry_of old) lba count k))

-- the block is at the parity level, and there is no mirrored slot for it
record StaysLow (t : Tables) (k : Key) : Type 0 where
  at_level : level t k ≡ ParityLevel
  none : HasNoHole t Mirrored
  few : free_groups t < 2

low_in_place : (t : Tables) (k : Key) → StaysLow t k → is_put_in_place t k ≡ true
low_in_place t k low = ap (λ (l : Level). is_in_place_at l t) low.at_level ∙ lacks_of t low.none low.few

stamped_none : (t : Tables) (k : Key) → HasNoHole t Mirrored → HasNoHole (stamped t k) Mirrored
stamped_none t k none = record {
  none = λ s hole. none.none s
      (record { group = hole.group; class = hole.class; slot = hole.slot; empty = hole.empty });
}

pub parity_write : (addr : Addr) (lba count : ℕ) (fua : Bool) (old new : ArrayState)
    → StoresBlocks addr lba count fua old new
    → NoneFaults old.store.disks new.store.disks → WritesThrough old
    → StayAtParity old.store.book (keys_in (geometry_of old) addr lba count)
    → MakesAccesses (for_each (keys_in (geometry_of old) addr lba count) (Read ∷ Read ∷ Write ∷ Write ∷ []))
    old.store.disks new.store.disks
parity_write addr lba count fua old new stores calm through stay =
    through_write StaysLow (Read ∷ Read ∷ Write ∷ Write ∷ [])
    (λ t k new low puts. puts ∙ stamped_in_place t k (low_in_place t k low))
    (λ t k j low. record {
      at_level = stamped_level t k j
          ∙ low.at_level;
      none = stamped_none t k low.none;
      few = low.few;
    })
    (λ a b k healthy none low put.
    let is = in_place_case a.book k (low_in_place a.book k low) in
    put_to_parity a b k none put.plan.plan healthy (ap (case_level a.book k) is ∙ low.at_level)
    (λ squeeze. (let clash : InPlace ≡ BySqueeze = sym is ∙ squeeze in cc)))
    addr lba count fua old new
    (λ a k through low. ap (λ b. is_whole (geometry_of old) lba count k || b)
    (through_in_place a k through (low_in_place a.store.book k low))
    ∙ either_true (is_whole (geometry_of old) lba count k)) stores calm through
    (λ i d lt. record {
      at_level = stay.at_level i d lt;
      none = stay.none;
      few = stay.few;
    })
