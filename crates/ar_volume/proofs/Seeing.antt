-- What is seen under keys, and what calls of the store and of the cache leave of it.
use Rattle.std.proofs.Common.{◌≡◌, ◌↔◌, ℕ, ◌/◌, ◌<◌, ◌≤◌, Bool, true, false, nat_lt, IsTrue, is_some, List, []}
use Rattle.std.proofs.Common.{length, Option, None, Some, option_map, MatchOption, Result, Ok, Err, OnOk}
use Rattle.std.proofs.Common.{OnErr, refl, sym, ap, subst, ◌∙◌, inl, inr, true≢false, length-append, arith}
use Rattle.std.specs.Option.{unwrap_or}
use Rattle.std.specs.Map.{lookup}
use Rattle.std.specs.Result.{is_ok}
use Rattle.std.proofs.lemmas.Bool.{ltb-true, lt-ltb}
use Rattle.ar_disks.specs.declared.address.Addr.{Addr}
use Rattle.ar_disks.specs.declared.address.Key.{Key}
use Rattle.ar_disks.specs.declared.geometry.Geometry.{Geometry}
use Rattle.ar_disks.specs.Disk.{DiskState}
use Rattle.ar_disks.specs.Geometry.{sectors_of, block_len_of}
use Rattle.ar_extents.specs.declared.health.Health.{Health}
use Rattle.ar_extents.specs.declared.health.Health.TheVariants.{Whole, Out, Rebuilding, Broken as AllBroken}
use Rattle.ar_disks.specs.declared.completion.Completion.{Completion}
use Rattle.ar_disks.specs.declared.completion.Completion.TheVariants.{Done, Broken as NotDone}
use Rattle.ar_extents.specs.Set.{SetState}
use Rattle.ar_extents.specs.Changes.{is_broken_set, started}
use Rattle.ar_extents.specs.Groups.{outcome_of}
use Rattle.ar_extents.proofs.Losses.{stays_broken}
use Rattle.ar_book.specs.declared.class.Slot.{Slot}
use Rattle.ar_disks.specs.Addresses.{same_addr}
use Rattle.ar_book.specs.Tables.{Tables, UnitTableState, no_unit, has_unit, home_in, unit_in, blocks_of}
use Rattle.ar_book.specs.Changes.{made, grown, unmarked, dropped}
use Rattle.ar_book.specs.Refusals.{unit_make_refusal, unit_grow_refusal}
use Rattle.ar_book.specs.Book.{TablesAgree}
use Rattle.ar_disks.proofs.Addresses.{addr_tells}
use Rattle.ar_book.proofs.PlaceLemmas.{unit_whole}
use Rattle.ar_book.proofs.Presence.{make_fresh, grow_there}
use Rattle.ar_book.proofs.AfterMake.{made_unit_other, grown_unit, grown_unit_other, unmarked_homes}
use Rattle.ar_book.proofs.DropLemmas.{dropped_unit_other}
use Rattle.ar_cache.specs.declared.answers.Flush.{Flush}
use Rattle.ar_cache.specs.declared.answers.Flush.TheVariants as flushes
use Rattle.ar_cache.specs.Backing.{stored, IsHonest, KeepsBacking, SameBlocks, StopsInTurn, WritesKey}
use Rattle.ar_cache.specs.Cache.{CacheState, IsValidCache, Sees, SameReads, Flushes, Destages, IsPut, answer_of, cached}
use Rattle.ar_cache.specs.Cache.{last_keys, same_key, seen, with_entries}
use Rattle.ar_cache.proofs.Sound.{cached_whole}
use Rattle.ar_cache.proofs.Turns.{stops_seen}
use Rattle.ar_store.specs.Store.{StoreState}
use Rattle.ar_store.specs.Slots.{stands}
use Rattle.ar_store.specs.Kept.{IsSpace}
use Rattle.ar_store.specs.Placing.{SameUnits}
use Rattle.ar_store.specs.Forming.{IsStoreStarted}
use Rattle.ar_store.proofs.Changes.{units_refl}
use Rattle.ar_store.proofs.Standing.{stands_nowhere}
use Rattle.ar_store.proofs.Starting.{started_new}
use Rattle.ar_volume.specs.Sectors.{key_of, unit_block}
use Rattle.ar_volume.proofs.Images.{sector_in-zeros}
use Rattle.ar_volume.specs.Image.{ArrayState, CacheAgrees, IsPadded, geometry_of, knows_in, seen_at, unit_by}
use Rattle.ar_store.specs.Calls.{StoreFollows}
use Rattle.ar_volume.specs.Following.{PutsStored, BreaksStored}
use Rattle.ar_volume.specs.Storing.{ReadsBlock}
use Rattle.ar_store.specs.Plans.{get_plan}
use Rattle.ar_extents.proofs.Plans.{carries_broken}
use Rattle.ar_volume.specs.Seen.{IsUnit, SameSeen}
use Rattle.ar_volume.specs.Start.{IsStarted}
use Rattle.ar_volume.specs.Flush.{FlushesOne}
use Rattle.ar_volume.proofs.Breaking.{broken_is}

-- the block that is seen, by the cache and by what stands
pub seen_by : (s : ArrayState) (k : Key) → seen_at s k ≡ seen s.cache (stands s.store) k
unfolding seen_at
seen_by s k = refl

-- a block is seen as it was where it is cached as it was and stands as it did
pub seen_same : (a b : ArrayState) (k : Key) → cached b.cache k ≡ cached a.cache k → stands b.store k ≡ stands a.store k
    → seen_at b k ≡ seen_at a k
unfolding seen_at
seen_same a b k cache stand =
    ap (λ (o : Option (List ℕ)). unwrap_or o (stands b.store k)) cache
    ∙ ap (λ (x : List ℕ). unwrap_or (cached a.cache k) x) stand

-- where it isn't cached it is seen as it stands
pub seen_absent : (s : ArrayState) (k : Key) → cached s.cache k ≡ None → seen_at s k ≡ stands s.store k
unfolding seen_at
seen_absent s k absent = ap (λ (o : Option (List ℕ)). unwrap_or o (stands s.store k)) absent

-- where nothing is cached every block is seen as it stands
pub seen_empty : (s : ArrayState) → s.cache.entries ≡ [] → (k : Key) → seen_at s k ≡ stands s.store k
seen_empty s empty k = seen_absent s k (ap (λ (es : List (Key × List ℕ)). lookup (same_key k) es) empty)

-- every block is seen as it was where the cache stays and every block stands as it did
pub all_seen : (a b : ArrayState) → b.cache ≡ a.cache → ((k : Key) → stands b.store k ≡ stands a.store k) → SameSeen a b
all_seen a b cache stand = record { same = λ k. seen_same a b k (ap (λ (c : CacheState). cached c k) cache) (stand k) }

-- or where the cache says so
pub seen_kept : (a b : ArrayState) → SameReads a.cache (stands a.store) b.cache (stands b.store) → SameSeen a b
seen_kept a b kept = record { same = λ k. seen_by b k ∙ kept.same k ∙ sym (seen_by a k) }

-- a read left the cache and every block that stands: each is seen as it was
pub seen_read : (a b : ArrayState) → b.cache ≡ a.cache → SameBlocks (stands a.store) (stands b.store)
    → SameBlocks (seen_at a) (seen_at b)
seen_read a b cache stand = record { same = λ k. (all_seen a b cache stand.same).same k }

-- a block was put: it is seen, and every other one as it was
pub seen_put : (a b : ArrayState) (key : Key) (block : List ℕ)
    → Sees a.cache (stands a.store) b.cache (stands b.store) key block
    → WritesKey (seen_at a) (seen_at b) key block
seen_put a b key block sees = record {
  written = seen_by b key ∙ sees.put;
  others = λ k other. seen_by b k ∙ sees.others k other ∙ sym (seen_by a k);
}

-- a block is as long as all are where the cache is sound and what stands is
pub seen_whole : (s : ArrayState) (k : Key) → IsValidCache s.cache → s.cache.geometry ≡ geometry_of s
    → length (stands s.store k) ≡ block_len_of (geometry_of s)
    → length (seen_at s k) ≡ block_len_of (geometry_of s)
seen_whole s k sound geometry stand = by (cached s.cache k) refl
  where
    by : (o : Option (List ℕ)) → cached s.cache k ≡ o → length (seen_at s k) ≡ block_len_of (geometry_of s)
    by None is = ap (λ (x : List ℕ). length x) (seen_absent s k is) ∙ stand
    by (Some block) is =
        ap (λ (x : List ℕ). length x) (seen_by s k ∙ ap (λ (o : Option (List ℕ)). unwrap_or o (stands s.store k)) is)
        ∙ cached_whole s.cache k block sound is ∙ ap block_len_of geometry

-- a unit is what its blocks are
pub unit_same : (s : StoreState) (f g : Key → List ℕ) (addr : Addr) → ((k : Key) → f k ≡ g k)
    → unit_by s f addr ≡ unit_by s g addr
unit_same s f g addr same = ap (λ (h : Key → List ℕ). unit_by s h addr) (λ i k. same k i)

-- a call that is done left what isn't broken
pub done_reported : (b : Bool) → Done ≡ stored b → b ≡ false
done_reported true is = cc
done_reported false is = refl

pub lost_reported : (b : Bool) → NotDone ≡ stored b → b ≡ true
lost_reported true is = refl
lost_reported false is = absurd (cc)

-- a store's answer by the health that it leaves, as a cache hears it
pub heard : (h : Health) → outcome_of h ≡ stored (is_broken_set h)
heard Whole = refl
heard (Out x) = refl
heard (Rebuilding x d) = refl
heard AllBroken = refl

-- what calls of the store leave of it is what a cache asks for
pub keeps_store : {S : Type 0} (store : S → StoreState) (old new : S) → StoreFollows (store old) (store new)
    → KeepsBacking (λ s. (store s).disks.geometry) (λ s. knows_in (store s)) (λ s. is_broken_set (store s).disks.health)
    (λ a b. StoreFollows (store a) (store b)) old new
keeps_store store old new follows = record {
  same_geometry = follows.accessed.follows.geometry;
  same_keys = λ k. ap (λ n. nat_lt k.rb n) (follows.units.blocks k.addr);
  stays_broken = λ is.
      ap is_broken_set
      (stays_broken (store old).disks (store new).disks follows.accessed.follows
      (broken_is (store old).disks.health is));
  joined = follows;
}

-- a read of an array that had failed
pub read_lost : (s : ArrayState) (key : Key) → s.store.disks.health ≡ AllBroken → ReadsBlock s key s
read_lost s key broken = record {
  cache = refl;
  hit = λ _. refl;
  miss = λ _. record {
    reads = record { tables = refl; rows = record { rows = λ _ _ _. refl } };
    plan = carries_broken (get_plan s.store key) s.store.disks broken;
  };
}

-- the units stay where the book does
pub units_same : (t u : Tables) → u ≡ t → SameUnits t u
units_same t u same = subst (λ (v : Tables). SameUnits t v) (sym same) (units_refl t)

-- a flush of what wasn't broken answers Broken exactly where it is broken afterwards
pub flush_broken : (answer : Flush) (was is : Bool) → was ≡ false → IsHonest (answer_of answer) was is
    → (answer ≡ flushes.Broken) ↔ IsTrue is
flush_broken (flushes.Flushed key) was is sound honest =
    (λ e. cc, λ broken. absurd (true≢false (sym broken ∙ honest ∙ sound)))
flush_broken flushes.Idle was is sound honest = (λ e. cc, λ broken. absurd (true≢false (sym broken ∙ honest ∙ sound)))
flush_broken flushes.Broken was is sound honest = (λ e. honest, λ broken. refl)

-- and a flush that leaves what isn't broken was done
pub flush_done : (answer : Flush) (was is : Bool) → IsHonest (answer_of answer) was is → is ≡ false
    → answer_of answer ≡ Done
flush_done (flushes.Flushed key) was is honest sound = refl
flush_done flushes.Idle was is honest sound = refl
flush_done flushes.Broken was is honest sound = absurd (true≢false (sym honest ∙ sound))

-- a flush that found nothing left the cache as it was
flush_idle : (answer : Flush) (c d : CacheState) → Flushes answer c d → answer ≡ flushes.Idle → d ≡ c
flush_idle (flushes.Flushed key) c d h idle = cc
flush_idle flushes.Idle c d h idle = h
flush_idle flushes.Broken c d h idle = h

-- one put of a store that stands within something is one of the store
flush_put : {S : Type 0} (store : S → StoreState) (answer : Flush) (s n : S)
    → IsPut (λ (o : S) (key : Key) (m : S). PutsStored (store o) key (store m)) answer s n
    → IsPut PutsStored answer (store s) (store n)
flush_put store (flushes.Flushed key) s n put = put
flush_put store flushes.Idle s n put = tt
flush_put store flushes.Broken s n put = tt

-- one flush of the cache is one of the array, where that wasn't broken
pub flushed_one : {S : Type 0} (store : S → StoreState) (answer : Flush) (s n : S) (c d : CacheState)
    → is_broken_set (store s).disks.health ≡ false
    → Flushes answer c d → ((answer ≡ flushes.Idle) ↔ (c.entries ≡ []))
    → Destages answer c.entries (stands (store s)) (stands (store n))
    → IsPut (λ (o : S) (key : Key) (m : S). PutsStored (store o) key (store m)) answer s n
    → (answer ≡ flushes.Broken
    → StopsInTurn (λ (o : S) (key : Key) (m : S). PutsStored (store o) key (store m))
    (λ (o : S) (key : Key) (m : S). BreaksStored (store o) key (store m)) (last_keys c.entries) s n)
    → (answer ≡ flushes.Idle → n ≡ s)
    → IsHonest (answer_of answer) (is_broken_set (store s).disks.health) (is_broken_set (store n).disks.health)
    → StoreFollows (store s) (store n)
    → FlushesOne (record { store = store s; cache = c }) answer (record { store = store n; cache = d })
flushed_one {S} store answer s n c d sound entries idle given put stopped quiet honest follows =
    let new : ArrayState = record { store = store n; cache = d } in
    let kept = flush_idle answer c d entries in
    record {
      entries = entries;
      given = λ _. given;
      put = flush_put store answer s n put;
      stopped = λ is _. stops_seen store (λ o k m. PutsStored (store o) k (store m))
          (λ o k m. BreaksStored (store o) k (store m)) PutsStored BreaksStored (λ o m k h. h) (λ o m k h. h)
          (last_keys c.entries) s n (stopped is);
      units = follows.units;
      accessed = follows.accessed;
      idle = λ is.
          ap (λ (m : S). let made : ArrayState = record { store = store m; cache = d } in made) (quiet is)
          ∙ ap (λ (e : CacheState). let made : ArrayState = record { store = store s; cache = e } in made) (kept is);
      on_disks = λ is addr. unit_same (store n) (seen_at new) (stands (store n)) addr
          (seen_empty new (ap (λ (e : CacheState). e.entries) (kept is) ∙ idle.0 is));
      broken = flush_broken answer (is_broken_set (store s).disks.health) (is_broken_set (store n).disks.health) sound
          honest;
      unchanged = λ is. absurd (true≢false (sym is ∙ sound));
    }

-- there is a unit of the length that a look-up gives, or none where it gives none
pub unit_found : (s : ArrayState) (addr : Addr) (o : Option ℕ) → IsSpace s.store
    → o ≡ option_map (λ (u : UnitTableState). u.sectors) (lookup (same_addr addr) s.store.book.units)
    → MatchOption o (has_unit s.store.book addr ≡ false) (IsUnit s addr)
unit_found s addr o space is = by (lookup (same_addr addr) s.store.book.units) refl
  where
    by : (l : Option UnitTableState) → lookup (same_addr addr) s.store.book.units ≡ l
        → MatchOption o (has_unit s.store.book addr ≡ false) (IsUnit s addr)
    by None none =
        let P = λ (x : Option ℕ). MatchOption x (has_unit s.store.book addr ≡ false) (IsUnit s addr) in
        subst P (sym (is ∙ ap (λ (l : Option UnitTableState). option_map (λ (u : UnitTableState). u.sectors) l) none))
        (ap (λ (l : Option UnitTableState). is_some l) none)
    by (Some u) found =
        let P = λ (x : Option ℕ). MatchOption x (has_unit s.store.book addr ≡ false) (IsUnit s addr) in
        let whole = unit_whole s.store.book.geometry s.store.book.units addr space.tables.units
        (ap (λ (l : Option UnitTableState). is_some l) found) in
        let sectors : (unit_in s.store.book.units addr).sectors ≡ u.sectors =
        ap (λ (l : Option UnitTableState). (unwrap_or l no_unit).sectors) found in
        let some = whole.some in
        let few = whole.few in
        let blocks =
        whole.homes ∙ ap (λ (g : Geometry). blocks_of g (unit_in s.store.book.units addr).sectors) space.geometry
        ∙ ap (blocks_of (geometry_of s)) sectors in
        subst P (sym (is ∙ ap (λ (l : Option UnitTableState). option_map (λ (v : UnitTableState). v.sectors) l) found))
        (record {
          there = ap (λ (l : Option UnitTableState). is_some l) found;
          sectors_same = sectors;
          some = omega arith;
          few = omega arith;
          blocks = blocks;
        })

-- an address without a unit has no block
no_blocks : (o : Option UnitTableState) → is_some o ≡ false → length (unwrap_or o no_unit).homes ≡ 0
no_blocks None none = refl
no_blocks (Some u) none = absurd (true≢false none)

-- units have no fewer blocks once one is made
made_blocks : (t : Tables) (a : Addr) (n : ℕ) → unit_make_refusal t a n ≡ None → (x : Addr)
    → length (unit_in t.units x).homes ≤ length (unit_in (made t a n).units x).homes
made_blocks t a n granted x = elim (addr_tells x a) [
  | inl same ↦
      let fresh : has_unit t x ≡ false = ap (λ (b : Addr). has_unit t b) same.1 ∙ make_fresh t a n granted in
      let none : length (unit_in t.units x).homes ≡ 0 = no_blocks _ fresh in
      omega arith
  | inr other ↦
      let as_before : length (unit_in (made t a n).units x).homes ≡ length (unit_in t.units x).homes =
      ap (λ (u : UnitTableState). length u.homes) (made_unit_other t a n x other.1) in
      omega arith
]

-- nor where one grows
grown_blocks : (t : Tables) (a : Addr) (n : ℕ) → unit_grow_refusal t a n ≡ None → (x : Addr)
    → length (unit_in t.units x).homes ≤ length (unit_in (grown t a n).units x).homes
grown_blocks t a n granted x =
    let there = grow_there t a n granted in
    elim (addr_tells x a) [
      | inl same ↦
          let longer = ap (λ (u : UnitTableState). length u.homes) (grown_unit t a n there) in
          subst (λ (b : Addr). length (unit_in t.units b).homes ≤ length (unit_in (grown t a n).units b).homes)
          (sym same.1)
          (omega (arith, longer, length-append {A = Option Slot}))
      | inr other ↦
          let as_before : length (unit_in (grown t a n).units x).homes ≡ length (unit_in t.units x).homes =
          ap (λ (u : UnitTableState). length u.homes) (grown_unit_other t a n there x other.1) in
          omega arith
    ]

-- the cache still has blocks of units alone where units have no fewer blocks than they had
pub joined_more : (a b : StoreState) (c : CacheState) → b.disks.geometry ≡ a.disks.geometry
    → ((x : Addr) → length (unit_in a.book.units x).homes ≤ length (unit_in b.book.units x).homes)
    → CacheAgrees (record { store = a; cache = c }) → CacheAgrees (record { store = b; cache = c })
joined_more a b c geometry more joined = record {
  geometry = joined.geometry ∙ sym geometry;
  known = record {
    known = λ k is.
        let was : k.rb < length (unit_in a.book.units k.addr).homes =
        ltb-true k.rb (length (unit_in a.book.units k.addr).homes) (joined.known.known k is) in
        let there : k.rb < length (unit_in b.book.units k.addr).homes = omega (arith, more k.addr) in
        lt-ltb k.rb (length (unit_in b.book.units k.addr).homes) there;
  };
}

-- also where a unit was made, or nothing has changed
pub joined_made : {A E : Type 0} (r : Result A E) (a b : StoreState) (c : CacheState) (addr : Addr) (n : ℕ)
    → b.disks ≡ a.disks
    → OnOk r (unit_make_refusal a.book addr n ≡ None) → OnOk r (b.book ≡ made a.book addr n) → OnErr r (b ≡ a)
    → CacheAgrees (record { store = a; cache = c }) → CacheAgrees (record { store = b; cache = c })
joined_made (Ok x) a b c addr n disks granted is same joined =
    joined_more a b c (ap (λ (s : SetState). s.geometry) disks)
    (λ x. subst (λ (t : Tables). length (unit_in a.book.units x).homes ≤ length (unit_in t.units x).homes) (sym is)
    (made_blocks a.book addr n granted x)) joined
joined_made (Err e) a b c addr n disks granted is same joined =
    subst (λ (s : StoreState). CacheAgrees (record { store = s; cache = c })) (sym same) joined

-- or has grown, or nothing has changed
pub joined_grown : {A E : Type 0} (r : Result A E) (a b : StoreState) (c : CacheState) (addr : Addr) (n : ℕ)
    → b.disks ≡ a.disks
    → OnOk r (unit_grow_refusal a.book addr n ≡ None) → OnOk r (b.book ≡ grown a.book addr n) → OnErr r (b ≡ a)
    → CacheAgrees (record { store = a; cache = c }) → CacheAgrees (record { store = b; cache = c })
joined_grown (Ok x) a b c addr n disks granted is same joined =
    joined_more a b c (ap (λ (s : SetState). s.geometry) disks)
    (λ x. subst (λ (t : Tables). length (unit_in a.book.units x).homes ≤ length (unit_in t.units x).homes) (sym is)
    (grown_blocks a.book addr n granted x)) joined
joined_grown (Err e) a b c addr n disks granted is same joined =
    subst (λ (s : StoreState). CacheAgrees (record { store = s; cache = c })) (sym same) joined

-- or where a unit's mark was cleared
pub joined_unmarked : (a b : StoreState) (c : CacheState) (addr : Addr) → b.disks ≡ a.disks
    → b.book ≡ unmarked a.book addr
    → CacheAgrees (record { store = a; cache = c }) → CacheAgrees (record { store = b; cache = c })
joined_unmarked a b c addr disks is joined =
    joined_more a b c (ap (λ (s : SetState). s.geometry) disks)
    (λ x.
    let same : length (unit_in b.book.units x).homes ≡ length (unit_in a.book.units x).homes =
    ap (λ (t : Tables). length (unit_in t.units x).homes) is
    ∙ ap (λ (homes : List (Option Slot)). length homes) (unmarked_homes a.book addr x) in
    omega arith) joined

-- or where a unit was removed, and the cache has forgotten its blocks
pub joined_removed : (a b : StoreState) (c d : CacheState) (addr : Addr) → TablesAgree a.book → b.disks ≡ a.disks
    → b.book ≡ dropped a.book addr
    → d.geometry ≡ c.geometry → ((k : Key) → IsTrue (same_addr addr k.addr) → cached d k ≡ None)
    → ((k : Key) → same_addr addr k.addr ≡ false → cached d k ≡ cached c k)
    → CacheAgrees (record { store = a; cache = c }) → CacheAgrees (record { store = b; cache = d })
joined_removed a b c d addr ok disks is geometry gone others joined = record {
  geometry = geometry ∙ joined.geometry ∙ ap (λ (s : SetState). s.geometry) (sym disks);
  known = record {
    known = λ k there. elim (addr_tells addr k.addr) [
      | inl own ↦ absurd (true≢false (sym there ∙ ap (λ (o : Option (List ℕ)). is_some o) (gone k own.0)))
      | inr other ↦
          let blocks : length (unit_in b.book.units k.addr).homes ≡ length (unit_in a.book.units k.addr).homes =
          ap (λ (t : Tables). length (unit_in t.units k.addr).homes) is
          ∙ ap (λ (u : UnitTableState). length u.homes)
          (dropped_unit_other a.book addr ok k.addr (λ e. other.1 (sym e))) in
          ap (λ n. nat_lt k.rb n) blocks
          ∙ joined.known.known k (ap (λ (o : Option (List ℕ)). is_some o) (sym (others k other.0)) ∙ there)
    ];
  };
}

-- what holds at `Ok`, of a result that is
pub at_ok : {A E : Type 0} (r : Result A E) (P : Type 0) → true ≡ is_ok r → OnOk r P → P
at_ok (Ok x) P ok h = h
at_ok (Err e) P ok h = absurd (true≢false ok)

-- a store that begins and an empty cache of its disks' geometry, as it was read, are an array that begins
pub begun : (disks read : List DiskState) (s : StoreState) (c : CacheState) (n : ℕ) → read ≡ disks
    → c ≡ record { geometry = (started read).geometry; capacity = n; entries = [] } → IsStoreStarted disks s
    → IsStarted disks n (record { store = s; cache = c })
begun disks read s c n is empty formed =
    let new = started_new disks s formed in
    record {
      formed = formed;
      disks_same = new.disks_same;
      whole = new.health;
      no_unit = new.units;
      cache = empty
          ∙ ap (λ (g : Geometry). let made : CacheState = record { geometry = g; capacity = n; entries = [] } in made)
          (ap (λ (ds : List DiskState). (started ds).geometry) is ∙ sym new.geometry);
    }

-- it is padded, as every block is zeros
pub begun_padded : (disks : List DiskState) (n : ℕ) (s : ArrayState) → IsStarted disks n s → IsPadded s
begun_padded disks n s begins = record {
  zeros = λ now addr i past.
      sector_in-zeros (geometry_of s) (unit_block (seen_at s) addr) i
      (seen_empty s (ap (λ (c : CacheState). c.entries) begins.cache) (key_of addr (i / sectors_of (geometry_of s)))
      ∙ stands_nowhere s.store (key_of addr (i / sectors_of (geometry_of s)))
      (ap (λ (us : List (Addr × UnitTableState)). home_in us (key_of addr (i / sectors_of (geometry_of s))))
      begins.no_unit));
}

-- nothing is cached of an empty cache
pub joined_empty : (s : StoreState) (c : CacheState) → c.geometry ≡ s.disks.geometry → c.entries ≡ []
    → CacheAgrees (record { store = s; cache = c })
joined_empty s c geometry empty = record {
  geometry = geometry;
  known = record
      { known = λ k is. absurd (true≢false (sym is ∙ ap (λ es. is_some (cached (with_entries c es) k)) empty)) };
}

-- an empty cache is as it was once it has been emptied
pub emptied_same : (o : Completion) (was is : Bool) (c d : CacheState) → IsHonest o was is → was ≡ false → is ≡ was
    → (o ≡ Done → d ≡ with_entries c [])
    → c.entries ≡ [] → d ≡ c
emptied_same Done was is c d honest sound same emptied none = emptied refl ∙ ap (λ es. with_entries c es) (sym none)
emptied_same NotDone was is c d honest sound same emptied none = absurd (true≢false (sym honest ∙ same ∙ sound))
