-- What a WRITE costs where no disk faults: the reads of the blocks that it covers in part and doesn't overwrite in
-- place, and the puts of those that are destaged.
use Rattle.std.proofs.Common.{◌≡◌, ℕ, ◌≤◌, ◌||◌, Bool, true, false, Option, Some, None, is_some}
use Rattle.std.proofs.Common.{List, [], ◌∷◌, ◌++◌, refl, sym, ap, ◌∙◌, arith}
use Rattle.std.proofs.lemmas.List.{append-nil, append_assoc}
use Rattle.std.proofs.lemmas.Option.{none-some}
use Rattle.ar_disks.specs.declared.address.Addr.{Addr}
use Rattle.ar_disks.specs.declared.address.Key.{Key}
use Rattle.ar_disks.specs.declared.geometry.Geometry.{Geometry}
use Rattle.ar_extents.specs.declared.log.RowAccess.{RowAccess}
use Rattle.ar_extents.specs.Set.{SetState, faults_of}
use Rattle.ar_extents.specs.Plans.{NoneFaults, planned}
use Rattle.ar_extents.proofs.Plans.{planned_made}
use Rattle.ar_store.specs.Store.{StoreState}
use Rattle.ar_store.specs.Plans.{put_plan}
use Rattle.ar_cache.specs.Backing.{InTurn}
use Rattle.ar_cache.specs.Cache.{cached}
use Rattle.ar_volume.specs.Following.{PutsStored}
use Rattle.ar_volume.specs.Image.{ArrayState, geometry_of}
use Rattle.ar_volume.specs.Sectors.{keys_in}
use Rattle.ar_volume.specs.Storing.{ReadsBlock, PutsBlock, ForcesBlock, Overwrites, Replaces, StoresBlocks, destaged}
use Rattle.ar_volume.specs.Storing.{in_place_at, is_whole}
use Rattle.ar_core.specs.Costs.{block_reads}
use Rattle.ar_core.specs.WriteCosts.{MakesInTurn, PutMakes, BlockReadMakes, BlockPutMakes, OverwriteMakes, ForceMakes}
use Rattle.ar_core.specs.WriteCosts.{WriteMakes, CostsExactly}
use Rattle.ar_core.proofs.Costs.{calm_health, faults_grow, leaves, one_logged, one_health}

-- fault counts don't fall
abbrev pub Grow : SetState → SetState → Type 0
Grow a b = (d : ℕ) → faults_of a d ≤ faults_of b d

same_grow : (a b : SetState) → b ≡ a → Grow a b
same_grow a b same d = let n = ap (λ (s : SetState). faults_of s d) same in omega arith

grow_then : (a b c : SetState) → Grow a b → Grow b c → Grow a c
grow_then a b c first last d = let n = first d in let m = last d in omega arith

pub calm_first : (a b c : SetState) → Grow a b → Grow b c → NoneFaults a c → NoneFaults a b
calm_first a b c first last none =
    record { faults = λ d. let n = first d in let m = last d in let all = none.faults d in omega arith }

pub calm_last : (a b c : SetState) → Grow a b → Grow b c → NoneFaults a c → NoneFaults b c
calm_last a b c first last none =
    record { faults = λ d. let n = first d in let m = last d in let all = none.faults d in omega arith }

no_costs : (a b : SetState) → b ≡ a → CostsExactly (λ made. made ≡ []) a b
no_costs a b same = record {
  made = [];
  is_made = refl;
  log = ap (λ (s : SetState). s.log) same ∙ sym (append-nil a.log);
  health = ap (λ (s : SetState). s.health) same;
}

-- Steps of one kind, and what each costs.
module _ (S X : Type 0) (disks : S → SetState) (step : S → X → S → Type 0) (makes : S → X → S → List RowAccess → Type 0)
    (grow : (s : S) (x : X) (t : S) → step s x t → Grow (disks s) (disks t))
    (cost : (s : S) (x : X) (t : S) → step s x t → NoneFaults (disks s) (disks t)
    → CostsExactly (makes s x t) (disks s) (disks t)) where
  pub turns_grow : (xs : List X) (a b : S) → InTurn step xs a b → Grow (disks a) (disks b)
  turns_grow [] a b same = same_grow (disks a) (disks b) (ap disks same)
  turns_grow (x ∷ rest) a b turns =
      grow_then (disks a) (disks turns.0) (disks b) (grow a x turns.0 turns.1) (turns_grow rest turns.0 b turns.2)

  pub turns_cost : (xs : List X) (a b : S) → InTurn step xs a b → NoneFaults (disks a) (disks b)
      → CostsExactly (MakesInTurn makes xs a b) (disks a) (disks b)
  turns_cost [] a b same none =
      let nothing = no_costs (disks a) (disks b) (ap disks same) in
      record { made = nothing.made; is_made = (same, nothing.is_made); log = nothing.log; health = nothing.health }
  turns_cost (x ∷ rest) a b turns none =
      let mid = turns.0 in
      let here = grow a x mid turns.1 in
      let later = turns_grow rest mid b turns.2 in
      let first = cost a x mid turns.1 (calm_first (disks a) (disks mid) (disks b) here later none) in
      let last = turns_cost rest mid b turns.2 (calm_last (disks a) (disks mid) (disks b) here later none) in
      record {
        made = first.made ++ last.made;
        is_made = (mid, first.made, last.made, first.is_made, last.is_made, refl);
        log = last.log ∙ ap (λ l. l ++ last.made) first.log ∙ append_assoc (disks a).log first.made last.made;
        health = last.health ∙ first.health;
      }

-- one put of a block into the store
pub put_grows : (a : StoreState) (k : Key) (b : StoreState) → PutsStored a k b → Grow a.disks b.disks
put_grows a k b put = faults_grow (put_plan a k) a.disks b.disks put.plan.plan

pub put_costs : (a : StoreState) (k : Key) (b : StoreState) → PutsStored a k b → NoneFaults a.disks b.disks
    → CostsExactly (PutMakes a k b) a.disks b.disks
put_costs a k b put none =
    let health = calm_health (put_plan a k) a.disks b.disks put.plan.plan none in
    record {
      made = planned (put_plan a k) a.disks.health;
      is_made = record { put = put; made_is = refl; health = health };
      log = planned_made (put_plan a k) a.disks b.disks put.plan.plan none;
      health = health;
    }

-- puts of blocks into the store, in order
abbrev pub store_disks : StoreState → SetState
store_disks s = s.disks

puts_grow : (keys : List Key) (a b : StoreState) → InTurn PutsStored keys a b → Grow a.disks b.disks
puts_grow keys a b puts = turns_grow StoreState Key store_disks PutsStored PutMakes put_grows put_costs keys a b puts

pub puts_cost : (keys : List Key) (a b : StoreState) → InTurn PutsStored keys a b → NoneFaults a.disks b.disks
    → CostsExactly (MakesInTurn PutMakes keys a b) a.disks b.disks
puts_cost keys a b puts none =
    turns_cost StoreState Key store_disks PutsStored PutMakes put_grows put_costs keys a b puts none

-- one put of a block through the cache
pub block_grows : (a : ArrayState) (k : Key) (b : ArrayState) → PutsBlock a k b → Grow a.store.disks b.store.disks
block_grows a k b put = puts_grow (destaged a.cache k b.cache) a.store b.store put.stored

pub block_costs : (a : ArrayState) (k : Key) (b : ArrayState) → PutsBlock a k b → NoneFaults a.store.disks b.store.disks
    → CostsExactly (BlockPutMakes a k b) a.store.disks b.store.disks
block_costs a k b put none =
    let all = puts_cost (destaged a.cache k b.cache) a.store b.store put.stored none in
    record {
      made = all.made;
      is_made = record { put = put; destages = all.is_made };
      log = all.log;
      health = all.health;
    }

-- one read
read_costs : (a : ArrayState) (k : Key) (b : ArrayState) → ReadsBlock a k b → NoneFaults a.store.disks b.store.disks
    → CostsExactly (BlockReadMakes a k b) a.store.disks b.store.disks
read_costs a k b read none =
    let health = one_health a b k (cached a.cache k) refl read none in
    record {
      made = block_reads a k;
      is_made = record { read = read; made_is = refl; health = health };
      log = one_logged a b k (cached a.cache k) refl read none;
      health = health;
    }

-- one block that is overwritten
replace_grows : (direct : Bool) (a : ArrayState) (k : Key) (b : ArrayState) → Replaces ReadsBlock PutsBlock direct a k b
    → Grow a.store.disks b.store.disks
replace_grows true a k b put = block_grows a k b put
replace_grows false a k b both =
    grow_then a.store.disks both.0.store.disks b.store.disks (leaves a both.0 k both.1).faults
    (block_grows both.0 k b both.2)

replace_costs : (direct : Bool) (a : ArrayState) (k : Key) (b : ArrayState) → Replaces ReadsBlock PutsBlock direct a k b
    → NoneFaults a.store.disks b.store.disks
    → CostsExactly (OverwriteMakes direct a k b) a.store.disks b.store.disks
replace_costs true a k b put none = block_costs a k b put none
replace_costs false a k b both none =
    let mid = both.0 in
    let here = (leaves a mid k both.1).faults in
    let later = block_grows mid k b both.2 in
    let first = read_costs a k mid both.1 (calm_first a.store.disks mid.store.disks b.store.disks here later none) in
    let last = block_costs mid k b both.2 (calm_last a.store.disks mid.store.disks b.store.disks here later none) in
    record {
      made = first.made ++ last.made;
      is_made = (mid, first.made, last.made, first.is_made, last.is_made, refl);
      log = last.log ∙ ap (λ l. l ++ last.made) first.log ∙ append_assoc a.store.disks.log first.made last.made;
      health = last.health ∙ first.health;
    }

-- one block that is forced
force_grows_at : (o : Option (List ℕ)) (a : ArrayState) (k : Key) (b : ArrayState) → cached a.cache k ≡ o
    → ForcesBlock a k b → Grow a.store.disks b.store.disks
force_grows_at None a k b is force =
    same_grow a.store.disks b.store.disks (ap (λ (s : StoreState). s.disks) (force.absent is))
force_grows_at (Some block) a k b is force = put_grows a.store k b.store (force.put (ap is_some is))

pub force_grows : (a : ArrayState) (k : Key) (b : ArrayState) → ForcesBlock a k b → Grow a.store.disks b.store.disks
force_grows a k b force = force_grows_at (cached a.cache k) a k b refl force

force_costs_at : (o : Option (List ℕ)) (a : ArrayState) (k : Key) (b : ArrayState) → cached a.cache k ≡ o
    → ForcesBlock a k b
    → NoneFaults a.store.disks b.store.disks → CostsExactly (ForceMakes a k b) a.store.disks b.store.disks
force_costs_at None a k b is force none =
    let same : b.store.disks ≡ a.store.disks = ap (λ (s : StoreState). s.disks) (force.absent is) in
    record {
      made = [];
      is_made = record {
        force = force;
        present = λ some. absurd (let clash : true ≡ false = sym some ∙ ap is_some is in cc);
        absent = λ _. refl;
      };
      log = ap (λ (s : SetState). s.log) same ∙ sym (append-nil a.store.disks.log);
      health = ap (λ (s : SetState). s.health) same;
    }
force_costs_at (Some block) a k b is force none =
    let put = put_costs a.store k b.store (force.put (ap is_some is)) none in
    record {
      made = put.made;
      is_made = record {
        force = force;
        present = λ _. put.is_made;
        absent = λ absent. absurd (none-some block (sym absent ∙ is));
      };
      log = put.log;
      health = put.health;
    }

pub force_costs : (a : ArrayState) (k : Key) (b : ArrayState) → ForcesBlock a k b
    → NoneFaults a.store.disks b.store.disks
    → CostsExactly (ForceMakes a k b) a.store.disks b.store.disks
force_costs a k b force none = force_costs_at (cached a.cache k) a k b refl force none

abbrev pub array_disks : ArrayState → SetState
array_disks s = s.store.disks

module _ (g : Geometry) (lba count : ℕ) where
  abbrev Overwrites_here : ArrayState → Key → ArrayState → Type 0
  Overwrites_here a k b = Overwrites ReadsBlock PutsBlock in_place_at g lba count a k b

  abbrev Makes_here : ArrayState → Key → ArrayState → List RowAccess → Type 0
  Makes_here a k b made = OverwriteMakes (is_whole g lba count k || in_place_at a k) a k b made

  over_grows : (a : ArrayState) (k : Key) (b : ArrayState) → Overwrites_here a k b → Grow a.store.disks b.store.disks
  over_grows a k b over = replace_grows (is_whole g lba count k || in_place_at a k) a k b over

  over_costs : (a : ArrayState) (k : Key) (b : ArrayState) → Overwrites_here a k b
      → NoneFaults a.store.disks b.store.disks
      → CostsExactly (Makes_here a k b) a.store.disks b.store.disks
  over_costs a k b over none = replace_costs (is_whole g lba count k || in_place_at a k) a k b over none

  -- the blocks that are overwritten, in order
  pub blocks_grow : (keys : List Key) (a b : ArrayState) → InTurn Overwrites_here keys a b
      → Grow a.store.disks b.store.disks
  blocks_grow keys a b turns =
      turns_grow ArrayState Key array_disks Overwrites_here Makes_here over_grows over_costs keys a b turns

  pub blocks_cost : (keys : List Key) (a b : ArrayState) → InTurn Overwrites_here keys a b
      → NoneFaults a.store.disks b.store.disks
      → CostsExactly (MakesInTurn Makes_here keys a b) a.store.disks b.store.disks
  blocks_cost keys a b turns none =
      turns_cost ArrayState Key array_disks Overwrites_here Makes_here over_grows over_costs keys a b turns none

pub forced_grow : (keys : List Key) (a b : ArrayState) → InTurn ForcesBlock keys a b → Grow a.store.disks b.store.disks
forced_grow keys a b turns =
    turns_grow ArrayState Key array_disks ForcesBlock ForceMakes force_grows force_costs keys a b turns

pub forced_cost : (keys : List Key) (a b : ArrayState) → InTurn ForcesBlock keys a b
    → NoneFaults a.store.disks b.store.disks
    → CostsExactly (MakesInTurn ForceMakes keys a b) a.store.disks b.store.disks
forced_cost keys a b turns none =
    turns_cost ArrayState Key array_disks ForcesBlock ForceMakes force_grows force_costs keys a b turns none

-- a whole WRITE
pub write_accounted : (addr : Addr) (lba count : ℕ) (fua : Bool) (old new : ArrayState)
    → StoresBlocks addr lba count fua old new
    → NoneFaults old.store.disks new.store.disks
    → CostsExactly (WriteMakes addr lba count fua old new) old.store.disks new.store.disks
write_accounted addr lba count false old new stores none =
    let all = blocks_cost (geometry_of old) lba count (keys_in (geometry_of old) addr lba count) old new stores none in
    record { made = all.made; is_made = all.is_made; log = all.log; health = all.health }
write_accounted addr lba count true old new stores none =
    let g = geometry_of old in
    let keys = keys_in g addr lba count in
    let put = stores.0 in
    let here = blocks_grow g lba count keys old put stores.1 in
    let later = forced_grow keys put new stores.2 in
    let first = blocks_cost g lba count keys old put stores.1
    (calm_first old.store.disks put.store.disks new.store.disks here later none) in
    let last = forced_cost keys put new stores.2
    (calm_last old.store.disks put.store.disks new.store.disks here later none) in
    record {
      made = first.made ++ last.made;
      is_made = (put, first.made, last.made, first.is_made, last.is_made, refl);
      log = last.log ∙ ap (λ l. l ++ last.made) first.log ∙ append_assoc old.store.disks.log first.made last.made;
      health = last.health ∙ first.health;
    }
