-- What a READ costs where no disk faults: each of its blocks the reads that its home plans, if it isn't cached.
use Rattle.std.proofs.Common.{◌≡◌, ℕ, ◌≤◌, Bool, true, false, cond, Option, Some, None, is_some, List, [], ◌∷◌}
use Rattle.std.proofs.Common.{◌++◌, refl, sym, ap, ◌∙◌, arith}
use Rattle.std.proofs.lemmas.List.{append-nil, append_assoc, append_cancel_left}
use Rattle.ar_disks.specs.declared.address.Key.{Key}
use Rattle.ar_disks.specs.declared.geometry.Geometry.{Geometry}
use Rattle.ar_extents.specs.declared.health.Health.{Health}
use Rattle.ar_extents.specs.declared.log.RowAccess.{RowAccess}
use Rattle.ar_extents.specs.Set.{SetState, faults_of}
use Rattle.ar_extents.specs.Log.{health_after}
use Rattle.ar_extents.specs.Plans.{AccessPlan, Stop, Try, IfMissing, CarriesOut, NoneFaults, access_of, planned, skips}
use Rattle.ar_extents.specs.Health.{is_missing}
use Rattle.ar_extents.proofs.Plans.{accounted, planned_made}
use Rattle.ar_book.specs.declared.class.Slot.{Slot}
use Rattle.ar_book.specs.Tables.{Tables, home, group_in, class_of}
use Rattle.ar_store.specs.Store.{StoreState}
use Rattle.ar_store.specs.Plans.{slot_read, home_read, get_plan}
use Rattle.ar_cache.specs.Backing.{InTurn}
use Rattle.ar_cache.specs.Cache.{cached}
use Rattle.ar_volume.specs.Image.{ArrayState}
use Rattle.ar_volume.specs.Storing.{ReadsBlock}
use Rattle.ar_core.specs.Costs.{unless_cached, block_reads, reads_of}

-- a plan whose accesses all succeed leaves health
either_health : (k : Bool) (h : Health) (xs ys : List RowAccess) → health_after h xs ≡ h → health_after h ys ≡ h
    → health_after h (cond k xs ys) ≡ h
either_health true h xs ys one other = one
either_health false h xs ys one other = other

planned_health : (plan : AccessPlan) (h : Health) → health_after h (planned plan h) ≡ h
planned_health Stop h = refl
planned_health (Try t next other) h =
    either_health (skips h t) h (planned other h) (access_of t true ∷ planned next h) (planned_health other h)
    (planned_health next h)
planned_health (IfMissing p next other) h =
    either_health (is_missing h p.disk p.extent) h (planned next h) (planned other h) (planned_health next h)
    (planned_health other h)

pub calm_health : (plan : AccessPlan) (a b : SetState) → CarriesOut plan a b → NoneFaults a b → b.health ≡ a.health
calm_health plan a b carried none =
    let all = accounted plan a b carried in
    let same : all.made ≡ planned plan a.health =
    append_cancel_left a.log all.made (planned plan a.health) (sym all.accounts.log
    ∙ planned_made plan a b carried none) in
    all.accounts.health ∙ ap (health_after a.health) same ∙ planned_health plan a.health

pub faults_grow : (plan : AccessPlan) (a b : SetState) → CarriesOut plan a b → (d : ℕ) → faults_of a d ≤ faults_of b d
faults_grow plan a b carried d = let n = (accounted plan a b carried).accounts.faults d in omega arith

calm_geometry : (plan : AccessPlan) (a b : SetState) → CarriesOut plan a b → b.geometry ≡ a.geometry
calm_geometry plan a b carried = (accounted plan a b carried).accounts.geometry

-- the read of a home depends on tables and geometry alone
abbrev home_by : Tables → Geometry → Option Slot → AccessPlan
home_by t g None = Stop
home_by t g (Some slot) = slot_read (class_of t slot.group) g (group_in t.groups slot.group).members slot.slot

home_by_is : (s : StoreState) (h : Option Slot) → home_read s h ≡ home_by s.book s.disks.geometry h
home_by_is s None = refl
home_by_is s (Some slot) = refl

same_plan : (a b : StoreState) (k : Key) → b.book ≡ a.book → b.disks.geometry ≡ a.disks.geometry
    → get_plan b k ≡ get_plan a k
same_plan a b k tables geometry =
    home_by_is b (home b.book k)
    ∙ ap (λ (t : Tables). home_by t b.disks.geometry (home t k)) tables
    ∙ ap (λ (g : Geometry). home_by a.book g (home a.book k)) geometry
    ∙ sym (home_by_is a (home a.book k))

-- what a read of a block leaves, where it faults or not: the cache, the tables and the geometry; faults are counted up
pub record Leaves (a b : ArrayState) : Type 0 where
  pub cache : b.cache ≡ a.cache
  pub book : b.store.book ≡ a.store.book
  pub geometry : b.store.disks.geometry ≡ a.store.disks.geometry
  pub faults : (d : ℕ) → faults_of a.store.disks d ≤ faults_of b.store.disks d

leaves_at : (a b : ArrayState) (k : Key) (o : Option (List ℕ)) → cached a.cache k ≡ o → ReadsBlock a k b → Leaves a b
leaves_at a b k None is read =
    let miss = read.miss is in
    record {
      cache = read.cache;
      book = miss.reads.tables;
      geometry = calm_geometry (get_plan a.store k) a.store.disks b.store.disks miss.plan;
      faults = faults_grow (get_plan a.store k) a.store.disks b.store.disks miss.plan;
    }
leaves_at a b k (Some block) is read =
    let same = read.hit (ap is_some is) in
    record {
      cache = read.cache;
      book = ap (λ (s : StoreState). s.book) same;
      geometry = ap (λ (s : StoreState). s.disks.geometry) same;
      faults = λ d. let n = ap (λ (s : StoreState). faults_of s.disks d) same in omega arith;
    }

pub leaves : (a b : ArrayState) (k : Key) → ReadsBlock a k b → Leaves a b
leaves a b k read = leaves_at a b k (cached a.cache k) refl read

all_grow : (keys : List Key) (a b : ArrayState) → InTurn ReadsBlock keys a b → (d : ℕ)
    → faults_of a.store.disks d ≤ faults_of b.store.disks d
all_grow [] a b same d = let n = ap (λ (s : ArrayState). faults_of s.store.disks d) same in omega arith
all_grow (k ∷ rest) a b read d =
    let one = (leaves a read.0 k read.1).faults d in
    let more = all_grow rest read.0 b read.2 d in
    omega arith

-- the log and the health after the read of one block
pub one_logged : (a b : ArrayState) (k : Key) (o : Option (List ℕ)) → cached a.cache k ≡ o → ReadsBlock a k b
    → NoneFaults a.store.disks b.store.disks
    → b.store.disks.log ≡ a.store.disks.log ++ unless_cached o (planned (get_plan a.store k) a.store.disks.health)
one_logged a b k None is read none =
    planned_made (get_plan a.store k) a.store.disks b.store.disks (read.miss is).plan none
one_logged a b k (Some block) is read none =
    ap (λ (s : StoreState). s.disks.log) (read.hit (ap is_some is)) ∙ sym (append-nil a.store.disks.log)

pub one_health : (a b : ArrayState) (k : Key) (o : Option (List ℕ)) → cached a.cache k ≡ o → ReadsBlock a k b
    → NoneFaults a.store.disks b.store.disks
    → b.store.disks.health ≡ a.store.disks.health
one_health a b k None is read none =
    calm_health (get_plan a.store k) a.store.disks b.store.disks (read.miss is).plan none
one_health a b k (Some block) is read none = ap (λ (s : StoreState). s.disks.health) (read.hit (ap is_some is))

-- the reads of blocks depend on cache, tables, geometry and health alone
same_reads : (keys : List Key) (a b : ArrayState) → Leaves a b → b.store.disks.health ≡ a.store.disks.health
    → reads_of b keys ≡ reads_of a keys
same_reads [] a b kept health = refl
same_reads (k ∷ rest) a b kept health =
    let made : planned (get_plan b.store k) b.store.disks.health ≡ planned (get_plan a.store k) a.store.disks.health =
    ap (λ p. planned p b.store.disks.health) (same_plan a.store b.store k kept.book kept.geometry)
    ∙ ap (planned (get_plan a.store k)) health in
    let one : block_reads b k ≡ block_reads a k =
    ap (λ c. unless_cached (cached c k) (planned (get_plan b.store k) b.store.disks.health)) kept.cache
    ∙ ap (unless_cached (cached a.cache k)) made in
    ap (λ l. l ++ reads_of b rest) one ∙ ap (λ l. block_reads a k ++ l) (same_reads rest a b kept health)

-- blocks that were read in turn
pub reads_logged : (keys : List Key) (a b : ArrayState) → InTurn ReadsBlock keys a b
    → NoneFaults a.store.disks b.store.disks
    → b.store.disks.log ≡ a.store.disks.log ++ reads_of a keys
reads_logged [] a b same none = ap (λ (s : ArrayState). s.store.disks.log) same ∙ sym (append-nil a.store.disks.log)
reads_logged (k ∷ rest) a b read none =
    let mid = read.0 in
    let kept = leaves a mid k read.1 in
    let grown = all_grow rest mid b read.2 in
    let first : NoneFaults a.store.disks mid.store.disks =
    record { faults = λ d. let one = kept.faults d in let more = grown d in let all = none.faults d in omega arith } in
    let last : NoneFaults mid.store.disks b.store.disks =
    record { faults = λ d. let one = kept.faults d in let more = grown d in let all = none.faults d in omega arith } in
    let health = one_health a mid k (cached a.cache k) refl read.1 first in
    reads_logged rest mid b read.2 last
    ∙ ap (λ l. mid.store.disks.log ++ l) (same_reads rest a mid kept health)
    ∙ ap (λ l. l ++ reads_of a rest) (one_logged a mid k (cached a.cache k) refl read.1 first)
    ∙ append_assoc a.store.disks.log (block_reads a k) (reads_of a rest)
