-- What a demotion and a cleaning step cost where none faults, and the extents that they use are usable.
use Rattle.std.proofs.Common.{◌≡◌, ◌≢◌, inl, inr, ℕ, ◌≤◌, [], ◌∷◌, ◌++◌, Option, None, Some, refl, sym, ap, ◌∙◌}
use Rattle.std.proofs.lemmas.Bool.Decides.{eqb_tells}
use Rattle.std.proofs.lemmas.Option.{same_Some}
use Rattle.ar_disks.specs.Geometry.{rows_of}
use Rattle.ar_disks.specs.declared.address.Key.{Key}
use Rattle.ar_extents.specs.declared.health.Health.TheVariants.{Whole}
use Rattle.ar_extents.specs.declared.log.AccessKind.TheVariants.{Read, Write}
use Rattle.ar_extents.specs.Plans.{NoneFaults}
use Rattle.ar_extents.proofs.Carried.{plan_follows}
use Rattle.ar_book.specs.declared.class.Class.{Class}
use Rattle.ar_book.specs.declared.class.Class.TheVariants.{Free, Mirrored, Parity}
use Rattle.ar_book.specs.declared.class.Level.TheVariants.{Mirrored as MirroredLevel}
use Rattle.ar_book.specs.declared.class.Slot.{Slot}
use Rattle.ar_book.specs.Tables.{Tables, home, level, level_of, class_of, free_groups}
use Rattle.ar_book.specs.Changes.{opened, slot_at}
use Rattle.ar_book.specs.Book.{TablesAgree}
use Rattle.ar_book.specs.Choices.{IsLowestFree}
use Rattle.ar_book.proofs.AfterOpen.{opened_class, opened_class_other}
use Rattle.ar_book.proofs.Homes.{home_level, key_home}
use Rattle.ar_store.specs.Store.{StoreState, store_of, class_in, members_of}
use Rattle.ar_store.specs.Placing.{IsLowestHole, HasNoHole}
use Rattle.ar_store.specs.Plans.{move_plan, fill_plan, MakesAccesses, ReadsUsableOf, WritesUsableAs, fill_kinds}
use Rattle.ar_store.proofs.Costs.{makes, moved_to_mirrored, moved_to_parity, whole_reads, whole_writes}
use Rattle.ar_store.proofs.SqueezeCosts.{calm_first, calm_second, still_whole, made_then, stripes_kinds}
use Rattle.ar_store.proofs.Ways.{nowhere, unplaced_not_mirrored}
use Rattle.ar_moves.specs.Demotion.{IsOldestMirrored, CarriesOutDemotion}
use Rattle.ar_moves.specs.Cleaning.{NamesCleaningOf, NamesParityCleaning, CarriesOutCleaning}

-- a mirrored block has a home, in a group that isn't free
home_at : (t : Tables) (key : Key) (o : Option Slot) → home t key ≡ o → level t key ≡ MirroredLevel
    → (s : Slot) × (home t key ≡ Some s)
home_at t key None is at = absurd (unplaced_not_mirrored (sym (nowhere t key is) ∙ at))
home_at t key (Some s) is at = (s, is)

level_used : (c : Class) → level_of c ≡ MirroredLevel → c ≢ Free
level_used c at free = unplaced_not_mirrored (sym (ap level_of free) ∙ at)

mirrored_home : (t : Tables) (key : Key) → level t key ≡ MirroredLevel
    → (s : Slot) × (home t key ≡ Some s) × (class_of t s.group ≢ Free)
mirrored_home t key at =
    let found = home_at t key (home t key) refl at in
    (found.0, found.1, level_used (class_of t found.0.group) (sym (home_level t key found.0 found.1) ∙ at))

pub demotion_made : (old new : StoreState) (key : Key) (from to : Slot) → home old.book key ≡ Some from
    → ReadsUsableOf old from
    → WritesUsableAs Parity old to → NoneFaults old.disks new.disks → CarriesOutDemotion old new
    → IsOldestMirrored old.book key
    → IsLowestHole old.book Parity to → MakesAccesses (Read ∷ Read ∷ Read ∷ Write ∷ Write ∷ []) old.disks new.disks
demotion_made old new key from to placed reads writes none demotes oldest lowest =
    let used = level_used (class_of old.book from.group) (sym (home_level old.book key from placed)
    ∙ oldest.mirrored.level) in
    moved_to_parity old new.disks key from to reads writes none placed used lowest.hole.class
    (demotes.there key to oldest lowest)

-- a group that is opened for parity leaves the other groups used
opened_used : (t : Tables) (g i : ℕ) → IsLowestFree t g → class_of t i ≢ Free → class_of (opened t g Parity) i ≢ Free
opened_used t g i lowest used is = elim (eqb_tells i g) [
  | inl same ↦ (
      let parity : class_of (opened t g Parity) i ≡ Parity =
      ap (λ n. class_of (opened t g Parity) n) same.1 ∙ opened_class t g Parity lowest.there in
      let clash : Parity ≡ Free = sym parity ∙ is in
      cc)
  | inr other ↦ used (sym (opened_class_other t g Parity i other.1) ∙ is)
]

pub opening_made : (old new : StoreState) (key : Key) (group : ℕ) → old.disks.health ≡ Whole
    → NoneFaults old.disks new.disks
    → CarriesOutDemotion old new → IsOldestMirrored old.book key → HasNoHole old.book Parity → 2 ≤ free_groups old.book
    → IsLowestFree old.book group
    → MakesAccesses (fill_kinds (rows_of old.disks.geometry) ++ Read ∷ Read ∷ Read ∷ Write ∷ Write ∷ []) old.disks
    new.disks
opening_made old new key group whole none demotes oldest full many lowest =
    let steps = demotes.made key group oldest full many lowest in
    let a = old.disks in
    let b = steps.filled in
    let c = new.disks in
    let m = members_of old group in
    let mid = store_of b (opened old.book group Parity) in
    let from = mirrored_home old.book key oldest.mirrored.level in
    let first = plan_follows (fill_plan a.geometry m) a b steps.fills.plan in
    let last = plan_follows (move_plan mid key (slot_at group 0)) b c steps.moves in
    let calm = calm_first a b c first last none in
    let now = still_whole a b whole first calm in
    let to = slot_at group 0 in
    made_then (fill_kinds (rows_of a.geometry)) (Read ∷ Read ∷ Read ∷ Write ∷ Write ∷ []) a b c
    (makes (fill_plan a.geometry m) (fill_kinds (rows_of a.geometry)) a b whole calm steps.fills.plan
    (stripes_kinds m 0 (rows_of a.geometry)))
    (moved_to_parity mid c key from.0 to
    (whole_reads (class_in mid from.0.group) b (members_of mid from.0.group) from.0.slot now)
    (whole_writes Parity b (members_of mid group) 0 now) (calm_second a b c first last none) from.1
    (opened_used old.book group from.0.group lowest from.2) (opened_class old.book group Parity lowest.there)
    steps.moves)

-- a home is in a group of the class that its block is cleaned from
cleaned_used : (t : Tables) (c : Class) (key : Key) (from to : Slot) → TablesAgree t
    → (names : NamesCleaningOf t c key to)
    → home t key ≡ Some from → c ≢ Free → class_of t from.group ≢ Free
cleaned_used t c key from to ok names placed used free =
    let same = same_Some from (slot_at names.group names.first.slot)
    (sym placed ∙ key_home t ok (slot_at names.group names.first.slot) key names.first.names) in
    used (sym names.emptiest.can.has.class ∙ sym (ap (λ (s : Slot). class_of t s.group) same) ∙ free)

pub mirrored_cleaning_made : (old new : StoreState) (key : Key) (from to : Slot) → home old.book key ≡ Some from
    → ReadsUsableOf old from
    → WritesUsableAs Mirrored old to → NoneFaults old.disks new.disks → CarriesOutCleaning old new
    → TablesAgree old.book
    → NamesCleaningOf old.book Mirrored key to → MakesAccesses (Read ∷ Write ∷ Write ∷ []) old.disks new.disks
mirrored_cleaning_made old new key from to placed reads writes none cleans ok names =
    moved_to_mirrored old new.disks key from to reads writes none placed
    (cleaned_used old.book Mirrored key from to ok names placed (λ e. cc))
    names.hole.found.hole.class (cleans key to (inl names))

pub parity_cleaning_made : (old new : StoreState) (key : Key) (from to : Slot) → home old.book key ≡ Some from
    → ReadsUsableOf old from
    → WritesUsableAs Parity old to → NoneFaults old.disks new.disks → CarriesOutCleaning old new → TablesAgree old.book
    → NamesParityCleaning old.book key to → MakesAccesses (Read ∷ Read ∷ Read ∷ Write ∷ Write ∷ []) old.disks new.disks
parity_cleaning_made old new key from to placed reads writes none cleans ok parity =
    let names = parity.names in
    moved_to_parity old new.disks key from to reads writes none placed
    (cleaned_used old.book Parity key from to ok names placed (λ e. cc))
    names.hole.found.hole.class (cleans key to (inr parity))
