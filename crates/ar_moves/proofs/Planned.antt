-- What a demotion and a cleaning step access: the rule's one move.
use Rattle.std.proofs.Common.{◌≡◌, inl, inr, ℕ, ◌<◌, ◌≤◌, length, ap, subst, ◌∙◌, arith}
use Rattle.ar_disks.specs.Block.{zeros}
use Rattle.ar_disks.specs.Geometry.{block_len_of}
use Rattle.ar_disks.specs.declared.address.Key.{Key}
use Rattle.ar_disks.specs.declared.address.Members.{Members}
use Rattle.ar_extents.specs.declared.health.Health.TheVariants.{Broken as AllBroken}
use Rattle.ar_extents.specs.Plans.{CarriesOut}
use Rattle.ar_extents.specs.Set.{SetState}
use Rattle.ar_extents.proofs.Plans.{carries_broken}
use Rattle.ar_book.specs.declared.class.Class.{Class}
use Rattle.ar_book.specs.declared.class.Class.TheVariants.{Parity}
use Rattle.ar_book.specs.declared.class.Slot.{Slot}
use Rattle.ar_book.specs.Tables.{Tables, group_in, class_of, free_groups}
use Rattle.ar_book.specs.Changes.{opened, slot_at}
use Rattle.ar_book.specs.Book.{TablesAgree}
use Rattle.ar_book.specs.Choices.{IsMirrored, IsLowestFree}
use Rattle.ar_book.proofs.AfterOpen.{opened_class, opened_members}
use Rattle.ar_store.specs.Store.{StoreState, store_of, members_of}
use Rattle.ar_store.specs.Placing.{IsLowestHole, HasNoHole}
use Rattle.ar_store.specs.Calls.{IsOpened, HoldsZeros}
use Rattle.ar_store.specs.Plans.{move_plan, fill_plan, FillsWithZeros}
use Rattle.ar_store.specs.Slots.{ClassHolds}
use Rattle.ar_store.proofs.Zeros.{zeros_broken}
use Rattle.ar_moves.specs.Moves.{OpensThenMoves}
use Rattle.ar_moves.specs.Demotion.{IsOldestMirrored, CarriesOutDemotion}
use Rattle.ar_moves.specs.Cleaning.{NamesCleaning, NothingToClean}
use Rattle.ar_store.proofs.Gaps.{first_is}
use Rattle.ar_store.proofs.Squeezing.{same_free}
use Rattle.ar_moves.proofs.Single.{oldest_single}

-- what cleaning names isn't there where there is nothing to clean
pub cleans_nothing : (t : Tables) (key : Key) (to : Slot) → NothingToClean t → NamesCleaning t key to → ⊥
cleans_nothing t key to none (inl mirrored) = none.mirrored mirrored.group mirrored.emptiest.can
cleans_nothing t key to none (inr parity) = none.parity parity.names.group parity.names.emptiest.can

-- the group that was opened was filled,
filled_zeros : (a b : StoreState) (g : ℕ) → b.book ≡ opened a.book g Parity → g < length a.book.groups
    → CarriesOut (fill_plan a.disks.geometry (members_of a g)) a.disks b.disks → HoldsZeros b g
    → FillsWithZeros (members_of a g) a.disks b.disks
filled_zeros a b g is inside plan holds =
    let class = ap (λ (x : Tables). class_of x g) is ∙ opened_class a.book g Parity inside in
    let members = ap (λ (x : Tables). (group_in x.groups g).members) is ∙ opened_members a.book g Parity g in
    record {
      plan = plan;
      zeros = λ i lt.
          let zero = zeros (block_len_of b.disks.geometry) in
          let P : Class → Type 0 = λ x. ClassHolds x b.disks (members_of b g) i zero in
          let Q : Members → Type 0 = λ m. ClassHolds Parity b.disks m i zero in
          subst Q members (subst P class (holds.slots i lt));
    }

-- or the array failed
filled_broken : (m : Members) (a b : SetState) → CarriesOut (fill_plan a.geometry m) a b → b.health ≡ AllBroken
    → FillsWithZeros m a b
filled_broken m a b plan broken = record { plan = plan; zeros = zeros_broken m b broken }

-- the array failed as a group was filled, or before, and nothing more was accessed
cut_made : (a c : StoreState) (key : Key) (group : ℕ) → c.disks.health ≡ AllBroken
    → CarriesOut (fill_plan a.disks.geometry (members_of a group)) a.disks c.disks → OpensThenMoves key group a c
cut_made a c key group broken filled = record {
  filled = c.disks;
  fills = filled_broken (members_of a group) a.disks c.disks filled broken;
  moves = carries_broken (move_plan (store_of c.disks (opened a.book group Parity)) key (slot_at group 0)) c.disks
      broken;
}

-- nothing was demoted, as the array had failed
pub demotes_none : (s : StoreState) → s.disks.health ≡ AllBroken → CarriesOutDemotion s s
demotes_none s broken = record {
  there = λ key to oldest lowest. carries_broken (move_plan s key to) s.disks broken;
  made = λ key group oldest none many lowest.
      cut_made s s key group broken (carries_broken (fill_plan s.disks.geometry (members_of s group)) s.disks broken);
}

-- or no block was at the mirrored level
pub demotes_nothing : (s : StoreState) → ((k : Key) → IsMirrored s.book k → ⊥) → CarriesOutDemotion s s
demotes_nothing s none = record {
  there = λ key to oldest lowest. absurd (none key oldest.mirrored);
  made = λ key group oldest full many lowest. absurd (none key oldest.mirrored);
}

-- the block moved to the hole that was there
pub moved_there : (a c : StoreState) (key : Key) (to : Slot) → TablesAgree a.book → IsOldestMirrored a.book key
    → IsLowestHole a.book Parity to
    → CarriesOut (move_plan a key to) a.disks c.disks → CarriesOutDemotion a c
moved_there a c key to ok oldest lowest plan = record {
  there = λ other slot other_oldest other_lowest.
      let P : Key → Type 0 = λ k. CarriesOut (move_plan a k slot) a.disks c.disks in
      let Q : Slot → Type 0 = λ s. CarriesOut (move_plan a key s) a.disks c.disks in
      subst P (oldest_single a.book key other ok oldest other_oldest)
      (subst Q (first_is to slot (lowest.least slot other_lowest.hole) (other_lowest.least to lowest.hole)) plan);
  made = λ other group other_oldest none many free. absurd (none.none to lowest.hole);
}

-- a group was opened, and the block moved to its first slot
pub moved_to_new : (a b c : StoreState) (key : Key) (g : ℕ) → TablesAgree a.book → IsOldestMirrored a.book key
    → HasNoHole a.book Parity
    → IsOpened a.book b.book Parity g → CarriesOut (fill_plan a.disks.geometry (members_of a g)) a.disks b.disks
    → HoldsZeros b g
    → CarriesOut (move_plan b key (slot_at g 0)) b.disks c.disks → CarriesOutDemotion a c
moved_to_new a b c key g ok oldest none opening filled holds plan = record {
  there = λ other slot other_oldest lowest. absurd (none.none slot lowest.hole);
  made = λ other group other_oldest other_none many free.
      let P : Tables → Type 0 = λ x. CarriesOut (move_plan (store_of b.disks x) key (slot_at g 0)) b.disks c.disks in
      let Q : Key → Type 0 = λ k. OpensThenMoves k group a c in
      let R : ℕ → Type 0 = λ n. OpensThenMoves key n a c in
      subst Q (oldest_single a.book key other ok oldest other_oldest)
      (subst R (same_free a.book g group opening.lowest free) (record {
        filled = b.disks;
        fills = filled_zeros a b g opening.tables opening.lowest.there filled holds;
        moves = subst P opening.tables plan;
      }));
}

-- a group was to be opened, and couldn't be
pub opens_nothing : (a c : StoreState) → HasNoHole a.book Parity → free_groups a.book < 2 → CarriesOutDemotion a c
opens_nothing a c none few = record {
  there = λ key to oldest lowest. absurd (none.none to lowest.hole);
  made = λ key group oldest _ many free. absurd (omega arith);
}

-- the array failed while it was opened
pub opening_cut : (a c : StoreState) → HasNoHole a.book Parity → c.disks.health ≡ AllBroken
    → ((group : ℕ) → 2 ≤ free_groups a.book → IsLowestFree a.book group
    → CarriesOut (fill_plan a.disks.geometry (members_of a group)) a.disks c.disks)
    → CarriesOutDemotion a c
opening_cut a c none broken filled = record {
  there = λ key to oldest lowest. absurd (none.none to lowest.hole);
  made = λ key group oldest _ many free. cut_made a c key group broken (filled group many free);
}
