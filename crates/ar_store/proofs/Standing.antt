-- Which blocks stand as they did, by what the slots hold.
use Rattle.std.proofs.Common.{◌≡◌, ◌≢◌, ℕ, ◌<◌, List, length, Option, None, Some, refl, sym, ap, subst, ◌∙◌, true≢false}
use Rattle.ar_disks.specs.Block.{zeros}
use Rattle.ar_disks.specs.Geometry.{block_len_of}
use Rattle.ar_disks.specs.declared.address.Key.{Key}
use Rattle.ar_disks.specs.Disk.{DiskState}
use Rattle.ar_disks.specs.Members.{AreApart}
use Rattle.ar_disks.proofs.Xor.{length-zeros}
use Rattle.ar_extents.specs.declared.health.Health.TheVariants.{Whole, Out, Broken}
use Rattle.ar_extents.specs.Changes.{is_broken_set}
use Rattle.ar_extents.specs.Health.{after_fault}
use Rattle.ar_extents.specs.Groups.{without_disk}
use Rattle.ar_extents.specs.Set.{SetState}
use Rattle.ar_extents.specs.Follows.{Follows}
use Rattle.ar_extents.proofs.Losses.{stays_broken}
use Rattle.ar_book.specs.declared.class.Slot.{Slot}
use Rattle.ar_book.specs.Tables.{Tables, group_in, class_of, key_at, home, slots_of}
use Rattle.ar_book.proofs.Homes.{home_key, home_slot, homes_apart, empty_no_home}
use Rattle.ar_store.specs.Store.{StoreState, members_of, class_in, store_of}
use Rattle.ar_store.specs.Slots.{ClassHolds, SlotHolds, HoldsBlock, stands, stands_at, standing_in, SlotsHold}
use Rattle.ar_store.specs.Slots.{OtherSlotsHold, AllStand, OthersStand, SurvivesLossOf}
use Rattle.ar_store.specs.Kept.{IsSpace}
use Rattle.ar_store.proofs.Classes.{class_standing, class_without}
use Rattle.ar_store.proofs.Spaces.{slot_inside}

-- the block that a home holds, in a group of four disks that aren't broken
home_stands : (s : StoreState) (k : Key) (slot : Slot) (block : List ℕ) → home s.book k ≡ Some slot
    → AreApart (members_of s slot.group)
    → slot.slot < slots_of s.disks.geometry (class_in s slot.group) → s.disks.health ≢ Broken → SlotHolds s slot block
    → stands s k ≡ block
unfolding stands
home_stands s k slot block is apart inside sound holds =
    ap (λ (o : Option Slot). stands_at s o) is
    ∙ class_standing (class_in s slot.group) s.disks (members_of s slot.group) slot.slot block apart inside sound holds

-- while the store isn't broken, the block that a home holds is the one that stands for its key
pub stands_held : (s : StoreState) (k : Key) (slot : Slot) (block : List ℕ) → IsSpace s → s.disks.health ≢ Broken
    → home s.book k ≡ Some slot
    → SlotHolds s slot block → stands s k ≡ block
stands_held s k slot block space sound is holds =
    let there = home_slot s.book space.tables k slot is in
    home_stands s k slot block is (space.tables.groups.apart slot.group there.0) (slot_inside s slot space there) sound
    holds

-- where a key has no home the zero block stands for it
pub stands_nowhere : (s : StoreState) (k : Key) → home s.book k ≡ None
    → stands s k ≡ zeros (block_len_of s.disks.geometry)
unfolding stands
stands_nowhere s k is = ap (λ (o : Option Slot). stands_at s o) is

-- until the store is broken, the block that stands for a key is as long as blocks are
pub stands_whole : (s : StoreState) (k : Key) → IsSpace s → s.disks.health ≢ Broken
    → length (stands s k) ≡ block_len_of s.disks.geometry
stands_whole s k space sound = by (home s.book k) refl
  where
    by : (o : Option Slot) → home s.book k ≡ o → length (stands s k) ≡ block_len_of s.disks.geometry
    by None is =
        ap (λ (bytes : List ℕ). length bytes) (stands_nowhere s k is) ∙ length-zeros (block_len_of s.disks.geometry)
    by (Some slot) is =
        let held = space.named slot k (home_key s.book space.tables k slot is) in
        ap (λ (bytes : List ℕ). length bytes) (stands_held s k slot held.block space sound is held.holds) ∙ held.len

-- a set that isn't broken wasn't
pub was_sound : (a b : SetState) → Follows a b → b.health ≢ Broken → a.health ≢ Broken
was_sound a b ab sound broken = sound (stays_broken a b ab broken)

-- a key whose home holds what it held, if it has one
pub stands_kept : (a b : SetState) (t : Tables) (k : Key) → IsSpace (store_of a t) → IsSpace (store_of b t)
    → b.geometry ≡ a.geometry → a.health ≢ Broken → b.health ≢ Broken
    → ((slot : Slot) (block : List ℕ) → home t k ≡ Some slot → SlotHolds (store_of a t) slot block
    → SlotHolds (store_of b t) slot block)
    → stands (store_of b t) k ≡ stands (store_of a t) k
stands_kept a b t k space_a space_b geometry before sound same = by (home t k) refl
  where
    by : (o : Option Slot) → home t k ≡ o → stands (store_of b t) k ≡ stands (store_of a t) k
    by None is =
        stands_nowhere (store_of b t) k is ∙ ap (λ g. zeros (block_len_of g)) geometry
        ∙ sym (stands_nowhere (store_of a t) k is)
    by (Some slot) is =
        let held = space_a.named slot k (home_key t space_a.tables k slot is) in
        stands_held (store_of b t) k slot held.block space_b sound is (same slot held.block is held.holds)
        ∙ sym (stands_held (store_of a t) k slot held.block space_a before is held.holds)

-- accesses that leave every slot its block
pub all_stand : (a b : SetState) (t : Tables) → IsSpace (store_of a t) → IsSpace (store_of b t) → Follows a b
    → SlotsHold (store_of a t) (store_of b t)
    → AllStand (store_of a t) (store_of b t)
all_stand a b t space_a space_b ab slots = record {
  blocks = λ sound k.
      stands_kept a b t k space_a space_b ab.geometry (was_sound a b ab sound) sound
      (λ slot block is holds. slots.slots slot block (home_slot t space_a.tables k slot is) holds);
}

-- a write to a slot that is no other block's home
pub others_stand : (a b : SetState) (t : Tables) (k : Key) (slot : Slot) → IsSpace (store_of a t)
    → IsSpace (store_of b t) → Follows a b
    → OtherSlotsHold (store_of a t) (store_of b t) slot → ((j : Key) → j ≢ k → home t j ≢ Some slot)
    → OthersStand (store_of a t) (store_of b t) k
others_stand a b t k slot space_a space_b ab slots apart = record {
  blocks = λ sound j ne.
      stands_kept a b t j space_a space_b ab.geometry (was_sound a b ab sound) sound
      (λ other block is holds.
      slots.slots other block (home_slot t space_a.tables j other is) (λ same. apart j ne (is ∙ ap Some same)) holds);
}

-- a write to a hole
pub hole_stand : (a b : SetState) (t : Tables) (slot : Slot) → IsSpace (store_of a t) → IsSpace (store_of b t)
    → Follows a b
    → OtherSlotsHold (store_of a t) (store_of b t) slot → key_at t slot ≡ None → AllStand (store_of a t) (store_of b t)
hole_stand a b t slot space_a space_b ab slots empty = record {
  blocks = λ sound j.
      stands_kept a b t j space_a space_b ab.geometry (was_sound a b ab sound) sound
      (λ other block is holds.
      slots.slots other block (home_slot t space_a.tables j other is)
      (λ same. empty_no_home t space_a.tables slot j empty (is ∙ ap Some same)) holds);
}

-- no other block has a block's home
pub home_apart : (t : Tables) (s : SetState) (k : Key) (slot : Slot) → IsSpace (store_of s t) → home t k ≡ Some slot
    → (j : Key) → j ≢ k → home t j ≢ Some slot
home_apart t s k slot space is j ne other = homes_apart t space.tables j k slot slot ne other is refl

-- what stands goes by a key's home, and the class and the members of its group
pub stands_same : (a : SetState) (t u : Tables) (k : Key) → home u k ≡ home t k
    → ((slot : Slot) → home t k ≡ Some slot → class_of u slot.group ≡ class_of t slot.group)
    → ((g : ℕ) → (group_in u.groups g).members ≡ (group_in t.groups g).members)
    → stands (store_of a u) k ≡ stands (store_of a t) k
unfolding stands
stands_same a t u k is class members = ap (λ (o : Option Slot). stands_at (store_of a u) o) is ∙ by (home t k) class
  where
    by : (o : Option Slot) → ((slot : Slot) → o ≡ Some slot → class_of u slot.group ≡ class_of t slot.group)
        → stands_at (store_of a u) o ≡ stands_at (store_of a t) o
    by None class = refl
    by (Some slot) class =
        ap (λ c. standing_in c a (group_in u.groups slot.group).members slot.slot) (class slot refl)
        ∙ ap (λ m. standing_in (class_of t slot.group) a m slot.slot) (members slot.group)

-- what a slot holds goes by the class and the members of its group
pub holds_same : (a : SetState) (t u : Tables) (slot : Slot) (block : List ℕ)
    → class_of u slot.group ≡ class_of t slot.group
    → (group_in u.groups slot.group).members ≡ (group_in t.groups slot.group).members
    → SlotHolds (store_of a t) slot block → SlotHolds (store_of a u) slot block
holds_same a t u slot block class members holds =
    subst (λ c. ClassHolds c a (group_in u.groups slot.group).members slot.slot block) (sym class)
    (subst (λ m. ClassHolds (class_of t slot.group) a m slot.slot block) (sym members) holds)

pub block_same : (a : SetState) (t u : Tables) (slot : Slot) → class_of u slot.group ≡ class_of t slot.group
    → (group_in u.groups slot.group).members ≡ (group_in t.groups slot.group).members → HoldsBlock (store_of a t) slot
    → HoldsBlock (store_of a u) slot
block_same a t u slot class members held = record {
  block = held.block;
  len = held.len;
  holds = holds_same a t u slot held.block class members held.holds;
}

-- the kinds of health differ
whole_not_broken : Whole ≢ Broken
whole_not_broken e = true≢false (sym (ap is_broken_set e))

out_not_broken : (d : ℕ) → Out d ≢ Broken
out_not_broken d e = true≢false (sym (ap is_broken_set e))

-- while the disks are whole, every block stands on without any one of them
pub survives : (s : StoreState) (d : ℕ) → IsSpace s → s.disks.health ≡ Whole → SurvivesLossOf s d
survives s d space whole = record { blocks = λ disk k. by disk k (home s.book k) refl }
  where
    by : (disk : DiskState) (k : Key) (o : Option Slot) → home s.book k ≡ o
        → stands (store_of (without_disk s.disks d disk) s.book) k ≡ stands s k
    by disk k None is =
        stands_nowhere (store_of (without_disk s.disks d disk) s.book) k is ∙ sym (stands_nowhere s k is)
    by disk k (Some slot) is =
        let there = home_slot s.book space.tables k slot is in
        let held = space.named slot k (home_key s.book space.tables k slot is) in
        let after = without_disk s.disks d disk in
        let out : after.health ≡ Out d = ap (λ h. after_fault h d) whole in
        home_stands (store_of after s.book) k slot held.block is (space.tables.groups.apart slot.group there.0)
        (slot_inside s slot space there)
        (λ broken. out_not_broken d (sym out ∙ broken))
        (class_without (class_in s slot.group) s.disks (members_of s slot.group) slot.slot held.block d disk held.holds)
        ∙ sym (stands_held s k slot held.block space (λ broken. whole_not_broken (sym whole ∙ broken)) is held.holds)
