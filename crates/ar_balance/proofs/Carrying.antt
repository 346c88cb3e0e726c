-- A store whose groups' extents were copied or left alone, and whose units stay, keeps its invariant, and every block
-- its contents.
use Rattle.std.proofs.Common.{◌≡◌, ◌≢◌, ℕ, ◌*◌, ◌<◌, List, length, Option, None, Some, refl, sym, ap, subst, ◌∙◌, arith}
use Rattle.ar_disks.specs.Block.{zeros}
use Rattle.ar_disks.specs.Geometry.{rows_of, block_len_of}
use Rattle.ar_disks.specs.declared.address.Key.{Key}
use Rattle.ar_disks.specs.declared.geometry.Geometry.{Geometry}
use Rattle.ar_extents.specs.declared.health.Health.TheVariants.{Broken}
use Rattle.ar_extents.specs.Set.{SetState}
use Rattle.ar_book.specs.declared.class.Class.TheVariants.{Free, Parity}
use Rattle.ar_book.specs.declared.class.Slot.{Slot}
use Rattle.ar_book.specs.Tables.{Tables, group_in, class_of, key_at, home, slots_of, HasSlot}
use Rattle.ar_book.specs.Book.{TablesAgree}
use Rattle.ar_book.proofs.Homes.{home_key, home_slot, key_slot}
use Rattle.ar_store.specs.Store.{store_of}
use Rattle.ar_store.specs.Slots.{ClassHolds, SlotHolds, HoldsBlock, stands, AllStand}
use Rattle.ar_store.specs.Kept.{IsSpace, IsTaken}
use Rattle.ar_store.proofs.Spaces.{slot_inside}
use Rattle.ar_store.proofs.Standing.{stands_held, stands_nowhere}
use Rattle.ar_store.proofs.Copies.{IsCopy, class_copied}

-- the groups of the second tables are those of the first, wherever their extents are now, and perhaps free ones after
-- them
pub record IsCarried (a c : SetState) (t u : Tables) : Type 0 where
  pub geometry : c.geometry ≡ a.geometry
  pub sound : c.health ≢ Broken → a.health ≢ Broken
  pub agree : TablesAgree u
  pub rows : u.geometry ≡ t.geometry
  pub homes : (k : Key) → home u k ≡ home t k
  pub keys : (slot : Slot) → key_at u slot ≡ key_at t slot
  pub classes : (g : ℕ) → g < length t.groups → class_of u g ≡ class_of t g
  pub parity : (g : ℕ) → g < length u.groups → class_of u g ≡ Parity → g < length t.groups
  -- a free group holds nothing that would have to be copied
  pub copies : (g : ℕ) → g < length t.groups → class_of t g ≢ Free
      → IsCopy a c (group_in t.groups g).members (group_in u.groups g).members
  pub extents : (g i : ℕ) → g < length u.groups → i < 4 → IsTaken (store_of c u) g i

-- a free group has no slot
slot_not_free : (t : Tables) (slot : Slot) → HasSlot t slot → class_of t slot.group ≢ Free
slot_not_free t slot has is =
    absurd (let none : slot.slot < slots_of t.geometry Free = subst (λ x. slot.slot < slots_of t.geometry x) is has.1 in
    omega arith)

module _ (a c : SetState) (t u : Tables) (space : IsSpace (store_of a t)) (carried : IsCarried a c t u) where
  -- a slot holds what it held
  carried_holds : (slot : Slot) (block : List ℕ) → HasSlot t slot → SlotHolds (store_of a t) slot block
      → SlotHolds (store_of c u) slot block
  carried_holds slot block has holds =
      let m = (group_in u.groups slot.group).members in
      subst (λ x. ClassHolds x c m slot.slot block) (sym (carried.classes slot.group has.0))
      (class_copied (class_of t slot.group) a c (group_in t.groups slot.group).members m slot.slot block
      (carried.copies slot.group has.0 (slot_not_free t slot has))
      (slot_inside (store_of a t) slot space has) holds)

  carried_block : (slot : Slot) → HasSlot t slot → HoldsBlock (store_of a t) slot → HoldsBlock (store_of c u) slot
  carried_block slot has held = record {
    block = held.block;
    len = held.len ∙ ap block_len_of (sym carried.geometry);
    holds = carried_holds slot held.block has held.holds;
  }

  pub space_carried : IsSpace (store_of c u)
  space_carried = record {
    geometry = carried.rows ∙ space.geometry ∙ sym carried.geometry;
    tables = carried.agree;
    extents = carried.extents;
    named = λ slot k names.
        let before = sym (carried.keys slot) ∙ names in
        carried_block slot (key_slot t space.tables slot k before) (space.named slot k before);
    parity = λ slot inside is lt.
        let there = carried.parity slot.group inside is in
        let was : class_of t slot.group ≡ Parity = sym (carried.classes slot.group there) ∙ is in
        let lt_a : slot.slot < 3 * rows_of a.geometry =
        subst (λ (g : Geometry). slot.slot < 3 * rows_of g) carried.geometry lt in
        let lt_t : slot.slot < 3 * rows_of t.geometry =
        subst (λ (g : Geometry). slot.slot < 3 * rows_of g) (sym space.geometry) lt_a in
        let has : HasSlot t slot = (there, subst (λ x. slot.slot < slots_of t.geometry x) (sym was) lt_t) in
        carried_block slot has (space.parity slot there was lt_a);
  }

  pub all_carried : AllStand (store_of a t) (store_of c u)
  all_carried = record { blocks = λ sound k. by k sound (home t k) refl }
    where
      by : (k : Key) → c.health ≢ Broken → (o : Option Slot) → home t k ≡ o
          → stands (store_of c u) k ≡ stands (store_of a t) k
      by k sound None is =
          stands_nowhere (store_of c u) k (carried.homes k ∙ is) ∙ ap (λ g. zeros (block_len_of g)) carried.geometry
          ∙ sym (stands_nowhere (store_of a t) k is)
      by k sound (Some slot) is =
          let held = space.named slot k (home_key t space.tables k slot is) in
          stands_held (store_of c u) k slot held.block space_carried sound (carried.homes k ∙ is)
          (carried_holds slot held.block (home_slot t space.tables k slot is) held.holds)
          ∙ sym (stands_held (store_of a t) k slot held.block space (carried.sound sound) is held.holds)
