-- A store to which a disk is added.
use Rattle.std.proofs.Common.{◌≡◌, ℕ, ◌*◌, ◌<◌, List, [], ◌∷◌, length, refl, sym, subst, ◌∙◌}
use Rattle.std.proofs.Common.{arith, length-append}
use Rattle.ar_disks.specs.Disk.{DiskState}
use Rattle.ar_disks.specs.Geometry.{rows_of}
use Rattle.ar_disks.specs.Members.{member}
use Rattle.ar_disks.specs.declared.address.Place.{Place}
use Rattle.ar_disks.specs.declared.geometry.Geometry.{Geometry}
use Rattle.ar_extents.specs.Set.{SetState, HasExtent}
use Rattle.ar_extents.specs.Changes.{added}
use Rattle.ar_extents.proofs.Follows.{keeps_added}
use Rattle.ar_extents.proofs.LooseLemmas.{is_loose-added_other}
use Rattle.ar_book.specs.declared.class.Slot.{Slot}
use Rattle.ar_book.specs.Tables.{Tables, group_in, class_of, slots_of, HasSlot}
use Rattle.ar_book.proofs.Homes.{home_slot, key_slot}
use Rattle.ar_store.specs.Store.{store_of}
use Rattle.ar_store.specs.Slots.{SlotHolds, HoldsBlock, AllStand}
use Rattle.ar_store.specs.Kept.{IsSpace, FieldsAgree}
use Rattle.ar_store.proofs.Spaces.{slot_inside}
use Rattle.ar_store.proofs.Standing.{stands_kept}
use Rattle.ar_store.proofs.Copies.{class_copied}

-- an extent that was there still is
added_extent : (s : SetState) (disk : DiskState) (p : Place) → HasExtent s p → HasExtent (added s disk) p
added_extent s disk p there =
    let more = length-append s.disks (disk ∷ []) in
    let below = there.disk in
    record { disk = omega arith; extent = there.extent }

module _ (s : SetState) (disk : DiskState) (t : Tables) (space : IsSpace (store_of s t)) (tables : length s.loose
    ≡ length s.disks) where
  -- a slot holds what it held
  added_holds : (slot : Slot) (block : List ℕ) → HasSlot t slot → SlotHolds (store_of s t) slot block
      → SlotHolds (store_of (added s disk) t) slot block
  added_holds slot block has holds =
      let m = (group_in t.groups slot.group).members in
      class_copied (class_of t slot.group) s (added s disk) m m slot.slot block
      (record {
        geometry = refl;
        usable = λ j lt sound. sound;
        rows = λ j row lt fits. (keeps_added s disk).rows (member m j) (space.extents slot.group j has.0 lt).there.disk
            row;
      })
      (slot_inside (store_of s t) slot space has) holds

  added_block : (slot : Slot) → HasSlot t slot → HoldsBlock (store_of s t) slot
      → HoldsBlock (store_of (added s disk) t) slot
  added_block slot has held =
      record { block = held.block; len = held.len; holds = added_holds slot held.block has held.holds }

  -- the store keeps what it kept
  pub space_added : IsSpace (store_of (added s disk) t)
  space_added = record {
    geometry = space.geometry;
    tables = space.tables;
    extents = λ g i inside lt.
        let taken = space.extents g i inside lt in
        let p = member (group_in t.groups g).members i in
        record {
          there = added_extent s disk p taken.there;
          used = is_loose-added_other s disk p (subst (λ n. p.disk < n) (sym tables) taken.there.disk) ∙ taken.used;
        };
    named = λ slot k names. added_block slot (key_slot t space.tables slot k names) (space.named slot k names);
    parity = λ slot inside is lt.
        let lt_t : slot.slot < 3 * rows_of t.geometry =
        subst (λ g. slot.slot < 3 * rows_of g) (sym space.geometry) lt in
        let has : HasSlot t slot = (inside, subst (λ c. slot.slot < slots_of t.geometry c) (sym is) lt_t) in
        added_block slot has (space.parity slot inside is lt);
  }

  -- every block stands as it did
  pub all_added : AllStand (store_of s t) (store_of (added s disk) t)
  all_added = record {
    blocks = λ sound k.
        stands_kept s (added s disk) t k space space_added refl sound sound
        (λ slot block is holds. added_holds slot block (home_slot t space.tables k slot is) holds);
  }

pub fields_added : (s : SetState) (disk : DiskState) (t : Tables) (block : List ℕ) (g : Geometry)
    → length s.loose ≡ length s.disks
    → FieldsAgree (store_of s t) block g → FieldsAgree (store_of (added s disk) t) block g
fields_added s disk t block g tables old = record {
  kept = record { space = space_added s disk t old.kept.space tables; free = λ sound. old.kept.free sound };
  block_len = old.block_len;
  scratch_same = old.scratch_same;
}
