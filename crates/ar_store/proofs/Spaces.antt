-- What reads, writes and changes of the tables leave of a store.
use Rattle.std.proofs.Common.{◌≡◌, ◌≢◌, inl, inr, ℕ, ◌*◌, ◌<◌, List, length, refl, sym, ap, subst, ◌∙◌}
use Rattle.std.proofs.lemmas.Bool.Decides.{eqb_tells}
use Rattle.ar_disks.specs.Members.{member, AreDisjoint}
use Rattle.ar_disks.specs.Geometry.{rows_of, block_len_of}
use Rattle.ar_extents.specs.Set.{SetState}
use Rattle.ar_extents.specs.Follows.{Follows, Keeps, Anywhere}
use Rattle.ar_extents.specs.Groups.{IsGroup}
use Rattle.ar_extents.specs.Loose.{is_loose}
use Rattle.ar_book.specs.declared.class.Class.{Class}
use Rattle.ar_book.specs.declared.class.Class.TheVariants.{Free, Mirrored, Parity}
use Rattle.ar_book.specs.declared.class.Slot.{Slot}
use Rattle.ar_book.specs.Tables.{Tables, group_in, class_of, slots_of, HasSlot}
use Rattle.ar_book.proofs.Keys.{slot_tells, make_slot}
use Rattle.ar_book.proofs.Homes.{key_slot}
use Rattle.ar_store.specs.Store.{StoreState, members_of, class_in, store_of}
use Rattle.ar_store.specs.Slots.{ClassHolds, SlotHolds, HoldsBlock, SlotsHold, OtherSlotsHold, CanWrite, IsSlotWritten}
use Rattle.ar_store.specs.Kept.{IsTaken, IsSpace}
use Rattle.ar_store.specs.Calls.{IsAccessed}
use Rattle.ar_store.proofs.Classes.{class_read, class_disjoint}

-- the group of a slot is one
pub slot_group : (s : StoreState) (g : ℕ) → IsSpace s → g < length s.book.groups → IsGroup s.disks (members_of s g)
slot_group s g space inside =
    record { extents = λ i lt. (space.extents g i inside lt).there; apart = space.tables.groups.apart g inside }

-- a slot's number fits the disks' geometry too
pub slot_inside : (s : StoreState) (slot : Slot) → IsSpace s → HasSlot s.book slot
    → slot.slot < slots_of s.disks.geometry (class_in s slot.group)
slot_inside s slot space has = subst (λ g. slot.slot < slots_of g (class_in s slot.group)) space.geometry has.1

-- a slot of a group with parity can be written at any time
pub slot_ready : (s : StoreState) (slot : Slot) → IsSpace s → HasSlot s.book slot
    → CanWrite (class_in s slot.group) s.disks (members_of s slot.group) slot.slot
slot_ready s slot space has =
    by (class_in s slot.group) refl (slot_inside s slot space has)
  where
    by : (c : Class) → class_in s slot.group ≡ c → slot.slot < slots_of s.disks.geometry c
        → CanWrite c s.disks (members_of s slot.group) slot.slot
    by Free is inside = tt
    by Mirrored is inside = tt
    by Parity is inside =
        let held = space.parity slot has.0 is inside in
        record {
          block = held.block;
          holds = subst (λ c. ClassHolds c s.disks (members_of s slot.group) slot.slot held.block) is held.holds;
        }

-- two groups of a book share no extent
pub groups_apart : (s : StoreState) (g h : ℕ) → IsSpace s → g < length s.book.groups → h < length s.book.groups → g ≢ h
    → AreDisjoint (members_of s g) (members_of s h)
groups_apart s g h space inside_g inside_h ne = space.tables.groups.disjoint g h inside_g inside_h ne

-- after accesses that leave what a slot holds, it still holds some block
pub held_then : (a b : SetState) (t : Tables) (slot : Slot) → Follows a b
    → ((block : List ℕ) → SlotHolds (store_of a t) slot block → SlotHolds (store_of b t) slot block)
    → HoldsBlock (store_of a t) slot → HoldsBlock (store_of b t) slot
held_then a b t slot ab same held = record {
  block = held.block;
  len = held.len ∙ ap block_len_of (sym ab.geometry);
  holds = same held.block held.holds;
}

-- the disks have the shape that they had, with the same extents loose
pub record HaveShape (a b : SetState) : Type 0 where
  pub geometry : b.geometry ≡ a.geometry
  pub extents : b.extents ≡ a.extents
  pub count : length b.disks ≡ length a.disks
  pub loose : b.loose ≡ a.loose

pub shape_accessed : (a b : SetState) → IsAccessed a b → HaveShape a b
shape_accessed a b access =
    let ab = access.follows in
    record { geometry = ab.geometry; extents = ab.extents; count = ab.count; loose = access.loose }

taken_then : (a b : SetState) (t : Tables) (g i : ℕ) → HaveShape a b → IsTaken (store_of a t) g i
    → IsTaken (store_of b t) g i
taken_then a b t g i shape taken = record {
  there = record {
    disk = subst (λ n. (member (group_in t.groups g).members i).disk < n) (sym shape.count) taken.there.disk;
    extent = subst (λ n. (member (group_in t.groups g).members i).extent < n) (sym shape.extents) taken.there.extent;
  };
  used = ap (λ l. is_loose (record a { loose = l }) (member (group_in t.groups g).members i)) shape.loose ∙ taken.used;
}

-- disks of the same shape on which every slot still holds some block
pub space_kept : (a b : SetState) (t : Tables) → IsSpace (store_of a t) → HaveShape a b
    → ((slot : Slot) → HasSlot t slot → HoldsBlock (store_of a t) slot → HoldsBlock (store_of b t) slot)
    → IsSpace (store_of b t)
space_kept a b t space shape held = record {
  geometry = space.geometry ∙ sym shape.geometry;
  tables = space.tables;
  extents = λ g i inside lt. taken_then a b t g i shape (space.extents g i inside lt);
  named = λ slot k names. held slot (key_slot t space.tables slot k names) (space.named slot k names);
  parity = λ slot inside is lt.
      let lt_old : slot.slot < 3 * rows_of a.geometry = subst (λ g. slot.slot < 3 * rows_of g) shape.geometry lt in
      let has : HasSlot t slot = (
        inside,
        subst (λ c. slot.slot < slots_of t.geometry c) (sym is)
            (subst (λ g. slot.slot < 3 * rows_of g) (sym space.geometry) lt_old),
      ) in
      held slot has (space.parity slot inside is lt_old);
}

-- accesses of the disks that leave every slot some block
pub space_accessed : (a b : SetState) (t : Tables) → IsSpace (store_of a t) → IsAccessed a b
    → ((slot : Slot) → HasSlot t slot → HoldsBlock (store_of a t) slot → HoldsBlock (store_of b t) slot)
    → IsSpace (store_of b t)
space_accessed a b t space access held = space_kept a b t space (shape_accessed a b access) held

-- reads leave every slot its block
pub slots_read : (a b : SetState) (t : Tables) → Follows a b → Keeps Anywhere a b
    → SlotsHold (store_of a t) (store_of b t)
slots_read a b t ab keeps = record {
  slots = λ slot block has holds. class_read (class_of t slot.group) a b (group_in t.groups slot.group).members
      slot.slot block ab keeps holds;
}

pub space_read : (a b : SetState) (t : Tables) → IsSpace (store_of a t) → IsAccessed a b → Keeps Anywhere a b
    → IsSpace (store_of b t)
space_read a b t space access keeps =
    space_accessed a b t space access
    (λ slot has held. held_then a b t slot access.follows
    (λ block holds. (slots_read a b t access.follows keeps).slots slot block has holds) held)

-- a write to a slot leaves every other one its block
pub slots_written : (a b : SetState) (t : Tables) (slot : Slot) (block : List ℕ) → IsSpace (store_of a t)
    → HasSlot t slot → Follows a b
    → IsSlotWritten (class_of t slot.group) a b (group_in t.groups slot.group).members slot.slot block
    → OtherSlotsHold (store_of a t) (store_of b t) slot
slots_written a b t slot block space has ab written = record {
  slots = λ other held there ne holds.
      elim (eqb_tells other.group slot.group) [
        | inl same ↦
            (let P : ℕ → Type 0 = λ g. other.slot < slots_of a.geometry (class_of t g)
            → ClassHolds (class_of t g) a (group_in t.groups g).members other.slot held
            → ClassHolds (class_of t g) b (group_in t.groups g).members other.slot held in
            subst P (sym same.1)
            (λ inside holds. written.beside other.slot held inside (λ e. ne (make_slot other slot same.1 e)) holds)
            (slot_inside (store_of a t) other space there) holds)
        | inr apart ↦
            class_disjoint (class_of t other.group) a b (group_in t.groups other.group).members
            (group_in t.groups slot.group).members other.slot held ab
            written.outside (groups_apart (store_of a t) other.group slot.group space there.0 has.0 apart.1) holds
      ];
}

pub space_written : (a b : SetState) (t : Tables) (slot : Slot) (block : List ℕ) → IsSpace (store_of a t)
    → HasSlot t slot → IsAccessed a b
    → length block ≡ block_len_of a.geometry
    → IsSlotWritten (class_of t slot.group) a b (group_in t.groups slot.group).members slot.slot block
    → IsSpace (store_of b t)
space_written a b t slot block space has access len written =
    space_accessed a b t space access
    (λ other there held.
    elim (slot_tells other slot) [
      | inl same ↦
          (let P : Slot → Type 0 = λ x. HoldsBlock (store_of b t) x in
          subst P (sym same)
          (record {
            block = block;
            len = len ∙ ap block_len_of (sym access.follows.geometry);
            holds = written.here;
          }))
      | inr ne ↦
          held_then a b t other access.follows
          (λ before holds. (slots_written a b t slot block space has access.follows written).slots other before there ne
          holds) held
    ])
