-- What the calls on a mirrored group and on one with parity do to the slots of a space.
use Rattle.std.proofs.Common.{◌≡◌, ◌≢◌, ℕ, ◌<◌, List, length, sym, ◌∙◌, subst, arith}
use Rattle.ar_disks.specs.Block.{part_at}
use Rattle.ar_disks.specs.declared.address.Members.{Members}
use Rattle.ar_disks.specs.declared.completion.Completion.{Completion}
use Rattle.ar_disks.specs.declared.completion.Completion.TheVariants.{Done, Broken}
use Rattle.ar_extents.specs.Set.{SetState}
use Rattle.ar_extents.specs.Groups.{IsGroup}
use Rattle.ar_extents.specs.Follows.{Keeps, Anywhere}
use Rattle.ar_mirror.specs.Calls.{ReadsSlotPart, KeepsButSlot, OtherMirrorSlotsHold}
use Rattle.ar_mirror.specs.Holds.{Holds as MirrorHolds}
use Rattle.ar_parity.specs.Group.{Holds as ParityHolds, KeepsButRow}
use Rattle.ar_parity.specs.Row.{row_of as parity_row_of}
use Rattle.ar_book.specs.declared.class.Class.{Class}
use Rattle.ar_book.specs.declared.class.Class.TheVariants.{Free, Mirrored, Parity}
use Rattle.ar_book.specs.declared.class.Slot.{Slot}
use Rattle.ar_book.specs.Tables.{Tables, slots_of, HasSlot}
use Rattle.ar_store.specs.Store.{StoreState, store_of, members_of, class_in}
use Rattle.ar_store.specs.Slots.{ClassHolds, SlotHolds, HoldsAny, CanWrite, IsSlotWritten, OtherSlotsHold, AllStand}
use Rattle.ar_store.specs.Plans.{slot_read, slot_write, read_of, WritesSlot}
use Rattle.ar_extents.specs.Plans.{CarriesOut}
use Rattle.ar_store.specs.Kept.{IsSpace}
use Rattle.ar_disks.specs.Endings.{OnDone}
use Rattle.ar_store.specs.Calls.{IsAccessed}
use Rattle.ar_extents.specs.Groups.{outcome_of}
use Rattle.ar_disks.specs.Geometry.{block_len_of}
use Rattle.ar_store.specs.declared.space.Space.{Space}
use Rattle.ar_store.specs.Placing.{SameUnits}
use Rattle.ar_store.specs.Spaces.{store_in, IsReady, ReadsAt, WritesAt}
use Rattle.ar_store.proofs.Accesses.{plan_accessed, read_rebuilds, write_rebuilds, slot_keeps}
use Rattle.ar_store.proofs.Changes.{units_refl}
use Rattle.ar_store.proofs.Classes.{mirror_written, parity_written}
use Rattle.ar_store.proofs.Spaces.{slot_group, slot_inside, slot_ready, space_read, slots_read, slots_written}
use Rattle.ar_store.proofs.Spaces.{space_written}
use Rattle.ar_store.proofs.Standing.{all_stand}

-- A slot of a group whose extents and class were asked for.
module _ (s : StoreState) (slot : Slot) (m : Members) (space : IsSpace s) (has : HasSlot s.book slot) (is_m : m
    ≡ members_of s slot.group) where
  asked_group : IsGroup s.disks m
  asked_group = subst (λ (x : Members). IsGroup s.disks x) (sym is_m) (slot_group s slot.group space has.0)

  asked_slot : (c : Class) → c ≡ class_in s slot.group → slot.slot < slots_of s.disks.geometry c
  asked_slot c is_c =
      subst (λ (x : Class). slot.slot < slots_of s.disks.geometry x) (sym is_c) (slot_inside s slot space has)

  -- both
  pub asked : (c : Class) → c ≡ class_in s slot.group → IsGroup s.disks m × (slot.slot < slots_of s.disks.geometry c)
  asked c is_c = (asked_group, asked_slot c is_c)

  -- no slot is in a free group
  pub never_free : Free ≢ class_in s slot.group
  never_free is = (let none : slot.slot < 0 = asked_slot Free is in omega arith)

  -- what was read is the block that the slot held, or a part of it
  pub given_in : (c : Class) (part : List ℕ → List ℕ) (bytes : List ℕ) (o : Completion) → c ≡ class_in s slot.group
      → OnDone o ((block : List ℕ) → ClassHolds c s.disks m slot.slot block → bytes ≡ part block)
      → OnDone o ((block : List ℕ) → SlotHolds s slot block → bytes ≡ part block)
  given_in c part bytes o is_c given =
      subst (λ (x : Members). OnDone o ((block : List ℕ) → ClassHolds (class_in s slot.group) s.disks x slot.slot block
      → bytes ≡ part block)) is_m
      (subst (λ (x : Class). OnDone o ((block : List ℕ) → ClassHolds x s.disks m slot.slot block → bytes ≡ part block))
      is_c given)

  -- the slot was read
  pub read_in : (c : Class) (b : SetState) → c ≡ class_in s slot.group
      → CarriesOut (slot_read c s.disks.geometry m slot.slot) s.disks b
      → CarriesOut (read_of s slot) s.disks b
  read_in c b is_c carried =
      subst (λ (x : Members). CarriesOut (slot_read (class_in s slot.group) s.disks.geometry x slot.slot) s.disks b)
      is_m
      (subst (λ (x : Class). CarriesOut (slot_read x s.disks.geometry m slot.slot) s.disks b) is_c carried)

  -- the slot was written, and the others of its group keep their blocks
  pub wrote_in : (c : Class) (b : SetState) → c ≡ class_in s slot.group → WritesSlot c s.disks b m slot.slot
      → WritesSlot (class_in s slot.group) s.disks b (members_of s slot.group) slot.slot
  wrote_in c b is_c writes =
      subst (λ (x : Members). WritesSlot (class_in s slot.group) s.disks b x slot.slot) is_m
      (subst (λ (x : Class). WritesSlot x s.disks b m slot.slot) is_c writes)

  -- what a slot holds, as its group holds it
  pub held_in : (c : Class) (block : List ℕ) → c ≡ class_in s slot.group → SlotHolds s slot block
      → ClassHolds c s.disks m slot.slot block
  held_in c block is_c held =
      subst (λ (x : Class). ClassHolds x s.disks m slot.slot block) (sym is_c)
      (subst (λ (x : Members). ClassHolds (class_in s slot.group) s.disks x slot.slot block) (sym is_m) held)

  -- the slot was written
  written_in : (c : Class) (b : SetState) (block : List ℕ) → c ≡ class_in s slot.group
      → IsSlotWritten c s.disks b m slot.slot block
      → IsSlotWritten (class_in s slot.group) s.disks b (members_of s slot.group) slot.slot block
  written_in c b block is_c written =
      subst (λ (x : Members). IsSlotWritten (class_in s slot.group) s.disks b x slot.slot block) is_m
      (subst (λ (x : Class). IsSlotWritten x s.disks b m slot.slot block) is_c written)

  pub written_mirrored : (b : SetState) (block : List ℕ) → Mirrored ≡ class_in s slot.group
      → MirrorHolds b m slot.slot block
      → OtherMirrorSlotsHold m slot.slot s.disks b → KeepsButSlot m slot.slot s.disks b
      → IsSlotWritten (class_in s slot.group) s.disks b (members_of s slot.group) slot.slot block
  written_mirrored b block is_c here slots keeps =
      written_in Mirrored b block is_c (mirror_written s.disks b m slot.slot block here slots keeps)

  pub written_parity : (b : SetState) (block : List ℕ) → Parity ≡ class_in s slot.group
      → ((held : List ℕ) → ParityHolds s.disks m slot.slot held → ParityHolds b m slot.slot block)
      → ((k : ℕ) → k ≢ slot.slot → (held : List ℕ) → ParityHolds s.disks m k held → ParityHolds b m k held)
      → KeepsButRow m (parity_row_of slot.slot) s.disks b
      → IsSlotWritten (class_in s slot.group) s.disks b (members_of s slot.group) slot.slot block
  written_parity b block is_c here others keeps =
      let ready = subst (λ (x : Members). HoldsAny s.disks x slot.slot) (sym is_m)
      (subst (λ (x : Class). CanWrite x s.disks (members_of s slot.group) slot.slot) (sym is_c)
      (slot_ready s slot space has)) in
      written_in Parity b block is_c (parity_written s.disks b m slot.slot block ready here others keeps)

-- what a read of a part of a mirrored slot gives
pub mirror_part_given : (a b : SetState) (m : Members) (i first : ℕ) (bytes : List ℕ) (o : Completion)
    → ReadsSlotPart a b m i first bytes o
    → OnDone o ((block : List ℕ) → MirrorHolds a m i block → bytes ≡ part_at block first (length bytes))
mirror_part_given a b m i first bytes Done gives = gives.held
mirror_part_given a b m i first bytes Broken gives = tt

-- a read leaves every block as it stood
pub record IsRead (a b : SetState) (t : Tables) : Type 0 where
  pub space : IsSpace (store_of b t)
  pub stand : AllStand (store_of a t) (store_of b t)

pub read_leaves : (a b : SetState) (t : Tables) → IsSpace (store_of a t) → IsAccessed a b → Keeps Anywhere a b
    → IsRead a b t
read_leaves a b t space access keeps =
    let after = space_read a b t space access keeps in
    record { space = after; stand = all_stand a b t space after access.follows (slots_read a b t access.follows keeps) }

-- A call on the group of a slot, which changed neither the tables nor the geometry.
module _ {X : Type 0} (old new : Space X) (slot : Slot) (m : Members) (ready : IsReady old)
    (has : HasSlot old.book slot) (is_m : m ≡ members_of (store_in old) slot.group) (c : Class)
    (is_c : c ≡ class_in (store_in old) slot.group)
    (book : new.book ≡ old.book) (scratch : new.scratch.geometry ≡ old.scratch.geometry) (o : Completion)
    (outcome : o ≡ outcome_of new.disks.health) where
  -- with the tables as they are after it
  with_book : (P : Tables → Type 0) → P old.book → P new.book
  with_book P before = subst P (sym book) before

  -- It read a part of the slot.
  pub read_done : (first : ℕ) (bytes : List ℕ)
      → OnDone o ((block : List ℕ) → ClassHolds c old.disks m slot.slot block
      → bytes ≡ part_at block first (length bytes))
      → CarriesOut (slot_read c old.disks.geometry m slot.slot) old.disks new.disks → ReadsAt old new slot first bytes o
  read_done first bytes given plan =
      let s = store_in old in
      let b = new.disks in
      let access = plan_accessed (slot_read c s.disks.geometry m slot.slot) s.disks b
      (read_rebuilds c s.disks.geometry m slot.slot) plan in
      let keeps = slot_keeps c m slot.slot s.disks b plan in
      let leaves = read_leaves s.disks b s.book ready.space access keeps in
      record {
        outcome = outcome;
        given = given_in s slot m ready.space has is_m c (λ block. part_at block first (length bytes)) bytes o is_c
            given;
        book = book;
        plan = read_in s slot m ready.space has is_m c b is_c plan;
        keeps = keeps;
        stand = with_book (λ t. AllStand s (store_of b t)) leaves.stand;
        stays = record {
          ready = record {
            space = with_book (λ t. IsSpace (store_of b t)) leaves.space;
            scratch = scratch ∙ ready.scratch ∙ sym access.follows.geometry;
          };
          units = with_book (λ t. SameUnits s.book t) (units_refl s.book);
          accessed = access;
        };
      }

  -- It wrote the slot.
  pub write_done : (block : List ℕ) → length block ≡ block_len_of old.disks.geometry
      → IsSlotWritten (class_in (store_in old) slot.group) old.disks new.disks (members_of (store_in old) slot.group)
      slot.slot block
      → WritesSlot c old.disks new.disks m slot.slot → WritesAt old new slot o
  write_done block len written writes =
      let s = store_in old in
      let b = new.disks in
      let access = plan_accessed (slot_write c s.disks.geometry m slot.slot) s.disks b
      (write_rebuilds c s.disks.geometry m slot.slot) writes.plan in
      record {
        outcome = outcome;
        others = with_book (λ t. OtherSlotsHold s (store_of b t) slot)
            (slots_written s.disks b s.book slot block ready.space has access.follows written);
        book = book;
        writes = wrote_in s slot m ready.space has is_m c b is_c writes;
        stays = record {
          ready = record {
            space = with_book (λ t. IsSpace (store_of b t))
                (space_written s.disks b s.book slot block ready.space has access len written);
            scratch = scratch ∙ ready.scratch ∙ sym access.follows.geometry;
          };
          units = with_book (λ t. SameUnits s.book t) (units_refl s.book);
          accessed = access;
        };
      }
