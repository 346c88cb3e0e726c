-- Changes of the tables that leave a store what it is.
use Rattle.std.proofs.Common.{◌≡◌, ◌≢◌, inl, inr, ℕ, ◌<◌, List, length, Some, refl, sym, ap, subst, ◌∙◌, true≢false}
use Rattle.std.proofs.Common.{Bool, true, false}
use Rattle.std.proofs.lemmas.Option.{none-some}
use Rattle.std.specs.List.{list_any}
use Rattle.std.proofs.lemmas.Map.Made.{is_some-lookup}
use Rattle.ar_disks.specs.declared.address.Key.{Key}
use Rattle.ar_disks.specs.declared.address.Addr.{Addr}
use Rattle.ar_disks.specs.Members.{member}
use Rattle.ar_extents.specs.declared.health.Health.TheVariants.{Broken}
use Rattle.ar_extents.specs.Set.{SetState, HasExtent}
use Rattle.ar_extents.specs.Loose.{is_loose}
use Rattle.ar_book.specs.declared.class.Class.{Class}
use Rattle.ar_book.specs.declared.class.Class.TheVariants.{Free, Mirrored, Parity}
use Rattle.ar_book.specs.declared.class.Slot.{Slot}
use Rattle.ar_disks.specs.Addresses.{same_addr}
use Rattle.ar_book.specs.Tables.{Tables, is_free, group_in, class_of, key_at, has_unit, HasBlock}
use Rattle.ar_book.specs.Changes.{assigned, stamped, opened}
use Rattle.ar_book.specs.Book.{TablesAgree}
use Rattle.ar_book.proofs.Keys.{slot_tells}
use Rattle.ar_book.proofs.Homes.{home_key, free_empty}
use Rattle.ar_book.proofs.GroupLemmas.{KeepsClass}
use Rattle.ar_book.proofs.PlaceLemmas.{assigned_agrees}
use Rattle.ar_book.proofs.AfterAssign.{assigned_group_count, assigned_members, assigned_class, assigned_class_named}
use Rattle.ar_book.proofs.AfterAssign.{assigned_class_here, assigned_key_other, assigned_key_left, assigned_home}
use Rattle.ar_book.proofs.AfterAssign.{assigned_home_other, assigned_order, assigned_sectors, assigned_attention}
use Rattle.ar_book.proofs.AfterAssign.{assigned_blocks, assigned_reserved}
use Rattle.ar_book.proofs.AfterOpen.{opened_group_count, opened_members, opened_key, opened_class, opened_class_other}
use Rattle.ar_book.proofs.AfterOpen.{opened_agrees}
use Rattle.ar_book.proofs.AfterStamp.{stamped_agrees, stamped_home, stamped_order, stamped_sectors, stamped_attention}
use Rattle.ar_book.proofs.AfterStamp.{stamped_homes, stamped_reserved}
use Rattle.ar_store.specs.Store.{StoreState, store_of}
use Rattle.ar_store.specs.Slots.{SlotHolds, HoldsBlock, stands, OthersStand}
use Rattle.ar_store.specs.Kept.{IsTaken, IsSpace}
use Rattle.ar_store.specs.Placing.{SameUnits, IsVacant}
use Rattle.ar_store.proofs.Standing.{stands_held, stands_same, holds_same, block_same}

is_mirrored : Class → Bool
is_mirrored Free = false
is_mirrored Mirrored = true
is_mirrored Parity = false

-- the classes differ
pub mirrored_not_free : Mirrored ≢ Free
mirrored_not_free e = true≢false (ap is_free (sym e))

pub mirrored_not_parity : Mirrored ≢ Parity
unfolding is_mirrored
mirrored_not_parity e = true≢false (ap is_mirrored e)

-- a slot that names a block isn't in a free group
pub named_apart : (t : Tables) (g : ℕ) (slot : Slot) (k : Key) → TablesAgree t → class_of t g ≡ Free
    → key_at t slot ≡ Some k → slot.group ≢ g
named_apart t g slot k ok free names same =
    none-some k (sym (free_empty t ok g free slot.slot)
    ∙ ap (λ n. key_at t (record { group = n; slot = slot.slot })) (sym same) ∙ names)

-- the extents of groups stay taken where the members stay
pub extents_same : (a : SetState) (t u : Tables) → IsSpace (store_of a t) → length u.groups ≡ length t.groups
    → ((g : ℕ) → (group_in u.groups g).members ≡ (group_in t.groups g).members) → (g i : ℕ) → g < length u.groups
    → i < 4 → IsTaken (store_of a u) g i
extents_same a t u space count members g i inside lt =
    let taken = space.extents g i (subst (λ n. g < n) count inside) lt in
    record {
      there = subst (λ m. HasExtent a (member m i)) (sym (members g)) taken.there;
      used = ap (λ m. is_loose a (member m i)) (members g) ∙ taken.used;
    }

-- a slot whose group may have been freed, and that is of a group with parity
parity_before : (t u : Tables) (g : ℕ) → KeepsClass (class_of t g) (group_in u.groups g) → class_of u g ≡ Parity
    → class_of t g ≡ Parity
parity_before t u g (inl same) is = sym same ∙ is
parity_before t u g (inr free) is = absurd (free_not_parity (sym free.0 ∙ is))
  where
    free_not_parity : Free ≢ Parity
    free_not_parity e = true≢false (ap is_free e)

-- tables of the same groups, whose named slots hold blocks: the store keeps what it kept
pub space_changed : (a : SetState) (t u : Tables) → IsSpace (store_of a t) → u.geometry ≡ t.geometry → TablesAgree u
    → length u.groups ≡ length t.groups → ((g : ℕ) → (group_in u.groups g).members ≡ (group_in t.groups g).members)
    → ((g : ℕ) → KeepsClass (class_of t g) (group_in u.groups g))
    → ((slot : Slot) (j : Key) → key_at u slot ≡ Some j → class_of u slot.group ≡ class_of t slot.group)
    → ((slot : Slot) (j : Key) → key_at u slot ≡ Some j → HoldsBlock (store_of a t) slot) → IsSpace (store_of a u)
space_changed a t u space geometry agree count members classes class held = record {
  geometry = geometry ∙ space.geometry;
  tables = agree;
  extents = extents_same a t u space count members;
  named = λ slot j names. block_same a t u slot (class slot j names) (members slot.group) (held slot j names);
  parity = λ slot inside is lt.
      let before = parity_before t u slot.group (classes slot.group) is in
      block_same a t u slot (is ∙ sym before) (members slot.group)
      (space.parity slot (subst (λ n. slot.group < n) count inside) before lt);
}

module _ (a : SetState) (t : Tables) (k : Key) (s : Slot) (space : IsSpace (store_of a t)) (block : HasBlock t k)
    (vacant : IsVacant t s) where
  -- the tables agree after a move
  pub moved_agrees : TablesAgree (assigned t k s)
  moved_agrees = assigned_agrees t k s space.tables block vacant.there vacant.empty

  -- A block moves to a slot that holds some block: the store keeps what it kept.
  pub space_moved : HoldsBlock (store_of a t) s → IsSpace (store_of a (assigned t k s))
  space_moved held =
      space_changed a t (assigned t k s) space refl moved_agrees (assigned_group_count t k s) (assigned_members t k s)
      (assigned_class t k s) (assigned_class_named t k s) held_before
    where
      held_before : (slot : Slot) (j : Key) → key_at (assigned t k s) slot ≡ Some j → HoldsBlock (store_of a t) slot
      held_before slot j names =
          elim (slot_tells slot s) [
            | inl same ↦ (let P : Slot → Type 0 = λ x. HoldsBlock (store_of a t) x in subst P (sym same) held)
            | inr ne ↦
                space.named slot j
                (sym (assigned_key_other t k s space.tables block vacant.there vacant.empty slot ne
                (λ was. none-some j (sym (assigned_key_left t k s space.tables block vacant.there vacant.empty slot was)
                ∙ names)))
                ∙ names)
          ]

  -- every other block stands as it did
  pub others_moved : (j : Key) → j ≢ k → stands (store_of a (assigned t k s)) j ≡ stands (store_of a t) j
  others_moved j ne =
      let same = assigned_home_other t k s block j ne in
      stands_same a t (assigned t k s) j same
      (λ slot is. assigned_class_named t k s slot j (home_key (assigned t k s) moved_agrees j slot (same ∙ is)))
      (assigned_members t k s)

  -- and the block that moved is the one that its new slot holds
  pub block_moved : (bytes : List ℕ) → IsSpace (store_of a (assigned t k s)) → a.health ≢ Broken
      → SlotHolds (store_of a t) s bytes
      → stands (store_of a (assigned t k s)) k ≡ bytes
  block_moved bytes after sound holds =
      stands_held (store_of a (assigned t k s)) k s bytes after sound (assigned_home t k s block)
      (holds_same a t (assigned t k s) s bytes (assigned_class_here t k s space.tables block vacant.there vacant.empty)
      (assigned_members t k s s.group) holds)

module _ (a : SetState) (t : Tables) (k : Key) (space : IsSpace (store_of a t)) (block : HasBlock t k) where
  -- a stamp changes nothing but itself
  pub space_stamped : IsSpace (store_of a (stamped t k))
  space_stamped = record {
    geometry = space.geometry;
    tables = stamped_agrees t k block space.tables;
    extents = extents_same a t (stamped t k) space refl (λ g. refl);
    named = λ slot j names. block_same a t (stamped t k) slot refl refl (space.named slot j names);
    parity = λ slot inside is lt. block_same a t (stamped t k) slot refl refl (space.parity slot inside is lt);
  }

  pub all_stamped : (j : Key) → stands (store_of a (stamped t k)) j ≡ stands (store_of a t) j
  all_stamped j = stands_same a t (stamped t k) j (stamped_home t k j) (λ slot is. refl) (λ g. refl)

  pub units_stamped : SameUnits t (stamped t k)
  units_stamped = record {
    order = stamped_order t k;
    sectors = stamped_sectors t k;
    attention = stamped_attention t k;
    blocks = λ b. ap (λ l. length l) (stamped_homes t k b);
    groups = refl;
    reserved = stamped_reserved t k block;
  }

-- the units stay
pub units_refl : (t : Tables) → SameUnits t t
units_refl t =
    record {
      order = refl;
      sectors = λ a. refl;
      attention = λ a. refl;
      blocks = λ a. refl;
      groups = refl;
      reserved = refl;
    }

pub units_then : (t u v : Tables) → SameUnits t u → SameUnits u v → SameUnits t v
units_then t u v tu uv = record {
  order = uv.order ∙ tu.order;
  sectors = λ a. uv.sectors a ∙ tu.sectors a;
  attention = λ a. uv.attention a ∙ tu.attention a;
  blocks = λ a. uv.blocks a ∙ tu.blocks a;
  groups = uv.groups ∙ tu.groups;
  reserved = uv.reserved ∙ tu.reserved;
}

-- a unit's block stays one
pub block_then : (t u : Tables) (k : Key) → SameUnits t u → HasBlock t k → HasBlock u k
block_then t u k same block = subst (λ n. k.rb < n) (sym (same.blocks k.addr)) block

-- and was one
pub block_before : (t u : Tables) (k : Key) → SameUnits t u → HasBlock u k → HasBlock t k
block_before t u k same block = subst (λ n. k.rb < n) (same.blocks k.addr) block

-- there is a unit where there was one
pub same_units_there : (t new : Tables) → SameUnits t new → (a : Addr) → has_unit new a ≡ has_unit t a
same_units_there t new same a =
    is_some-lookup (same_addr a) new.units ∙ ap (λ (addrs : List Addr). list_any (same_addr a) addrs) same.order
    ∙ sym (is_some-lookup (same_addr a) t.units)

-- the units stay, but for the home of a block that moves
pub units_assigned : (t : Tables) (k : Key) (s : Slot) → HasBlock t k → SameUnits t (assigned t k s)
units_assigned t k s block = record {
  order = assigned_order t k s;
  sectors = assigned_sectors t k s;
  attention = assigned_attention t k s;
  blocks = assigned_blocks t k s;
  groups = assigned_group_count t k s;
  reserved = assigned_reserved t k s block;
}

-- a group is opened for mirrored blocks: the store keeps what it kept, and every block stands as it did
module _ (a : SetState) (t : Tables) (g : ℕ) (space : IsSpace (store_of a t)) (inside : g < length t.groups)
    (free : class_of t g ≡ Free) where
  pub space_opened : IsSpace (store_of a (opened t g Mirrored))
  space_opened = record {
    geometry = space.geometry;
    tables = opened_agrees t g Mirrored space.tables inside free;
    extents = extents_same a t (opened t g Mirrored) space (opened_group_count t g Mirrored)
        (opened_members t g Mirrored);
    named = λ slot j names.
        let before = sym (opened_key t g Mirrored slot) ∙ names in
        block_same a t (opened t g Mirrored) slot
        (opened_class_other t g Mirrored slot.group (named_apart t g slot j space.tables free before))
        (opened_members t g Mirrored slot.group) (space.named slot j before);
    parity = λ slot there is lt.
        let ne : slot.group ≢ g =
        λ same. mirrored_not_parity (sym (opened_class t g Mirrored inside)
        ∙ ap (λ n. class_of (opened t g Mirrored) n) (sym same) ∙ is) in
        let class = opened_class_other t g Mirrored slot.group ne in
        block_same a t (opened t g Mirrored) slot class (opened_members t g Mirrored slot.group)
        (space.parity slot (subst (λ n. slot.group < n) (opened_group_count t g Mirrored) there) (sym class ∙ is) lt);
  }

  pub all_opened : (k : Key) → stands (store_of a (opened t g Mirrored)) k ≡ stands (store_of a t) k
  all_opened k =
      stands_same a t (opened t g Mirrored) k refl
      (λ slot is. opened_class_other t g Mirrored slot.group
      (named_apart t g slot k space.tables free (home_key t space.tables k slot is)))
      (opened_members t g Mirrored)

-- the units stay where a group is opened
pub units_opened : (t : Tables) (g : ℕ) (c : Class) → SameUnits t (opened t g c)
units_opened t g c = record {
  order = refl;
  sectors = λ a. refl;
  attention = λ a. refl;
  blocks = λ a. refl;
  groups = opened_group_count t g c;
  reserved = refl;
}

-- what was said of the others before a stamp
pub others_stamped : (old : StoreState) (b : SetState) (u : Tables) (k : Key) → IsSpace (store_of b u) → HasBlock u k
    → OthersStand old (store_of b u) k
    → OthersStand old (store_of b (stamped u k)) k
others_stamped old b u k space block others =
    record { blocks = λ sound j ne. all_stamped b u k space block j ∙ others.blocks sound j ne }
