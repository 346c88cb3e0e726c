-- A free group is opened for parity, once each of its slots holds a block.
use Rattle.std.proofs.Common.{◌≡◌, ◌≢◌, ◌⊎◌, inl, inr, ℕ, ◌*◌, ◌<◌, ◌≤◌, List, length, Option, None, Some, true, false}
use Rattle.std.proofs.Common.{true≢false, refl, sym, ap, subst, ◌∙◌, arith}
use Rattle.std.proofs.lemmas.Bool.{cases_lt}
use Rattle.std.proofs.lemmas.Bool.Decides.{eqb_tells}
use Rattle.ar_disks.specs.Block.{zeros}
use Rattle.ar_disks.specs.Geometry.{rows_of, block_len_of}
use Rattle.ar_disks.specs.Members.{member}
use Rattle.ar_disks.specs.declared.address.Key.{Key}
use Rattle.ar_disks.specs.declared.address.Members.{Members}
use Rattle.ar_disks.proofs.Xor.{length-zeros}
use Rattle.ar_extents.specs.declared.health.Health.TheVariants.{Broken}
use Rattle.ar_extents.specs.Set.{SetState}
use Rattle.ar_extents.specs.Follows.{Keeps}
use Rattle.ar_extents.specs.Groups.{IsGroup, IsOutside}
use Rattle.ar_extents.specs.Loose.{is_loose}
use Rattle.ar_extents.proofs.Follows.{has_extent_then}
use Rattle.ar_parity.specs.Group.{Holds as ParityHolds}
use Rattle.ar_book.specs.declared.class.Class.{Class}
use Rattle.ar_book.specs.declared.class.Class.TheVariants.{Free, Mirrored, Parity}
use Rattle.ar_book.specs.declared.class.Slot.{Slot}
use Rattle.ar_book.specs.Tables.{Tables, group_in, class_of, home, free_groups}
use Rattle.ar_book.specs.Book.{TablesAgree}
use Rattle.ar_book.specs.Changes.{opened, slot_at}
use Rattle.ar_book.specs.Choices.{IsLowestFree}
use Rattle.ar_book.proofs.Homes.{home_key, home_slot, key_slot}
use Rattle.ar_book.proofs.AfterOpen.{opened_group_count, opened_members, opened_key, opened_class, opened_class_other}
use Rattle.ar_book.proofs.AfterOpen.{opened_agrees, opened_free_groups}
use Rattle.ar_store.specs.declared.open.Opening.TheVariants.{Opened, Idle, Broken as NotOpened}
use Rattle.ar_store.specs.Store.{store_of}
use Rattle.ar_store.specs.Slots.{ClassHolds, SlotHolds, HoldsBlock, stands, AllStand}
use Rattle.ar_store.specs.Kept.{IsSpace}
use Rattle.ar_store.specs.Placing.{SameUnits, MayOpen}
use Rattle.ar_store.specs.Calls.{IsAccessed, HoldsZeros}
use Rattle.ar_store.proofs.Classes.{class_disjoint}
use Rattle.ar_store.proofs.Spaces.{groups_apart, slot_group}
use Rattle.ar_store.proofs.Standing.{stands_held, stands_nowhere, was_sound, holds_same}
use Rattle.ar_store.proofs.Changes.{extents_same, named_apart, space_opened, all_opened, units_refl, units_opened}
use Rattle.ar_store.proofs.Changes.{mirrored_not_free}

-- A slot of a parity group holds some block of full length.
pub record HoldsWhole (s : SetState) (m : Members) (i : ℕ) : Type 0 where
  pub block : List ℕ
  pub len : length block ≡ block_len_of s.geometry
  pub holds : ParityHolds s m i block

-- The extents of a free group were written so that each of its slots holds a block, and the group is opened for parity.
module _ (a b : SetState) (t : Tables) (g : ℕ) (space : IsSpace (store_of a t)) (inside : g < length t.groups)
    (free : class_of t g ≡ Free) (access : IsAccessed a b)
    (keeps : Keeps (IsOutside (group_in t.groups g).members) a b) where
  new : Tables
  new = opened t g Parity

  -- a slot of another group holds what it held
  other_holds : (slot : Slot) (block : List ℕ) → slot.group < length t.groups → slot.group ≢ g
      → SlotHolds (store_of a t) slot block → SlotHolds (store_of b new) slot block
  unfolding new
  other_holds slot block there ne holds =
      holds_same b t (opened t g Parity) slot block (opened_class_other t g Parity slot.group ne)
      (opened_members t g Parity slot.group)
      (class_disjoint (class_of t slot.group) a b (group_in t.groups slot.group).members (group_in t.groups g).members
      slot.slot block access.follows keeps
      (groups_apart (store_of a t) slot.group g space there inside ne) holds)

  other_held : (slot : Slot) → slot.group < length t.groups → slot.group ≢ g → HoldsBlock (store_of a t) slot
      → HoldsBlock (store_of b new) slot
  other_held slot there ne held = record {
    block = held.block;
    len = held.len ∙ ap block_len_of (sym access.follows.geometry);
    holds = other_holds slot held.block there ne held.holds;
  }

  -- a slot of the group holds what its extents hold
  pub opened_holds : (slot : Slot) (block : List ℕ) → slot.group ≡ g
      → ParityHolds b (group_in t.groups g).members slot.slot block
      → SlotHolds (store_of b (opened t g Parity)) slot block
  unfolding new
  opened_holds slot block is holds =
      let P : ℕ → Type 0 =
      λ n. ClassHolds (class_of (opened t g Parity) n) b (group_in (opened t g Parity).groups n).members slot.slot
      block in
      let Q : Class → Type 0 = λ c. ClassHolds c b (group_in (opened t g Parity).groups g).members slot.slot block in
      let R : Members → Type 0 = λ m. ParityHolds b m slot.slot block in
      subst P (sym is) (subst Q (sym (opened_class t g Parity inside)) (subst R (sym (opened_members t g Parity g))
      holds))

  module _ (whole : (i : ℕ) → i < 3 * rows_of a.geometry → HoldsWhole b (group_in t.groups g).members i) where
    here_held : (slot : Slot) → slot.group ≡ g → slot.slot < 3 * rows_of b.geometry → HoldsBlock (store_of b new) slot
    unfolding new
    here_held slot is lt =
        let held = whole slot.slot (subst (λ x. slot.slot < 3 * rows_of x) access.follows.geometry lt) in
        record { block = held.block; len = held.len; holds = opened_holds slot held.block is held.holds }

    pub space_filled : IsSpace (store_of b (opened t g Parity))
    unfolding new
    space_filled = record {
      geometry = space.geometry ∙ sym access.follows.geometry;
      tables = opened_agrees t g Parity space.tables inside free;
      extents = λ h i there lt.
          let taken = extents_same a t (opened t g Parity) space (opened_group_count t g Parity)
          (opened_members t g Parity) h i there lt in
          record {
            there = has_extent_then a b (member (group_in (opened t g Parity).groups h).members i) access.follows
                taken.there;
            used = ap (λ l. is_loose (record a { loose = l }) (member (group_in (opened t g Parity).groups h).members
                i)) access.loose ∙ taken.used;
          };
      named = λ slot j names.
          let before = sym (opened_key t g Parity slot) ∙ names in
          other_held slot (key_slot t space.tables slot j before).0 (named_apart t g slot j space.tables free before)
          (space.named slot j before);
      parity = λ slot there is lt.
          elim (eqb_tells slot.group g) [
            | inl same ↦ here_held slot same.1 lt
            | inr ne ↦
                let there_before = subst (λ n. slot.group < n) (opened_group_count t g Parity) there in
                other_held slot there_before ne.1
                (space.parity slot there_before (sym (opened_class_other t g Parity slot.group ne.1) ∙ is)
                (subst (λ x. slot.slot < 3 * rows_of x) access.follows.geometry lt))
          ];
    }

    pub stand_filled : AllStand (store_of a t) (store_of b (opened t g Parity))
    unfolding new
    stand_filled = record { blocks = λ sound k. by sound k (home t k) refl }
      where
        by : b.health ≢ Broken → (k : Key) (o : Option Slot) → home t k ≡ o
            → stands (store_of b (opened t g Parity)) k ≡ stands (store_of a t) k
        by sound k None is =
            stands_nowhere (store_of b (opened t g Parity)) k is
            ∙ ap (λ x. zeros (block_len_of x)) access.follows.geometry ∙ sym (stands_nowhere (store_of a t) k is)
        by sound k (Some slot) is =
            let key = home_key t space.tables k slot is in
            let held = space.named slot k key in
            stands_held (store_of b (opened t g Parity)) k slot held.block space_filled sound is
            (other_holds slot held.block (home_slot t space.tables k slot is).0
            (named_apart t g slot k space.tables free key) held.holds)
            ∙ sym (stands_held (store_of a t) k slot held.block space (was_sound a b access.follows sound) is
            held.holds)

-- the same, of a group that was filled with zeros, and under the names that the calls give
pub record IsZeroed (a b : SetState) (t u : Tables) (g : ℕ) : Type 0 where
  pub space : IsSpace (store_of b u)
  pub units : SameUnits t u
  pub stand : AllStand (store_of a t) (store_of b u)
  pub zeros_in : HoldsZeros (store_of b u) g

pub zeroed : (a b : SetState) (t u : Tables) (g : ℕ) (m : Members) → IsSpace (store_of a t) → IsLowestFree t g
    → u ≡ opened t g Parity → m ≡ (group_in u.groups g).members
    → IsAccessed a b → Keeps (IsOutside m) a b
    → ((i : ℕ) → i < 3 * rows_of a.geometry → ParityHolds b m i (zeros (block_len_of a.geometry))) → IsZeroed a b t u g
zeroed a b t u g m space lowest is_u is_m access keeps slots =
    let is : m ≡ (group_in t.groups g).members =
    is_m ∙ ap (λ (x : Tables). (group_in x.groups g).members) is_u ∙ opened_members t g Parity g in
    let keeps_t = subst (λ (x : Members). Keeps (IsOutside x) a b) is keeps in
    let slots_t =
    subst (λ (x : Members). (i : ℕ) → i < 3 * rows_of a.geometry
    → ParityHolds b x i (zeros (block_len_of a.geometry))) is slots in
    let whole : (i : ℕ) → i < 3 * rows_of a.geometry → HoldsWhole b (group_in t.groups g).members i = λ i lt. record {
      block = zeros (block_len_of a.geometry);
      len = length-zeros (block_len_of a.geometry) ∙ ap block_len_of (sym access.follows.geometry);
      holds = slots_t i lt;
    } in
    subst (λ (x : Tables). IsZeroed a b t x g) (sym is_u) (record {
      space = space_filled a b t g space lowest.there lowest.free access keeps_t whole;
      units = units_opened t g Parity;
      stand = stand_filled a b t g space lowest.there lowest.free access keeps_t whole;
      zeros_in = record {
        slots = λ i lt.
            subst (λ x. SlotHolds (store_of b (opened t g Parity)) (slot_at g i) (zeros (block_len_of x)))
            (sym access.follows.geometry)
            (opened_holds a b t g space lowest.there lowest.free access keeps_t (slot_at g i)
            (zeros (block_len_of a.geometry)) refl
            (slots_t i (subst (λ x. i < 3 * rows_of x) access.follows.geometry lt)));
      };
    })

-- the extents of a group that was opened are one group of the disks
pub opened_group : (a : SetState) (t u : Tables) (g : ℕ) (c : Class) (m : Members) → IsSpace (store_of a t)
    → IsLowestFree t g → u ≡ opened t g c → m ≡ (group_in u.groups g).members
    → IsGroup a m
opened_group a t u g c m space lowest is_u is_m =
    subst (λ (x : Members). IsGroup a x)
    (sym (is_m ∙ ap (λ (x : Tables). (group_in x.groups g).members) is_u ∙ opened_members t g c g))
    (slot_group (store_of a t) g space lowest.there)

-- and it is there
pub opened_there : (t u : Tables) (g : ℕ) (c : Class) → IsLowestFree t g → u ≡ opened t g c → g < length u.groups
opened_there t u g c lowest is =
    subst (λ n. g < n) (sym (ap (λ (x : Tables). length x.groups) is ∙ opened_group_count t g c)) lowest.there

-- where two groups are free, one is once a group was opened
pub opened_free : (t u : Tables) (g : ℕ) (c : Class) → TablesAgree t → IsLowestFree t g → 2 ≤ free_groups t → c ≢ Free
    → u ≡ opened t g c → 0 < free_groups u
opened_free t u g c ok lowest many taken is =
    subst (λ (x : Tables). 0 < free_groups x) (sym is)
    (let count = opened_free_groups t g c ok lowest.there lowest.free taken in omega arith)

-- A group may have been opened for mirrored blocks: units, homes and blocks are as they were.
pub record IsAfterOpening (a : SetState) (t u : Tables) : Type 0 where
  pub space : IsSpace (store_of a u)
  pub units : SameUnits t u
  pub homes : (k : Key) → home u k ≡ home t k
  pub free : 0 < free_groups t → 0 < free_groups u
  pub stand : AllStand (store_of a t) (store_of a u)

pub after_opening : (a : SetState) (t u : Tables) → IsSpace (store_of a t) → MayOpen t u → IsAfterOpening a t u
after_opening a t u space (inl same) =
    subst (λ (x : Tables). IsAfterOpening a t x) (sym same)
    (record {
      space = space;
      units = units_refl t;
      homes = λ k. refl;
      free = λ some. some;
      stand = record { blocks = λ sound k. refl };
    })
after_opening a t u space (inr has) =
    let g = has.group in
    let lowest = has.lowest in
    subst (λ (x : Tables). IsAfterOpening a t x) (sym has.tables) (record {
      space = space_opened a t g space lowest.there lowest.free;
      units = units_opened t g Mirrored;
      homes = λ k. refl;
      free = λ some. opened_free t (opened t g Mirrored) g Mirrored space.tables lowest has.many mirrored_not_free refl;
      stand = record { blocks = λ sound k. all_opened a t g space lowest.there lowest.free k };
    })

-- a class that a group is opened for
pub class_mirrored : (c : Class) → (c ≡ Mirrored) ⊎ (c ≡ Free) → c ≢ Free → c ≡ Mirrored
class_mirrored c (inl is) taken = is
class_mirrored c (inr is) taken = absurd (taken is)

-- no two groups are free where none was opened
pub not_many : (t : Tables) → (false ≡ true → 2 ≤ free_groups t) × (2 ≤ free_groups t → false ≡ true)
    → free_groups t < 2
not_many t when =
    elim (cases_lt (free_groups t) 2) [ inl few ↦ few | inr many ↦ absurd (true≢false (sym (when.1 many))) ]

-- the answers of an opening differ
pub opened_not_broken : (g : ℕ) → Opened g ≢ NotOpened
opened_not_broken g e = cc

pub idle_not_broken : Idle ≢ NotOpened
idle_not_broken e = cc
