-- What a squeeze makes of the slots: all stripes of a free group are written, and then its slots become homes.
use Rattle.std.proofs.Common.{◌≡◌, ◌≢◌, inl, inr, ℕ, ◌*◌, ◌<◌, ◌≤◌, List, length, Some, sym, ap, subst, ◌∙◌}
use Rattle.std.proofs.Common.{zero, suc, Option, None, IsSome, refl, arith}
use Rattle.std.proofs.lemmas.Bool.{cases_lt}
use Rattle.std.proofs.lemmas.Bool.Decides.{eqb_tells}
use Rattle.ar_disks.specs.Block.{zeros}
use Rattle.ar_disks.specs.Geometry.{rows_of, block_len_of}
use Rattle.ar_disks.specs.Members.{AreDisjoint}
use Rattle.ar_disks.specs.declared.address.Key.{Key}
use Rattle.ar_disks.specs.declared.address.Members.{Members}
use Rattle.ar_disks.specs.declared.completion.Completion.{Completion}
use Rattle.ar_disks.specs.declared.completion.Completion.TheVariants.{Done, Broken as NotDone}
use Rattle.ar_disks.specs.declared.geometry.Geometry.{Geometry}
use Rattle.ar_disks.specs.Endings.{OnDone}
use Rattle.ar_disks.proofs.Addresses.{key_tells}
use Rattle.ar_disks.proofs.Xor.{length-zeros}
use Rattle.ar_extents.specs.declared.health.Health.TheVariants.{Broken}
use Rattle.ar_extents.specs.Set.{SetState}
use Rattle.ar_extents.specs.Follows.{Follows, Keeps}
use Rattle.ar_extents.specs.Groups.{IsOutside}
use Rattle.ar_extents.specs.Plans.{CarriesOut}
use Rattle.ar_extents.proofs.Follows.{keeps_refl}
use Rattle.ar_mirror.specs.Holds.{Holds as MirrorHolds}
use Rattle.ar_mirror.proofs.Frames.{disjoint_holds as mirror_disjoint}
use Rattle.ar_parity.specs.Group.{Holds as ParityHolds}
use Rattle.ar_book.specs.declared.class.Class.{Class}
use Rattle.ar_book.specs.declared.class.Class.TheVariants.{Free, Mirrored, Parity}
use Rattle.ar_book.specs.declared.class.Slot.{Slot}
use Rattle.ar_book.specs.Tables.{Tables, group_in, class_of, key_at, home, slots_of, HasBlock}
use Rattle.ar_book.specs.Changes.{assigned, opened, slot_at, moved_first, CanMove}
use Rattle.ar_book.specs.Choices.{IsEmpty, IsFullMirrored, IsLowestFree}
use Rattle.ar_book.proofs.AfterOpen.{opened_group_count, opened_members, opened_key, opened_class, opened_class_other}
use Rattle.ar_book.proofs.GroupMoves.{IsMoving, moving, move_next, slot_there}
use Rattle.ar_book.proofs.Homes.{key_home, key_block}
use Rattle.ar_store.specs.Store.{StoreState, store_of, members_of}
use Rattle.ar_store.specs.Slots.{ClassHolds, SlotHolds, HoldsBlock, SlotsHold, AllStand, stands}
use Rattle.ar_store.specs.Slots.{HoldsSources, HoldsCopy, HoldsCopies}
use Rattle.ar_store.specs.Calls.{IsAccessed, IsZerosFrom}
use Rattle.ar_store.specs.Kept.{IsSpace}
use Rattle.ar_store.specs.Placing.{IsVacant, SameUnits, BySqueeze, squeezed, prepared, lowest_group}
use Rattle.ar_store.specs.Plans.{squeeze_plan, Squeezes, CarriesOutSearch}
use Rattle.ar_store.proofs.Options.{some_value}
use Rattle.ar_store.proofs.Classes.{class_disjoint}
use Rattle.ar_store.proofs.Spaces.{groups_apart, held_then, space_accessed}
use Rattle.ar_store.proofs.Standing.{all_stand, stands_held, stands_whole}
use Rattle.ar_store.proofs.Changes.{space_moved, others_moved, block_moved, units_assigned, units_opened}
use Rattle.ar_store.proofs.Changes.{mirrored_not_free, units_refl, units_then}
use Rattle.ar_store.proofs.Fills.{accessed_refl}
use Rattle.ar_store.proofs.Openings.{HoldsWhole, space_filled, stand_filled}
use Rattle.ar_store.proofs.Squeezing.{same_free}
use Rattle.ar_store.proofs.Gaps.{free_is, full_is}
use Rattle.ar_store.proofs.Planned.{first_members}

-- the group that is copied isn't the one that it is copied to
pub from_to_apart : (t : Tables) (from to : ℕ) → IsFullMirrored t from → IsLowestFree t to → from ≢ to
from_to_apart t from to full free same =
    mirrored_not_free (sym full.mirrored ∙ ap (λ n. class_of t n) same ∙ free.free)

pub copies_apart : (a : SetState) (t : Tables) (from to : ℕ) → IsSpace (store_of a t) → IsFullMirrored t from
    → IsLowestFree t to
    → AreDisjoint (group_in t.groups from).members (group_in t.groups to).members
copies_apart a t from to space full free =
    groups_apart (store_of a t) from to space full.there free.there (from_to_apart t from to full free)

-- The extents of a free group alone were written: each slot holds what it held.
free_written : (a b : SetState) (t : Tables) (g : ℕ) → IsSpace (store_of a t) → IsLowestFree t g → Follows a b
    → Keeps (IsOutside (group_in t.groups g).members) a b → SlotsHold (store_of a t) (store_of b t)
free_written a b t g space free ab keeps = record {
  slots = λ slot block has holds.
      elim (eqb_tells slot.group g) [
        | inl same ↦
            let none : slot.slot < 0 =
            subst (λ (c : Class). slot.slot < slots_of t.geometry c) (ap (λ n. class_of t n) same.1 ∙ free.free)
            has.1 in
            absurd (omega arith)
        | inr ne ↦
            class_disjoint (class_of t slot.group) a b (group_in t.groups slot.group).members
            (group_in t.groups g).members slot.slot block ab keeps
            (groups_apart (store_of a t) slot.group g space has.0 free.there ne.1) holds
      ];
}

pub record IsFreeWritten (a b : SetState) (t : Tables) : Type 0 where
  pub space : IsSpace (store_of b t)
  pub stand : AllStand (store_of a t) (store_of b t)

pub free_leaves : (a b : SetState) (t : Tables) (g : ℕ) → IsSpace (store_of a t) → IsLowestFree t g → IsAccessed a b
    → Keeps (IsOutside (group_in t.groups g).members) a b → IsFreeWritten a b t
free_leaves a b t g space free access keeps =
    let slots = free_written a b t g space free access.follows keeps in
    let after = space_accessed a b t space access
    (λ slot has held. held_then a b t slot access.follows (λ block holds. slots.slots slot block has holds) held) in
    record { space = after; stand = all_stand a b t space after access.follows slots }

-- each of its slots holds a copy
module _ (a b : SetState) (t : Tables) (from to : ℕ) (space : IsSpace (store_of a t)) (full : IsFullMirrored t from)
    (free : IsLowestFree t to) (access : IsAccessed a b) (keeps : Keeps (IsOutside (group_in t.groups to).members) a b)
    (copied : HoldsSources (group_in t.groups from).members (group_in t.groups to).members a b) where
  one : Members
  one = (group_in t.groups from).members

  two : Members
  two = (group_in t.groups to).members

  copy_held : (i : ℕ) → i < slots_of a.geometry Parity → i < slots_of a.geometry Mirrored → HoldsCopy one two b i
  unfolding one two
  copy_held i lt inside =
      let same = access.follows.geometry in
      let inside_t = subst (λ (g : Geometry). i < slots_of g Mirrored) (sym space.geometry) inside in
      let inside_b = subst (λ (g : Geometry). i < slots_of g Mirrored) (sym same) inside in
      let key = some_value (key_at t (slot_at from i)) (full.full i inside_t) in
      let held = space.named (slot_at from i) key.0 key.1 in
      let there : MirrorHolds a (group_in t.groups from).members i held.block =
      subst (λ (c : Class). ClassHolds c a (group_in t.groups from).members i held.block) full.mirrored held.holds in
      record {
        block = held.block;
        len = held.len ∙ ap block_len_of (sym same);
        source = record {
          held = λ _. mirror_disjoint a b (group_in t.groups from).members (group_in t.groups to).members i held.block
              access.follows keeps (copies_apart a t from to space full free) there;
          zero = λ le. absurd (omega arith);
        };
        copy = (copied i lt).holds held.block (record { held = λ _. there; zero = λ le. absurd (omega arith) });
      }

  copy_zero : (i : ℕ) → i < slots_of a.geometry Parity → slots_of a.geometry Mirrored ≤ i → HoldsCopy one two b i
  unfolding one two
  copy_zero i lt beyond =
      let same = access.follows.geometry in
      let beyond_b = subst (λ (g : Geometry). slots_of g Mirrored ≤ i) (sym same) beyond in
      record {
        block = zeros (block_len_of b.geometry);
        len = length-zeros (block_len_of b.geometry);
        source = record { held = λ inside. absurd (omega arith); zero = λ _. refl };
        copy = (copied i lt).holds (zeros (block_len_of b.geometry)) (record {
          held = λ inside. absurd (omega arith);
          zero = λ _. ap (λ (g : Geometry). zeros (block_len_of g)) same;
        });
      }

  pub copies_held : HoldsCopies (group_in t.groups from).members (group_in t.groups to).members b
  unfolding one two
  copies_held i lt =
      let lt_a = subst (λ (g : Geometry). i < slots_of g Parity) access.follows.geometry lt in
      elim (cases_lt i (slots_of a.geometry Mirrored)) [
        | inl inside ↦ copy_held i lt_a inside
        | inr beyond ↦ copy_zero i lt_a beyond
      ]

-- The group is opened for parity.
pub record IsOpenedCopy (a : SetState) (t u : Tables) : Type 0 where
  pub space : IsSpace (store_of a u)
  pub units : SameUnits t u
  pub stand : AllStand (store_of a t) (store_of a u)

pub opened_copy : (a : SetState) (t u : Tables) (from to : ℕ) → IsSpace (store_of a t) → IsLowestFree t to
    → u ≡ opened t to Parity → HoldsCopies (group_in t.groups from).members (group_in t.groups to).members a
    → IsOpenedCopy a t u
opened_copy a t u from to space free is copies =
    let keeps = keeps_refl (IsOutside (group_in t.groups to).members) a in
    let whole : (i : ℕ) → i < 3 * rows_of a.geometry → HoldsWhole a (group_in t.groups to).members i = λ i lt.
    (let held = copies i lt in record { block = held.block; len = held.len; holds = held.copy }) in
    subst (λ (x : Tables). IsOpenedCopy a t x) (sym is) (record {
      space = space_filled a a t to space free.there free.free (accessed_refl a) keeps whole;
      units = units_opened t to Parity;
      stand = stand_filled a a t to space free.there free.free (accessed_refl a) keeps whole;
    })

-- A slot that holds the block which a key reads as becomes its home.
pub record IsRehomed (a : SetState) (t u : Tables) : Type 0 where
  pub space : IsSpace (store_of a u)
  pub units : SameUnits t u
  pub stand : AllStand (store_of a t) (store_of a u)

pub rehomed : (a : SetState) (t u : Tables) (k : Key) (to : Slot) → IsSpace (store_of a t) → HasBlock t k
    → IsVacant t to → length (stands (store_of a t) k) ≡ block_len_of a.geometry
    → SlotHolds (store_of a t) to (stands (store_of a t) k) → u ≡ assigned t k to → IsRehomed a t u
rehomed a t u k to space has vacant len holds is =
    let block = stands (store_of a t) k in
    let held : HoldsBlock (store_of a t) to = record { block = block; len = len; holds = holds } in
    let after = space_moved a t k to space has vacant held in
    subst (λ (x : Tables). IsRehomed a t x) (sym is) (record {
      space = after;
      units = units_assigned t k to has;
      stand = record {
        blocks = λ sound j.
            elim (key_tells j k) [
              | inl same ↦
                  (let P : Key → Type 0 = λ x. stands (store_of a (assigned t k to)) x ≡ stands (store_of a t) x in
                  subst P (sym same) (block_moved a t k to space has vacant block after sound holds))
              | inr ne ↦ others_moved a t k to space has vacant j ne
            ];
      };
    })

-- the slot with the same number holds the next block
copy_stands : (a : SetState) (t u : Tables) (from to i : ℕ) (k : Key) → IsMoving t from to i u
    → IsSpace (store_of a u) → a.health ≢ Broken → i < slots_of t.geometry Mirrored
    → key_at u (slot_at from i) ≡ Some k
    → HoldsCopies (group_in t.groups from).members (group_in t.groups to).members a
    → SlotHolds (store_of a u) (slot_at to i) (stands (store_of a u) k)
copy_stands a t u from to i k so_far space sound inside names copies =
    let s = store_of a u in
    let geometry : t.geometry ≡ a.geometry = sym so_far.geometry ∙ space.geometry in
    let fits : i < slots_of a.geometry Mirrored = subst (λ (g : Geometry). i < slots_of g Mirrored) geometry inside in
    let held = copies i (omega arith) in
    let P : Members → Type 0 = λ m. ClassHolds Mirrored a m i held.block in
    let Q : Class → Type 0 = λ c. ClassHolds c a (group_in u.groups from).members i held.block in
    let R : Members → Type 0 = λ m. ClassHolds Parity a m i held.block in
    let S : Class → Type 0 = λ c. ClassHolds c a (group_in u.groups to).members i held.block in
    let source : SlotHolds s (slot_at from i) held.block =
    subst Q (sym (so_far.open_from inside)) (subst P (sym (so_far.members from)) (held.source.held fits)) in
    let copy : SlotHolds s (slot_at to i) held.block =
    subst S (sym so_far.opened) (subst R (sym (so_far.members to)) held.copy) in
    let reads = stands_held s k (slot_at from i) held.block space sound
    (key_home u space.tables (slot_at from i) k names) source in
    subst (λ (block : List ℕ). SlotHolds s (slot_at to i) block) (sym reads) copy

-- the first i blocks have moved to slots that hold copies of them
first_rehomed : (a : SetState) (t : Tables) (from to i : ℕ) → IsSpace (store_of a t) → CanMove t from to
    → a.health ≢ Broken → HoldsCopies (group_in t.groups from).members (group_in t.groups to).members a
    → i ≤ slots_of t.geometry Mirrored → IsRehomed a t (moved_first t from to i)
first_rehomed a t from to zero space can sound copies le =
    record { space = space; units = units_refl t; stand = record { blocks = λ _ k. refl } }
first_rehomed a t from to (suc i) space can sound copies le =
    let u = moved_first t from to i in
    let before = first_rehomed a t from to i space can sound copies (omega arith) in
    let so_far = moving t from to i space.tables can (omega arith) in
    let next = move_next t u from to i space.tables can so_far (omega arith) in
    let vacant : IsVacant u (slot_at to i) = record { there = next.there; empty = next.empty } in
    let step = rehomed a u (assigned u next.key (slot_at to i)) next.key (slot_at to i) before.space
    (key_block u so_far.agree (slot_at from i) next.key next.names) vacant
    (stands_whole (store_of a u) next.key before.space sound)
    (copy_stands a t u from to i next.key so_far before.space sound (omega arith) next.names copies) refl in
    subst (λ (x : Tables). IsRehomed a t x) (sym next.next) (record {
      space = step.space;
      units = units_then t u (assigned u next.key (slot_at to i)) before.units step.units;
      stand = record { blocks = λ _ k. step.stand.blocks sound k ∙ before.stand.blocks sound k };
    })

-- All blocks have moved from one group to another, which was free and is opened for them.
pub record HasMoved (a : SetState) (t u v : Tables) (from to : ℕ) : Type 0 where
  pub after : IsRehomed a t v
  pub emptied : class_of v from ≡ Free
  pub opened : class_of v to ≡ Parity
  pub hole : IsVacant v (slot_at to (slots_of u.geometry Mirrored))
  pub unplaced : (k : Key) → home t k ≡ None → home v k ≡ None

-- the group that was opened can take them
pub opened_can : (t u : Tables) (from to : ℕ) → IsFullMirrored t from → IsLowestFree t to → u ≡ opened t to Parity
    → IsEmpty u to → CanMove u from to
opened_can t u from to full free is empty =
    let P : Tables → Type 0 = λ x. IsEmpty x to → CanMove x from to in
    subst P (sym is) (λ none. record {
      from_there = subst (λ n. from < n) (sym (opened_group_count t to Parity)) full.there;
      to_there = subst (λ n. to < n) (sym (opened_group_count t to Parity)) free.there;
      mirrored = opened_class_other t to Parity from (from_to_apart t from to full free) ∙ full.mirrored;
      full = λ i lt.
          subst (λ (o : Option Key). IsSome o) (sym (opened_key t to Parity (slot_at from i))) (full.full i lt);
      opened = opened_class t to Parity free.there;
      empty = none;
    }) empty

pub has_moved : (a : SetState) (t u v : Tables) (from to : ℕ) → IsSpace (store_of a t) → a.health ≢ Broken
    → IsFullMirrored t from → IsLowestFree t to → u ≡ opened t to Parity → IsEmpty u to
    → HoldsCopies (group_in t.groups from).members (group_in t.groups to).members a
    → v ≡ moved_first u from to (slots_of u.geometry Mirrored) → HasMoved a t u v from to
has_moved a t u v from to space sound full free is empty copies made =
    let all = slots_of u.geometry Mirrored in
    let can = opened_can t u from to full free is empty in
    let opening = opened_copy a t u from to space free is copies in
    let same : (g : ℕ) → (group_in u.groups g).members ≡ (group_in t.groups g).members = λ g.
    ap (λ (x : Tables). (group_in x.groups g).members) is ∙ opened_members t to Parity g in
    let P : Members → Type 0 = λ m. HoldsCopies m (group_in t.groups to).members a in
    let Q : Members → Type 0 = λ m. HoldsCopies (group_in u.groups from).members m a in
    let held = subst Q (sym (same to)) (subst P (sym (same from)) copies) in
    let moves = subst (λ (x : Tables). IsRehomed a u x) (sym made)
    (first_rehomed a u from to all opening.space can sound held (omega arith)) in
    let moved = subst (λ (x : Tables). IsMoving u from to all x) (sym made)
    (moving u from to all opening.space.tables can (omega arith)) in
    let hole = slot_there u v from to all can moved (omega arith) in
    record {
      after = record {
        space = moves.space;
        units = units_then t u v opening.units moves.units;
        stand = record { blocks = λ _ k. moves.stand.blocks sound k ∙ opening.stand.blocks sound k };
      };
      emptied = moved.freed (omega arith);
      opened = moved.opened;
      hole = record { there = hole; empty = moved.empty all (omega arith) };
      unplaced = λ k none. moved.unplaced k (ap (λ (x : Tables). home x k) is ∙ none);
    }

-- the slots after the last block hold zeros
pub copies_zeros : (a : SetState) (u : Tables) (from to : Members) (g n : ℕ) → (group_in u.groups g).members ≡ to
    → class_of u g ≡ Parity → n ≡ slots_of a.geometry Mirrored → HoldsCopies from to a
    → IsZerosFrom (store_of a u) (slot_at g n)
copies_zeros a u from to g n members class is copies = record {
  parity = class;
  zeros = record {
    slots = λ i le lt.
        let held = copies i lt in
        let zero = held.source.zero (omega arith) in
        let P : List ℕ → Type 0 = λ block. ParityHolds a to i block in
        let block = zeros (block_len_of a.geometry) in
        let Q : Members → Type 0 = λ m. ParityHolds a m i block in
        let R : Class → Type 0 = λ c. ClassHolds c a (group_in u.groups g).members i block in
        subst R (sym class) (subst Q (sym members) (subst P zero held.copy));
  };
}

-- what a call that copied the group leaves, where its group's extents were asked for
pub copies_done : (o : Completion) (a b : SetState) (t : Tables) (from to : ℕ) (m n : Members) → IsSpace (store_of a t)
    → IsFullMirrored t from → IsLowestFree t to → m ≡ (group_in t.groups from).members
    → n ≡ (group_in t.groups to).members → IsAccessed a b → Keeps (IsOutside n) a b
    → OnDone o (HoldsSources m n a b)
    → OnDone o (HoldsCopies (group_in t.groups from).members (group_in t.groups to).members b)
copies_done NotDone a b t from to m n space full free is_m is_n access keeps copied = tt
copies_done Done a b t from to m n space full free is_m is_n access keeps copied =
    let P : Members → Type 0 = λ x. HoldsSources x n a b in
    let Q : Members → Type 0 = λ x. HoldsSources (group_in t.groups from).members x a b in
    copies_held a b t from to space full free access (subst (λ (x : Members). Keeps (IsOutside x) a b) is_n keeps)
    (subst Q is_n (subst P is_m copied))

-- there is one lowest free group
pub copies_for : (d : SetState) (t u : Tables) (from to : ℕ) → u ≡ t → IsLowestFree t to
    → HoldsCopies (group_in t.groups from).members (group_in t.groups to).members d → (g : ℕ) → IsLowestFree u g
    → HoldsCopies (group_in u.groups from).members (group_in u.groups g).members d
copies_for d t u from to is free copies g is_g =
    let same = same_free t to g free (subst (λ (x : Tables). IsLowestFree x g) is is_g) in
    subst (λ (x : Tables). HoldsCopies (group_in x.groups from).members (group_in x.groups g).members d) (sym is)
    (subst (λ n. HoldsCopies (group_in t.groups from).members (group_in t.groups n).members d) same copies)

-- a squeeze, by its calls
module _ (a c : StoreState) (from to : ℕ) (full : IsFullMirrored a.book from) (free : IsLowestFree a.book to) where
  squeezes : Squeezes from to a c → CarriesOutSearch BySqueeze a c
  squeezes made =
      subst (λ n. Squeezes (lowest_group a.book Mirrored) n a c) (sym (free_is a.book to free))
      (subst (λ n. Squeezes n to a c) (sym (full_is a.book from full)) made)

  pub squeezed_by : (b : SetState) (t : Tables)
      → CarriesOut (squeeze_plan a.disks.geometry (members_of a from) (members_of a to)) a.disks b
      → HoldsSources (members_of a from) (members_of a to) a.disks b → b.health ≢ Broken → t ≡ a.book → c.disks ≡ b
      → c.book ≡ prepared t BySqueeze → CarriesOutSearch BySqueeze a c
  squeezed_by b t plan copied sound is disks made =
      squeezes (record {
        plan = subst
            (λ (d : SetState). CarriesOut (squeeze_plan a.disks.geometry (members_of a from) (members_of a to))
            a.disks d) (sym disks) plan;
        copied = λ _.
            subst (λ (d : SetState). HoldsSources (members_of a from) (members_of a to) a.disks d) (sym disks) copied;
        moved = λ _.
            made ∙ ap (λ (x : Tables). prepared x BySqueeze) is
            ∙ ap (λ n. squeezed a.book n (lowest_group a.book Free)) (full_is a.book from full)
            ∙ ap (squeezed a.book from) (free_is a.book to free);
        unmoved = λ broken. absurd (sound (ap (λ (d : SetState). d.health) (sym disks) ∙ broken));
      })

  pub squeeze_failed : CarriesOut (squeeze_plan a.disks.geometry (members_of a from) (members_of a to)) a.disks c.disks
      → c.disks.health ≡ Broken → c.book ≡ a.book → CarriesOutSearch BySqueeze a c
  squeeze_failed plan broken same =
      squeezes (record {
        plan = plan;
        copied = λ sound. absurd (sound broken);
        moved = λ sound. absurd (sound broken);
        unmoved = λ _. same;
      })

-- the opened group keeps its members while blocks move there
pub moved_members : (t u v : Tables) (from to : ℕ) → u ≡ opened t to Parity
    → v ≡ moved_first u from to (slots_of u.geometry Mirrored)
    → (group_in v.groups to).members ≡ (group_in t.groups to).members
moved_members t u v from to is_u is_v =
    ap (λ (x : Tables). (group_in x.groups to).members) is_v ∙ first_members u from to (slots_of u.geometry Mirrored) to
    ∙ ap (λ (x : Tables). (group_in x.groups to).members) is_u ∙ opened_members t to Parity to
