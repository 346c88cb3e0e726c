-- What the moves of all blocks of a group make of the tables.
use Rattle.std.proofs.Common.{◌≡◌, ◌≢◌, inl, inr, ℕ, zero, suc, ◌+◌, ◌<◌, ◌≤◌, List, length, Option, None, Some, set}
use Rattle.std.proofs.Common.{get_or, refl, sym, ap, subst, ◌∙◌, arith, get_or-set_same, get_or-set_other}
use Rattle.std.specs.Map.{keys_of}
use Rattle.std.specs.Option.{ForSome}
use Rattle.std.proofs.Math.Numerals.{suc-eq-add-one}
use Rattle.std.proofs.lemmas.Bool.{cases_lt}
use Rattle.std.proofs.lemmas.Bool.Decides.{eqb_tells}
use Rattle.std.proofs.lemmas.List.{length-set}
use Rattle.std.proofs.lemmas.Option.{none-some, same_Some}
use Rattle.ar_disks.specs.declared.address.Addr.{Addr}
use Rattle.ar_disks.specs.declared.address.Key.{Key}
use Rattle.ar_disks.specs.declared.geometry.Geometry.{Geometry}
use Rattle.ar_disks.specs.declared.geometry.Geometry.TheVariants.{Paper, Small}
use Rattle.ar_index.specs.declared.choices.Choices.{Choices}
use Rattle.ar_index.specs.Choices.{nothing}
use Rattle.ar_book.specs.declared.class.Class.TheVariants.{Free, Mirrored, Parity}
use Rattle.ar_book.specs.declared.class.Slot.{Slot}
use Rattle.ar_book.specs.Tables.{GroupState, UnitTableState, Tables, tables_of, group_in, class_of, key_at, home}
use Rattle.ar_book.specs.Tables.{stamp_of, slots_of, reserved, HasBlock, HasSlot}
use Rattle.ar_book.specs.Changes.{named, vacated, with_key, with_hole, homed, assigned, slot_at, moved_from}
use Rattle.ar_book.specs.Changes.{moved_first, CanMove}
use Rattle.ar_book.specs.Choices.{IsEmpty}
use Rattle.ar_book.specs.Book.{TablesAgree}
use Rattle.ar_book.specs.Index.{choices_of, leaves_of}
use Rattle.ar_book.proofs.GroupLemmas.{put_other}
use Rattle.ar_book.proofs.DropLemmas.{some_value}
use Rattle.ar_book.proofs.Homes.{key_home, key_block, key_beyond}
use Rattle.ar_book.proofs.PlaceLemmas.{slots_within, assigned_agrees}
use Rattle.ar_book.proofs.KeptLemmas.{former_group, former_slot}
use Rattle.ar_book.proofs.AfterAssign.{assigned_group_count, assigned_members, assigned_order, assigned_stamp}
use Rattle.ar_book.proofs.AfterAssign.{assigned_reserved, assigned_class_named, assigned_class_here}
use Rattle.ar_book.proofs.AfterAssign.{assigned_class_left, assigned_key_other, assigned_key_left, assigned_home_other}
use Rattle.ar_book.proofs.IndexLemmas.{leaves_length, leaf_of, all_leaves, same_ages}

-- The first i blocks of a group have moved, and the rest are to come.
pub record IsMoving (t : Tables) (from to i : ℕ) (u : Tables) : Type 0 where
  pub agree : TablesAgree u
  pub rest : (j : ℕ) → i ≤ j → key_at u (slot_at from j) ≡ key_at t (slot_at from j)
  pub gone : (j : ℕ) → j < i → key_at u (slot_at from j) ≡ None
  pub empty : (j : ℕ) → i ≤ j → key_at u (slot_at to j) ≡ None
  pub opened : class_of u to ≡ Parity
  pub open_from : i < slots_of t.geometry Mirrored → class_of u from ≡ Mirrored
  pub freed : slots_of t.geometry Mirrored ≤ i → class_of u from ≡ Free
  pub geometry : u.geometry ≡ t.geometry
  pub groups : length u.groups ≡ length t.groups
  pub members : (g : ℕ) → (group_in u.groups g).members ≡ (group_in t.groups g).members
  pub others : (g : ℕ) → g ≢ from → g ≢ to → group_in u.groups g ≡ group_in t.groups g
  pub order : keys_of u.units ≡ keys_of t.units
  pub stamps : (k : Key) → stamp_of u k ≡ stamp_of t k
  pub reserved : reserved u ≡ reserved t
  pub unplaced : (k : Key) → home t k ≡ None → home u k ≡ None

-- there are slots, and more of them with parity
pub mirrored_some : (g : Geometry) → 0 < slots_of g Mirrored
mirrored_some Paper = omega arith
mirrored_some Small = omega arith

fewer_mirrored : (g : Geometry) → slots_of g Mirrored < slots_of g Parity
fewer_mirrored Paper = omega arith
fewer_mirrored Small = omega arith

-- the groups are two
moves_apart : (t : Tables) (from to : ℕ) → CanMove t from to → from ≢ to
moves_apart t from to can same = grind (arith, mirrored_some, some_value, none-some)

-- before the first move
moving_start : (t : Tables) (from to : ℕ) → TablesAgree t → CanMove t from to → IsMoving t from to 0 t
moving_start t from to ok can = grind (arith, mirrored_some)

-- the slot that the next block moves to is there, and so is the first one past them all
pub slot_there : (t u : Tables) (from to i : ℕ) → CanMove t from to → IsMoving t from to i u
    → i ≤ slots_of t.geometry Mirrored → HasSlot u (slot_at to i)
slot_there t u from to i can moving inside = grind (arith, fewer_mirrored)

module _ (t u : Tables) (from to i : ℕ) (k : Key) (ok_t : TablesAgree t) (can : CanMove t from to)
    (moving : IsMoving t from to i u)
    (inside : i < slots_of t.geometry Mirrored) (names : key_at u (slot_at from i) ≡ Some k) where
  new : Tables
  new = assigned u k (slot_at to i)

  ok : TablesAgree u
  ok = moving.agree

  apart : from ≢ to
  apart = moves_apart t from to can

  there : HasSlot u (slot_at to i)
  there = slot_there t u from to i can moving (omega arith)

  empty : key_at u (slot_at to i) ≡ None
  empty = moving.empty i (omega arith)

  block : HasBlock u k
  block = key_block u ok (slot_at from i) k names

  -- its home so far
  was : home u k ≡ Some (slot_at from i)
  was = key_home u ok (slot_at from i) k names

  group_ne : (s r : Slot) → s.group ≢ r.group → s ≢ r
  group_ne s r ne same = ne (ap (λ (x : Slot). x.group) same)

  slot_ne : (s r : Slot) → s.slot ≢ r.slot → s ≢ r
  slot_ne s r ne same = ne (ap (λ (x : Slot). x.slot) same)

  -- a slot that is neither the old nor the new one
  other : (s : Slot) → s ≢ slot_at to i → s ≢ slot_at from i → key_at new s ≡ key_at u s
  unfolding new
  other s not_to not_from =
      assigned_key_other u k (slot_at to i) ok block there empty s not_to
      (λ home. not_from (same_Some s (slot_at from i) (sym home ∙ was)))

  left : key_at new (slot_at from i) ≡ None
  unfolding new
  left = assigned_key_left u k (slot_at to i) ok block there empty (slot_at from i) was

  rest_then : (j : ℕ) → suc i ≤ j → key_at new (slot_at from j) ≡ key_at t (slot_at from j)
  rest_then j le =
      other (slot_at from j) (group_ne (slot_at from j) (slot_at to i) apart)
      (slot_ne (slot_at from j) (slot_at from i) (λ e. omega arith))
      ∙ moving.rest j (omega arith)

  gone_then : (j : ℕ) → j < suc i → key_at new (slot_at from j) ≡ None
  gone_then j lt =
      elim (eqb_tells j i) [
        | inl same ↦ ap (λ n. key_at new (slot_at from n)) same.1 ∙ left
        | inr ne ↦
            other (slot_at from j) (group_ne (slot_at from j) (slot_at to i) apart)
            (slot_ne (slot_at from j) (slot_at from i) ne.1)
            ∙ moving.gone j (let differs = ne.1 in omega arith)
      ]

  -- once all have moved, the group is empty
  emptied : slots_of t.geometry Mirrored ≤ suc i → IsEmpty new from
  emptied all j =
      elim (cases_lt j (suc i)) [
        | inl lt ↦ gone_then j lt
        | inr ge ↦
            let slots : slots_of t.geometry (class_of t from) ≡ slots_of t.geometry Mirrored =
            ap (λ c. slots_of t.geometry c) can.mirrored in
            rest_then j ge ∙ key_beyond t ok_t (slot_at from j) (omega arith)
      ]

  -- a group that is neither the old nor the new one
  other_group : (g : ℕ) → g ≢ from → g ≢ to → group_in new.groups g ≡ group_in u.groups g
  unfolding new
  other_group g not_from not_to =
      ap (λ o. group_in (vacated (named u.groups (slot_at to i) k) o) g) was
      ∙ put_other (named u.groups (slot_at to i) k) from
      (with_hole (group_in (named u.groups (slot_at to i) k) from) i) g not_from
      ∙ put_other u.groups to (with_key (group_in u.groups to) i k) g not_to

  -- one more move
  moving_then : IsMoving t from to (suc i) (assigned u k (slot_at to i))
  unfolding new
  moving_then = record {
    agree = assigned_agrees u k (slot_at to i) ok block there empty;
    rest = rest_then;
    gone = gone_then;
    empty = λ j le.
        other (slot_at to j) (slot_ne (slot_at to j) (slot_at to i) (λ e. omega arith))
        (group_ne (slot_at to j) (slot_at from i) (λ e. apart (sym e)))
        ∙ moving.empty j (omega arith);
    opened = assigned_class_here u k (slot_at to i) ok block there empty ∙ moving.opened;
    open_from = λ lt.
        let full = some_value (key_at t (slot_at from (suc i))) (can.full (suc i) lt) in
        assigned_class_named u k (slot_at to i) (slot_at from (suc i)) full.0 (rest_then (suc i) (omega arith) ∙ full.1)
        ∙ moving.open_from inside;
    freed = λ all. assigned_class_left u k (slot_at to i) ok block there empty (slot_at from i) was (emptied all);
    geometry = moving.geometry;
    groups = assigned_group_count u k (slot_at to i) ∙ moving.groups;
    members = λ g. assigned_members u k (slot_at to i) g ∙ moving.members g;
    others = λ g not_from not_to. other_group g not_from not_to ∙ moving.others g not_from not_to;
    order = assigned_order u k (slot_at to i) ∙ moving.order;
    stamps = λ j. assigned_stamp u k (slot_at to i) j ∙ moving.stamps j;
    reserved = assigned_reserved u k (slot_at to i) block ∙ moving.reserved;
    unplaced = λ j is.
        let before = moving.unplaced j is in
        assigned_home_other u k (slot_at to i) block j
        (λ same. none-some (slot_at from i) (sym before ∙ ap (λ x. home u x) same ∙ was)) ∙ before;
  }

-- the block that moves next, with what it needs
pub record MovesNext (t : Tables) (from to i : ℕ) (u : Tables) : Type 0 where
  pub key : Key
  pub names : key_at u (slot_at from i) ≡ Some key
  pub there : HasSlot u (slot_at to i)
  pub empty : key_at u (slot_at to i) ≡ None
  pub next : moved_first t from to (suc i) ≡ assigned (moved_first t from to i) key (slot_at to i)

pub move_next : (t u : Tables) (from to i : ℕ) → TablesAgree t → CanMove t from to → IsMoving t from to i u
    → i < slots_of t.geometry Mirrored → MovesNext t from to i u
move_next t u from to i ok can moving inside =
    let key = some_value (key_at t (slot_at from i)) (can.full i inside) in
    let names = moving.rest i (omega arith) ∙ key.1 in
    record {
      key = key.0;
      names = names;
      there = slot_there t u from to i can moving (omega arith);
      empty = moving.empty i (omega arith);
      next = ap (λ (o : Option Key). moved_from (moved_first t from to i) o (slot_at to i)) key.1;
    }

pub moving : (t : Tables) (from to i : ℕ) → TablesAgree t → CanMove t from to → i ≤ slots_of t.geometry Mirrored
    → IsMoving t from to i (moved_first t from to i)
moving t from to zero ok can le = moving_start t from to ok can
moving t from to (suc i) ok can le =
    let before = moving t from to i ok can (omega arith) in
    let next = move_next t (moved_first t from to i) from to i ok can before (omega arith) in
    subst (λ (x : Tables). IsMoving t from to (suc i) x) (sym next.next)
    (moving_then t (moved_first t from to i) from to i next.key ok can before (omega arith) next.names)

-- one move, by the calls that make it
pub record MovesSlot (t : Tables) (from to i : ℕ) (u : Tables) (k : Key) : Type 0 where
  pub to_group : to < length u.groups
  pub to_slot : i < length (group_in u.groups to).slots
  pub from_group : ForSome (Some (slot_at from i)) (λ q. q.group < length (named u.groups (slot_at to i) k))
  pub from_slot : ForSome (Some (slot_at from i))
      (λ q. q.slot < length (group_in (named u.groups (slot_at to i) k) q.group).slots)
  pub block : HasBlock u k
  pub next : record u {
    groups = vacated (named u.groups (slot_at to i) k) (Some (slot_at from i));
    units = homed u.units k (Some (slot_at to i));
  } ≡ moved_first t from to (i + 1)

pub slot_moves : (t u : Tables) (from to i : ℕ) (k : Key) → TablesAgree t → CanMove t from to
    → u ≡ moved_first t from to i → i < slots_of t.geometry Mirrored → key_at u (slot_at from i) ≡ Some k
    → MovesSlot t from to i u k
slot_moves t u from to i k ok can is inside names =
    let so_far = subst (λ (x : Tables). IsMoving t from to i x) (sym is) (moving t from to i ok can (omega arith)) in
    let next = move_next t u from to i ok can so_far inside in
    let agree = so_far.agree in
    let had = key_home u agree (slot_at from i) k names in
    let long = agree.groups.long to next.there.0 in
    let within = slots_within u.geometry (class_of u to) in
    let slot = next.there.1 in
    record {
      to_group = next.there.0;
      to_slot = omega arith;
      from_group = λ q e. former_group u k (slot_at to i) agree next.there next.empty q (had ∙ e);
      from_slot = λ q e. former_slot u k (slot_at to i) agree next.there next.empty q (had ∙ e);
      block = key_block u agree (slot_at from i) k names;
      next =
          ap (λ (o : Option Slot). record u {
            groups = vacated (named u.groups (slot_at to i) k) o;
            units = homed u.units k (Some (slot_at to i));
          }) (sym had)
          ∙ ap (λ (j : Key). assigned u j (slot_at to i)) (same_Some k next.key (sym names ∙ next.names))
          ∙ ap (λ (x : Tables). assigned x next.key (slot_at to i)) is ∙ sym next.next
          ∙ ap (λ n. moved_first t from to n) (suc-eq-add-one i);
    }

-- so the slot isn't empty
pub slot_names : (t u : Tables) (from to i : ℕ) → TablesAgree t → CanMove t from to → u ≡ moved_first t from to i
    → i < slots_of t.geometry Mirrored → key_at u (slot_at from i) ≢ None
slot_names t u from to i ok can is inside none =
    let so_far = subst (λ (x : Tables). IsMoving t from to i x) (sym is) (moving t from to i ok can (omega arith)) in
    let next = move_next t u from to i ok can so_far inside in
    none-some next.key (sym none ∙ next.names)

-- the last stamp has no part in it
pub moved_puts : (t : Tables) (from to n p : ℕ) → moved_first (record t { puts = p }) from to n
    ≡ record (moved_first t from to n) { puts = p }
moved_puts t from to zero p = refl
moved_puts t from to (suc n) p = grind (arith, moved_puts t from to n p)

-- the tables are those that the call is made with
pub can_move : (t s : Tables) (from to : ℕ) → t ≡ s → CanMove s from to → CanMove t from to
can_move t s from to is can = subst (λ (x : Tables). CanMove x from to) (sym is) can

-- all have moved, by the call that moves them
module _ (t s : Tables) (groups : List GroupState) (units : List (Addr × UnitTableState)) (from to : ℕ)
    (ok : TablesAgree t) (is : t ≡ s) (can : CanMove s from to)
    (made : tables_of t.geometry groups units
    ≡ moved_first (tables_of t.geometry t.groups t.units) from to (slots_of t.geometry Mirrored)) where
  abbrev all : ℕ
  all = slots_of t.geometry Mirrored

  as_first : record t { groups = groups; units = units } ≡ moved_first t from to all
  as_first =
      ap (λ (x : Tables). record x { puts = t.puts }) made
      ∙ sym (moved_puts (tables_of t.geometry t.groups t.units) from to all t.puts)

  pub moved_all : IsMoving t from to (slots_of t.geometry Mirrored) (record t { groups = groups; units = units })
  moved_all =
      subst (λ (x : Tables). IsMoving t from to all x) (sym as_first)
      (moving t from to all ok (can_move t s from to is can) (omega arith))

  pub moved_tables : record t { groups = groups; units = units }
      ≡ moved_first s from to (slots_of s.geometry Mirrored)
  moved_tables = as_first ∙ ap (λ (x : Tables). moved_first x from to (slots_of x.geometry Mirrored)) is

-- the tree once the two groups are refreshed
pub moved_leaves : (t u : Tables) (from to i : ℕ) (old mid now : List Choices) → CanMove t from to
    → IsMoving t from to i u → old ≡ leaves_of t.geometry t.units t.groups
    → mid ≡ set old to (choices_of t.geometry u.units to (group_in u.groups to))
    → now ≡ set mid from (choices_of t.geometry u.units from (group_in u.groups from))
    → now ≡ leaves_of t.geometry u.units u.groups
moved_leaves t u from to i old mid now can moving before first second =
    all_leaves t.geometry u.units u.groups now size each
  where
    to_leaf : Choices
    to_leaf = choices_of t.geometry u.units to (group_in u.groups to)

    from_leaf : Choices
    from_leaf = choices_of t.geometry u.units from (group_in u.groups from)

    -- the leaves so far, by the units as they are now
    was : old ≡ leaves_of t.geometry u.units t.groups
    was = before ∙ sym (same_ages t.geometry t.units u.units t.groups moving.stamps moving.order)

    old_size : length old ≡ length t.groups
    old_size = ap length before ∙ leaves_length t.geometry _ _ 0 t.groups

    mid_size : length mid ≡ length t.groups
    mid_size = ap length first ∙ length-set old to _ ∙ old_size

    size : length now ≡ length u.groups
    size = ap length second ∙ length-set mid from _ ∙ mid_size ∙ sym moving.groups

    each : (g : ℕ) → g < length u.groups → get_or now g nothing ≡ choices_of t.geometry u.units g (group_in u.groups g)
    each g inside =
        let far : g < length t.groups = subst (λ n. g < n) moving.groups inside in
        elim (eqb_tells g from) [
          | inl same ↦
              ap (λ l. get_or l g nothing) second ∙ ap (λ n. get_or (set mid from from_leaf) n nothing) same.1
              ∙ get_or-set_same mid from from_leaf nothing (omega (arith, mid_size, can.from_there))
              ∙ sym (ap (λ n. choices_of t.geometry u.units n (group_in u.groups n)) same.1)
          | inr not_from ↦
              ap (λ l. get_or l g nothing) second ∙ get_or-set_other mid from g from_leaf nothing not_from.1
              ∙ elim (eqb_tells g to) [
                | inl same ↦
                    ap (λ l. get_or l g nothing) first ∙ ap (λ n. get_or (set old to to_leaf) n nothing) same.1
                    ∙ get_or-set_same old to to_leaf nothing (omega (arith, old_size, can.to_there))
                    ∙ sym (ap (λ n. choices_of t.geometry u.units n (group_in u.groups n)) same.1)
                | inr not_to ↦
                    ap (λ l. get_or l g nothing) first ∙ get_or-set_other old to g to_leaf nothing not_to.1
                    ∙ ap (λ l. get_or l g nothing) was ∙ leaf_of t.geometry u.units t.groups g far
                    ∙ ap (λ x. choices_of t.geometry u.units g x)
                    (sym (moving.others g not_from.1 not_to.1))
              ]
        ]
