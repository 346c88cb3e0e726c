-- The tables after each home of a unit is vacated.
use Rattle.std.proofs.Common.{◌≡◌, ◌≢◌, ℕ, zero, suc, ◌<◌, ◌≤◌, ◌+◌, ◌-◌, ◌*◌, Bool, true, false, cond, Option, None}
use Rattle.std.proofs.Common.{Some, is_some, IsSome, List, [], ◌∷◌, length, get_or, take, fold, sum_by, count_by, refl}
use Rattle.std.proofs.Common.{sym, ap, subst, ◌∙◌, inl, inr, arith, true≢false}
use Rattle.std.specs.List.{IsDistinct, AllByRecursion}
use Rattle.std.specs.Set.{remove_key}
use Rattle.std.specs.Map.{lookup, remove_entry, keys_of, values_of}
use Rattle.std.specs.Option.{unwrap_or}
use Rattle.std.proofs.lemmas.Option.{none-some, same_Some}
use Rattle.std.proofs.lemmas.List.Sums.{sum_by-cons}
use Rattle.std.proofs.lemmas.Map.{lookup-remove_entry}
use Rattle.std.proofs.lemmas.Map.Keys.{IsDistinct-head, IsDistinct-tail, IsDistinct-cons}
use Rattle.std.proofs.lemmas.Map.Entries.{sum_by-remove_entry}
use Rattle.std.proofs.lemmas.Map.Views.{All-map-remove_entry}
use Rattle.ar_disks.specs.Geometry.{rows_of}
use Rattle.ar_disks.specs.declared.address.Addr.{Addr}
use Rattle.ar_disks.specs.declared.address.Key.{Key}
use Rattle.ar_disks.specs.declared.geometry.Geometry.{Geometry}
use Rattle.ar_book.specs.declared.class.Slot.{Slot}
use Rattle.ar_disks.specs.Addresses.{same_addr}
use Rattle.ar_book.specs.Tables.{GroupState, UnitTableState, Tables, no_unit, group_in, key_in, unit_in, home_in}
use Rattle.ar_book.specs.Tables.{key_at, home, stamp_of, level_in, level, class_of, free_groups, used, placed, reserved}
use Rattle.ar_book.specs.Changes.{vacated, dropped}
use Rattle.ar_book.specs.Book.{GroupsStand, IsValidUnit, AreHomes, TablesAgree, BookAgrees}
use Rattle.ar_disks.proofs.Addresses.{addr_laws, addr_tells, addr_apart, same_addr_of}
use Rattle.ar_book.proofs.Keys.{slot_tells}
use Rattle.ar_book.proofs.GroupLemmas.{there_group, there_slot, KeepsClass, class_kept, level_stays, vacated_size}
use Rattle.ar_book.proofs.GroupLemmas.{vacated_members, vacated_class, vacated_same, vacated_other, vacated_count}
use Rattle.ar_book.proofs.GroupLemmas.{vacated_shape, vacated_stand}
use Rattle.ar_book.proofs.FreeGroups.{free_in, vacated_free}
use Rattle.ar_book.proofs.UnitLemmas.{found_in}

-- the value that is there
pub some_value : (o : Option Key) → IsSome o → (k : Key) × (o ≡ Some k)
some_value None e = absurd (true≢false (sym e))
some_value (Some k) e = (k, refl)

some_is : (o : Option Key) (k : Key) → o ≡ Some k → IsSome o
some_is o k e = ap is_some e

-- what stands after these homes are vacated
pub record Emptied (gs : List GroupState) (hs : List (Option Slot)) (new : List GroupState) : Type 0 where
  pub size : length new ≡ length gs
  pub shape : (i : ℕ) → length (group_in new i).slots ≡ length (group_in gs i).slots
  pub count : sum_by used new + count_by is_some hs ≡ sum_by used gs
  pub kept : (s : Slot) → ((i : ℕ) → get_or hs i None ≡ Some s → ⊥) → key_in new s ≡ key_in gs s
  pub gone : (i : ℕ) (s : Slot) → get_or hs i None ≡ Some s → key_in new s ≡ None
  pub empties : (s : Slot) → key_in gs s ≡ None → key_in new s ≡ None
  pub members : (i : ℕ) → (group_in new i).members ≡ (group_in gs i).members
  pub class : (i : ℕ) → KeepsClass (group_in gs i).class (group_in new i)
  pub free : free_in gs ≤ free_in new
  pub stand : (geo : Geometry) → GroupsStand geo gs → GroupsStand geo new

suc_same : (i j : ℕ) → suc i ≡ suc j → i ≡ j
suc_same i j e = omega arith

-- the homes after the first, once it is vacated
rest_after : (gs : List GroupState) (q : Slot) (hs : List (Option Slot)) → AreHomes gs (Some q ∷ hs)
    → AreHomes (vacated gs (Some q)) hs
rest_after gs q hs ok =
    let key = some_value (key_in gs q) (ok.there 0 q refl) in
    let inside : q.group < length gs = there_group gs q key.0 key.1 in
    record {
      there = λ i s e.
          let ne : s ≢ q = λ f. zero_is_not i (ok.apart 0 (suc i) s (ap Some (sym f)) e) in
          let other : key_in (vacated gs (Some q)) s ≡ key_in gs s = vacated_other gs q inside s ne in
          subst (λ o. IsSome o) (sym other) (ok.there (suc i) s e);
      apart = λ i j s e f. suc_same i j (ok.apart (suc i) (suc j) s e f);
    }
  where
    zero_is_not : (i : ℕ) → 0 ≡ suc i → ⊥
    zero_is_not i e = omega arith

pub emptied : (hs : List (Option Slot)) (gs : List GroupState) → AreHomes gs hs → Emptied gs hs (fold vacated gs hs)
emptied [] gs ok = record {
  size = refl;
  shape = λ i. refl;
  count = omega arith;
  kept = λ s f. refl;
  gone = λ i s e. absurd (none-some s e);
  empties = λ s e. e;
  members = λ i. refl;
  class = λ i. inl refl;
  free = omega arith;
  stand = λ geo h. h;
}
emptied (None ∷ hs) gs ok =
    over (emptied hs gs
    (record {
      there = λ i s e. ok.there (suc i) s e;
      apart = λ i j s e f. suc_same i j (ok.apart (suc i) (suc j) s e f);
    }))
  where
    over : Emptied gs hs (fold vacated gs hs) → Emptied gs (None ∷ hs) (fold vacated gs hs)
    over r = record {
      size = r.size;
      shape = r.shape;
      count =
          let head : count_by is_some (None ∷ hs) ≡ 0 + count_by is_some hs =
          sum_by-cons (λ (o : Option Slot). cond {A = ℕ} (is_some o) 1 0) None hs in
          let all = r.count in
          omega arith;
      kept = λ s f. r.kept s (λ i e. f (suc i) e);
      gone = gone;
      empties = r.empties;
      members = r.members;
      class = r.class;
      free = r.free;
      stand = r.stand;
    }
      where
        gone : (i : ℕ) (s : Slot) → get_or (None ∷ hs) i None ≡ Some s → key_in (fold vacated gs hs) s ≡ None
        gone zero s e = absurd (none-some s e)
        gone (suc i) s e = r.gone i s e
emptied (Some q ∷ hs) gs ok = over (emptied hs (vacated gs (Some q)) (rest_after gs q hs ok))
  where
    over : Emptied (vacated gs (Some q)) hs (fold vacated (vacated gs (Some q)) hs)
        → Emptied gs (Some q ∷ hs) (fold vacated (vacated gs (Some q)) hs)
    over r =
        let key = some_value (key_in gs q) (ok.there 0 q refl) in
        let inside : q.group < length gs = there_group gs q key.0 key.1 in
        let slot : q.slot < length (group_in gs q.group).slots = there_slot gs q key.0 key.1 in
        record {
          size = r.size ∙ vacated_size gs (Some q);
          shape = λ i. r.shape i ∙ vacated_shape gs q inside i;
          count =
              let head : count_by is_some (Some q ∷ hs) ≡ 1 + count_by is_some hs =
              sum_by-cons (λ (o : Option Slot). cond {A = ℕ} (is_some o) 1 0) (Some q) hs in
              let all = r.count in
              let one = vacated_count gs q inside slot key.0 key.1 in
              omega arith;
          kept = λ s f. r.kept s (λ i e. f (suc i) e) ∙ vacated_other gs q inside s (λ e. f 0 (ap Some (sym e)));
          gone = gone inside slot;
          empties = λ s e. r.empties s (still_empty inside slot s e);
          members = λ i. r.members i ∙ vacated_members gs (Some q) i;
          class = λ i. class i (r.class i) (vacated_class gs (Some q) i);
          free = let one = vacated_free gs (Some q) in let all = r.free in omega arith;
          stand = λ geo h. r.stand geo (vacated_stand gs q inside geo h);
        }
      where
        still_empty : q.group < length gs → q.slot < length (group_in gs q.group).slots → (s : Slot)
            → key_in gs s ≡ None → key_in (vacated gs (Some q)) s ≡ None
        still_empty inside slot s e = elim (slot_tells s q) [
          | inl same ↦ subst (λ x. key_in (vacated gs (Some q)) x ≡ None) (sym same) (vacated_same gs q inside slot)
          | inr other ↦ vacated_other gs q inside s other ∙ e
        ]

        class : (i : ℕ)
            → KeepsClass (group_in (vacated gs (Some q)) i).class (group_in (fold vacated (vacated gs (Some q)) hs) i)
            → KeepsClass (group_in gs i).class (group_in (vacated gs (Some q)) i)
            → KeepsClass (group_in gs i).class (group_in (fold vacated (vacated gs (Some q)) hs) i)
        class i later first = elim later [
          | inl same ↦ elim first [
            | inl was ↦ inl (same ∙ was)
            | inr free ↦ inr (same ∙ free.0, λ j. r.empties (record { group = i; slot = j }) (free.1 j))
          ]
          | inr free ↦ inr free
        ]

        gone : q.group < length gs → q.slot < length (group_in gs q.group).slots → (i : ℕ) (s : Slot)
            → get_or (Some q ∷ hs) i None ≡ Some s → key_in (fold vacated (vacated gs (Some q)) hs) s ≡ None
        gone inside slot zero s e =
            let here : key_in (vacated gs (Some q)) s ≡ None =
            subst (λ x. key_in (vacated gs (Some q)) x ≡ None) (same_Some q s e) (vacated_same gs q inside slot) in
            r.kept s (λ i f. zero_is_not i (ok.apart 0 (suc i) s e f)) ∙ here
          where
            zero_is_not : (i : ℕ) → 0 ≡ suc i → ⊥
            zero_is_not i e = omega arith
        gone inside slot (suc i) s e = r.gone i s e

-- the first of these homes
pub take_some : (n : ℕ) (hs : List (Option Slot)) (i : ℕ) (s : Slot) → get_or (take n hs) i None ≡ Some s
    → get_or hs i None ≡ Some s
take_some zero [] i s e = e
take_some zero (h ∷ hs) i s e = absurd (none-some s e)
take_some (suc n) [] i s e = e
take_some (suc n) (h ∷ hs) zero s e = e
take_some (suc n) (h ∷ hs) (suc i) s e = take_some n hs i s e

pub first_homes : (gs : List GroupState) (hs : List (Option Slot)) (n : ℕ) → AreHomes gs hs → AreHomes gs (take n hs)
first_homes gs hs n ok = grind (arith, take_some)

-- a home after the first n is there once those are vacated
pub next_group : (gs : List GroupState) (hs : List (Option Slot)) (n : ℕ) (s : Slot) → AreHomes gs hs
    → get_or hs n None ≡ Some s → s.group < length (fold vacated gs (take n hs))
next_group gs hs n s ok e =
    let r = emptied (take n hs) gs (first_homes gs hs n ok) in
    let key = some_value (key_in gs s) (ok.there n s e) in
    let inside : s.group < length gs = there_group gs s key.0 key.1 in
    omega (arith, r.size, inside)

pub next_slot : (gs : List GroupState) (hs : List (Option Slot)) (n : ℕ) (s : Slot) → AreHomes gs hs
    → get_or hs n None ≡ Some s → s.slot < length (group_in (fold vacated gs (take n hs)) s.group).slots
next_slot gs hs n s ok e =
    let r = emptied (take n hs) gs (first_homes gs hs n ok) in
    let key = some_value (key_in gs s) (ok.there n s e) in
    let inside : s.slot < length (group_in gs s.group).slots = there_slot gs s key.0 key.1 in
    omega (arith, r.shape s.group, inside)

-- the homes of a unit
pub unit_homes : (t : Tables) (a : Addr) → TablesAgree t → AreHomes t.groups (unit_in t.units a).homes
unit_homes t a ok = record {
  there = λ i s e. some_is (key_in t.groups s) (record { addr = a; rb = i })
      (ok.agree.to_slot (record { addr = a; rb = i }) s e);
  apart = λ i j s e f.
      ap (λ k. k.rb) (same_Some (record { addr = a; rb = i }) (record { addr = a; rb = j })
      (sym (ok.agree.to_slot (record { addr = a; rb = i }) s e) ∙ ok.agree.to_slot (record { addr = a; rb = j }) s f));
}

-- the other addresses keep their order, and stay distinct
pub removed_keys : (test : Addr → Bool) (us : List (Addr × UnitTableState))
    → keys_of (remove_entry test us) ≡ remove_key test (keys_of us)
removed_keys test [] = refl
removed_keys test (x ∷ us) = grind (arith, removed_keys test us)

pub removed_distinct : (test : Addr → Bool) (us : List (Addr × UnitTableState)) → IsDistinct same_addr (keys_of us)
    → IsDistinct same_addr (keys_of (remove_entry test us))
removed_distinct test [] distinct = distinct
removed_distinct test (x ∷ us) distinct =
    by (test x.0) (removed_distinct test us (IsDistinct-tail same_addr x.0 (keys_of us) distinct))
  where
    by : (b : Bool) → IsDistinct same_addr (keys_of (remove_entry test us))
        → IsDistinct same_addr (keys_of (cond b us (x ∷ remove_entry test us)))
    by true rest = IsDistinct-tail same_addr x.0 (keys_of us) distinct
    by false rest =
        IsDistinct-cons same_addr x.0 (keys_of (remove_entry test us))
        (still_apart test us (IsDistinct-head same_addr x.0 (keys_of us) distinct)) rest
      where
        still_apart : (p : Addr → Bool) (vs : List (Addr × UnitTableState))
            → AllByRecursion (λ y. same_addr x.0 y ≡ false) (keys_of vs)
            → AllByRecursion (λ y. same_addr x.0 y ≡ false) (keys_of (remove_entry p vs))
        still_apart p [] h = h
        still_apart p (v ∷ vs) h = one (p v.0) (still_apart p vs h.1)
          where
            one : (b : Bool) → AllByRecursion (λ y. same_addr x.0 y ≡ false) (keys_of (remove_entry p vs))
                → AllByRecursion (λ y. same_addr x.0 y ≡ false) (keys_of (cond b vs (v ∷ remove_entry p vs)))
            one true more = h.1
            one false more = (h.0, more)

-- the tables without a unit
module _ (t : Tables) (a : Addr) (ok : TablesAgree t) where
  after : Emptied t.groups (unit_in t.units a).homes (fold vacated t.groups (unit_in t.units a).homes)
  after = emptied (unit_in t.units a).homes t.groups (unit_homes t a ok)

  found : (b : Addr) → lookup (same_addr b) (remove_entry (same_addr a) t.units)
      ≡ cond (same_addr a b) None (lookup (same_addr b) t.units)
  found b = lookup-remove_entry addr_laws (same_addr a) (addr_laws.congr a) b t.units ok.units.distinct

  -- the unit's own blocks have no home
  pub dropped_home_own : (k : Key) → k.addr ≡ a → home_in (remove_entry (same_addr a) t.units) k ≡ None
  dropped_home_own k e = grind (arith, found, same_addr_of)

  -- the other units are as before
  pub dropped_unit_other : (b : Addr) → b ≢ a → unit_in (remove_entry (same_addr a) t.units) b ≡ unit_in t.units b
  dropped_unit_other b ne = grind (arith, found, addr_apart)

  -- so their blocks have the homes and stamps that they had
  pub dropped_home_other : (k : Key) → k.addr ≢ a → home_in (remove_entry (same_addr a) t.units) k ≡ home_in t.units k
  dropped_home_other k ne = ap (λ u. get_or u.homes k.rb None) (dropped_unit_other k.addr ne)

  pub dropped_stamp_other : (k : Key) → k.addr ≢ a → stamp_of (dropped t a) k ≡ stamp_of t k
  dropped_stamp_other k ne = ap (λ u. get_or u.stamps k.rb 0) (dropped_unit_other k.addr ne)

  -- a slot of another unit's block is none of the homes, so it still names that block
  not_home : (s : Slot) (k : Key) → k.addr ≢ a → key_in t.groups s ≡ Some k → (i : ℕ)
      → get_or (unit_in t.units a).homes i None ≡ Some s → ⊥
  not_home s k ne e i f =
      let own : Key = record { addr = a; rb = i } in
      ne (ap (λ x. x.addr) (same_Some k own (sym e ∙ ok.agree.to_slot own s f)))

  pub dropped_key_other : (s : Slot) (k : Key) → k.addr ≢ a → key_in t.groups s ≡ Some k
      → key_in (fold vacated t.groups (unit_in t.units a).homes) s ≡ Some k
  dropped_key_other s k ne e = after.kept s (not_home s k ne e) ∙ e

  to_slot : (k : Key) (s : Slot) → home_in (remove_entry (same_addr a) t.units) k ≡ Some s
      → key_in (fold vacated t.groups (unit_in t.units a).homes) s ≡ Some k
  to_slot k s e = elim (addr_tells k.addr a) [
    | inl y ↦ absurd (none-some s (sym (dropped_home_own k y.1) ∙ e))
    | inr d ↦ dropped_key_other s k d.1 (ok.agree.to_slot k s (sym (dropped_home_other k d.1) ∙ e))
  ]

  to_home : (k : Key) (s : Slot) → key_in (fold vacated t.groups (unit_in t.units a).homes) s ≡ Some k
      → home_in (remove_entry (same_addr a) t.units) k ≡ Some s
  to_home k s e =
      grind (arith, none-some, after, unit_homes, addr_tells, same_Some, dropped_key_other, dropped_home_other)

  -- no slot names a block that it did not name
  pub dropped_key_empty : (s : Slot) → key_at t s ≡ None → key_at (dropped t a) s ≡ None
  dropped_key_empty s e = after.empties s e

  -- a slot that named one of the unit's blocks is empty
  pub dropped_key_own : (s : Slot) (k : Key) → k.addr ≡ a → key_at t s ≡ Some k → key_at (dropped t a) s ≡ None
  dropped_key_own s k own e =
      after.gone k.rb s (sym (ap (λ b. get_or (unit_in t.units b).homes k.rb None) own) ∙ ok.agree.to_home k s e)

  -- as many groups stay, with the members that they had
  pub dropped_group_count : length (dropped t a).groups ≡ length t.groups
  dropped_group_count = after.size

  pub dropped_members : (g : ℕ) → (group_in (dropped t a).groups g).members ≡ (group_in t.groups g).members
  dropped_members g = after.members g

  -- each has its class, or is free where none of its slots names a block
  pub dropped_class : (g : ℕ) → KeepsClass (class_of t g) (group_in (dropped t a).groups g)
  dropped_class g = after.class g

  pub dropped_class_named : (s : Slot) (k : Key) → key_at (dropped t a) s ≡ Some k
      → class_of (dropped t a) s.group ≡ class_of t s.group
  dropped_class_named s k e = grind (arith, class_kept, after)

  -- no fewer groups are free
  pub dropped_free_groups : free_groups t ≤ free_groups (dropped t a)
  dropped_free_groups = after.free

  -- the other units' blocks stand at the level that they had
  pub dropped_level_other : (k : Key) → k.addr ≢ a → level (dropped t a) k ≡ level t k
  dropped_level_other k ne =
      ap (λ o. level_in (dropped t a).groups o) (dropped_home_other k ne)
      ∙ level_stays t.groups (dropped t a).groups (home t k)
      (λ s e. dropped_class_named s k (dropped_key_other s k ne (ok.agree.to_slot k s e)))

  -- and the other units keep their order
  pub dropped_order : keys_of (dropped t a).units ≡ remove_key (same_addr a) (keys_of t.units)
  dropped_order = removed_keys (same_addr a) t.units

  module _ (there : IsSome (lookup (same_addr a) t.units)) where
    sums : (f : UnitTableState → ℕ) → sum_by f (values_of (remove_entry (same_addr a) t.units)) + f (unit_in t.units a)
        ≡ sum_by f (values_of t.units)
    sums f = grind (arith, found_in, sum_by-remove_entry)

    -- the unit's blocks are no longer reserved
    pub dropped_reserved : reserved (dropped t a) + length (unit_in t.units a).homes ≡ reserved t
    dropped_reserved = sums (λ u. length u.homes)

    pub dropped_agrees : TablesAgree (dropped t a)
    dropped_agrees =
        let total = dropped_reserved in
        let count = after.count in
        let counted = ok.agree.counted in
        let homes = sums placed in
        record {
          groups = after.stand t.geometry ok.groups;
          units = record {
            distinct = removed_distinct (same_addr a) t.units ok.units.distinct;
            whole = All-map-remove_entry (same_addr a) (λ (x : Addr × UnitTableState). x.1) (IsValidUnit t.geometry)
                t.units ok.units.whole;
          };
          agree = record { to_slot = to_slot; to_home = to_home; counted = omega arith };
          room = less (3 * rows_of t.geometry) (length t.groups) _ (reserved t) _ _ after.size total ok.room;
        }
      where
        less : (x a b r q h : ℕ) → b ≡ a → q + h ≡ r → r ≤ x * (a - 1) → q ≤ x * (b - 1)
        less x a b r q h e f g = subst (λ c. q ≤ x * (c - 1)) (sym e) (omega arith)

    pub dropped_kept : (n : ℕ) → n ≡ reserved t → BookAgrees (dropped t a) (n - length (unit_in t.units a).homes)
    dropped_kept n e = record { tables = dropped_agrees; total = let total = dropped_reserved in omega arith }

    pub homes_fit : (n : ℕ) → n ≡ reserved t → length (unit_in t.units a).homes ≤ n
    homes_fit n e = let total = dropped_reserved in omega arith

-- the unit that was found
pub found_is : (us : List (Addr × UnitTableState)) (a : Addr) (u : UnitTableState) → lookup (same_addr a) us ≡ Some u
    → unit_in us a ≡ u
found_is us a u e = ap (λ o. unwrap_or o no_unit) e

pub found_there : (us : List (Addr × UnitTableState)) (a : Addr) (u : UnitTableState) → lookup (same_addr a) us ≡ Some u
    → IsSome (lookup (same_addr a) us)
found_there us a u e = ap is_some e
