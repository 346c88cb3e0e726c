-- A store whose units are made, grow, are dropped, or lose their mark: its blocks stand as they did.
use Rattle.std.proofs.Common.{◌≡◌, ◌≢◌, inl, inr, ℕ, ◌≤◌, List, [], get_or, is_some, Option, None, Some, IsSome}
use Rattle.std.proofs.Common.{Result, Ok, Err, OnOk, OnErr, IsOk, IsTrue, ◌↔◌, refl, sym, ap, subst, ◌∙◌, true≢false}
use Rattle.std.proofs.Common.{arith}
use Rattle.std.specs.Map.{lookup}
use Rattle.std.specs.Option.{unwrap_or}
use Rattle.std.proofs.lemmas.Option.{none-some}
use Rattle.std.proofs.lemmas.List.{get_or_past}
use Rattle.ar_disks.specs.declared.address.Addr.{Addr}
use Rattle.ar_disks.specs.declared.address.Key.{Key}
use Rattle.ar_disks.specs.declared.geometry.Geometry.{Geometry}
use Rattle.ar_disks.specs.Geometry.{block_len_of}
use Rattle.ar_disks.specs.Block.{zeros}
use Rattle.ar_extents.specs.Set.{SetState}
use Rattle.ar_book.specs.declared.class.Slot.{Slot}
use Rattle.ar_disks.specs.Addresses.{same_addr}
use Rattle.ar_book.specs.Tables.{UnitTableState, Tables, no_unit, has_unit, key_at, home}
use Rattle.ar_book.specs.Tables.{free_groups, key_in, HasBlock}
use Rattle.ar_book.specs.Changes.{made, grown, dropped, released, unmarked, vacated}
use Rattle.ar_book.specs.Refusals.{unit_make_refusal, unit_grow_refusal}
use Rattle.ar_book.specs.Book.{TablesAgree}
use Rattle.ar_disks.proofs.Addresses.{addr_tells}
use Rattle.ar_book.proofs.Homes.{home_key}
use Rattle.ar_book.proofs.AfterMake.{made_home, made_agrees, grown_home, grown_agrees, unmarked_home, unmarked_agrees}
use Rattle.ar_book.proofs.DropLemmas.{dropped_home_own, dropped_home_other, dropped_key_empty, dropped_key_own}
use Rattle.ar_book.proofs.DropLemmas.{dropped_key_other, dropped_group_count, dropped_members, dropped_class}
use Rattle.ar_book.proofs.DropLemmas.{dropped_class_named, dropped_free_groups, dropped_agrees}
use Rattle.ar_book.proofs.AfterRelease.{released_group_count, released_members, released_class, released_class_named}
use Rattle.ar_book.proofs.AfterRelease.{released_order, released_sectors, released_attention}
use Rattle.ar_book.proofs.AfterRelease.{released_blocks, released_home, released_home_other, released_reserved}
use Rattle.ar_book.proofs.AfterRelease.{released_key, released_key_other}
use Rattle.ar_book.proofs.PlaceLemmas.{released_agrees}
use Rattle.ar_store.specs.Store.{store_of}
use Rattle.ar_store.specs.Slots.{HoldsBlock, stands}
use Rattle.ar_store.specs.Kept.{IsSpace, FieldsAgree}
use Rattle.ar_store.specs.Placing.{SameUnits}
use Rattle.ar_store.proofs.Standing.{stands_same, stands_nowhere, block_same}
use Rattle.ar_store.proofs.Changes.{extents_same, space_changed}

-- the disks and the blocks that calls work in stay as they are, and no fewer groups are free
pub fields_same : (a : SetState) (t u : Tables) (block : List ℕ) (g : Geometry) → FieldsAgree (store_of a t) block g
    → IsSpace (store_of a u) → free_groups t ≤ free_groups u → FieldsAgree (store_of a u) block g
fields_same a t u block g old space le = record {
  kept = record { space = space; free = λ sound. let before = old.kept.free sound in omega arith };
  block_len = old.block_len;
  scratch_same = old.scratch_same;
}

-- where nothing but the units changes, the store keeps what it kept, as long as the tables agree
space_units : (a : SetState) (t : Tables) (units : List (Addr × UnitTableState)) → IsSpace (store_of a t)
    → TablesAgree (record t { units = units }) → IsSpace (store_of a (record t { units = units }))
space_units a t units space agree =
    let u : Tables = record t { units = units } in
    record {
      geometry = space.geometry;
      tables = agree;
      extents = extents_same a t u space refl (λ g. refl);
      named = λ slot j names. block_same a t u slot refl refl (space.named slot j names);
      parity = λ slot inside is lt. block_same a t u slot refl refl (space.parity slot inside is lt);
    }

-- and every block stands as it did whose home is the same
units_stand : (a : SetState) (t : Tables) (units : List (Addr × UnitTableState)) (k : Key)
    → home (record t { units = units }) k ≡ home t k
    → stands (store_of a (record t { units = units })) k ≡ stands (store_of a t) k
units_stand a t units k same = stands_same a t (record t { units = units }) k same (λ slot is. refl) (λ g. refl)

module _ (a : SetState) (t : Tables) (b : Addr) (n : ℕ) (space : IsSpace (store_of a t)) where
  -- a unit is made, which has no home yet
  pub space_made : unit_make_refusal t b n ≡ None → IsSpace (store_of a (made t b n))
  space_made granted = space_units a t (made t b n).units space (made_agrees t b n space.tables granted)

  pub all_made : (k : Key) → stands (store_of a (made t b n)) k ≡ stands (store_of a t) k
  all_made k = units_stand a t (made t b n).units k (made_home t b n k)

  -- a unit grows by blocks that have no home yet
  pub space_grown : unit_grow_refusal t b n ≡ None → IsSpace (store_of a (grown t b n))
  space_grown granted = space_units a t (grown t b n).units space (grown_agrees t b n space.tables granted)

  pub all_grown : (k : Key) → stands (store_of a (grown t b n)) k ≡ stands (store_of a t) k
  all_grown k = units_stand a t (grown t b n).units k (grown_home t b n k)

module _ (a : SetState) (t : Tables) (b : Addr) (space : IsSpace (store_of a t)) where
  -- a unit's mark is cleared
  pub space_unmarked : IsSpace (store_of a (unmarked t b))
  space_unmarked = space_units a t (unmarked t b).units space (unmarked_agrees t b space.tables)

  pub all_unmarked : (k : Key) → stands (store_of a (unmarked t b)) k ≡ stands (store_of a t) k
  all_unmarked k = units_stand a t (unmarked t b).units k (unmarked_home t b k)

  -- a unit is dropped: what a slot still names it named before
  held_before : (slot : Slot) (j : Key) → key_at (dropped t b) slot ≡ Some j → HoldsBlock (store_of a t) slot
  held_before slot j names = by (key_at t slot) refl
    where
      by : (o : Option Key) → key_at t slot ≡ o → HoldsBlock (store_of a t) slot
      by None was = absurd (none-some j (sym (dropped_key_empty t b space.tables slot was) ∙ names))
      by (Some k) was = elim (addr_tells k.addr b) [
        | inl own ↦ absurd (none-some j (sym (dropped_key_own t b space.tables slot k own.1 was) ∙ names))
        | inr other ↦ space.named slot k was
      ]

  pub space_dropped : IsSome (lookup (same_addr b) t.units) → IsSpace (store_of a (dropped t b))
  space_dropped there =
      let ok = space.tables in
      space_changed a t (dropped t b) space refl (dropped_agrees t b ok there) (dropped_group_count t b ok)
      (dropped_members t b ok) (dropped_class t b ok) (dropped_class_named t b ok) held_before

  pub free_dropped : free_groups t ≤ free_groups (dropped t b)
  free_dropped = dropped_free_groups t b space.tables

  -- every other block stands as it did
  pub others_dropped : (k : Key) → k.addr ≢ b → stands (store_of a (dropped t b)) k ≡ stands (store_of a t) k
  others_dropped k ne =
      let ok = space.tables in
      stands_same a t (dropped t b) k (dropped_home_other t b ok k ne)
      (λ slot is. dropped_class_named t b ok slot k (dropped_key_other t b ok slot k ne (home_key t ok k slot is)))
      (dropped_members t b ok)

  -- and the unit's own are read as zeros
  pub own_dropped : (k : Key) → k.addr ≡ b → stands (store_of a (dropped t b)) k ≡ zeros (block_len_of a.geometry)
  own_dropped k own = stands_nowhere (store_of a (dropped t b)) k (dropped_home_own t b space.tables k own)

-- a slot that names a block after another was discarded named it before
named_before : (t : Tables) (k : Key) → TablesAgree t → HasBlock t k → (slot : Slot) (j : Key)
    → key_at (released t k) slot ≡ Some j → key_at t slot ≡ Some j
named_before t k ok block slot j names = by (home t k) refl
  where
    by : (o : Option Slot) → home t k ≡ o → key_at t slot ≡ Some j
    by None is = subst (λ (o : Option Slot). key_in (vacated t.groups o) slot ≡ Some j) is names
    by (Some q) is =
        sym (released_key_other t k ok block slot
        (λ mine. none-some j (sym (released_key t k ok block slot mine) ∙ names))) ∙ names

module _ (a : SetState) (t : Tables) (k : Key) (space : IsSpace (store_of a t)) (block : HasBlock t k) where
  -- a block is discarded: what a slot still names it named before
  held_still : (slot : Slot) (j : Key) → key_at (released t k) slot ≡ Some j → HoldsBlock (store_of a t) slot
  held_still slot j names = space.named slot j (named_before t k space.tables block slot j names)

  pub space_released : IsSpace (store_of a (released t k))
  space_released =
      space_changed a t (released t k) space refl (released_agrees t k space.tables block) (released_group_count t k)
      (released_members t k) (released_class t k) (released_class_named t k) held_still

  -- every other block stands as it did
  pub others_released : (j : Key) → j ≢ k → stands (store_of a (released t k)) j ≡ stands (store_of a t) j
  others_released j ne =
      stands_same a t (released t k) j (released_home_other t k block j ne)
      (λ slot is. released_class_named t k slot j
      (home_key (released t k) (released_agrees t k space.tables block) j slot
      (released_home_other t k block j ne ∙ is)))
      (released_members t k)

  -- and this one is read as zeros
  pub own_released : stands (store_of a (released t k)) k ≡ zeros (block_len_of a.geometry)
  own_released = stands_nowhere (store_of a (released t k)) k (released_home t k block)

  -- the unit keeps all but the home
  pub units_released : SameUnits t (released t k)
  units_released = record {
    order = released_order t k;
    sectors = released_sectors t k;
    attention = released_attention t k;
    blocks = released_blocks t k;
    groups = released_group_count t k;
    reserved = released_reserved t k block;
  }

-- a key has no home where there is no unit at its address
home_absent : (t : Tables) (b : Addr) (k : Key) → (IsTrue (has_unit t b) → ⊥) → k.addr ≡ b → home t k ≡ None
home_absent t b k absent own =
    by (lookup (same_addr k.addr) t.units) refl
  where
    by : (o : Option UnitTableState) → lookup (same_addr k.addr) t.units ≡ o → home t k ≡ None
    by None is = ap (λ o. get_or (unwrap_or o no_unit).homes k.rb None) is ∙ get_or_past [] k.rb None (omega arith)
    by (Some u) is = absurd (absent (ap (λ c. is_some (lookup (same_addr c) t.units)) (sym own) ∙ ap is_some is))

-- what follows where a call is not refused
pub on_ok : {A E : Type 0} (r : Result A E) (Q : Type 0) → (IsOk r → Q) → OnOk r Q
on_ok (Ok x) Q follows = follows refl
on_ok (Err e) Q follows = tt

-- whether or not there was a unit, none of its blocks has a home once it is dropped
pub own_after : {A E : Type 0} (r : Result A E) (a : SetState) (t new : Tables) (b : Addr) → IsSpace (store_of a t)
    → (IsOk r ↔ IsTrue (has_unit t b)) → OnOk r (new ≡ dropped t b) → OnErr r (new ≡ t)
    → (k : Key) → k.addr ≡ b → stands (store_of a new) k ≡ zeros (block_len_of a.geometry)
own_after (Ok x) a t new b space there is same k own =
    subst (λ u. stands (store_of a u) k ≡ zeros (block_len_of a.geometry)) (sym is) (own_dropped a t b space k own)
own_after (Err e) a t new b space there is same k own =
    subst (λ u. stands (store_of a u) k ≡ zeros (block_len_of a.geometry)) (sym same)
    (stands_nowhere (store_of a t) k (home_absent t b k (λ has. true≢false (sym (there.1 has))) own))
