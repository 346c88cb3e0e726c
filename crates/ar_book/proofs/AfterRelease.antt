-- The tables after a block left its home.
use Rattle.std.proofs.Common.{◌≡◌, ◌≢◌, ℕ, ◌≤◌, Option, None, Some, length, get_or, set, refl, sym, ap, subst, ◌∙◌}
use Rattle.std.specs.Map.{keys_of}
use Rattle.std.proofs.Math.ListN.{length-set}
use Rattle.std.proofs.lemmas.Map.{keys-set_value}
use Rattle.ar_disks.specs.declared.address.Addr.{Addr}
use Rattle.ar_disks.specs.declared.address.Key.{Key}
use Rattle.ar_book.specs.declared.class.Slot.{Slot}
use Rattle.ar_disks.specs.Addresses.{same_addr}
use Rattle.ar_book.specs.Tables.{UnitTableState, Tables, group_in, key_in, unit_in, key_at, home, stamp_of, class_of}
use Rattle.ar_book.specs.Tables.{free_groups, reserved, HasBlock}
use Rattle.ar_book.specs.Changes.{vacated, released}
use Rattle.ar_book.specs.Book.{TablesAgree}
use Rattle.ar_book.proofs.GroupLemmas.{there_group, there_slot, KeepsClass, class_kept, vacated_size, vacated_members}
use Rattle.ar_book.proofs.GroupLemmas.{vacated_class, vacated_same, vacated_other}
use Rattle.ar_book.proofs.FreeGroups.{vacated_free}
use Rattle.ar_book.proofs.UnitLemmas.{unit_keeps, homed_same, homed_other, homed_reserved}

module _ (t : Tables) (k : Key) where
  -- as many groups stay, with the members that they had
  pub released_group_count : length (released t k).groups ≡ length t.groups
  released_group_count = vacated_size t.groups (home t k)

  pub released_members : (g : ℕ) → (group_in (released t k).groups g).members ≡ (group_in t.groups g).members
  released_members g = vacated_members t.groups (home t k) g

  -- each has its class, or is free where none of its slots names a block
  pub released_class : (g : ℕ) → KeepsClass (class_of t g) (group_in (released t k).groups g)
  released_class g = vacated_class t.groups (home t k) g

  -- the class stays where a slot names a block
  pub released_class_named : (r : Slot) (j : Key) → key_at (released t k) r ≡ Some j
      → class_of (released t k) r.group ≡ class_of t r.group
  released_class_named r j e =
      class_kept (class_of t r.group) (group_in (released t k).groups r.group) r.slot j (released_class r.group) e

  -- no fewer groups are free
  pub released_free_groups : free_groups t ≤ free_groups (released t k)
  released_free_groups = vacated_free t.groups (home t k)

  -- the units stay in their order
  pub released_order : keys_of (released t k).units ≡ keys_of t.units
  released_order =
      let u = unit_in t.units k.addr in
      keys-set_value (same_addr k.addr) t.units (record u { homes = set u.homes k.rb None })

  -- what is read of a unit besides its homes stays
  same_unit : {A : Type 0} (f : UnitTableState → A)
      → f (record (unit_in t.units k.addr) { homes = set (unit_in t.units k.addr).homes k.rb None })
      ≡ f (unit_in t.units k.addr)
      → (a : Addr) → f (unit_in (released t k).units a) ≡ f (unit_in t.units a)
  same_unit f e a = let u =
      unit_in t.units k.addr in unit_keeps f t.units k.addr (record u { homes = set u.homes k.rb None }) e a

  -- each unit has its length, its stamps and its mark, and as many blocks
  pub released_sectors : (a : Addr) → (unit_in (released t k).units a).sectors ≡ (unit_in t.units a).sectors
  released_sectors a = same_unit (λ u. u.sectors) refl a

  pub released_attention : (a : Addr) → (unit_in (released t k).units a).attention ≡ (unit_in t.units a).attention
  released_attention a = same_unit (λ u. u.attention) refl a

  pub released_stamp : (j : Key) → stamp_of (released t k) j ≡ stamp_of t j
  released_stamp j = ap (λ l. get_or l j.rb 0) (same_unit (λ u. u.stamps) refl j.addr)

  pub released_blocks : (a : Addr) → length (unit_in (released t k).units a).homes ≡ length (unit_in t.units a).homes
  released_blocks a = same_unit (λ u. length u.homes) (length-set (unit_in t.units k.addr).homes k.rb None) a

module _ (t : Tables) (k : Key) (block : HasBlock t k) where
  -- the block has no home, and each other block has the home that it had
  pub released_home : home (released t k) k ≡ None
  released_home = homed_same t.units k None block

  pub released_home_other : (j : Key) → j ≢ k → home (released t k) j ≡ home t j
  released_home_other j ne = homed_other t.units k None block j ne

  -- as many blocks are reserved, and the room stays
  pub released_reserved : reserved (released t k) ≡ reserved t
  released_reserved = homed_reserved t.units k None block

module _ (t : Tables) (k : Key) (ok : TablesAgree t) (block : HasBlock t k) where
  -- its former slot is empty
  pub released_key : (q : Slot) → home t k ≡ Some q → key_at (released t k) q ≡ None
  released_key q had =
      let before : key_at t q ≡ Some k = ok.agree.to_slot k q had in
      subst (λ o. key_in (vacated t.groups o) q ≡ None) (sym had)
      (vacated_same t.groups q (there_group t.groups q k before) (there_slot t.groups q k before))

  -- each other slot names what it did
  pub released_key_other : (r : Slot) → home t k ≢ Some r → key_at (released t k) r ≡ key_at t r
  released_key_other r other = by (home t k) refl
    where
      by : (o : Option Slot) → home t k ≡ o → key_in (vacated t.groups o) r ≡ key_in t.groups r
      by None e = refl
      by (Some q) e =
          vacated_other t.groups q (there_group t.groups q k (ok.agree.to_slot k q e)) r
          (λ same. other (e ∙ ap Some (sym same)))
