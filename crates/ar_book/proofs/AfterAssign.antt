-- The tables after a block moved to an empty slot.
use Rattle.std.proofs.Common.{◌≡◌, ◌≢◌, ℕ, ◌≤◌, Option, None, Some, length, get_or, set, refl, sym, ap, ◌∙◌, arith}
use Rattle.std.specs.Map.{keys_of}
use Rattle.std.proofs.Math.ListN.{length-set}
use Rattle.std.proofs.lemmas.Map.{keys-set_value}
use Rattle.ar_disks.specs.declared.address.Addr.{Addr}
use Rattle.ar_disks.specs.declared.address.Key.{Key}
use Rattle.ar_book.specs.declared.class.Class.TheVariants.{Free}
use Rattle.ar_book.specs.declared.class.Slot.{Slot}
use Rattle.ar_book.specs.Tables.{UnitTableState, Tables, group_in, key_in, unit_in, key_at, home, stamp_of, class_of}
use Rattle.ar_book.specs.Tables.{free_groups, reserved, HasBlock, HasSlot}
use Rattle.ar_book.specs.Changes.{named, vacated, assigned}
use Rattle.ar_book.specs.Choices.{IsEmpty}
use Rattle.ar_book.specs.Book.{TablesAgree}
use Rattle.ar_book.proofs.GroupLemmas.{KeepsClass, class_kept, named_size, named_members, named_class, named_other}
use Rattle.ar_book.proofs.GroupLemmas.{vacated_size, vacated_members, vacated_class, vacated_same, vacated_other}
use Rattle.ar_book.proofs.GroupLemmas.{vacated_emptied}
use Rattle.ar_book.proofs.FreeGroups.{named_free, vacated_free}
use Rattle.ar_book.proofs.UnitLemmas.{unit_keeps, homed_same, homed_other, homed_reserved}
use Rattle.ar_book.proofs.PlaceLemmas.{assigned_agrees}
use Rattle.ar_book.proofs.KeptLemmas.{former_group, former_slot}

module _ (t : Tables) (k : Key) (s : Slot) where
  -- as many groups stay, with the members that they had
  pub assigned_group_count : length (assigned t k s).groups ≡ length t.groups
  assigned_group_count = vacated_size (named t.groups s k) (home t k) ∙ named_size t.groups s k

  pub assigned_members : (g : ℕ) → (group_in (assigned t k s).groups g).members ≡ (group_in t.groups g).members
  assigned_members g = vacated_members (named t.groups s k) (home t k) g ∙ named_members t.groups s k g

  -- each has its class, or is free where none of its slots names a block
  pub assigned_class : (g : ℕ) → KeepsClass (class_of t g) (group_in (assigned t k s).groups g)
  assigned_class g = grind (arith, named_class, vacated_class)

  -- the class stays where a slot names a block
  pub assigned_class_named : (r : Slot) (j : Key) → key_at (assigned t k s) r ≡ Some j
      → class_of (assigned t k s) r.group ≡ class_of t r.group
  assigned_class_named r j e = grind (arith, class_kept, assigned_class)

  -- no fewer groups are free
  pub assigned_free_groups : free_groups t ≤ free_groups (assigned t k s)
  assigned_free_groups = grind (arith, named_free, vacated_free)

  -- the units stay in their order
  pub assigned_order : keys_of (assigned t k s).units ≡ keys_of t.units
  assigned_order = grind (arith, keys-set_value)

  -- what is read of a unit besides its homes stays
  same_unit : {A : Type 0} (f : UnitTableState → A)
      → f (record (unit_in t.units k.addr) { homes = set (unit_in t.units k.addr).homes k.rb (Some s) })
      ≡ f (unit_in t.units k.addr)
      → (a : Addr) → f (unit_in (assigned t k s).units a) ≡ f (unit_in t.units a)
  same_unit f e a =
      let u = unit_in t.units k.addr in
      unit_keeps f t.units k.addr (record u { homes = set u.homes k.rb (Some s) }) e a

  -- each unit has its length, its stamps and its mark, and as many blocks
  pub assigned_sectors : (a : Addr) → (unit_in (assigned t k s).units a).sectors ≡ (unit_in t.units a).sectors
  assigned_sectors a = same_unit (λ u. u.sectors) refl a

  pub assigned_attention : (a : Addr) → (unit_in (assigned t k s).units a).attention ≡ (unit_in t.units a).attention
  assigned_attention a = same_unit (λ u. u.attention) refl a

  pub assigned_stamps : (a : Addr) → (unit_in (assigned t k s).units a).stamps ≡ (unit_in t.units a).stamps
  assigned_stamps a = same_unit (λ u. u.stamps) refl a

  pub assigned_stamp : (j : Key) → stamp_of (assigned t k s) j ≡ stamp_of t j
  assigned_stamp j = ap (λ l. get_or l j.rb 0) (assigned_stamps j.addr)

  pub assigned_blocks : (a : Addr) → length (unit_in (assigned t k s).units a).homes ≡ length (unit_in t.units a).homes
  assigned_blocks a = same_unit (λ u. length u.homes) (length-set (unit_in t.units k.addr).homes k.rb (Some s)) a

module _ (t : Tables) (k : Key) (s : Slot) (block : HasBlock t k) where
  -- the slot is the block's home, and each other block has the home that it had
  pub assigned_home : home (assigned t k s) k ≡ Some s
  assigned_home = homed_same t.units k (Some s) block

  pub assigned_home_other : (j : Key) → j ≢ k → home (assigned t k s) j ≡ home t j
  assigned_home_other j ne = homed_other t.units k (Some s) block j ne

  -- as many blocks are reserved, and the room stays
  pub assigned_reserved : reserved (assigned t k s) ≡ reserved t
  assigned_reserved = homed_reserved t.units k (Some s) block

module _ (t : Tables) (k : Key) (s : Slot) (ok : TablesAgree t) (block : HasBlock t k) (slot : HasSlot t s)
    (empty : key_at t s ≡ None) where
  -- the slot names the block
  pub assigned_key : key_at (assigned t k s) s ≡ Some k
  assigned_key = (assigned_agrees t k s ok block slot empty).agree.to_slot k s (assigned_home t k s block)

  -- its former slot is empty
  pub assigned_key_left : (q : Slot) → home t k ≡ Some q → key_at (assigned t k s) q ≡ None
  assigned_key_left q had = grind (arith, vacated_same, former_group, former_slot)

  -- each other slot names what it did
  pub assigned_key_other : (r : Slot) → r ≢ s → home t k ≢ Some r → key_at (assigned t k s) r ≡ key_at t r
  assigned_key_other r ne other = by (home t k) refl
    where
      by : (o : Option Slot) → home t k ≡ o → key_in (vacated (named t.groups s k) o) r ≡ key_in t.groups r
      by None e = named_other t.groups s k slot.0 r ne
      by (Some q) e =
          vacated_other (named t.groups s k) q (former_group t k s ok slot empty q e) r
          (λ same. other (e ∙ ap Some (sym same)))
          ∙ named_other t.groups s k slot.0 r ne

  -- its group keeps its class
  pub assigned_class_here : class_of (assigned t k s) s.group ≡ class_of t s.group
  assigned_class_here = assigned_class_named t k s s k assigned_key

  -- the group that the block left is free where it is empty
  pub assigned_class_left : (q : Slot) → home t k ≡ Some q → IsEmpty (assigned t k s) q.group
      → class_of (assigned t k s) q.group ≡ Free
  assigned_class_left q had = grind (arith, vacated_emptied, former_group)
