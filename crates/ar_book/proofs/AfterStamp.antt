-- The tables after a block got the next stamp.
use Rattle.std.proofs.Common.{◌≡◌, ◌<◌, None, length, get_or, set, refl, sym, ap, subst, arith}
use Rattle.std.specs.Map.{keys_of}
use Rattle.std.proofs.lemmas.Map.{keys-set_value}
use Rattle.ar_disks.specs.declared.address.Addr.{Addr}
use Rattle.ar_disks.specs.declared.address.Key.{Key}
use Rattle.ar_book.specs.Tables.{UnitTableState, Tables, unit_in, home, level, level_in, reserved, HasBlock}
use Rattle.ar_book.specs.Changes.{next_stamp, stamped}
use Rattle.ar_book.specs.Book.{TablesAgree}
use Rattle.ar_book.proofs.UnitLemmas.{has_by_block, unit_keeps, unit_sum}
use Rattle.ar_book.proofs.UnitChanges.{restamped_kept}

module _ (t : Tables) (k : Key) where
  -- what is read of a unit besides its stamps stays
  same_unit : {A : Type 0} (f : UnitTableState → A)
      → f (record (unit_in t.units k.addr) { stamps = set (unit_in t.units k.addr).stamps k.rb (next_stamp t.puts) })
      ≡ f (unit_in t.units k.addr)
      → (a : Addr) → f (unit_in (stamped t k).units a) ≡ f (unit_in t.units a)
  same_unit f e a =
      let u = unit_in t.units k.addr in
      unit_keeps f t.units k.addr (record u { stamps = set u.stamps k.rb (next_stamp t.puts) }) e a

  -- each unit has its length, its homes and its mark
  pub stamped_sectors : (a : Addr) → (unit_in (stamped t k).units a).sectors ≡ (unit_in t.units a).sectors
  stamped_sectors a = same_unit (λ u. u.sectors) refl a

  pub stamped_attention : (a : Addr) → (unit_in (stamped t k).units a).attention ≡ (unit_in t.units a).attention
  stamped_attention a = same_unit (λ u. u.attention) refl a

  pub stamped_homes : (a : Addr) → (unit_in (stamped t k).units a).homes ≡ (unit_in t.units a).homes
  stamped_homes a = same_unit (λ u. u.homes) refl a

  -- each block has the home that it had, and stands at its level
  pub stamped_home : (j : Key) → home (stamped t k) j ≡ home t j
  stamped_home j = ap (λ l. get_or l j.rb None) (stamped_homes j.addr)

  pub stamped_level : (j : Key) → level (stamped t k) j ≡ level t j
  stamped_level j = ap (λ o. level_in t.groups o) (stamped_home j)

  pub stamped_block : (j : Key) → HasBlock t j → HasBlock (stamped t k) j
  stamped_block j h = subst (λ l. j.rb < length l) (sym (stamped_homes j.addr)) h

  -- the units stay in their order
  pub stamped_order : keys_of (stamped t k).units ≡ keys_of t.units
  stamped_order = grind (arith, keys-set_value)

module _ (t : Tables) (k : Key) (block : HasBlock t k) where
  -- as many blocks are reserved, and the room stays
  pub stamped_reserved : reserved (stamped t k) ≡ reserved t
  stamped_reserved = grind (arith, unit_sum, has_by_block)

  -- the tables still agree
  pub stamped_agrees : TablesAgree t → TablesAgree (stamped t k)
  stamped_agrees ok =
      (restamped_kept t (reserved t) (next_stamp t.puts) (next_stamp t.puts) k (record { tables = ok; total = refl })
      block).tables
