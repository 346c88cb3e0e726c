-- The tables after a unit was made, has grown, or its mark was cleared.
use Rattle.std.proofs.Common.{◌≡◌, ◌≢◌, ℕ, ◌-◌, false, None, IsSome, is_some, [], ◌∷◌, ◌++◌, length, get_or, refl, sym}
use Rattle.std.proofs.Common.{ap, subst, ◌∙◌, arith}
use Rattle.std.specs.List.{IsDistinct}
use Rattle.std.specs.Map.{lookup, keys_of}
use Rattle.std.proofs.lemmas.Map.{keys-set_value}
use Rattle.std.proofs.lemmas.Map.Keys.{IsDistinct-push}
use Rattle.std.proofs.lemmas.Map.Made.{is_some-lookup}
use Rattle.ar_disks.specs.declared.address.Addr.{Addr}
use Rattle.ar_disks.specs.declared.address.Key.{Key}
use Rattle.ar_book.specs.declared.class.Slot.{Slot}
use Rattle.ar_disks.specs.Addresses.{same_addr}
use Rattle.ar_book.specs.Tables.{Tables, unit_in, home, stamp_of, blocks_of, reserved}
use Rattle.ar_book.specs.Changes.{new_unit, longer, made, grown, unmarked}
use Rattle.ar_book.specs.Refusals.{unit_make_refusal, unit_grow_refusal}
use Rattle.ar_book.specs.Book.{TablesAgree}
use Rattle.ar_disks.proofs.Addresses.{addr_laws, addr_apart, same_addr_self}
use Rattle.ar_book.proofs.Padding.{nothing, get_replicate, get_padded}
use Rattle.ar_book.proofs.UnitLemmas.{unit_same, unit_other, unit_keeps}
use Rattle.ar_book.proofs.UnitChanges.{keys_push, push_found, push_keeps, push_other, made_kept, grown_kept}
use Rattle.ar_book.proofs.UnitChanges.{unmarked_kept}
use Rattle.ar_book.proofs.RefusalLemmas.{CanMake, can_make, CanGrow, can_grow}

module _ (t : Tables) (a : Addr) (n : ℕ) where
  -- each block has the home, the stamp and the level that it had, and the new ones have none
  pub made_home : (j : Key) → home (made t a n) j ≡ home t j
  made_home j =
      push_keeps (λ u. get_or u.homes j.rb None) (same_addr j.addr) t.units a (new_unit t.geometry n)
      (get_replicate (blocks_of t.geometry n) j.rb (nothing Slot))

  pub made_stamp : (j : Key) → stamp_of (made t a n) j ≡ stamp_of t j
  made_stamp j =
      push_keeps (λ u. get_or u.stamps j.rb 0) (same_addr j.addr) t.units a (new_unit t.geometry n)
      (get_replicate (blocks_of t.geometry n) j.rb 0)

  -- the new unit is there, and each other one is as before
  pub made_unit : lookup (same_addr a) t.units ≡ None → unit_in (made t a n).units a ≡ new_unit t.geometry n
  made_unit fresh = grind (arith, push_found, same_addr_self)

  pub made_unit_other : (b : Addr) → b ≢ a → unit_in (made t a n).units b ≡ unit_in t.units b
  made_unit_other b ne = grind (arith, push_other, addr_apart)

  -- it is the last in order of making
  pub made_order : keys_of (made t a n).units ≡ keys_of t.units ++ a ∷ []
  made_order = keys_push t.units a (new_unit t.geometry n)

  -- the tables still agree where the making is not refused
  pub made_agrees : TablesAgree t → unit_make_refusal t a n ≡ None → TablesAgree (made t a n)
  made_agrees ok granted =
      let can : CanMake t a n = can_make t a n ok granted in
      let new : IsDistinct same_addr (keys_of t.units ++ a ∷ []) =
      IsDistinct-push addr_laws (keys_of t.units) a ok.units.distinct (sym (is_some-lookup (same_addr a) t.units)
      ∙ ap is_some can.fresh) in
      (made_kept t (reserved t) a n (record { tables = ok; total = refl }) can.some can.few can.room
      (subst (λ l. IsDistinct same_addr l) (sym made_order) new)).tables

module _ (t : Tables) (a : Addr) (n : ℕ) where
  -- each block has the home, the stamp and the level that it had, and the added ones have none
  pub grown_home : (j : Key) → home (grown t a n) j ≡ home t j
  grown_home j =
      let u = unit_in t.units a in
      unit_keeps (λ x. get_or x.homes j.rb None) t.units a (longer t.geometry u n)
      (get_padded u.homes (blocks_of t.geometry n - length u.homes) j.rb None) j.addr

  pub grown_stamp : (j : Key) → stamp_of (grown t a n) j ≡ stamp_of t j
  grown_stamp j =
      let u = unit_in t.units a in
      unit_keeps (λ x. get_or x.stamps j.rb 0) t.units a (longer t.geometry u n)
      (get_padded u.stamps (blocks_of t.geometry n - length u.homes) j.rb 0) j.addr

  -- the units stay in their order
  pub grown_order : keys_of (grown t a n).units ≡ keys_of t.units
  grown_order = keys-set_value (same_addr a) t.units (longer t.geometry (unit_in t.units a) n)

  module _ (there : IsSome (lookup (same_addr a) t.units)) where
    -- the unit is longer, and each other one is as before
    pub grown_unit : unit_in (grown t a n).units a ≡ longer t.geometry (unit_in t.units a) n
    grown_unit = unit_same t.units a (longer t.geometry (unit_in t.units a) n) there

    pub grown_unit_other : (b : Addr) → b ≢ a → unit_in (grown t a n).units b ≡ unit_in t.units b
    grown_unit_other b ne = unit_other t.units a (longer t.geometry (unit_in t.units a) n) there b (λ e. ne (sym e))

  -- the tables still agree where the growth is not refused
  pub grown_agrees : TablesAgree t → unit_grow_refusal t a n ≡ None → TablesAgree (grown t a n)
  grown_agrees ok granted =
      let can : CanGrow t a n = can_grow t a n ok granted in
      (grown_kept t (reserved t) a n (record { tables = ok; total = refl }) can.there can.longer can.some can.few
      can.room).tables

module _ (t : Tables) (a : Addr) where
  -- each block has the home, the stamp and the level that it had
  pub unmarked_home : (j : Key) → home (unmarked t a) j ≡ home t j
  unmarked_home j =
      unit_keeps (λ x. get_or x.homes j.rb None) t.units a (record (unit_in t.units a) { attention = false }) refl
      j.addr

  pub unmarked_stamp : (j : Key) → stamp_of (unmarked t a) j ≡ stamp_of t j
  unmarked_stamp j =
      unit_keeps (λ x. get_or x.stamps j.rb 0) t.units a (record (unit_in t.units a) { attention = false }) refl j.addr

  -- each unit has its length, and as many blocks
  pub unmarked_sectors : (b : Addr) → (unit_in (unmarked t a).units b).sectors ≡ (unit_in t.units b).sectors
  unmarked_sectors b = unit_keeps (λ x. x.sectors) t.units a (record (unit_in t.units a) { attention = false }) refl b

  pub unmarked_homes : (b : Addr) → (unit_in (unmarked t a).units b).homes ≡ (unit_in t.units b).homes
  unmarked_homes b = unit_keeps (λ x. x.homes) t.units a (record (unit_in t.units a) { attention = false }) refl b

  -- the units stay in their order
  pub unmarked_order : keys_of (unmarked t a).units ≡ keys_of t.units
  unmarked_order = keys-set_value (same_addr a) t.units (record (unit_in t.units a) { attention = false })

  -- the tables still agree
  pub unmarked_agrees : TablesAgree t → TablesAgree (unmarked t a)
  unmarked_agrees ok = (unmarked_kept t (reserved t) a (record { tables = ok; total = refl })).tables
