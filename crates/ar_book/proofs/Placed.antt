-- A block that gets a home and a stamp: whichever comes first.
use Rattle.std.proofs.Common.{◌≡◌, Bool, true, false, cond, List, [], ◌∷◌, Some, ℕ, set, refl, sym, ap, ◌∙◌}
use Rattle.std.specs.Map.{set_value}
use Rattle.ar_disks.specs.Addresses.{same_addr}
use Rattle.ar_disks.specs.declared.address.Addr.{Addr}
use Rattle.ar_disks.specs.declared.address.Key.{Key}
use Rattle.ar_book.specs.declared.class.Slot.{Slot}
use Rattle.ar_book.specs.Tables.{UnitTableState, Tables, unit_in, HasBlock}
use Rattle.ar_book.specs.Changes.{named, vacated, homed, restamped, next_stamp, assigned, stamped}
use Rattle.ar_book.proofs.UnitLemmas.{has_by_block, unit_same}
use Rattle.ar_book.proofs.AfterStamp.{stamped_home}

-- of two values that a unit gets the second stays
set_twice : (test : Addr → Bool) (us : List (Addr × UnitTableState)) (x y : UnitTableState)
    → set_value test (set_value test us x) y ≡ set_value test us y
set_twice test [] x y = refl
set_twice test (e ∷ us) x y = by (test e.0) refl (set_twice test us x y)
  where
    by : (b : Bool) → test e.0 ≡ b → set_value test (set_value test us x) y ≡ set_value test us y
        → set_value test (cond b ((e.0, x) ∷ us) (e ∷ set_value test us x)) y
        ≡ cond b ((e.0, y) ∷ us) (e ∷ set_value test us y)
    by true t rest = ap (λ b. cond b ((e.0, y) ∷ us) ((e.0, x) ∷ set_value test us y)) t
    by false t rest =
        ap (λ b. cond b ((e.0, y) ∷ set_value test us x) (e ∷ set_value test (set_value test us x) y)) t
        ∙ ap (λ l. e ∷ l) rest

module _ (t : Tables) (k : Key) (s : Slot) (block : HasBlock t k) where
  abbrev u : UnitTableState
  u = unit_in t.units k.addr

  abbrev last : ℕ
  last = next_stamp t.puts

  -- a home after a stamp, and a stamp after a home
  same_units : homed (restamped t.units k last) k (Some s) ≡ restamped (homed t.units k (Some s)) k last
  same_units =
      let p = same_addr k.addr in
      let there = has_by_block t.units k.addr k.rb block in
      let stamp : UnitTableState = record u { stamps = set u.stamps k.rb last } in
      let home : UnitTableState = record u { homes = set u.homes k.rb (Some s) } in
      ap (λ (x : UnitTableState). set_value p (set_value p t.units stamp)
      (record x { homes = set x.homes k.rb (Some s) })) (unit_same t.units k.addr stamp there)
      ∙ set_twice p t.units stamp (record stamp { homes = set stamp.homes k.rb (Some s) })
      ∙ sym (set_twice p t.units home (record home { stamps = set home.stamps k.rb last }))
      ∙ sym (ap (λ (x : UnitTableState). set_value p (set_value p t.units home)
      (record x { stamps = set x.stamps k.rb last })) (unit_same t.units k.addr home there))

  pub stamped_first : assigned (stamped t k) k s ≡ stamped (assigned t k s) k
  stamped_first =
      λ i. record (stamped t k) { groups = vacated (named t.groups s k) (stamped_home t k k i); units = same_units i }
