-- At which addresses a unit is after each call.
use Rattle.std.proofs.Common.{◌≡◌, ◌≢◌, ℕ, Bool, true, false, cond, not, nat_lt, nat_le, ◌||◌, ◌-◌, length, Option}
use Rattle.std.proofs.Common.{Some, None, is_some, List, refl, sym, ap, ◌∙◌}
use Rattle.std.specs.Prelude.{◌==◌}
use Rattle.std.specs.Map.{lookup, keys_of, remove_entry}
use Rattle.std.specs.List.{list_any}
use Rattle.std.proofs.lemmas.Map.{lookup-remove_entry}
use Rattle.std.proofs.lemmas.Map.Made.{is_some-lookup}
use Rattle.ar_disks.specs.declared.address.Addr.{Addr}
use Rattle.ar_disks.specs.Addresses.{same_addr}
use Rattle.ar_book.specs.Tables.{Tables, has_unit, unit_in, blocks_of, room}
use Rattle.ar_book.specs.Changes.{new_unit, made, grown, unmarked, dropped}
use Rattle.ar_book.specs.Refusals.{unit_make_refusal, unit_grow_refusal}
use Rattle.ar_book.specs.Book.{TablesAgree}
use Rattle.ar_book.specs.declared.refusal.Refusal.{Refusal}
use Rattle.ar_book.specs.declared.refusal.Refusal.TheVariants.{BadLun, Exists, Size, NoRoom, Absent}
use Rattle.ar_disks.proofs.Addresses.{addr_laws, addr_apart, same_addr_self}
use Rattle.ar_book.proofs.UnitChanges.{push_found, push_other}
use Rattle.ar_book.proofs.AfterMake.{grown_order, unmarked_order}

-- units of the same addresses, in the same order, are at the same addresses
pub same_order : (t u : Tables) → keys_of u.units ≡ keys_of t.units → (b : Addr) → has_unit u b ≡ has_unit t b
same_order t u same b =
    is_some-lookup (same_addr b) u.units ∙ ap (λ (addrs : List Addr). list_any (same_addr b) addrs) same
    ∙ sym (is_some-lookup (same_addr b) t.units)

none_of : {A : Type 0} (o : Option A) → is_some o ≡ false → o ≡ None
none_of None e = refl
none_of (Some x) e = absurd (cc)

-- a unit that can be made isn't there yet
pub make_fresh : (t : Tables) (a : Addr) (n : ℕ) → unit_make_refusal t a n ≡ None → has_unit t a ≡ false
make_fresh t a n granted = by (nat_lt 7 a.lun) (has_unit t a) granted
  where
    rest : Option Refusal
    rest = cond ((n == 0) || nat_lt 1048576 n) (Some Size)
        (cond (nat_lt (room t) (blocks_of t.geometry n)) (Some (NoRoom (room t))) None)

    by : (bad there : Bool) → cond bad (Some BadLun) (cond there (Some Exists) rest) ≡ None → there ≡ false
    by true there e = absurd (cc)
    by false true e = absurd (cc)
    by false false e = refl

-- a unit that can grow is there, and is shorter
pub grow_there : (t : Tables) (a : Addr) (n : ℕ) → unit_grow_refusal t a n ≡ None → has_unit t a ≡ true
grow_there t a n granted = by (has_unit t a) granted
  where
    rest : Option Refusal
    rest =
        cond (nat_le n (unit_in t.units a).sectors || nat_lt 1048576 n) (Some Size)
        (cond (nat_lt (room t) (blocks_of t.geometry n - length (unit_in t.units a).homes)) (Some (NoRoom (room t)))
        None)

    by : (there : Bool) → cond (not there) (Some Absent) rest ≡ None → there ≡ true
    by true e = refl
    by false e = absurd (cc)

pub grow_shorter : (t : Tables) (a : Addr) (n : ℕ) → unit_grow_refusal t a n ≡ None
    → nat_le n (unit_in t.units a).sectors ≡ false
grow_shorter t a n granted = by (has_unit t a) (nat_le n (unit_in t.units a).sectors) granted
  where
    by : (there small : Bool) → cond (not there) (Some Absent) (cond (small || nat_lt 1048576 n) (Some Size)
        (cond (nat_lt (room t) (blocks_of t.geometry n - length (unit_in t.units a).homes)) (Some (NoRoom (room t)))
        None)) ≡ None → small ≡ false
    by false small e = absurd (cc)
    by true true e = absurd (cc)
    by true false e = refl

-- the unit that was made is there, and so is each that was there
pub made_there : (t : Tables) (a : Addr) (n : ℕ) → has_unit t a ≡ false → has_unit (made t a n) a ≡ true
made_there t a n fresh =
    ap is_some
    (push_found (same_addr a) t.units a (new_unit t.geometry n) (none_of (lookup (same_addr a) t.units) fresh)
    ∙ ap (λ b. cond b (Some (new_unit t.geometry n)) None) (same_addr_self a))

pub made_there_other : (t : Tables) (a : Addr) (n : ℕ) (b : Addr) → b ≢ a → has_unit (made t a n) b ≡ has_unit t b
made_there_other t a n b ne =
    ap is_some (push_other (same_addr b) t.units a (new_unit t.geometry n) (addr_apart b a ne))

-- growth and a mark make and remove none
pub grown_there : (t : Tables) (a : Addr) (n : ℕ) (b : Addr) → has_unit (grown t a n) b ≡ has_unit t b
grown_there t a n b = same_order t (grown t a n) (grown_order t a n) b

pub unmarked_there : (t : Tables) (a : Addr) (b : Addr) → has_unit (unmarked t a) b ≡ has_unit t b
unmarked_there t a b = same_order t (unmarked t a) (unmarked_order t a) b

module _ (t : Tables) (a : Addr) (ok : TablesAgree t) where
  found : (b : Addr) → lookup (same_addr b) (remove_entry (same_addr a) t.units)
      ≡ cond (same_addr a b) None (lookup (same_addr b) t.units)
  found b = lookup-remove_entry addr_laws (same_addr a) (addr_laws.congr a) b t.units ok.units.distinct

  -- the unit that was dropped is not there, and each other is
  pub dropped_there : has_unit (dropped t a) a ≡ false
  dropped_there = ap is_some (found a ∙ ap (λ c. cond c None (lookup (same_addr a) t.units)) (same_addr_self a))

  pub dropped_there_other : (b : Addr) → b ≢ a → has_unit (dropped t a) b ≡ has_unit t b
  dropped_there_other b ne =
      ap is_some (found b ∙ ap (λ c. cond c None (lookup (same_addr b) t.units)) (addr_apart a b (λ e. ne (sym e))))
