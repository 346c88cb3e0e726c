-- What is known where a making or a growth is not refused.
use Rattle.std.proofs.Common.{◌≡◌, ℕ, ◌<◌, ◌≤◌, ◌+◌, ◌-◌, ◌*◌, ◌/◌, ◌%◌, ◌^◌, min, Bool, true, false, not, ◌||◌, nat_lt}
use Rattle.std.proofs.Common.{nat_le, if◌then◌else◌, Option, None, Some, is_some, IsSome, Result, Ok, Err, OnOk, length}
use Rattle.std.proofs.Common.{refl, sym, ◌∙◌, arith, true≢false}
use Rattle.std.specs.Map.{lookup}
use Rattle.std.specs.Result.{is_err}
use Rattle.std.proofs.lemmas.Option.{none-some}
use Rattle.std.proofs.lemmas.Bool.{or_parts, ltb-false, leb-false, eqb-false}
use Rattle.ar_disks.specs.Geometry.{rows_of, sectors_of}
use Rattle.ar_disks.specs.declared.address.Addr.{Addr}
use Rattle.ar_disks.specs.declared.geometry.Geometry.{Geometry}
use Rattle.ar_disks.specs.declared.geometry.Geometry.TheVariants.{Paper, Small}
use Rattle.ar_book.specs.declared.refusal.Refusal.{Refusal}
use Rattle.ar_book.specs.declared.refusal.Refusal.TheVariants.{Size, NoRoom, Absent}
use Rattle.ar_disks.specs.Addresses.{same_addr}
use Rattle.ar_book.specs.Tables.{Tables, UnitTableState, has_unit, unit_in, blocks_of, reserved, room}
use Rattle.ar_book.specs.Refusals.{unit_make_refusal, unit_grow_refusal}
use Rattle.ar_book.specs.Book.{TablesAgree, IsValidUnit}
use Rattle.ar_book.proofs.PlaceLemmas.{unit_whole}
use Rattle.ar_book.proofs.GroupLemmas.{few_groups, room_fits}

three : (a b c : Bool) (x y z : Refusal) → (if a then Some x else if b then Some y else if c then Some z else None)
    ≡ None → (a ≡ false) × (b ≡ false) × (c ≡ false)
three true b c x y z e = absurd (none-some x (sym e))
three false true c x y z e = absurd (none-some y (sym e))
three false false true x y z e = absurd (none-some z (sym e))
three false false false x y z e = (refl, refl, refl)

four : (a b c d : Bool) (x y z w : Refusal)
    → (if a then Some x else if b then Some y else if c then Some z else if d then Some w else None) ≡ None
    → (a ≡ false) × (b ≡ false) × (c ≡ false) × (d ≡ false)
four true b c d x y z w e = absurd (none-some x (sym e))
four false b c d x y z w e = let p = three b c d y z w e in (refl, p.0, p.1, p.2)

none_found : (o : Option UnitTableState) → is_some o ≡ false → o ≡ None
none_found None e = refl
none_found (Some u) e = absurd (true≢false e)

not_false : (b : Bool) → not b ≡ false → b ≡ true
not_false true e = refl
not_false false e = absurd (true≢false e)

-- this number of blocks fits, too
fits : (t : Tables) (m : ℕ) → TablesAgree t → m ≤ room t
    → reserved t + m ≤ 3 * rows_of t.geometry * (length t.groups - 1)
fits t m ok h = omega (arith, ok.room, h)

-- and their number is one of 32 bits
pub reserved_fits : (t : Tables) (m : ℕ) → TablesAgree t
    → reserved t + m ≤ 3 * rows_of t.geometry * (length t.groups - 1) → reserved t + m < 2 ^ 32
reserved_fits t m ok h = grind (arith, room_fits, few_groups)

pub record CanMake (t : Tables) (a : Addr) (n : ℕ) : Type 0 where
  pub lun : a.lun ≤ 7
  pub fresh : lookup (same_addr a) t.units ≡ None
  pub some : 0 < n
  pub few : n ≤ 1048576
  pub room : reserved t + blocks_of t.geometry n ≤ 3 * rows_of t.geometry * (length t.groups - 1)

pub can_make : (t : Tables) (a : Addr) (n : ℕ) → TablesAgree t → unit_make_refusal t a n ≡ None → CanMake t a n
can_make t a n ok e = grind (arith, four, or_parts, eqb-false, ltb-false, none_found, fits)

pub record CanGrow (t : Tables) (a : Addr) (n : ℕ) : Type 0 where
  pub there : IsSome (lookup (same_addr a) t.units)
  pub some : 0 < n
  pub few : n ≤ 1048576
  pub longer : length (unit_in t.units a).homes ≤ blocks_of t.geometry n
  pub stamps : length (unit_in t.units a).stamps ≡ length (unit_in t.units a).homes
  pub room : reserved t + (blocks_of t.geometry n - length (unit_in t.units a).homes)
      ≤ 3 * rows_of t.geometry * (length t.groups - 1)

-- rounding up by a quotient and a remainder
pub blocks_up : (g : Geometry) (n : ℕ) → n / sectors_of g + min 1 (n % sectors_of g) ≡ blocks_of g n
blocks_up Paper n = omega arith
blocks_up Small n = omega arith

blocks_grow : (g : Geometry) (m n : ℕ) → m < n → blocks_of g m ≤ blocks_of g n
blocks_grow Paper m n h = omega arith
blocks_grow Small m n h = omega arith

pub can_grow : (t : Tables) (a : Addr) (n : ℕ) → TablesAgree t → unit_grow_refusal t a n ≡ None → CanGrow t a n
can_grow t a n ok e =
    let u = unit_in t.units a in
    let p = three (not (has_unit t a)) (nat_le n u.sectors || nat_lt 1048576 n)
    (nat_lt (room t) (blocks_of t.geometry n - length u.homes)) Absent Size (NoRoom (room t)) e in
    let size = or_parts (nat_le n u.sectors) (nat_lt 1048576 n) p.1 in
    let more : u.sectors < n = leb-false n u.sectors size.0 in
    let there : IsSome (lookup (same_addr a) t.units) = not_false (has_unit t a) p.0 in
    let w : IsValidUnit t.geometry u = unit_whole t.geometry t.units a ok.units there in
    let grows : blocks_of t.geometry u.sectors ≤ blocks_of t.geometry n = blocks_grow t.geometry u.sectors n more in
    record {
      there = there;
      some = omega arith;
      few = ltb-false 1048576 n size.1;
      longer = omega (arith, w.homes, grows);
      stamps = w.stamps ∙ sym w.homes;
      room = fits t (blocks_of t.geometry n - length u.homes) ok
          (ltb-false (room t) (blocks_of t.geometry n - length u.homes) p.2);
    }

-- what holds at `Ok` holds where there is no error
pub at_ok : {T E : Type 0} (r : Result T E) (P : Type 0) → is_err r ≡ false → OnOk r P → P
at_ok (Ok x) P e h = h
at_ok (Err y) P e h = absurd (true≢false e)
