-- When a create or a resize is refused, and why. When an allocation fails is not specified.
use Rattle.std.specs.Prelude.{ℕ, ◌-◌, ◌||◌, ◌==◌, nat_lt, nat_le, not, if◌then◌else◌, length, Option, None, Some}
use Rattle.ar_disks.specs.declared.address.Addr.{Addr}
use Rattle.ar_book.specs.declared.refusal.Refusal.{Refusal}
use Rattle.ar_book.specs.declared.refusal.Refusal.TheVariants.{BadLun, Exists, Size, NoRoom, Absent}
use Rattle.ar_book.specs.Tables.{Tables, has_unit, unit_in, blocks_of, room}

-- a create needs a LUN of 0 to 7, an address without a unit, 1 to 1,048,576 sectors, and room for the blocks
abbrev pub unit_make_refusal : Tables → Addr → ℕ → Option Refusal
unit_make_refusal t a n =
    if nat_lt 7 a.lun then Some BadLun else
    if has_unit t a then Some Exists else
    if (n == 0) || nat_lt 1048576 n then Some Size else
    if nat_lt (room t) (blocks_of t.geometry n) then Some (NoRoom (room t)) else None

-- a resize needs a unit, more sectors than it has, 1,048,576 at most, and room for the added blocks
abbrev pub unit_grow_refusal : Tables → Addr → ℕ → Option Refusal
unit_grow_refusal t a n =
    if not (has_unit t a) then Some Absent else
    if nat_le n (unit_in t.units a).sectors || nat_lt 1048576 n then Some Size else
    if nat_lt (room t) (blocks_of t.geometry n - length (unit_in t.units a).homes) then Some (NoRoom (room t)) else None
