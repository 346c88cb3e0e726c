-- A history: what was done to units, in the order in which it was done.
use Rattle.std.specs.Prelude.{◌≡◌, ℕ, ◌<◌, ◌≤◌, Bool, true, false, ◌==◌, if◌then◌else◌, Some, List, [], ◌∷◌, take}
use Rattle.std.specs.Prelude.{slice_get}
use Rattle.ar_unit.specs.Unit.{UnitState, Absent, UnitEntry, Make as UnitMake, Grow as UnitGrow, Remove as UnitRemove}
use Rattle.ar_unit.specs.Unit.{Cmd as UnitCmd, Unmap as UnitUnmap, answer, unit_run}
use Rattle.ar_unit.specs.Broken.{shape_of}
use Rattle.ar_volume.specs.Sectors.{Address, address_of, same_address}
use Rattle.ar_served.specs.declared.entry.Exchange.{Exchange}
use Rattle.ar_served.specs.declared.entry.Entry.{Entry}
use Rattle.ar_served.specs.declared.entry.Entry.TheVariants.{Make, Grow, Remove, Cmd, Unmap}

-- the address of an entry's unit
abbrev pub address_in : Entry → Address
address_in (Make addr sectors) = address_of addr
address_in (Grow addr sectors) = address_of addr
address_in (Remove addr) = address_of addr
address_in (Cmd host exchange) = (host.number, exchange.lun)
address_in (Unmap addr lba count) = address_of addr

-- the entry as its unit's own
abbrev pub unit_entry : Entry → UnitEntry
unit_entry (Make addr sectors) = UnitMake sectors
unit_entry (Grow addr sectors) = UnitGrow sectors
unit_entry (Remove addr) = UnitRemove
unit_entry (Cmd host exchange) = UnitCmd exchange.cdb exchange.payload
unit_entry (Unmap addr lba count) = UnitUnmap lba count

-- a unit's own entries
abbrev pub entries_at : Address → List Entry → List UnitEntry
entries_at a [] = []
entries_at a (entry ∷ history) =
    if same_address (address_in entry) a then unit_entry entry ∷ entries_at a history else entries_at a history

-- the unit at an address that its own entries make of an absent one
abbrev pub replay : List Entry → Address → UnitState
replay history a = unit_run Absent (entries_at a history)

-- a unit of `sectors` sectors can be created: the LUN is 0 to 7 and has none
pub record CanBeMade (state : UnitState) (lun sectors : ℕ) : Type 0 where
  pub absent : (shape_of state).present ≡ false
  pub lun_known : lun ≤ 7
  pub some : 1 ≤ sectors
  pub few : sectors ≤ 1048576

-- the unit is present and can be extended to `sectors` sectors
pub record CanGrow (state : UnitState) (sectors : ℕ) : Type 0 where
  pub present : (shape_of state).present ≡ true
  pub more : (shape_of state).sectors < sectors
  pub few : sectors ≤ 1048576

-- an entry is valid for the unit before it; a command's reply is the one that the unit gives, and a discard has none
abbrev pub Fits : UnitState → Entry → Type 0
Fits state (Make addr sectors) = CanBeMade state addr.lun sectors
Fits state (Grow addr sectors) = CanGrow state sectors
Fits state (Remove addr) = (shape_of state).present ≡ true
Fits state (Cmd host exchange) = exchange.reply ≡ (answer state exchange.cdb exchange.payload).reply
Fits state (Unmap addr lba count) = Unit {0}

-- each entry fits what the entries before it have made of its unit
pub record IsLegal (history : List Entry) : Type 0 where
  pub fits : (k : ℕ) (entry : Entry) → slice_get history k ≡ Some entry
      → Fits (replay (take k history) (address_in entry)) entry

-- the commands of a host, with their replies
abbrev pub part : ℕ → List Entry → List Exchange
part number [] = []
part number (Make addr sectors ∷ history) = part number history
part number (Grow addr sectors ∷ history) = part number history
part number (Remove addr ∷ history) = part number history
part number (Cmd host exchange ∷ history) =
    if host.number == number then exchange ∷ part number history else part number history
part number (Unmap addr lba count ∷ history) = part number history

-- whether an entry is a command
abbrev pub is_command : Entry → Bool
is_command (Make addr sectors) = false
is_command (Grow addr sectors) = false
is_command (Remove addr) = false
is_command (Cmd host exchange) = true
is_command (Unmap addr lba count) = false
