-- The addresses that records name.
use Rattle.std.specs.Prelude.{◌≡◌, ◌≢◌, ℕ, Bool, true, false, ◌||◌, ◌++◌, List, [], ◌∷◌, if◌then◌else◌}
use Rattle.std.specs.Prelude.{Option, Some, None}
use Rattle.ar_disks.specs.declared.address.Addr.{Addr}
use Rattle.ar_record.specs.Record.{RecordData, Make, Grow, Remove, Command, Unmap, AddDisk}
use Rattle.ar_record.specs.Replay.{is_unit_at, own_of}
use Rattle.ar_compaction.specs.Replaying.{unit_address}

-- the address that a record names; AddDisk names none
abbrev pub address_named : RecordData → Option (ℕ × ℕ)
address_named (Make host lun sectors) = Some (host, lun)
address_named (Grow host lun sectors) = Some (host, lun)
address_named (Remove host lun) = Some (host, lun)
address_named (Command host lun cdb payload) = Some (host, lun)
address_named (Unmap host lun lba count) = Some (host, lun)
address_named (AddDisk extents) = None

-- it is this address
abbrev pub is_address : ℕ × ℕ → Option (ℕ × ℕ) → Bool
is_address a None = false
is_address a (Some b) = is_unit_at a b.0 b.1

-- the record names this address
abbrev pub names : ℕ × ℕ → RecordData → Bool
names a r = is_address a (address_named r)

-- the host's number and the LUN, if there is an address
abbrev pub optional_address : Option Addr → Option (ℕ × ℕ)
optional_address None = None
optional_address (Some addr) = Some (unit_address addr)

-- the address is among these
abbrev pub is_among : ℕ × ℕ → List (ℕ × ℕ) → Bool
is_among a [] = false
is_among a (b ∷ addresses) = is_unit_at a b.0 b.1 || is_among a addresses

-- an address appended, unless it is among the others
abbrev pub with_address : List (ℕ × ℕ) → ℕ × ℕ → List (ℕ × ℕ)
with_address addresses a = if is_among a addresses then addresses else addresses ++ a ∷ []

-- the addresses with that of a record, if it names one
abbrev pub noted_one : List (ℕ × ℕ) → Option (ℕ × ℕ) → List (ℕ × ℕ)
noted_one addresses None = addresses
noted_one addresses (Some a) = with_address addresses a

abbrev pub noted : List (ℕ × ℕ) → RecordData → List (ℕ × ℕ)
noted addresses r = noted_one addresses (address_named r)

-- no address comes twice
abbrev pub AreDistinct : List (ℕ × ℕ) → Type 0
AreDistinct [] = Unit {0}
AreDistinct (a ∷ addresses) = (is_among a addresses ≡ false) × AreDistinct addresses

-- the addresses that records name, each once
pub record AreAddresses (records : List RecordData) (addresses : List (ℕ × ℕ)) : Type 0 where
  pub distinct : AreDistinct addresses
  pub named : (a : ℕ × ℕ) → own_of a records ≢ [] → is_among a addresses ≡ true
  pub only : (a : ℕ × ℕ) → is_among a addresses ≡ true → own_of a records ≢ []
