-- A record as contracts see it: what changed a unit, or the room for units.
use Rattle.std.specs.Prelude.{◌≡◌, ◌<◌, ◌^◌, ℕ, List, length, map}
use Rattle.std.specs.List.{AllByRecursion}
use Rattle.ar_disks.specs.declared.address.Addr.{Addr}
use Rattle.ar_record.specs.declared.record.Record.{Record}
use Rattle.ar_record.specs.declared.record.Record.TheVariants as records

-- what was done: to the unit of a host's number and a LUN, or to the array
pub data RecordData : Type 0 where
  Make : (host lun sectors : ℕ) → RecordData
  Grow : (host lun sectors : ℕ) → RecordData
  Remove : (host lun : ℕ) → RecordData
  Command : (host lun : ℕ) (cdb payload : List ℕ) → RecordData
  Unmap : (host lun lba count : ℕ) → RecordData
  AddDisk : (extents : ℕ) → RecordData

-- a record without the evidence that its host is one of the four
abbrev pub data_of : Record → RecordData
data_of (records.Make addr sectors) = Make addr.host.number addr.lun sectors
data_of (records.Grow addr sectors) = Grow addr.host.number addr.lun sectors
data_of (records.Remove addr) = Remove addr.host.number addr.lun
data_of (records.Command addr cdb payload) = Command addr.host.number addr.lun cdb payload
data_of (records.Unmap addr lba count) = Unmap addr.host.number addr.lun lba count
data_of (records.AddDisk extents) = AddDisk extents

-- the same of each of them
abbrev pub all_data : List Record → List RecordData
all_data = map data_of

-- the address of a unit: one of four hosts, and a LUN of one byte
pub record HasUnitNumbers (host lun : ℕ) : Type 0 where
  pub host_known : host < 4
  pub lun_fits : lun < 256

-- a command: a command block of 16 bytes, and fewer than 2^32 bytes of data
pub record IsCommand (cdb payload : List ℕ) : Type 0 where
  pub cdb_len : length cdb ≡ 16
  pub payload_fits : length payload < 2 ^ 32

-- sectors of a discard: an LBA of eight bytes, and fewer than 2^32 sectors
pub record IsDiscard (lba count : ℕ) : Type 0 where
  pub lba_fits : lba < 2 ^ 64
  pub count_fits : count < 2 ^ 32

-- what has an encoding: each field fits its bytes
abbrev pub IsEncodable : RecordData → Type 0
IsEncodable (Make host lun sectors) = HasUnitNumbers host lun × (sectors < 2 ^ 32)
IsEncodable (Grow host lun sectors) = HasUnitNumbers host lun × (sectors < 2 ^ 32)
IsEncodable (Remove host lun) = HasUnitNumbers host lun
IsEncodable (Command host lun cdb payload) = HasUnitNumbers host lun × IsCommand cdb payload
IsEncodable (Unmap host lun lba count) = HasUnitNumbers host lun × IsDiscard lba count
IsEncodable (AddDisk extents) = extents < 2 ^ 32

-- each of the records has an encoding
abbrev pub AreEncodable : List RecordData → Type 0
AreEncodable = AllByRecursion IsEncodable
