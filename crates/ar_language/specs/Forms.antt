-- The grammar of the script language: what a line asks for, by its first word. The words after it are counted from 0.
use Rattle.std.specs.Prelude.{◌≡◌, ◌⊎◌, ℕ, ◌-◌, ◌*◌, ◌<◌, ◌^◌, ◌++◌, ◌==◌, Bool, true, List, [], ◌∷◌, length, replicate}
use Rattle.std.specs.Prelude.{slice_index_or, codes, Option, Some, None, MatchOption, Result, Ok, Err, MatchResult}
use Rattle.std.specs.Prelude.{MatchBool, bytes_eq, map}
use Rattle.std.specs.List.{list_any, slice_split}
use Rattle.std.specs.Borrow.{Bor}
use Rattle.std.specs.Str.Parse.{digits_value}
use Rattle.hex.specs.Hex.{decode_of}
use Rattle.ar_disks.specs.declared.address.Addr.{Addr}
use Rattle.ar_numbers.specs.Numbers.{IsDecimal, IsSize, size_sectors}
use Rattle.ar_scsi.specs.declared.command.Command.{Command}
use Rattle.ar_scsi.specs.declared.command.Command.TheVariants.{TestReady, Inquiry, Capacity, Read, Write}
use Rattle.ar_scsi.specs.Block.{Says}
use Rattle.ar_language.specs.Blocks.{test_unit_ready_block, inquiry_block, read_capacity_block, read_10_block}
use Rattle.ar_language.specs.Blocks.{read_16_block, write_10_block, write_16_block}
use Rattle.ar_language.specs.Words.{IsBytePair, IsBlockWord}
use Rattle.ar_language.specs.declared.fault.FaultKind.{FaultKind}
use Rattle.ar_language.specs.declared.fault.FaultKind.TheVariants.{BadArgument, UnknownWord}
use Rattle.ar_language.specs.declared.order.Action.TheVariants as actions
use Rattle.ar_language.specs.declared.order.Data.{Data}
use Rattle.ar_language.specs.declared.order.Notation.{Notation}
use Rattle.ar_language.specs.declared.order.Notation.TheVariants.{Bytes, Runs}
use Rattle.ar_language.specs.declared.order.Order.{Order}
use Rattle.ar_language.specs.declared.order.Order.TheVariants.{Act, Ask}
use Rattle.ar_language.specs.declared.order.Question.TheVariants as questions

-- a list of words: a `&[&str]`
abbrev pub Words : Type 0
Words = List (Bor (List ℕ))

-- the text of word `i`, empty past the end
abbrev pub word : Words → ℕ → List ℕ
word words i = (slice_index_or words i (record { ref_ptr = (0, 0); now = [] })).now

-- the value of decimal digits
abbrev pub value : List ℕ → ℕ
value digits = digits_value 10 digits

-- a number of at most `bits` bits
pub record IsNumberOf (bits : ℕ) (digits : List ℕ) : Type 0 where
  pub number : IsDecimal digits
  pub fits : value digits < 2 ^ bits

-- the value of two hexadecimal digits
abbrev pub IsByte : List ℕ → ℕ → Type 0
IsByte digits byte = decode_of digits ≡ Ok (byte ∷ [])

-- the numbers of a host, 0 to 3, and of a LUN, 0 to 255
pub record AreAddress (host lun : List ℕ) : Type 0 where
  pub host_number : IsDecimal host
  pub host_below : value host < 4
  pub lun_number : IsNumberOf 8 lun

-- the address that they are
pub record IsAddress (host lun : List ℕ) (addr : Addr) : Type 0 where
  pub host_same : addr.host.number ≡ value host
  pub lun_same : addr.lun ≡ value lun

-- The result is Some exactly for words of this form, and then what they ask for.
abbrev pub Gives : {T : Type 0} → Type 0 → (T → Type 0) → Option T → Type 0
Gives Form Asked result = MatchOption result (¬ Form) (λ order. Form × Asked order)

-- a unit, and nothing more
pub record HasUnit (words : Words) : Type 0 where
  pub count : length words ≡ 2
  pub address : AreAddress (word words 0) (word words 1)

-- a unit and a number of at most `bits` bits
pub record HasUnitAndNumber (bits : ℕ) (words : Words) : Type 0 where
  pub count : length words ≡ 3
  pub address : AreAddress (word words 0) (word words 1)
  pub number : IsNumberOf bits (word words 2)

-- a unit and a size
pub record HasUnitAndSize (words : Words) : Type 0 where
  pub count : length words ≡ 3
  pub address : AreAddress (word words 0) (word words 1)
  pub size : IsSize (word words 2)

-- the unit that the first two words name
abbrev pub NamesUnit : Words → Addr → Type 0
NamesUnit words addr = IsAddress (word words 0) (word words 1) addr

-- an order about that unit
abbrev pub AboutUnit : Words → (Addr → Order) → Order → Type 0
AboutUnit words order_at order = (addr : Addr) × NamesUnit words addr × (order ≡ order_at addr)

-- a command to that unit: this block, which encodes this command, with these data
abbrev pub AsksCommand : Words → List ℕ → Command → Data → Notation → Order → Type 0
AsksCommand words cdb command sent notation order =
    (addr : Addr) × NamesUnit words addr × Says cdb command × (order ≡ Act (actions.Command addr cdb sent notation))

-- no data
abbrev pub empty_data : Data
empty_data = record { len = 0; byte = 0 }

-- `make H L SIZE`
abbrev pub AsksMake : Words → Order → Type 0
AsksMake words = AboutUnit words (λ addr. Act (actions.Make addr (size_sectors (word words 2))))

-- `grow H L SIZE`
abbrev pub AsksGrow : Words → Order → Type 0
AsksGrow words = AboutUnit words (λ addr. Act (actions.Grow addr (size_sectors (word words 2))))

-- `drop H L`
abbrev pub AsksDrop : Words → Order → Type 0
AsksDrop words = AboutUnit words (λ addr. Act (actions.Remove addr))

-- `tur H L`
abbrev pub AsksTur : Words → Order → Type 0
AsksTur words = AsksCommand words test_unit_ready_block TestReady empty_data Bytes

-- `inquiry H L LEN`
abbrev pub AsksInquiry : Words → Order → Type 0
AsksInquiry words =
    AsksCommand words (inquiry_block (value (word words 2))) (Inquiry (value (word words 2))) empty_data Bytes

-- `capacity H L`
abbrev pub AsksCapacity : Words → Order → Type 0
AsksCapacity words = AsksCommand words read_capacity_block Capacity empty_data Bytes

-- a unit, a logical block address and a number of sectors of at most `bits` bits
pub record HasSectors (bits : ℕ) (Lba : List ℕ → Type 0) (words : Words) : Type 0 where
  pub count : length words ≡ 4
  pub address : AreAddress (word words 0) (word words 1)
  pub lba : Lba (word words 2)
  pub sectors : IsNumberOf bits (word words 3)

-- `unmap H L LBA COUNT`
abbrev pub AsksUnmap : Words → Order → Type 0
AsksUnmap words =
    AboutUnit words (λ addr. Act (actions.Unmap addr (value (word words 2)) (value (word words 3))))

-- `read H L LBA COUNT` and `read16 H L LBA COUNT`, by the blocks of READ (10) and of READ (16)
abbrev pub AsksRead : (ℕ → ℕ → List ℕ) → Words → Order → Type 0
AsksRead block words =
    AsksCommand words (block (value (word words 2)) (value (word words 3)))
    (Read (value (word words 2)) (value (word words 3))) empty_data Runs

-- the words of a WRITE that ends with `fua`
abbrev pub EndsWithFua : Words → Type 0
EndsWithFua words = (length words ≡ 6) × (word words 5 ≡ codes "fua")

-- a unit, a logical block address, a number of sectors and a byte, and optionally `fua`
pub record HasSectorsAndByte (Lba : List ℕ → Type 0) (words : Words) : Type 0 where
  pub count : (length words ≡ 5) ⊎ EndsWithFua words
  pub address : AreAddress (word words 0) (word words 1)
  pub lba : Lba (word words 2)
  pub sectors : IsNumberOf 16 (word words 3)
  pub filled : IsBytePair (word words 4)

-- `write H L LBA COUNT BYTE` and `write16 H L LBA COUNT BYTE`, with `fua` after them or without, by the blocks of
-- WRITE (10) and of WRITE (16)
abbrev pub AsksWrite : (ℕ → ℕ → Bool → List ℕ) → Words → Order → Type 0
AsksWrite block words order =
    (byte : ℕ) × IsByte (word words 4) byte
    × AsksCommand words (block (value (word words 2)) (value (word words 3)) (length words == 6))
    (Write (value (word words 2)) (value (word words 3)) (length words == 6))
    (record { len = value (word words 3) * 512; byte = byte }) Runs order

-- a unit and a command block, and optionally a number of bytes and their value
pub record HasCommandBlock (words : Words) : Type 0 where
  pub count : (length words ≡ 3) ⊎ ((length words ≡ 5) × IsNumberOf 16 (word words 3) × IsBytePair (word words 4))
  pub address : AreAddress (word words 0) (word words 1)
  pub block : IsBlockWord (word words 2)

-- the block that a word gives, padded with zeros to 16 bytes
abbrev pub IsBlock : List ℕ → List ℕ → Type 0
IsBlock digits cdb = (bytes : List ℕ) × (decode_of digits ≡ Ok bytes) × (cdb ≡ bytes ++ replicate (16 - length bytes) 0)

-- the data of a command block: none, or a number of bytes of one value
abbrev pub IsSent : Words → Data → Type 0
IsSent words sent =
    ((length words ≡ 3) × (sent ≡ empty_data))
    ⊎ ((length words ≡ 5) × (sent.len ≡ value (word words 3)) × IsByte (word words 4) sent.byte)

-- `cdb H L HEX` and `cdb H L HEX COUNT BYTE`
abbrev pub AsksBlock : Words → Order → Type 0
AsksBlock words order =
    (addr : Addr) × (cdb : List ℕ) × (sent : Data) × NamesUnit words addr × IsBlock (word words 2) cdb
    × IsSent words sent
    × (order ≡ Act (actions.Command addr cdb sent Bytes))

-- `levels H L`
abbrev pub AsksLevels : Words → Order → Type 0
AsksLevels words = AboutUnit words (λ addr. Ask (questions.Levels addr))

-- `home H L RB`
abbrev pub AsksHome : Words → Order → Type 0
AsksHome words = AboutUnit words (λ addr. Ask (questions.Home addr (value (word words 2))))

-- a disk, an extent and a row
pub record HasRowAddress (words : Words) : Type 0 where
  pub count : length words ≡ 3
  pub disk : IsNumberOf 8 (word words 0)
  pub extent : IsNumberOf 16 (word words 1)
  pub row : IsNumberOf 16 (word words 2)

-- `block D E R`
abbrev pub AsksRow : Words → Order → Type 0
AsksRow words order = order ≡ Ask (questions.Block (value (word words 0)) (value (word words 1)) (value (word words 2)))

-- a disk, and nothing more
pub record HasDisk (words : Words) : Type 0 where
  pub count : length words ≡ 1
  pub disk : IsNumberOf 8 (word words 0)

-- `out D`
abbrev pub AsksOut : Words → Order → Type 0
AsksOut words order = order ≡ Act (actions.DiskOut (value (word words 0)))

-- `replace D`
abbrev pub AsksReplace : Words → Order → Type 0
AsksReplace words order = order ≡ Act (actions.Replace (value (word words 0)))

-- the number of the disk
abbrev pub IsDisk : Words → ℕ → Type 0
IsDisk words disk = disk ≡ value (word words 0)

-- The result of parsing the words after a name: an order that they ask for if they have this form, otherwise
-- `BadArgument`.
abbrev pub ParsesAs : Type 0 → (Order → Type 0) → Result Order FaultKind → Type 0
ParsesAs Form Asked result = MatchResult result (λ order. Form × Asked order) (λ kind. (kind ≡ BadArgument) × (¬ Form))

-- the same for an order without arguments
abbrev pub Alone : Words → Order → Result Order FaultKind → Type 0
Alone words order = ParsesAs (length words ≡ 0) (λ given. given ≡ order)

-- the actions on the whole array and the queries; any other name is unknown
abbrev pub ReadsArrayOrder : List ℕ → Words → Result Order FaultKind → Type 0
ReadsArrayOrder name words result =
    MatchBool (bytes_eq name (codes "flush")) (Alone words (Act actions.Flush) result) (
    MatchBool (bytes_eq name (codes "demote")) (Alone words (Act actions.Demote) result) (
    MatchBool (bytes_eq name (codes "clean")) (Alone words (Act actions.Clean) result) (
    MatchBool (bytes_eq name (codes "balance")) (Alone words (Act actions.Balance) result) (
    MatchBool (bytes_eq name (codes "add")) (Alone words (Act actions.AddDisk) result) (
    MatchBool (bytes_eq name (codes "out")) (ParsesAs (HasDisk words) (AsksOut words) result) (
    MatchBool (bytes_eq name (codes "replace")) (ParsesAs (HasDisk words) (AsksReplace words) result) (
    MatchBool (bytes_eq name (codes "rebuild")) (Alone words (Act actions.Rebuild) result) (
    MatchBool (bytes_eq name (codes "levels")) (ParsesAs (HasUnit words) (AsksLevels words) result) (
    MatchBool (bytes_eq name (codes "home")) (ParsesAs (HasUnitAndNumber 32 words) (AsksHome words) result) (
    MatchBool (bytes_eq name (codes "groups")) (Alone words (Ask questions.Groups) result) (
    MatchBool (bytes_eq name (codes "room")) (Alone words (Ask questions.Room) result) (
    MatchBool (bytes_eq name (codes "health")) (Alone words (Ask questions.Health) result) (
    MatchBool (bytes_eq name (codes "picture")) (Alone words (Ask questions.Picture) result) (
    MatchBool (bytes_eq name (codes "block")) (ParsesAs (HasRowAddress words) (AsksRow words) result) (
    result ≡ Err UnknownWord)))))))))))))))

-- the actions on a unit, and then those
abbrev pub ReadsUnitOrder : List ℕ → Words → Result Order FaultKind → Type 0
ReadsUnitOrder name words result =
    MatchBool (bytes_eq name (codes "make")) (ParsesAs (HasUnitAndSize words) (AsksMake words) result) (
    MatchBool (bytes_eq name (codes "grow")) (ParsesAs (HasUnitAndSize words) (AsksGrow words) result) (
    MatchBool (bytes_eq name (codes "drop")) (ParsesAs (HasUnit words) (AsksDrop words) result) (
    MatchBool (bytes_eq name (codes "unmap")) (ParsesAs (HasSectors 32 IsDecimal words) (AsksUnmap words) result) (
    ReadsArrayOrder name words result))))

-- the SCSI commands, and then those
abbrev pub ReadsOrder : List ℕ → Words → Result Order FaultKind → Type 0
ReadsOrder name words result =
    MatchBool (bytes_eq name (codes "read"))
    (ParsesAs (HasSectors 16 (IsNumberOf 32) words) (AsksRead read_10_block words) result) (
    MatchBool (bytes_eq name (codes "write"))
    (ParsesAs (HasSectorsAndByte (IsNumberOf 32) words) (AsksWrite write_10_block words) result) (
    MatchBool (bytes_eq name (codes "read16"))
    (ParsesAs (HasSectors 16 IsDecimal words) (AsksRead read_16_block words) result) (
    MatchBool (bytes_eq name (codes "write16"))
    (ParsesAs (HasSectorsAndByte IsDecimal words) (AsksWrite write_16_block words) result) (
    MatchBool (bytes_eq name (codes "tur")) (ParsesAs (HasUnit words) (AsksTur words) result) (
    MatchBool (bytes_eq name (codes "inquiry")) (ParsesAs (HasUnitAndNumber 16 words) (AsksInquiry words) result) (
    MatchBool (bytes_eq name (codes "capacity")) (ParsesAs (HasUnit words) (AsksCapacity words) result) (
    MatchBool (bytes_eq name (codes "cdb")) (ParsesAs (HasCommandBlock words) (AsksBlock words) result) (
    ReadsUnitOrder name words result))))))))

-- the result for a line, by that for its order
abbrev pub asked : Result Order FaultKind → Result (Option Order) FaultKind
asked (Ok order) = Ok (Some order)
asked (Err kind) = Err kind

-- the words of a line, of which the first names the order
abbrev pub ReadsNamed : Words → Result (Option Order) FaultKind → Type 0
ReadsNamed [] result = result ≡ Ok None
ReadsNamed (name ∷ words) result =
    (read : Result Order FaultKind) × ReadsOrder name.now words read × (result ≡ asked read)

-- the same, but an empty word is a bad argument
abbrev pub ReadsWords : Words → Result (Option Order) FaultKind → Type 0
ReadsWords words result =
    MatchBool (list_any (λ text. length text.now == 0) words) (result ≡ Err BadArgument) (ReadsNamed words result)

-- an empty line, or one that begins with `#`
abbrev pub is_silent : List ℕ → Bool
is_silent [] = true
is_silent (byte ∷ bytes) = byte == 35

-- What a line asks for: nothing, or what its words do, which are split at each space.
abbrev pub ReadsLine : List ℕ → Result (Option Order) FaultKind → Type 0
ReadsLine line result =
    MatchBool (is_silent line) (result ≡ Ok None)
    ((words : Words) × (map (λ text. text.now) words ≡ slice_split (λ byte. byte == 32) line) × ReadsWords words result)
