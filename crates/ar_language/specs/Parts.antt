-- Parts of a line's words: sectors, and the data of a command.
use Rattle.std.specs.Prelude.{◌≡◌, ℕ, ◌==◌, List, length}
use Rattle.ar_disks.specs.declared.address.Addr.{Addr}
use Rattle.ar_numbers.specs.Numbers.{IsDecimal}
use Rattle.ar_language.specs.Words.{IsBytePair, IsBlockWord}
use Rattle.ar_language.specs.Forms.{Words, word, value, IsNumberOf, IsByte, IsBlock, AreAddress, IsAddress}
use Rattle.ar_language.specs.declared.order.Action.TheVariants as actions
use Rattle.ar_language.specs.declared.order.Data.{Data}
use Rattle.ar_language.specs.declared.order.Notation.TheVariants.{Bytes}
use Rattle.ar_language.specs.declared.order.Order.{Order}
use Rattle.ar_language.specs.declared.order.Order.TheVariants.{Act}
use Rattle.ar_language.specs.declared.parse.Span.{Span}
use Rattle.ar_language.specs.declared.parse.Written.{Written}

-- a unit, a logical block address and a number of sectors
pub record AreSpan (host lun lba count : List ℕ) : Type 0 where
  pub address : AreAddress host lun
  pub lba_number : IsDecimal lba
  pub sectors : IsNumberOf 16 count

-- the sectors that they name
pub record IsSpan (host lun lba count : List ℕ) (span : Span) : Type 0 where
  pub unit : IsAddress host lun span.addr
  pub lba_same : span.lba ≡ value lba
  pub count_same : span.count ≡ value count

-- the sectors that the first four words name
abbrev pub NamesSpan : Words → Span → Type 0
NamesSpan words span = IsSpan (word words 0) (word words 1) (word words 2) (word words 3) span

-- what the words of a WRITE say
pub record SaysWritten (words : Words) (written : Written) : Type 0 where
  pub span : NamesSpan words written.span
  pub filled : IsByte (word words 4) written.byte
  pub forced : written.fua ≡ (length words == 6)

-- a number of bytes, and their value
pub record AreData (count byte : List ℕ) : Type 0 where
  pub number : IsNumberOf 16 count
  pub filled : IsBytePair byte

-- the data that they are
pub record IsData (count byte : List ℕ) (sent : Data) : Type 0 where
  pub len_same : sent.len ≡ value count
  pub byte_same : IsByte byte sent.byte

-- a unit and a command block
pub record AreBlock (host lun block : List ℕ) : Type 0 where
  pub address : AreAddress host lun
  pub block_word : IsBlockWord block

-- the command with that block, and with these data
abbrev pub AsksBlockWith : List ℕ → List ℕ → List ℕ → Data → Order → Type 0
AsksBlockWith host lun block sent order =
    (addr : Addr) × (cdb : List ℕ) × IsAddress host lun addr × IsBlock block cdb
    × (order ≡ Act (actions.Command addr cdb sent Bytes))
