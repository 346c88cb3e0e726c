-- The WRITE of a piece: it is one to every unit with its sectors, and is recorded.
use Rattle.std.proofs.Common.{◌≡◌, ◌<◌, ◌≤◌, ◌^◌, ◌+◌, ◌*◌, ℕ, true, false, List, [], ◌∷◌, ◌++◌, length, Ok}
use Rattle.std.proofs.Common.{refl, ap, ◌∙◌, arith}
use Rattle.std.specs.Prelude.{replicate}
use Rattle.std.specs.Int.{w16, to_be_bytes}
use Rattle.std.proofs.lemmas.Bool.{le-ltb, eq-eqb}
use Rattle.byteorder.specs.Numbers.{big_number-reads_back}
use Rattle.ar_scsi.specs.declared.command.Command.TheVariants.{Write}
use Rattle.ar_scsi.specs.Field.{number, logical_block_address_10, transfer_length_10}
use Rattle.ar_scsi.specs.Reading.{reading}
use Rattle.ar_scsi.specs.Reply.{good}
use Rattle.ar_unit.specs.Sectors.{Sector, written}
use Rattle.ar_unit.specs.Unit.{Present, Answered, leaving, answer, obeyed, write_answer}
use Rattle.ar_record.specs.Replay.{changes_unit}
use Rattle.ar_compaction.specs.Checkpoint.{write_block}

address_in_block : (lba count : ℕ) → lba < 2 ^ 32 → logical_block_address_10 (write_block lba count) ≡ lba
unfolding number
address_in_block lba count fits =
    big_number-reads_back 4 lba (0 ∷ (to_be_bytes w16 count ++ replicate 7 0)) (omega arith)

length_in_block : (lba count : ℕ) → count < 2 ^ 16 → transfer_length_10 (write_block lba count) ≡ count
unfolding number
length_in_block lba count fits = big_number-reads_back 2 count (replicate 7 0) (omega arith)

pub reads_as_write : (lba count : ℕ) → lba < 2 ^ 32 → count < 2 ^ 16
    → reading (write_block lba count) ≡ Ok (Write lba count false)
unfolding reading
reads_as_write lba count fits few =
    ap (λ (n : ℕ). Ok (Write n (transfer_length_10 (write_block lba count)) false)) (address_in_block lba count fits)
    ∙ ap (λ (n : ℕ). Ok (Write lba n false)) (length_in_block lba count few)

-- a WRITE within the unit, with as many bytes as its sectors have
write_within : (sectors : List Sector) (lba count : ℕ) (bytes : List ℕ) → lba + count ≤ length sectors
    → length bytes ≡ count * 512
    → write_answer sectors false lba count bytes ≡ leaving (Present (written sectors lba count bytes) false) (good [])
write_within sectors lba count bytes within len =
    let inside = le-ltb (length sectors) (lba + count) within in
    let whole = eq-eqb (length bytes) (count * 512) len in
    rw (inside, whole) refl

pub writes : (sectors : List Sector) (lba count : ℕ) (bytes : List ℕ) → lba < 2 ^ 32 → count < 2 ^ 16
    → lba + count ≤ length sectors → length bytes ≡ count * 512
    → answer (Present sectors false) (write_block lba count) bytes
    ≡ leaving (Present (written sectors lba count bytes) false) (good [])
unfolding answer obeyed
writes sectors lba count bytes fits few within len =
    ap (λ r. obeyed sectors false r bytes) (reads_as_write lba count fits few)
    ∙ write_within sectors lba count bytes within len

-- it is recorded
pub writes_change : (sectors : List Sector) (lba count : ℕ) (bytes : List ℕ) → lba < 2 ^ 32 → count < 2 ^ 16
    → lba + count ≤ length sectors → length bytes ≡ count * 512
    → changes_unit (write_block lba count) (answer (Present sectors false) (write_block lba count) bytes).reply ≡ true
writes_change sectors lba count bytes fits few within len =
    ap (λ (a : Answered). changes_unit (write_block lba count) a.reply)
    (writes sectors lba count bytes fits few within len)
    ∙ good_write lba count fits few
  where
    good_write : (lba count : ℕ) → lba < 2 ^ 32 → count < 2 ^ 16 → changes_unit (write_block lba count) (good []) ≡ true
    good_write lba count fits few = rw (reads_as_write lba count fits few) refl
