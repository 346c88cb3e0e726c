-- The records of a unit's steps make the unit.
use Rattle.std.proofs.Common.{◌≡◌, ◌<◌, ◌≤◌, ◌^◌, ◌+◌, ◌-◌, ◌*◌, ℕ, zero, suc, Bool, true, false, cond, eqb, leb}
use Rattle.std.proofs.Common.{List, [], ◌∷◌, ◌++◌, length, drop, refl, sym, ap, subst, ◌∙◌, arith}
use Rattle.std.proofs.Common.{append_assoc, append-nil, length-append, length-take, length-drop}
use Rattle.std.specs.Prelude.{replicate, min}
use Rattle.std.proofs.lemmas.Bool.{ne_eqb, le-leb, lt-leb}
use Rattle.std.proofs.lemmas.List.{take_at, drop_at, drop-drop, drop-replicate, replicate-append-replicate}
use Rattle.std.proofs.Math.ListN.{length-replicate}
use Rattle.ar_unit.specs.Sectors.{Sector, cut, written, zero_sector, zero_sectors}
use Rattle.ar_unit.specs.Unit.{UnitState, Absent, Present, Answered, Make as UnitMake}
use Rattle.ar_unit.specs.Unit.{Cmd as UnitCmd}
use Rattle.ar_unit.proofs.Laws.{length-cut}
use Rattle.ar_record.specs.Record.{RecordData, Make, Command, HasUnitNumbers}
use Rattle.ar_compaction.specs.Bytes.{bytes_of_sectors, are_zeros}
use Rattle.ar_compaction.specs.Checkpoint.{UnitParts, write_block, piece_write, piece_len, piece_record, pieces_of}
use Rattle.ar_compaction.specs.Checkpoint.{growth_record, step_record, steps_from, steps_of}
use Rattle.ar_compaction.proofs.Cutting.{cut-add, cut-take}
use Rattle.ar_compaction.proofs.Zeros.{zeros-are, cut-zeros}
use Rattle.ar_compaction.proofs.Writing.{writes, writes_change}
use Rattle.ar_compaction.proofs.Creation.{Makes, makes_none, makes_append, makes_one}

-- the sectors that were written so far, and those that are still zero
abbrev so_far : List ℕ → ℕ → ℕ → List Sector
so_far bytes lba rest = cut 512 lba bytes ++ zero_sectors rest

length-so_far : (bytes : List ℕ) (lba rest : ℕ) → length (so_far bytes lba rest) ≡ lba + rest
length-so_far bytes lba rest =
    let front = length-cut 512 lba bytes in
    let back = length-replicate rest zero_sector in
    omega (arith, length-append (cut 512 lba bytes) (zero_sectors rest), front, back)

-- sectors cut from the bytes of a piece
cut-piece : (bytes : List ℕ) (lba count : ℕ)
    → cut 512 count (bytes_of_sectors lba count bytes) ≡ cut 512 count (drop (lba * 512) bytes)
cut-piece bytes lba count = cut-take count (count * 512) (drop (lba * 512) bytes) (omega arith)

-- with those of a piece
more_so_far : (bytes : List ℕ) (lba count rest : ℕ)
    → (cut 512 lba bytes ++ cut 512 count (bytes_of_sectors lba count bytes)) ++ zero_sectors rest
    ≡ so_far bytes (lba + count) rest
more_so_far bytes lba count rest =
    ap (λ (l : List Sector). (cut 512 lba bytes ++ l) ++ zero_sectors rest) (cut-piece bytes lba count)
    ∙ ap (λ (l : List Sector). l ++ zero_sectors rest) (sym (cut-add lba count bytes))

-- a piece of zeros needs no record
zero_piece : (bytes : List ℕ) (lba count rest : ℕ) → length (bytes_of_sectors lba count bytes) ≡ count * 512
    → are_zeros (bytes_of_sectors lba count bytes) ≡ true
    → so_far bytes lba (count + rest) ≡ so_far bytes (lba + count) rest
zero_piece bytes lba count rest len zeros =
    let piece : List ℕ = bytes_of_sectors lba count bytes in
    let cut_is : cut 512 count piece ≡ zero_sectors count =
    ap (λ (l : List ℕ). cut 512 count l) (zeros-are piece zeros ∙ ap (λ (n : ℕ). replicate n 0) len)
    ∙ cut-zeros count in
    ap (λ (l : List Sector). cut 512 lba bytes ++ l) (sym (replicate-append-replicate count rest zero_sector))
    ∙ sym (append_assoc (cut 512 lba bytes) (zero_sectors count) (zero_sectors rest))
    ∙ ap (λ (l : List Sector). (cut 512 lba bytes ++ l) ++ zero_sectors rest) (sym cut_is)
    ∙ more_so_far bytes lba count rest

-- the sectors after the WRITE of a piece
written_piece : (bytes : List ℕ) (lba count rest : ℕ)
    → written (so_far bytes lba (count + rest)) lba count (bytes_of_sectors lba count bytes)
    ≡ so_far bytes (lba + count) rest
written_piece bytes lba count rest =
    let piece : List Sector = cut 512 count (bytes_of_sectors lba count bytes) in
    let before : List Sector = so_far bytes lba (count + rest) in
    let behind : drop (lba + count) before ≡ zero_sectors rest =
    sym (drop-drop count lba before)
    ∙ ap (λ (l : List Sector). drop count l)
    (drop_at (cut 512 lba bytes) (zero_sectors (count + rest)) lba (length-cut 512 lba bytes))
    ∙ drop-replicate count (count + rest) zero_sector
    ∙ ap (λ (n : ℕ). zero_sectors n) (omega arith) in
    ap (λ (l : List Sector). (l ++ piece) ++ drop (lba + count) before)
    (take_at (cut 512 lba bytes) (zero_sectors (count + rest)) lba (length-cut 512 lba bytes))
    ∙ ap (λ (l : List Sector). (cut 512 lba bytes ++ piece) ++ l) behind
    ∙ more_so_far bytes lba count rest

-- the records of a piece
piece_by : (P : Type 0) (a : ℕ × ℕ) (bytes : List ℕ) (lba count rest : ℕ) (zeros : Bool)
    → HasUnitNumbers a.0 a.1 → lba < 2 ^ 32 → count < 2 ^ 16
    → length (bytes_of_sectors lba count bytes) ≡ count * 512
    → are_zeros (bytes_of_sectors lba count bytes) ≡ zeros
    → Makes P a (Present (so_far bytes lba (count + rest)) false)
    (cond zeros [] (Command a.0 a.1 (write_block lba count) (bytes_of_sectors lba count bytes) ∷ []))
    (Present (so_far bytes (lba + count) rest) false)
piece_by P a bytes lba count rest true known fits few len is =
    makes_none P a _ _ (ap (λ (l : List Sector). Present l false) (zero_piece bytes lba count rest len is))
piece_by P a bytes lba count rest false known fits few len is =
    let piece : List ℕ = bytes_of_sectors lba count bytes in
    let before : List Sector = so_far bytes lba (count + rest) in
    let within : lba + count ≤ length before = omega (arith, length-so_far bytes lba (count + rest)) in
    makes_one P a (Present before false) (Present (so_far bytes (lba + count) rest) false)
    (Command a.0 a.1 (write_block lba count) piece) (UnitCmd (write_block lba count) piece)
    (λ b. refl) refl
    (known, record { cdb_len = refl; payload_fits = omega (arith, len, few) })
    (λ p. writes_change before lba count piece fits few within len)
    (ap (λ (x : Answered). x.state) (writes before lba count piece fits few within len)
    ∙ ap (λ (l : List Sector). Present l false) (written_piece bytes lba count rest))

piece_makes : (P : Type 0) (a : ℕ × ℕ) (bytes : List ℕ) (lba count rest : ℕ)
    → HasUnitNumbers a.0 a.1 → lba < 2 ^ 32 → count < 2 ^ 16
    → length (bytes_of_sectors lba count bytes) ≡ count * 512
    → Makes P a (Present (so_far bytes lba (count + rest)) false)
    (piece_write a lba count (bytes_of_sectors lba count bytes)) (Present (so_far bytes (lba + count) rest) false)
piece_makes P a bytes lba count rest known fits few len =
    piece_by P a bytes lba count rest (are_zeros (bytes_of_sectors lba count bytes)) known fits few len refl

-- what is known of a unit whose records are made
pub record IsUnit (unit : UnitParts) : Type 0 where
  pub known : HasUnitNumbers unit.addr.0 unit.addr.1
  pub len : length unit.bytes ≡ unit.sectors * 512
  pub within : unit.base ≤ unit.sectors
  pub fits : unit.sectors < 2 ^ 32

-- the unit before a piece
abbrev place : ℕ → ℕ → ℕ
place base piece = min (piece * 128) base

abbrev before_piece : UnitParts → ℕ → UnitState
before_piece unit piece =
    Present (so_far unit.bytes (place unit.base piece) (unit.base - place unit.base piece)) false

length-piece : (bytes : List ℕ) (sectors lba count : ℕ) → length bytes ≡ sectors * 512 → lba + count ≤ sectors
    → length (bytes_of_sectors lba count bytes) ≡ count * 512
length-piece bytes sectors lba count len within =
    omega (arith, length-take (count * 512) (drop (lba * 512) bytes), length-drop (lba * 512) bytes, len, within)

-- one piece
one_piece : (P : Type 0) (unit : UnitParts) (piece : ℕ) → IsUnit unit → piece < pieces_of unit.base
    → Makes P unit.addr (before_piece unit piece) (piece_record unit piece) (before_piece unit (piece + 1))
one_piece P unit piece is lt =
    let lba : ℕ = piece * 128 in
    let count : ℕ = piece_len unit.base piece in
    let rest : ℕ = unit.base - (lba + count) in
    let inside : lba < unit.base = omega (arith, lt) in
    let here : place unit.base piece ≡ lba = omega (arith, inside) in
    let next : place unit.base (piece + 1) ≡ lba + count = omega (arith, inside) in
    let left : unit.base - place unit.base piece ≡ count + rest = omega (arith, inside) in
    let left_after : unit.base - place unit.base (piece + 1) ≡ rest = omega (arith, inside) in
    let made = piece_makes P unit.addr unit.bytes lba count rest is.known (omega (arith, inside, is.within, is.fits))
    (omega arith) (length-piece unit.bytes unit.sectors lba count is.len (omega (arith, inside, is.within))) in
    let from : before_piece unit piece ≡ Present (so_far unit.bytes lba (count + rest)) false =
    ap (λ (l : List Sector). Present l false)
    (ap (λ (n : ℕ). so_far unit.bytes n (unit.base - place unit.base piece)) here
    ∙ ap (λ (n : ℕ). so_far unit.bytes lba n) left) in
    let to : before_piece unit (piece + 1) ≡ Present (so_far unit.bytes (lba + count) rest) false =
    ap (λ (l : List Sector). Present l false)
    (ap (λ (n : ℕ). so_far unit.bytes n (unit.base - place unit.base (piece + 1))) next
    ∙ ap (λ (n : ℕ). so_far unit.bytes (lba + count) n) left_after) in
    subst (λ (u : UnitState). Makes P unit.addr u (piece_record unit piece) (before_piece unit (piece + 1))) (sym from)
    (subst (λ (u : UnitState). Makes P unit.addr (Present (so_far unit.bytes lba (count + rest)) false)
    (piece_record unit piece) u) (sym to) made)

-- the steps by their numbers
piece_step : (unit : UnitParts) (piece : ℕ) → piece < pieces_of unit.base
    → step_record unit (piece + 1) ≡ piece_record unit piece
piece_step unit piece lt =
    let later : eqb (piece + 1) 0 ≡ false = ne_eqb (piece + 1) 0 (λ e. omega (arith, e)) in
    let early : leb (piece + 1) (pieces_of unit.base) ≡ true = le-leb _ _ (omega (arith, lt)) in
    let back : piece + 1 - 1 ≡ piece = omega arith in
    rw (later, early, back) refl

last_step : (unit : UnitParts) (piece : ℕ) → piece ≡ pieces_of unit.base
    → step_record unit (piece + 1) ≡ growth_record unit
last_step unit piece same =
    let later : eqb (piece + 1) 0 ≡ false = ne_eqb (piece + 1) 0 (λ e. omega (arith, e)) in
    let late : leb (piece + 1) (pieces_of unit.base) ≡ false = lt-leb _ _ (omega (arith, same)) in
    rw (later, late) refl

-- the steps from a piece on, where the last step makes of the written sectors what is wanted
later_steps : (P : Type 0) (unit : UnitParts) (to : UnitState) (count piece : ℕ) → IsUnit unit
    → piece + count ≡ pieces_of unit.base
    → Makes P unit.addr (before_piece unit (pieces_of unit.base)) (growth_record unit) to
    → Makes P unit.addr (before_piece unit piece) (steps_from unit (suc count) (piece + 1)) to
later_steps P unit to zero piece is sum last =
    let here : piece ≡ pieces_of unit.base = omega (arith, sum) in
    subst (λ (l : List RecordData). Makes P unit.addr (before_piece unit piece) l to)
    (sym (append-nil (step_record unit (piece + 1)) ∙ last_step unit piece here))
    (subst (λ (n : ℕ). Makes P unit.addr (before_piece unit n) (growth_record unit) to) (sym here) last)
later_steps P unit to (suc count) piece is sum last =
    let lt : piece < pieces_of unit.base = omega (arith, sum) in
    let next : piece + 1 + count ≡ pieces_of unit.base = omega (arith, sum) in
    makes_append P unit.addr (before_piece unit piece) (before_piece unit (piece + 1)) to
    (step_record unit (piece + 1)) (steps_from unit (suc count) (piece + 1 + 1))
    (subst (λ (l : List RecordData). Makes P unit.addr (before_piece unit piece) l (before_piece unit (piece + 1)))
    (sym (piece_step unit piece lt)) (one_piece P unit piece is lt))
    (later_steps P unit to count (piece + 1) is next last)

-- all steps
pub all_steps : (P : Type 0) (unit : UnitParts) (to : UnitState) → IsUnit unit → (P → 1 ≤ unit.base)
    → Makes P unit.addr (Present (cut 512 unit.base unit.bytes) false) (growth_record unit) to
    → Makes P unit.addr Absent (steps_from unit (steps_of unit) 0) to
all_steps P unit to is some last =
    let pieces : ℕ = pieces_of unit.base in
    let count : steps_of unit ≡ suc (suc pieces) = omega arith in
    let start : place unit.base 0 ≡ 0 = omega arith in
    let left : unit.base - 0 ≡ unit.base = omega arith in
    let first : before_piece unit 0 ≡ Present (zero_sectors unit.base) false =
    ap (λ (n : ℕ). Present (so_far unit.bytes n (unit.base - n)) false) start
    ∙ ap (λ (n : ℕ). Present (so_far unit.bytes 0 n) false) left in
    let end : place unit.base pieces ≡ unit.base = omega arith in
    let none : unit.base - unit.base ≡ 0 = omega arith in
    let full : before_piece unit pieces ≡ Present (cut 512 unit.base unit.bytes) false =
    ap (λ (n : ℕ). Present (so_far unit.bytes n (unit.base - n)) false) end
    ∙ ap (λ (n : ℕ). Present (so_far unit.bytes unit.base n) false) none
    ∙ ap (λ (l : List Sector). Present l false) (append-nil (cut 512 unit.base unit.bytes)) in
    let made = makes_one P unit.addr Absent (before_piece unit 0) (Make unit.addr.0 unit.addr.1 unit.base)
    (UnitMake unit.base) (λ b. refl) refl (is.known, omega (arith, is.within, is.fits)) (λ p. (refl, some p))
    (sym first) in
    subst (λ (n : ℕ). Makes P unit.addr Absent (steps_from unit n 0) to) (sym count)
    (makes_append P unit.addr Absent (before_piece unit 0) to
    (Make unit.addr.0 unit.addr.1 unit.base ∷ []) (steps_from unit (suc pieces) (0 + 1))
    made
    (later_steps P unit to pieces 0 is (omega arith)
    (subst (λ (u : UnitState). Makes P unit.addr u (growth_record unit) to) (sym full) last)))
