-- Parts of blocks among a disk's bytes.
use Rattle.std.proofs.Common.{◌≡◌, ℕ, ◌+◌, ◌*◌, ◌-◌, ◌≤◌, ◌++◌, true, false, List, length, take, drop, refl, ap, sym}
use Rattle.std.proofs.Common.{subst, ◌∙◌, arith}
use Rattle.std.specs.Prelude.{slice_range}
use Rattle.std.proofs.lemmas.List.{take-append-drop, take-take, drop-take, drop-drop, drop-append-le, append_assoc}
use Rattle.std.proofs.lemmas.List.{length-take-le, length-drop, length-append}
use Rattle.ar_disks.specs.declared.geometry.Geometry.{Geometry}
use Rattle.ar_disks.specs.Geometry.{block_len_of, extent_len_of}
use Rattle.ar_disks.specs.Block.{part_at, with_sectors}
use Rattle.ar_disks.specs.Disk.{DiskState, HasPlace, Writes, offset_of, block_at}
use Rattle.ar_disks.proofs.Places.{overwritten, offset_of-fits, block_at_row, writes_place}
use Rattle.ar_disks.proofs.Sectors.{take_split}

range_is : (xs : List ℕ) (o n : ℕ) → slice_range xs o (o + n) ≡ take n (drop o xs)
range_is xs o n = let len : o + n - o ≡ n = omega arith in ap (λ k. take k (drop o xs)) len

-- a range of a range
pub range_of_range : (xs : List ℕ) (o n a len : ℕ) → a + len ≤ n
    → slice_range (slice_range xs o (o + n)) a (a + len) ≡ slice_range xs (o + a) (o + a + len)
range_of_range xs o n a len within =
    let split : n ≡ a + (n - a) = omega arith in
    range_is (slice_range xs o (o + n)) a len
    ∙ ap (λ b. take len (drop a b)) (range_is xs o n ∙ ap (λ k. take k (drop o xs)) split)
    ∙ ap (λ b. take len b) (drop-take a (n - a) (drop o xs))
    ∙ take-take len (n - a) (drop a (drop o xs)) (omega arith)
    ∙ ap (λ b. take len b) (drop-drop a o xs)
    ∙ sym (range_is xs (o + a) len)

length-overwritten : (xs ys : List ℕ) (a : ℕ) → a + length ys ≤ length xs
    → length (overwritten xs a ys) ≡ length xs
length-overwritten xs ys a fits =
    omega (
      arith,
      length-append (take a xs) (ys ++ drop (a + length ys) xs),
      length-append ys (drop (a + length ys) xs),
      length-take-le a xs (omega arith),
      length-drop (a + length ys) xs,
    )

regroup : (t a y b c : List ℕ) → (t ++ a) ++ (y ++ (b ++ c)) ≡ t ++ ((a ++ (y ++ b)) ++ c)
regroup t a y b c =
    append_assoc t a (y ++ (b ++ c))
    ∙ ap (λ l. t ++ l) (ap (λ l. a ++ l) (sym (append_assoc y b c)) ∙ sym (append_assoc a (y ++ b) c))

-- overwriting a part of a range is overwriting the range
pub overwritten_within : (xs ys : List ℕ) (o n a : ℕ) → o + n ≤ length xs → a + length ys ≤ n
    → overwritten xs (o + a) ys ≡ overwritten xs o (overwritten (slice_range xs o (o + n)) a ys)
overwritten_within xs ys o n a fits within =
    let range : List ℕ = slice_range xs o (o + n) in
    let rest : List ℕ = drop o xs in
    let is : range ≡ take n rest = range_is xs o n in
    let len : length (take n rest) ≡ n = length-take-le n rest (omega (arith, length-drop o xs)) in
    let len_after : length (overwritten range a ys) ≡ n =
    length-overwritten range ys a (omega (arith, ap length is, len)) ∙ ap length is ∙ len in
    let front : take (o + a) xs ≡ take o xs ++ take a range =
    take_split o a xs
    ∙ ap (λ l. take o xs ++ l) (sym (ap (λ l. take a l) is ∙ take-take a n rest (omega arith))) in
    let at : o + a + length ys ≡ o + (a + length ys) = omega arith in
    let after : drop n rest ≡ drop (o + length (overwritten range a ys)) xs =
    drop-drop n o xs ∙ ap (λ k. drop (o + k) xs) (sym len_after) in
    let back : drop (o + a + length ys) xs
    ≡ drop (a + length ys) range ++ drop (o + length (overwritten range a ys)) xs =
    ap (λ k. drop k xs) at
    ∙ sym (drop-drop (a + length ys) o xs)
    ∙ ap (λ l. drop (a + length ys) l) (sym (take-append-drop n rest))
    ∙ drop-append-le (a + length ys) (take n rest) (drop n rest) (omega (arith, len))
    ∙ ap (λ l. drop (a + length ys) l ++ drop n rest) (sym is)
    ∙ ap (λ l. drop (a + length ys) range ++ l) after in
    ap (λ l. l ++ (ys ++ drop (o + a + length ys) xs)) front
    ∙ ap (λ l. (take o xs ++ take a range) ++ (ys ++ l)) back
    ∙ regroup (take o xs) (take a range) ys (drop (a + length ys) range)
    (drop (o + length (overwritten range a ys)) xs)

-- the bytes of a part of a row's block
pub part_at_row : (disk : DiskState) (e r first len : ℕ) → HasPlace disk e r
    → 512 * first + len ≤ block_len_of disk.geometry
    → part_at (block_at disk e r) first len
    ≡ slice_range disk.bytes (offset_of disk.geometry e r + 512 * first)
    (offset_of disk.geometry e r + 512 * first + len)
unfolding part_at
part_at_row disk e r first len place within =
    ap (λ b. slice_range b (512 * first) (512 * first + len)) (block_at_row disk e r place.row_exists)
    ∙ range_of_range disk.bytes (offset_of disk.geometry e r) (block_len_of disk.geometry) (512 * first) len within

with_sectors_is : (block bytes : List ℕ) (first : ℕ)
    → with_sectors block first bytes ≡ overwritten block (512 * first) bytes
unfolding with_sectors
with_sectors_is block bytes first = refl

-- the disk after one access more, with bytes written over a part of the block of a place
abbrev pub with_part : DiskState → ℕ → ℕ → ℕ → List ℕ → DiskState
with_part disk e r first bytes =
    record disk {
      bytes = overwritten disk.bytes (offset_of disk.geometry e r + 512 * first) bytes;
      accesses = disk.accesses + 1;
    }

-- a write of a part of a block is a write of the block with that part overwritten
pub writes_part : (old : DiskState) (e r first : ℕ) (bytes : List ℕ) → HasPlace old e r
    → length old.bytes ≡ old.extents * extent_len_of old.geometry
    → 512 * first + length bytes ≤ block_len_of old.geometry → old.gone ≡ false
    → Writes old (with_part old e r first bytes) e r true (with_sectors (block_at old e r) first bytes)
writes_part old e r first bytes place whole within there =
    let g : Geometry = old.geometry in
    let o : ℕ = offset_of g e r in
    let n : ℕ = block_len_of g in
    let fits : o + n ≤ length old.bytes =
    rw whole (offset_of-fits g old.extents e r place.extent_exists place.row_exists) in
    let block : List ℕ = slice_range old.bytes o (o + n) in
    let len : length block ≡ n =
    ap length (range_is old.bytes o n)
    ∙ length-take-le n (drop o old.bytes) (omega (arith, length-drop o old.bytes)) in
    let after : List ℕ = overwritten block (512 * first) bytes in
    let is : with_sectors (block_at old e r) first bytes ≡ after =
    ap (λ b. with_sectors b first bytes) (block_at_row old e r place.row_exists) ∙ with_sectors_is block bytes first in
    let len_after : length after ≡ n = length-overwritten block bytes (512 * first) (omega (arith, len)) ∙ len in
    let P : List ℕ → Type 0 =
    λ bs. Writes old (record old { bytes = bs; accesses = old.accesses + 1 }) e r true after in
    let Q : List ℕ → Type 0 = λ b. Writes old (with_part old e r first bytes) e r true b in
    subst Q (sym is)
    (subst P (sym (overwritten_within old.bytes bytes o n (512 * first) fits within))
    (writes_place old e r after place whole len_after there))
