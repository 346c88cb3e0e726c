-- Where blocks lie among a disk's bytes, and what a write to one leaves of the others.
use Rattle.std.proofs.Common.{◌≡◌, ◌≢◌, ◌⊎◌, ℕ, ◌+◌, ◌*◌, ◌-◌, ◌<◌, ◌≤◌, ◌++◌, true, false, List, [], length, take}
use Rattle.std.proofs.Common.{drop, refl, ap, sym, ◌∙◌, inl, inr, arith}
use Rattle.std.specs.Prelude.{slice_range}
use Rattle.std.proofs.lemmas.List.{take-append-le, take-take, append_assoc, length-take-le, length-append}
use Rattle.std.proofs.lemmas.Slice.{overwrites, between_is, drop-append-drop}
use Rattle.std.proofs.lemmas.Bool.{cases_lt}
use Rattle.std.proofs.lemmas.Bool.Decides.{nat_tests}
use Rattle.std.proofs.lemmas.Grind.{common_steps}
use Rattle.ar_disks.specs.declared.geometry.Geometry.{Geometry}
use Rattle.ar_disks.specs.declared.geometry.Geometry.TheVariants.{Paper, Small}
use Rattle.ar_disks.specs.Geometry.{rows_of, block_len_of, extent_len_of}
use Rattle.ar_disks.specs.Disk.{DiskState, HasPlace, offset_of, block_at, Writes}
use Rattle.ar_disks.specs.Memory.{accessed}

-- a place lies within the disk's bytes
pub offset_of-fits : (g : Geometry) (n e r : ℕ) → e < n → r < rows_of g
    → offset_of g e r + block_len_of g ≤ n * extent_len_of g
offset_of-fits Paper n e r he hr = omega arith
offset_of-fits Small n e r he hr = omega arith

-- two rows of one extent lie apart
pub offset_of-row_apart : (g : Geometry) (e r s : ℕ) → r ≢ s
    → (offset_of g e r + block_len_of g ≤ offset_of g e s) ⊎ (offset_of g e s + block_len_of g ≤ offset_of g e r)
offset_of-row_apart Paper e r s ne = elim (cases_lt r s) [ inl lt ↦ inl (omega arith) | inr le ↦ inr (omega arith) ]
offset_of-row_apart Small e r s ne = elim (cases_lt r s) [ inl lt ↦ inl (omega arith) | inr le ↦ inr (omega arith) ]

-- rows of two extents lie apart
pub offset_of-extent_apart : (g : Geometry) (e f r s : ℕ) → e ≢ f → r < rows_of g → s < rows_of g
    → (offset_of g e r + block_len_of g ≤ offset_of g f s) ⊎ (offset_of g f s + block_len_of g ≤ offset_of g e r)
offset_of-extent_apart Paper e f r s ne hr hs =
    elim (cases_lt e f) [ inl lt ↦ inl (omega arith) | inr le ↦ inr (omega arith) ]
offset_of-extent_apart Small e f r s ne hr hs =
    elim (cases_lt e f) [ inl lt ↦ inl (omega arith) | inr le ↦ inr (omega arith) ]

-- bytes with others over them from a place on
abbrev pub overwritten : List ℕ → ℕ → List ℕ → List ℕ
overwritten xs a ys = take a xs ++ (ys ++ drop (a + length ys) xs)

pub between-overwritten_same : (xs ys : List ℕ) (a n : ℕ) → n ≡ length ys → a + n ≤ length xs
    → slice_range (overwritten xs a ys) a (a + n) ≡ ys
between-overwritten_same xs ys a n e h = grind (arith, common_steps, overwrites)

pub between-overwritten_before : (xs ys : List ℕ) (a b n : ℕ) → b + n ≤ a → a + length ys ≤ length xs
    → slice_range (overwritten xs a ys) b (b + n) ≡ slice_range xs b (b + n)
between-overwritten_before xs ys a b n e h =
    let within : b + n ≤ length (take a xs) = omega (arith, length-take-le a xs (omega arith)) in
    between_is (overwritten xs a ys) b (b + n)
    ∙ ap (λ l. drop b l)
    (take-append-le (b + n) (take a xs) (ys ++ drop (a + length ys) xs) within ∙ take-take (b + n) a xs e)
    ∙ sym (between_is xs b (b + n))

pub between-overwritten_after : (xs ys : List ℕ) (a b n : ℕ) → a + length ys ≤ b → a + length ys ≤ length xs
    → slice_range (overwritten xs a ys) b (b + n) ≡ slice_range xs b (b + n)
between-overwritten_after xs ys a b n e h =
    let front : length (take a xs ++ ys) ≡ a + length ys =
    omega (arith, length-append (take a xs) ys, length-take-le a xs (omega arith)) in
    ap (λ l. take (b + n - b) l)
    (ap (λ l. drop b l) (sym (append_assoc (take a xs) ys (drop (a + length ys) xs)))
    ∙ drop-append-drop (a + length ys) xs (take a xs ++ ys) b e front)

pub between-overwritten_apart : (xs ys : List ℕ) (a b n : ℕ) → (b + n ≤ a) ⊎ (a + length ys ≤ b)
    → a + length ys ≤ length xs
    → slice_range (overwritten xs a ys) b (b + n) ≡ slice_range xs b (b + n)
between-overwritten_apart xs ys a b n (inl before) h = between-overwritten_before xs ys a b n before h
between-overwritten_apart xs ys a b n (inr after) h = between-overwritten_after xs ys a b n after h

-- the bytes at a row that extents have
pub block_at_row : (disk : DiskState) (e r : ℕ) → r < rows_of disk.geometry
    → block_at disk e r
    ≡ slice_range disk.bytes (offset_of disk.geometry e r) (offset_of disk.geometry e r + block_len_of disk.geometry)
unfolding block_at
block_at_row disk e r lt = grind (arith, nat_tests)

-- a disk has the same blocks after any number of accesses
pub block_at-accessed : (disk : DiskState) (accesses e r : ℕ)
    → block_at (accessed disk accesses) e r ≡ block_at disk e r
unfolding block_at
block_at-accessed disk accesses e r = refl

-- nothing at a row past the last
pub block_at_past : (disk : DiskState) (e r : ℕ) → rows_of disk.geometry ≤ r → block_at disk e r ≡ []
unfolding block_at
block_at_past disk e r le = grind (arith, nat_tests)

-- the disk after one access more, with a block written over the bytes of a place
abbrev pub with_block : DiskState → ℕ → ℕ → List ℕ → DiskState
with_block disk e r block =
    record disk { bytes = overwritten disk.bytes (offset_of disk.geometry e r) block; accesses = disk.accesses + 1 }

block_at-with_block_other : (old : DiskState) (e r f s : ℕ) (block : List ℕ)
    → offset_of old.geometry e r + block_len_of old.geometry ≤ length old.bytes
    → length block ≡ block_len_of old.geometry
    → (s < rows_of old.geometry
    → (offset_of old.geometry f s + block_len_of old.geometry ≤ offset_of old.geometry e r)
    ⊎ (offset_of old.geometry e r + block_len_of old.geometry ≤ offset_of old.geometry f s))
    → block_at (with_block old e r block) f s ≡ block_at old f s
block_at-with_block_other old e r f s block fits len apart =
    elim (cases_lt s (rows_of old.geometry)) [
      | inl lt ↦
          block_at_row (with_block old e r block) f s lt
          ∙ between-overwritten_apart old.bytes block (offset_of old.geometry e r) (offset_of old.geometry f s)
          (block_len_of old.geometry) (rw len (apart lt)) (rw len fits)
          ∙ sym (block_at_row old f s lt)
      | inr le ↦ block_at_past (with_block old e r block) f s le ∙ sym (block_at_past old f s le)
    ]

-- a write of a whole block to a place that a disk has
pub writes_place : (old : DiskState) (e r : ℕ) (block : List ℕ) → HasPlace old e r
    → length old.bytes ≡ old.extents * extent_len_of old.geometry → length block ≡ block_len_of old.geometry
    → old.gone ≡ false
    → Writes old (with_block old e r block) e r true block
writes_place old e r block place whole len there =
    let g : Geometry = old.geometry in
    let fits : offset_of g e r + block_len_of g ≤ length old.bytes =
    rw whole (offset_of-fits g old.extents e r place.extent_exists place.row_exists) in
    record {
      answers = record {
        geometry = refl;
        extents = refl;
        gone = there;
        stays_gone = λ gone. gone;
        faults = refl;
        accesses = refl;
      };
      written = λ _.
          block_at_row (with_block old e r block) e r place.row_exists
          ∙ between-overwritten_same old.bytes block (offset_of g e r) (block_len_of g) (sym len) fits;
      same_extent = λ s ne. block_at-with_block_other old e r e s block fits len (λ lt. offset_of-row_apart g e s r ne);
      other_extents = λ f s ne.
          block_at-with_block_other old e r f s block fits len
          (λ lt. offset_of-extent_apart g f e s r ne lt place.row_exists);
    }
