-- Runs of sectors, within a block and over blocks.
use Rattle.std.proofs.Common.{◌≡◌, ◌≢◌, ◌⊎◌, Bool, true, false, ℕ, zero, suc, ◌+◌, ◌-◌, ◌*◌, ◌/◌, ◌%◌, ◌<◌, ◌≤◌, List}
use Rattle.std.proofs.Common.{◌==◌, ◌++◌, length, take, drop, min, refl, sym, ap, ◌∙◌, inl, inr, lit<, mod-lt, arith}
use Rattle.std.specs.List.{concat}
use Rattle.std.proofs.lemmas.Bool.{cases_eq, cases_lt}
use Rattle.std.proofs.lemmas.Bool.Decides.{eqb_tells}
use Rattle.std.proofs.Math.Seq.{take-append_seam}
use Rattle.std.proofs.lemmas.List.{append_assoc, length-drop, length-take-le}
use Rattle.std.proofs.lemmas.Nat.{div-mul-add, mod-mul-add, div-add-mod'}
use Rattle.ar_disks.specs.declared.geometry.Geometry.{Geometry}
use Rattle.ar_disks.specs.declared.geometry.Geometry.TheVariants.{Paper, Small}
use Rattle.ar_disks.specs.Geometry.{block_len_of, sectors_of}
use Rattle.ar_disks.specs.Lending.{refilled}
use Rattle.ar_disks.specs.Block.{sectors_at}
use Rattle.ar_disks.proofs.Sectors.{block_len-sectors, sectors_at_is, sectors_at-none, sectors_at-add}
use Rattle.ar_disks.proofs.Sectors.{sectors_at-sectors_at}
use Rattle.ar_disks.specs.declared.address.Addr.{Addr}
use Rattle.ar_disks.specs.declared.address.Key.{Key}
use Rattle.ar_cache.specs.Backing.{stored}
use Rattle.ar_disks.specs.declared.completion.Completion.TheVariants.{Done as Kept}
use Rattle.ar_volume.specs.Sectors.{sector_in, sectors_in, key_of}

-- sector f of block r
pub sector_in-place : (g : Geometry) (blocks : ℕ → List ℕ) (r f : ℕ) → f < sectors_of g
    → sector_in g blocks (r * sectors_of g + f) ≡ sectors_at (blocks r) f 1
unfolding sector_in
sector_in-place g blocks r f within =
    rw (div-mul-add r (sectors_of g) f within, mod-mul-add r (sectors_of g) f within) refl

-- sectors of one block
pub sectors_in-block : (g : Geometry) (blocks : ℕ → List ℕ) (r f n : ℕ) → f + n ≤ sectors_of g
    → concat (sectors_in g blocks (r * sectors_of g + f) n) ≡ sectors_at (blocks r) f n
sectors_in-block g blocks r f zero within = sym (sectors_at-none (blocks r) f)
sectors_in-block g blocks r f (suc n) within =
    let here : concat (sectors_in g blocks (r * sectors_of g + f) (suc n))
    ≡ sector_in g blocks (r * sectors_of g + f) ++ concat (sectors_in g blocks (r * sectors_of g + f + 1) n) =
    refl in
    here
    ∙ ap (λ l. l ++ concat (sectors_in g blocks (r * sectors_of g + f + 1) n))
    (sector_in-place g blocks r f (omega arith))
    ∙ (let next : r * sectors_of g + f + 1 ≡ r * sectors_of g + (f + 1) = omega arith in
    ap (λ k. sectors_at (blocks r) f 1 ++ concat (sectors_in g blocks k n)) next
    ∙ ap (λ l. sectors_at (blocks r) f 1 ++ l) (sectors_in-block g blocks r (f + 1) n (omega arith))
    ∙ sym (sectors_at-add (blocks r) f 1 n)
    ∙ (let count : 1 + n ≡ suc n = omega arith in ap (λ k. sectors_at (blocks r) f k) count))

-- sectors in two runs
pub sectors_in-add : (g : Geometry) (blocks : ℕ → List ℕ) (first n m : ℕ)
    → concat (sectors_in g blocks first (n + m)) ≡ concat (sectors_in g blocks first n)
    ++ concat (sectors_in g blocks (first + n) m)
sectors_in-add g blocks first zero m =
    let none : 0 + m ≡ m = omega arith in
    let here : first ≡ first + 0 = omega arith in
    ap (λ k. concat (sectors_in g blocks first k)) none ∙ ap (λ k. concat (sectors_in g blocks k m)) here
sectors_in-add g blocks first (suc n) m =
    let count : suc n + m ≡ suc (n + m) = omega arith in
    let next : first + 1 + n ≡ first + suc n = omega arith in
    ap (λ k. concat (sectors_in g blocks first k)) count
    ∙ ap (λ l. sector_in g blocks first ++ l) (sectors_in-add g blocks (first + 1) n m
    ∙ ap (λ k. concat (sectors_in g blocks (first + 1) n) ++ concat (sectors_in g blocks k m)) next)
    ∙ sym (append_assoc (sector_in g blocks first) (concat (sectors_in g blocks (first + 1) n))
    (concat (sectors_in g blocks (first + suc n) m)))

-- a run of one block, by its first sector
pub sectors_in-piece : (g : Geometry) (blocks : ℕ → List ℕ) (at n : ℕ) → at % sectors_of g + n ≤ sectors_of g
    → concat (sectors_in g blocks at n) ≡ sectors_at (blocks (at / sectors_of g)) (at % sectors_of g) n
sectors_in-piece g blocks at n within =
    let split : at / sectors_of g * sectors_of g + at % sectors_of g ≡ at = div-add-mod' at (sectors_of g) in
    ap (λ k. concat (sectors_in g blocks k n)) (sym split)
    ∙ sectors_in-block g blocks (at / sectors_of g) (at % sectors_of g) n within

-- a block over all of whose bytes others were written is these
pub refilled_is : (block bytes : List ℕ) → length bytes ≡ length block → refilled block bytes ≡ bytes
refilled_is block bytes same =
    ap (λ n. take n (bytes ++ drop (length bytes) block)) (sym same)
    ∙ take-append_seam bytes (drop (length bytes) block)

-- one more part of a transfer
pub sectors_in-more : (g : Geometry) (blocks : ℕ → List ℕ) (lba at part : ℕ) (begun piece : List ℕ) → lba ≤ at
    → at % sectors_of g + part ≤ sectors_of g
    → begun ≡ concat (sectors_in g blocks lba (at - lba))
    → piece ≡ sectors_at (blocks (at / sectors_of g)) (at % sectors_of g) part
    → begun ++ piece ≡ concat (sectors_in g blocks lba (at + part - lba))
sectors_in-more g blocks lba at part begun piece from within so_far is =
    let here : lba + (at - lba) ≡ at = omega arith in
    let count : at - lba + part ≡ at + part - lba = omega arith in
    let done : List ℕ = concat (sectors_in g blocks lba (at - lba)) in
    ap (λ l. l ++ piece) so_far
    ∙ ap (λ l. done ++ l) (is ∙ sym (sectors_in-piece g blocks at part within)
    ∙ ap (λ k. concat (sectors_in g blocks k part)) (sym here))
    ∙ sym (sectors_in-add g blocks lba (at - lba) part)
    ∙ ap (λ k. concat (sectors_in g blocks lba k)) count

-- a part of what is left of a range has some sector
pub part-some : (g : Geometry) (at left part : ℕ) → part ≡ min (sectors_of g - at % sectors_of g) left → 0 < left
    → 0 < part
part-some Paper at left part is some = omega arith
part-some Small at left part is some = omega arith

-- a part that stops at its block's end
pub part-within : (g : Geometry) (at left part : ℕ) → part ≡ min (sectors_of g - at % sectors_of g) left
    → at % sectors_of g + part ≤ sectors_of g
part-within Paper at left part is = omega arith
part-within Small at left part is = omega arith

-- a block has sectors
some_sectors : (g : Geometry) → 0 < sectors_of g
some_sectors Paper = lit< tt
some_sectors Small = lit< tt

-- a sector of the part that was written last
pub sector_in-inside : (g : Geometry) (new : ℕ → List ℕ) (bytes : List ℕ) (lba at part j : ℕ) → lba ≤ at
    → at % sectors_of g + part ≤ sectors_of g → at ≤ j → j < at + part
    → ((i : ℕ) → at % sectors_of g ≤ i → i < at % sectors_of g + part
    → sectors_at (new (at / sectors_of g)) i 1
    ≡ sectors_at (sectors_at bytes (at - lba) part) (i - at % sectors_of g) 1)
    → sector_in g new j ≡ sectors_at bytes (j - lba) 1
sector_in-inside g new bytes lba at part j from within low high put =
    let s : ℕ = sectors_of g in
    let r : ℕ = at / s in
    let f : ℕ = at % s in
    let split : r * s + f ≡ at = div-add-mod' at s in
    let here : j ≡ r * s + (f + (j - at)) = omega arith in
    let back : f + (j - at) - f ≡ j - at = omega arith in
    let there : at - lba + (j - at) ≡ j - lba = omega arith in
    ap (λ k. sector_in g new k) here
    ∙ sector_in-place g new r (f + (j - at)) (omega arith)
    ∙ put (f + (j - at)) (omega arith) (omega arith)
    ∙ ap (λ k. sectors_at (sectors_at bytes (at - lba) part) k 1) back
    ∙ sectors_at-sectors_at bytes (at - lba) part (j - at) (omega arith)
    ∙ ap (λ k. sectors_at bytes k 1) there

-- any other sector
pub sector_in-outside : (g : Geometry) (mid new : ℕ → List ℕ) (at part j : ℕ) → at % sectors_of g + part ≤ sectors_of g
    → (j < at) ⊎ (at + part ≤ j)
    → ((i : ℕ) → (i < at % sectors_of g) ⊎ (at % sectors_of g + part ≤ i) → i < sectors_of g
    → sectors_at (new (at / sectors_of g)) i 1 ≡ sectors_at (mid (at / sectors_of g)) i 1)
    → ((q : ℕ) → q ≢ at / sectors_of g → new q ≡ mid q)
    → sector_in g new j ≡ sector_in g mid j
unfolding sector_in
sector_in-outside g mid new at part j within apart outside others =
    let s : ℕ = sectors_of g in
    let q : ℕ = j / s in
    let m : ℕ = j % s in
    elim (cases_eq q (at / s)) [
      | inl same ↦
          (let here : q * s + m ≡ j = div-add-mod' j s in
          let there : q * s + at % s ≡ at = ap (λ k. k * s + at % s) same ∙ div-add-mod' at s in
          let far : (m < at % s) ⊎ (at % s + part ≤ m) =
          elim apart [ inl before ↦ inl (omega arith) | inr after ↦ inr (omega arith) ] in
          ap (λ k. sectors_at (new k) m 1) same ∙ outside m far (mod-lt j (some_sectors g))
          ∙ ap (λ k. sectors_at (mid k) m 1) (sym same))
      | inr other ↦ ap (λ b. sectors_at b m 1) (others q other)
    ]

-- a part of a block was put, s being the sectors of a block
pub record PutsPart (g : Geometry) (mid new : ℕ → List ℕ) (piece : List ℕ) (at part s : ℕ) : Type 0 where
  pub inside : (i : ℕ) → at % s ≤ i → i < at % s + part
      → sectors_at (new (at / s)) i 1 ≡ sectors_at piece (i - at % s) 1
  pub outside : (i : ℕ) → (i < at % s) ⊎ (at % s + part ≤ i) → i < sectors_of g
      → sectors_at (new (at / s)) i 1 ≡ sectors_at (mid (at / s)) i 1
  pub others : (q : ℕ) → q ≢ at / s → new q ≡ mid q

-- the sectors up to the part's end are the bytes'
pub written-inside : (g : Geometry) (mid new : ℕ → List ℕ) (bytes piece : List ℕ) (lba at part : ℕ) → lba ≤ at
    → at % sectors_of g + part ≤ sectors_of g
    → piece ≡ sectors_at bytes (at - lba) part → PutsPart g mid new piece at part (sectors_of g)
    → ((i : ℕ) → lba ≤ i → i < at → sector_in g mid i ≡ sectors_at bytes (i - lba) 1)
    → (i : ℕ) → lba ≤ i → i < at + part → sector_in g new i ≡ sectors_at bytes (i - lba) 1
written-inside g mid new bytes piece lba at part from within is puts before i low high =
    elim (cases_lt i at) [
      | inl past ↦ sector_in-outside g mid new at part i within (inl past) puts.outside puts.others ∙ before i low past
      | inr here ↦
          sector_in-inside g new bytes lba at part i from within here high
          (λ k above below. puts.inside k above below ∙ ap (λ l. sectors_at l (k - at % sectors_of g) 1) is)
    ]

-- those outside are as they were
pub written-outside : (g : Geometry) (old mid new : ℕ → List ℕ) (piece : List ℕ) (lba at part : ℕ) → lba ≤ at
    → at % sectors_of g + part ≤ sectors_of g
    → PutsPart g mid new piece at part (sectors_of g)
    → ((i : ℕ) → (i < lba) ⊎ (at ≤ i) → sector_in g mid i ≡ sector_in g old i)
    → (i : ℕ) → (i < lba) ⊎ (at + part ≤ i) → sector_in g new i ≡ sector_in g old i
written-outside g old mid new piece lba at part from within puts before i (inl low) =
    sector_in-outside g mid new at part i within (inl (omega arith)) puts.outside puts.others ∙ before i (inl low)
written-outside g old mid new piece lba at part from within puts before i (inr high) =
    sector_in-outside g mid new at part i within (inr high) puts.outside puts.others ∙ before i (inr (omega arith))

-- a part of the bytes, as it is cut
pub cut_part : (bytes : List ℕ) (first part : ℕ)
    → take (first * 512 + part * 512 - first * 512) (drop (first * 512) bytes) ≡ sectors_at bytes first part
cut_part bytes first part =
    let len : first * 512 + part * 512 - first * 512 ≡ 512 * part = omega arith in
    let at : first * 512 ≡ 512 * first = omega arith in
    ap (λ k. take k (drop (first * 512) bytes)) len ∙ ap (λ k. take (512 * part) (drop k bytes)) at
    ∙ sym (sectors_at_is bytes first part)

-- it is as long as the part, if the bytes go that far
pub cut_part-length : (bytes : List ℕ) (first part : ℕ) → 512 * (first + part) ≤ length bytes
    → length (take (first * 512 + part * 512 - first * 512) (drop (first * 512) bytes)) ≡ 512 * part
cut_part-length bytes first part fits =
    let rest = length-drop (first * 512) bytes in
    length-take-le (first * 512 + part * 512 - first * 512) (drop (first * 512) bytes) (omega (arith, rest, fits))
    ∙ omega arith

-- a part is a whole block if its bytes are
pub bytes-whole : (g : Geometry) (len part : ℕ) → len ≡ 512 * part → len == block_len_of g ≡ (part == sectors_of g)
bytes-whole g len part is =
    let block = block_len-sectors g in
    elim (eqb_tells part (sectors_of g)) [
      | inl whole ↦ (elim (eqb_tells len (block_len_of g)) [
        | inl all ↦ all.0 ∙ sym whole.0
        | inr some ↦ absurd (some.1 (omega (arith, block, is, whole.1)))
      ])
      | inr less ↦ (elim (eqb_tells len (block_len_of g)) [
        | inl all ↦ absurd (less.1 (omega (arith, block, is, all.1)))
        | inr some ↦ some.0 ∙ sym less.0
      ])
    ]

-- two blocks of one unit
pub other_block : (addr : Addr) (q r : ℕ) → q ≢ r → key_of addr q ≢ key_of addr r
other_block addr q r other = λ same. other (ap (λ (k : Key). k.rb) same)

-- blocks of two units
pub other_unit : (k key : Key) → k.addr ≢ key.addr → k ≢ key
other_unit k key other = λ same. other (ap (λ (k : Key). k.addr) same)

-- a call that is done has not broken what it was made on
pub stored_done : (broken : Bool) → stored broken ≡ Kept → broken ≡ false
stored_done false done = refl
stored_done true done = let reported = done in absurd (cc)
