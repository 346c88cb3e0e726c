-- The units that an array shows, before and after a call.
use Rattle.std.proofs.Common.{◌≡◌, ◌≢◌, ◌⊎◌, ℕ, zero, suc, ◌+◌, ◌-◌, ◌*◌, ◌/◌, ◌%◌, ◌<◌, ◌≤◌, Bool, true, false, cond}
use Rattle.std.proofs.Common.{List, ◌∷◌, ◌++◌, length, get_or, map, replicate, take, refl, sym, ap, ◌∙◌, inl, inr}
use Rattle.std.proofs.Common.{arith}
use Rattle.std.specs.List.{range_with_len}
use Rattle.std.proofs.lemmas.Bool.{cases_lt}
use Rattle.std.proofs.lemmas.List.{take-replicate, drop-replicate}
use Rattle.std.proofs.lemmas.List.Elements.{All-map}
use Rattle.std.proofs.lemmas.List.FromFn.{length-map-range_with_len}
use Rattle.ar_disks.specs.declared.address.Addr.{Addr}
use Rattle.ar_disks.specs.declared.address.Key.{Key}
use Rattle.ar_disks.specs.declared.geometry.Geometry.{Geometry}
use Rattle.ar_disks.specs.declared.geometry.Geometry.TheVariants.{Paper, Small}
use Rattle.ar_disks.specs.Geometry.{sectors_of, block_len_of}
use Rattle.ar_disks.specs.Block.{zeros, sectors_at}
use Rattle.ar_disks.proofs.Sectors.{sectors_at_is, length-sectors_at}
use Rattle.ar_book.specs.Tables.{Tables, has_unit}
use Rattle.ar_disks.proofs.Addresses.{same_host, make_addr, addr_tells}
use Rattle.ar_unit.specs.Sectors.{zero_sector, zero_sectors}
use Rattle.ar_unit.specs.Unit.{UnitState, Absent, Present, IsWhole}
use Rattle.ar_unit.specs.Broken.{Shape, shape_of}
use Rattle.ar_volume.specs.Sectors.{Address, address_of, same_address, sector_in, sectors_in, unit_block, key_of}
use Rattle.ar_volume.specs.Image.{ArrayState, is_broken, geometry_of, seen_at, length_at, attention_at, unit_sectors}
use Rattle.ar_volume.specs.Image.{image, image_at, at_numbers, at_address, IsPadded}
use Rattle.ar_volume.specs.Seen.{present_at, SameUnit}

-- the address of a host is found by its numbers
numbers_here : (units : Addr → UnitState) (addr : Addr) (test : (addr.host.number < 4) ⊎ (4 ≤ addr.host.number))
    → at_numbers units addr.host.number addr.lun test ≡ units addr
numbers_here units addr (inl is) =
    ap units (make_addr (record { host = record { number = addr.host.number; in_range = is }; lun = addr.lun }) addr
    (same_host (record { number = addr.host.number; in_range = is }) addr.host refl) refl)
numbers_here units addr (inr not) = let few = addr.host.in_range in absurd (omega arith)

pub image_here : (units : Addr → UnitState) (addr : Addr) → at_address units (address_of addr) ≡ units addr
unfolding at_address
image_here units addr = numbers_here units addr (cases_lt addr.host.number 4)

-- addresses are told apart by their numbers
pub same_address_of : (a b : Addr) → a ≡ b → same_address (address_of a) (address_of b) ≡ true
same_address_of a b same = elim (addr_tells a b) [ inl one ↦ one.0 | inr two ↦ absurd (two.1 same) ]

pub other_address_of : (a b : Addr) → a ≢ b → same_address (address_of a) (address_of b) ≡ false
other_address_of a b other = elim (addr_tells a b) [ inl one ↦ absurd (other one.1) | inr two ↦ two.0 ]

-- an address has a unit, or none
pub image_present : (s : ArrayState) (addr : Addr) → has_unit s.store.book addr ≡ true
    → image_at s addr ≡ present_at s addr
image_present s addr there = ap (λ b. cond b (present_at s addr) Absent) there

pub image_absent : (s : ArrayState) (addr : Addr) → has_unit s.store.book addr ≡ false → image_at s addr ≡ Absent
image_absent s addr none = ap (λ b. cond b (present_at s addr) Absent) none

pub length-unit_sectors : (s : ArrayState) (addr : Addr) → length (unit_sectors s addr) ≡ length_at s.store.book addr
length-unit_sectors s addr =
    length-map-range_with_len (sector_in (geometry_of s) (unit_block (seen_at s) addr)) 0 (length_at s.store.book addr)

-- functions that agree on a range give one list
pub map-range-same : {X : Type 0} (f h : ℕ → X) (a n : ℕ) → ((i : ℕ) → a ≤ i → i < a + n → f i ≡ h i)
    → map f (range_with_len a n) ≡ map h (range_with_len a n)
map-range-same f h a zero same = refl
map-range-same f h a (suc n) same =
    ap (λ x. x ∷ map f (range_with_len (a + 1) n)) (same a (omega arith) (omega arith))
    ∙ ap (λ xs. h a ∷ xs) (map-range-same f h (a + 1) n (λ i low high. same i (omega arith) (omega arith)))

-- a sector is given by its block
pub sector_same : (old new : ArrayState) (addr : Addr) (i : ℕ) → geometry_of new ≡ geometry_of old
    → ((k : Key) → k.addr ≡ addr → seen_at new k ≡ seen_at old k)
    → sector_in (geometry_of new) (unit_block (seen_at new) addr) i
    ≡ sector_in (geometry_of old) (unit_block (seen_at old) addr) i
unfolding sector_in
sector_same old new addr i shape blocks =
    ap (λ b. sectors_at b (i % sectors_of (geometry_of new)) 1)
    (blocks (key_of addr (i / sectors_of (geometry_of new))) refl)
    ∙ ap (λ (g : Geometry). sectors_at (seen_at old (key_of addr (i / sectors_of g))) (i % sectors_of g) 1) shape

-- what the unit shows is given by its length, its mark and its blocks
pub sectors_same : (old new : ArrayState) (addr : Addr) (n : ℕ) → geometry_of new ≡ geometry_of old
    → ((k : Key) → k.addr ≡ addr → seen_at new k ≡ seen_at old k)
    → sectors_in (geometry_of new) (unit_block (seen_at new) addr) 0 n
    ≡ sectors_in (geometry_of old) (unit_block (seen_at old) addr) 0 n
sectors_same old new addr n shape blocks =
    map-range-same (sector_in (geometry_of new) (unit_block (seen_at new) addr))
    (sector_in (geometry_of old) (unit_block (seen_at old) addr)) 0 n
    (λ i low high. sector_same old new addr i shape blocks)

pub present_same : (old new : ArrayState) (addr : Addr) → length_at new.store.book addr ≡ length_at old.store.book addr
    → attention_at new.store.book addr ≡ attention_at old.store.book addr
    → geometry_of new ≡ geometry_of old → ((k : Key) → k.addr ≡ addr → seen_at new k ≡ seen_at old k)
    → present_at new addr ≡ present_at old addr
present_same old new addr sectors mark shape blocks =
    ap (λ n. Present (sectors_in (geometry_of new) (unit_block (seen_at new) addr) 0 n)
    (attention_at new.store.book addr)) sectors
    ∙ ap (λ m. Present (sectors_in (geometry_of new) (unit_block (seen_at new) addr) 0 (length_at old.store.book addr))
    m) mark
    ∙ ap (λ l. Present l (attention_at old.store.book addr))
    (sectors_same old new addr (length_at old.store.book addr) shape blocks)

pub image_same : (old new : ArrayState) (addr : Addr) → SameUnit old.store.book new.store.book addr
    → geometry_of new ≡ geometry_of old
    → ((k : Key) → k.addr ≡ addr → seen_at new k ≡ seen_at old k) → image_at new addr ≡ image_at old addr
image_same old new addr unit shape blocks =
    ap (λ b. cond b (present_at new addr) Absent) unit.there
    ∙ ap (λ (u : UnitState). cond (has_unit old.store.book addr) u Absent)
    (present_same old new addr unit.sectors unit.mark shape blocks)

-- the shape that the tables say a unit has
abbrev pub shape_by : Tables → Addr → Shape
shape_by t addr =
    cond (has_unit t addr) (record { present = true; sectors = length_at t addr; attention = attention_at t addr })
    (record { present = false; sectors = 0; attention = false })

pub shape_here : (s : ArrayState) (addr : Addr) → shape_of (image_at s addr) ≡ shape_by s.store.book addr
shape_here s addr = by (has_unit s.store.book addr)
  where
    by : (b : Bool) → shape_of (cond b (present_at s addr) Absent)
        ≡ cond b (record {
          present = true;
          sectors = length_at s.store.book addr;
          attention = attention_at s.store.book addr;
        }) (record { present = false; sectors = 0; attention = false })
    by true = ap (λ n. record { present = true; sectors = n; attention = attention_at s.store.book addr })
        (length-unit_sectors s addr)
    by false = refl

pub shape_same : (old new : ArrayState) (addr : Addr) → SameUnit old.store.book new.store.book addr
    → shape_of (image_at new addr) ≡ shape_of (image_at old addr)
shape_same old new addr unit =
    shape_here new addr
    ∙ ap (λ b. cond b
    (record { present = true; sectors = length_at new.store.book addr; attention = attention_at new.store.book addr })
    (record { present = false; sectors = 0; attention = false })) unit.there
    ∙ ap (λ n. cond (has_unit old.store.book addr)
    (record { present = true; sectors = n; attention = attention_at new.store.book addr })
    (record { present = false; sectors = 0; attention = false })) unit.sectors
    ∙ ap (λ m. cond (has_unit old.store.book addr)
    (record { present = true; sectors = length_at old.store.book addr; attention = m })
    (record { present = false; sectors = 0; attention = false })) unit.mark
    ∙ sym (shape_here old addr)

some_mod : (g : Geometry) (i : ℕ) → i % sectors_of g < sectors_of g
some_mod Paper i = omega arith
some_mod Small i = omega arith

-- a sector of zeros
pub sectors_at-zero : (n i : ℕ) → i < n → sectors_at (zeros (n * 512)) i 1 ≡ zero_sector
unfolding zeros zero_sector
sectors_at-zero n i within =
    sectors_at_is (replicate (n * 512) 0) i 1 ∙ ap (λ l. take 512 l) (drop-replicate (512 * i) (n * 512) 0)
    ∙ take-replicate 512 (n * 512 - 512 * i) 0 (omega arith)

-- a sector of a block of zeros
pub sectors_at-zeros : (g : Geometry) (f : ℕ) → f < sectors_of g → sectors_at (zeros (block_len_of g)) f 1 ≡ zero_sector
unfolding zeros zero_sector
sectors_at-zeros Paper f within =
    sectors_at_is (replicate 65536 0) f 1 ∙ ap (λ l. take 512 l) (drop-replicate (512 * f) 65536 0)
    ∙ take-replicate 512 (65536 - 512 * f) 0 (omega arith)
sectors_at-zeros Small f within =
    sectors_at_is (replicate 1024 0) f 1 ∙ ap (λ l. take 512 l) (drop-replicate (512 * f) 1024 0)
    ∙ take-replicate 512 (1024 - 512 * f) 0 (omega arith)

-- a unit whose blocks are zeros shows zeros
pub sector_in-zeros : (g : Geometry) (blocks : ℕ → List ℕ) (i : ℕ) → blocks (i / sectors_of g) ≡ zeros (block_len_of g)
    → sector_in g blocks i ≡ zero_sector
unfolding sector_in
sector_in-zeros g blocks i same =
    ap (λ b. sectors_at b (i % sectors_of g) 1) same ∙ sectors_at-zeros g (i % sectors_of g) (some_mod g i)

-- a list of one element throughout
pub map-constant : {X : Type 0} (f : ℕ → X) (x : X) (a n : ℕ) → ((i : ℕ) → a ≤ i → f i ≡ x)
    → map f (range_with_len a n) ≡ replicate n x
map-constant f x a zero same = refl
map-constant f x a (suc n) same =
    ap (λ y. y ∷ map f (range_with_len (a + 1) n)) (same a (omega arith))
    ∙ ap (λ ys. x ∷ ys) (map-constant f x (a + 1) n (λ i low. same i (omega arith)))

-- a range in two
pub map-range-add : {X : Type 0} (f : ℕ → X) (a n m : ℕ)
    → map f (range_with_len a (n + m)) ≡ map f (range_with_len a n) ++ map f (range_with_len (a + n) m)
map-range-add f a zero m =
    let none : 0 + m ≡ m = omega arith in
    let here : a ≡ a + 0 = omega arith in
    ap (λ k. map f (range_with_len a k)) none ∙ ap (λ k. map f (range_with_len k m)) here
map-range-add f a (suc n) m =
    let count : suc n + m ≡ suc (n + m) = omega arith in
    let next : a + 1 + n ≡ a + suc n = omega arith in
    ap (λ k. map f (range_with_len a k)) count
    ∙ ap (λ xs. f a ∷ xs) (map-range-add f (a + 1) n m
    ∙ ap (λ k. map f (range_with_len (a + 1) n) ++ map f (range_with_len k m)) next)

-- what a longer unit would show of a padded array
pub padded_sectors : (s : ArrayState) (addr : Addr) (n : ℕ) → IsPadded s → is_broken s ≡ false
    → length_at s.store.book addr ≤ n
    → sectors_in (geometry_of s) (unit_block (seen_at s) addr) 0 n
    ≡ unit_sectors s addr ++ zero_sectors (n - length_at s.store.book addr)
padded_sectors s addr n padded sound more =
    let m : ℕ = length_at s.store.book addr in
    let f : ℕ → List ℕ = sector_in (geometry_of s) (unit_block (seen_at s) addr) in
    let split : n ≡ m + (n - m) = omega arith in
    ap (λ k. map f (range_with_len 0 k)) split
    ∙ map-range-add f 0 m (n - m)
    ∙ ap (λ l. map f (range_with_len 0 m) ++ l)
    (map-constant f zero_sector (0 + m) (n - m) (λ i low. padded.zeros sound addr i (omega arith)))

-- an array is padded where another was, its units are as long or longer, and its blocks are the same
pub padded_same : (old new : ArrayState) → IsPadded old → (is_broken new ≡ false → is_broken old ≡ false)
    → geometry_of new ≡ geometry_of old
    → ((addr : Addr) → length_at old.store.book addr ≤ length_at new.store.book addr)
    → (is_broken new ≡ false → (k : Key) → seen_at new k ≡ seen_at old k) → IsPadded new
padded_same old new padded was shape lengths blocks = record {
  zeros = λ now addr i past. sector_same old new addr i shape (λ k _. blocks now k)
      ∙ padded.zeros (was now) addr i (omega (arith, lengths addr));
}

sector_fits : (g : Geometry) (i len : ℕ) → len ≡ block_len_of g → 512 * (i % sectors_of g + 1) ≤ len
sector_fits Paper i len whole = omega arith
sector_fits Small i len whole = omega arith

-- where blocks are whole, a sector has its bytes
pub length-sector_in : (g : Geometry) (blocks : ℕ → List ℕ) (i : ℕ) → ((rb : ℕ) → length (blocks rb) ≡ block_len_of g)
    → length (sector_in g blocks i) ≡ 512
unfolding sector_in
length-sector_in g blocks i whole =
    length-sectors_at (blocks (i / sectors_of g)) (i % sectors_of g) 1
    (sector_fits g i (length (blocks (i / sectors_of g))) (whole (i / sectors_of g)))

-- and so has each sector of each image
pub image_whole : (s : ArrayState) → ((k : Key) → length (seen_at s k) ≡ block_len_of (geometry_of s)) → (a : Address)
    → IsWhole (image s a)
unfolding at_address
image_whole s whole a = at_number (cases_lt a.0 4)
  where
    at : (addr : Addr) (there : Bool) → IsWhole (cond there (present_at s addr) Absent)
    at addr true =
        (let numbers = range_with_len 0 (length_at s.store.book addr) in
        All-map (λ sector. length sector ≡ 512) (sector_in (geometry_of s) (unit_block (seen_at s) addr)) numbers
        (λ k d within. length-sector_in (geometry_of s) (unit_block (seen_at s) addr) (get_or numbers k d)
        (λ rb. whole (key_of addr rb))))
    at addr false = tt

    at_number : (test : (a.0 < 4) ⊎ (4 ≤ a.0)) → IsWhole (at_numbers (image_at s) a.0 a.1 test)
    at_number (inl is) =
        (let addr : Addr = record { host = record { number = a.0; in_range = is }; lun = a.1 } in
        at addr (has_unit s.store.book addr))
    at_number (inr not) = tt
