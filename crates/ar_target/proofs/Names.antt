-- The names of units, and the serial numbers and designators that are made of them.
use Rattle.std.proofs.Common.{◌≡◌, ◌<◌, ◌+◌, ◌/◌, ◌%◌, ◌∙◌, ℕ, Bool, true, false, List, [], ◌∷◌}
use Rattle.std.proofs.Common.{refl, take, drop, get_or, sym, ap, arith}
use Rattle.std.specs.Prelude.{nat_lt, cond}
use Rattle.std.specs.Int.{w16, w32, to_be_bytes, from_be_bytes}
use Rattle.std.proofs.lemmas.Bool.{ltb-true, ltb-false}
use Rattle.std.proofs.lemmas.Nat.{from_be_bytes-to_be_bytes_2, from_be_bytes-to_be_bytes_4}
use Rattle.ar_target.specs.Laws.{TellsUnits}
use Rattle.ar_target.specs.Vpd.{hex_digit, hex_digits, unit_name, serial_number, short_generation, vendor_designator}
use Rattle.ar_target.specs.Vpd.{naa_designator}

-- a name has one array, one host, one LUN and one generation
pub name-tells : TellsUnits (λ generation. generation) unit_name
name-tells array other host host' lun lun' generation generation' fits fits' h h' l l' g g' e =
    let bytes : to_be_bytes w32 array ≡ to_be_bytes w32 other = ap (take 4) e in
    let last : to_be_bytes w16 generation ≡ to_be_bytes w16 generation' = ap (drop 6) e in (
      sym (from_be_bytes-to_be_bytes_4 array fits) ∙ ap (from_be_bytes w32) bytes
          ∙ from_be_bytes-to_be_bytes_4 other fits',
      ap (λ (l : List ℕ). get_or l 4 0) e,
      ap (λ (l : List ℕ). get_or l 5 0) e,
      sym (from_be_bytes-to_be_bytes_2 generation g) ∙ ap (from_be_bytes w16) last
          ∙ from_be_bytes-to_be_bytes_2 generation' g',
    )

-- the first two bytes of the NAA designator have one generation of twelve bits
front-tells : (m n : ℕ) → m < 4096 → n < 4096 → 48 + m / 256 ≡ 48 + n / 256 → m % 256 ≡ n % 256 → m ≡ n
front-tells m n small small' e e' = omega arith

-- the NAA designator ends in the array, the host and the LUN
pub naa-tells : TellsUnits short_generation naa_designator
naa-tells array other host host' lun lun' generation generation' fits fits' h h' l l' g g' e =
    let bytes : to_be_bytes w32 array ≡ to_be_bytes w32 other = ap (λ (l : List ℕ). take 4 (drop 6 l)) e in (
      sym (from_be_bytes-to_be_bytes_4 array fits) ∙ ap (from_be_bytes w32) bytes
          ∙ from_be_bytes-to_be_bytes_4 other fits',
      ap (λ (l : List ℕ). get_or l 10 0) e,
      ap (λ (l : List ℕ). get_or l 11 0) e,
      front-tells (generation % 4096) (generation' % 4096) (omega arith) (omega arith)
          (ap (λ (l : List ℕ). get_or l 4 0) e) (ap (λ (l : List ℕ). get_or l 5 0) e),
    )

-- a hexadecimal digit has one value
digit_same :
    (p q : Bool) (m n : ℕ) → nat_lt m 10 ≡ p → nat_lt n 10 ≡ q → m < 16 → n < 16
    → cond p (48 + m) (55 + m) ≡ cond q (48 + n) (55 + n) → m ≡ n
digit_same true true m n a b small small' e = omega arith
digit_same true false m n a b small small' e = let low = ltb-true m 10 a in let high = ltb-false n 10 b in omega arith
digit_same false true m n a b small small' e = let high = ltb-false m 10 a in let low = ltb-true n 10 b in omega arith
digit_same false false m n a b small small' e = omega arith

digit-tells : (m n : ℕ) → m < 16 → n < 16 → hex_digit m ≡ hex_digit n → m ≡ n
unfolding hex_digit
digit-tells m n small small' e = digit_same (nat_lt m 10) (nat_lt n 10) m n refl refl small small' e

-- two digits have one byte
byte-tells :
    (m n : ℕ) → m < 256 → n < 256 → hex_digit (m / 16) ≡ hex_digit (n / 16) → hex_digit (m % 16) ≡ hex_digit (n % 16)
    → m ≡ n
byte-tells m n small small' e e' =
    let high : m / 16 ≡ n / 16 = digit-tells (m / 16) (n / 16) (omega arith) (omega arith) e in
    let low : m % 16 ≡ n % 16 = digit-tells (m % 16) (n % 16) (omega arith) (omega arith) e' in omega arith

-- each is a byte
abbrev AreBytes : List ℕ → Type 0
AreBytes [] = Unit {0}
AreBytes (x ∷ xs) = (x < 256) × AreBytes xs

-- digits have one list of bytes
digits-tell : (xs ys : List ℕ) → AreBytes xs → AreBytes ys → hex_digits xs ≡ hex_digits ys → xs ≡ ys
digits-tell [] [] small small' e = refl
digits-tell [] (y ∷ ys) small small' e = cc
digits-tell (x ∷ xs) [] small small' e = cc
digits-tell (x ∷ xs) (y ∷ ys) small small' e =
    let head : x ≡ y =
    byte-tells x y small.0 small'.0 (ap (λ (l : List ℕ). get_or l 0 0) e) (ap (λ (l : List ℕ). get_or l 1 0) e) in
    let tail : xs ≡ ys = digits-tell xs ys small.1 small'.1 (ap (drop 2) e) in cc

-- a name is of bytes
name_bytes : (array host lun generation : ℕ) → host < 256 → lun < 256 → AreBytes (unit_name array host lun generation)
name_bytes array host lun generation h l =
    (omega arith, (omega arith, (omega arith, (omega arith, (h, (l, (omega arith, (omega arith, tt))))))))

-- the serial number has the digits of the name
pub serial-tells : TellsUnits (λ generation. generation) serial_number
serial-tells array other host host' lun lun' generation generation' fits fits' h h' l l' g g' e =
    name-tells array other host host' lun lun' generation generation' fits fits' h h' l l' g g'
    (digits-tell _ _ (name_bytes array host lun generation h l) (name_bytes other host' lun' generation' h' l') e)

-- the vendor's designator ends in the serial number
pub vendor-tells : TellsUnits (λ generation. generation) vendor_designator
vendor-tells array other host host' lun lun' generation generation' fits fits' h h' l l' g g' e =
    serial-tells array other host host' lun lun' generation generation' fits fits' h h' l l' g g' (ap (drop 12) e)
