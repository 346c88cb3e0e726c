-- A field that is read is the field that was written, and what was written is read again.
use Rattle.std.proofs.Common.{◌≡◌, ℕ, zero, suc, ◌+◌, ◌^◌, ◌<◌, ◌≤◌, Bool, true, false, cond, ltb, List, [], ◌∷◌, ◌++◌}
use Rattle.std.proofs.Common.{length, get_or, take, drop, Option, Some, None, refl, sym, ap, subst, ◌∙◌, append_assoc}
use Rattle.std.proofs.Common.{arith, inl, inr}
use Rattle.std.specs.Int.{Width, w32, w64, byte_len, from_be_bytes, to_be_bytes}
use Rattle.std.proofs.lemmas.Bool.{cases_lt, ltb-true, ltb-false, le-ltb, lt-ltb}
use Rattle.std.proofs.lemmas.List.{take_at, drop_at, take-append-drop, length-append, length-take, get_or-drop}
use Rattle.std.proofs.lemmas.List.{get_or-take, get_or_past}
use Rattle.std.proofs.lemmas.Nat.{be_bytes_4, be_bytes_8, from_be_bytes-to_be_bytes_4, from_be_bytes-to_be_bytes_8}
use Rattle.ar_record.specs.Record.{HasUnitNumbers}
use Rattle.ar_record.specs.Reading.{◌>>=◌, bytes_at, number_at, named_unit_at, sized_at}

abbrev pub IsBytes : List ℕ → Type 0
IsBytes bytes = (i : ℕ) → get_or bytes i 0 < 256

IsBytes-drop : (n : ℕ) (bytes : List ℕ) → IsBytes bytes → IsBytes (drop n bytes)
IsBytes-drop n bytes h i = rw get_or-drop (h (n + i))

IsBytes-take : (n : ℕ) (bytes : List ℕ) → IsBytes bytes → IsBytes (take n bytes)
IsBytes-take n bytes h i =
    elim (cases_lt i n) [
      | inl lt ↦ rw (get_or-take n bytes i 0 lt) (h i)
      | inr le ↦ rw (get_or_past (take n bytes) i 0 (omega (arith, length-take n bytes))) (omega arith)
    ]

pub IsBytes-rest : (b : ℕ) (bytes : List ℕ) → IsBytes (b ∷ bytes) → IsBytes bytes
IsBytes-rest b bytes h i = h (suc i)

-- the value of a step that did not fail
pub bind_some : {A B : Type 0} (r : Option A) (f : A → Option B) (y : B) → (r >>= f) ≡ Some y → (x : A) × (r ≡ Some x)
    × (f x ≡ Some y)
bind_some (Some x) f y e = (x, refl, e)
bind_some None f y e = absurd cc

-- a test that did not fail
pub guard_some : {A : Type 0} (b : Bool) (x y : A) → cond b None (Some x) ≡ Some y → (b ≡ false) × (x ≡ y)
guard_some true x y e = absurd cc
guard_some false x y e = (refl, cc)

pub test_some : {A : Type 0} (b : Bool) (x y : A) → cond b (Some x) None ≡ Some y → (b ≡ true) × (x ≡ y)
test_some true x y e = (refl, cc)
test_some false x y e = absurd cc

abbrev found : {A : Type 0} → A → Option A
found x = Some x

pub some_is : {A : Type 0} (x y : A) → found x ≡ found y → x ≡ y
some_is x y e = cc

-- what a reader took from the front
pub record Takes (bytes text rest : List ℕ) : Type 0 where
  pub parts : bytes ≡ text ++ rest
  pub rest_fits : IsBytes rest

pub Takes-then : (a x b y c : List ℕ) → Takes a x b → Takes b y c → Takes a (x ++ y) c
Takes-then a x b y c p q =
    record { parts = p.parts ∙ ap (λ (t : List ℕ). x ++ t) q.parts ∙ sym (append_assoc x y c); rest_fits = q.rest_fits }

pub Takes-byte : (b : ℕ) (bytes text rest : List ℕ) → Takes bytes text rest → Takes (b ∷ bytes) (b ∷ text) rest
Takes-byte b bytes text rest t = record { parts = ap (λ (w : List ℕ). b ∷ w) t.parts; rest_fits = t.rest_fits }

-- ---- numbers

pub record IsWide (w : Width) (limit : ℕ) : Type 0 where
  pub len : (n : ℕ) → length (to_be_bytes w n) ≡ byte_len w
  pub back : (bytes : List ℕ) → length bytes ≡ byte_len w → IsBytes bytes
      → to_be_bytes w (from_be_bytes w bytes) ≡ bytes
  pub again : (n : ℕ) → n < limit → from_be_bytes w (to_be_bytes w n) ≡ n
  pub below : (bytes : List ℕ) → IsBytes bytes → from_be_bytes w bytes < limit

wide32 : IsWide w32 (2 ^ 32)
wide32 = record {
  len = λ n. refl;
  back = λ bytes len fits. be_bytes_4 bytes _ len fits refl;
  again = λ n lt. from_be_bytes-to_be_bytes_4 n lt;
  below = λ bytes fits. omega (arith, fits 0, fits 1, fits 2, fits 3);
}

wide64 : IsWide w64 (2 ^ 64)
wide64 = record {
  len = λ n. refl;
  back = λ bytes len fits. be_bytes_8 bytes _ len fits refl;
  again = λ n lt. from_be_bytes-to_be_bytes_8 n lt;
  below = λ bytes fits. omega (arith, fits 0, fits 1, fits 2, fits 3, fits 4, fits 5, fits 6, fits 7);
}

wide_takes : (w : Width) (limit : ℕ) (wide : IsWide w limit) (bytes : List ℕ) (x : ℕ × List ℕ) → IsBytes bytes
    → number_at w bytes ≡ Some x → Takes bytes (to_be_bytes w x.0) x.1 × (x.0 < limit)
wide_takes w limit wide bytes x fits e =
    let g = guard_some (ltb (length bytes) (byte_len w))
    (from_be_bytes w (take (byte_len w) bytes), drop (byte_len w) bytes) x e in
    let long : byte_len w ≤ length bytes = ltb-false _ _ g.0 in
    let front : to_be_bytes w (from_be_bytes w (take (byte_len w) bytes)) ≡ take (byte_len w) bytes =
    wide.back (take (byte_len w) bytes) (omega (arith, length-take (byte_len w) bytes))
    (IsBytes-take (byte_len w) bytes fits) in
    subst (λ (y : ℕ × List ℕ). Takes bytes (to_be_bytes w y.0) y.1 × (y.0 < limit)) g.1 (
      record {
        parts =
            subst (λ (t : List ℕ). bytes ≡ t ++ drop (byte_len w) bytes) (sym front)
            (sym (take-append-drop (byte_len w) bytes));
        rest_fits = IsBytes-drop (byte_len w) bytes fits;
      },
      wide.below
          (take (byte_len w) bytes) (IsBytes-take (byte_len w) bytes fits),
    )

wide_again : (w : Width) (limit : ℕ) (wide : IsWide w limit) (n : ℕ) (rest : List ℕ) → n < limit
    → number_at w (to_be_bytes w n ++ rest) ≡ Some (n, rest)
wide_again w limit wide n rest lt =
    let len = wide.len n in
    let long : ltb (length (to_be_bytes w n ++ rest)) (byte_len w) ≡ false =
    le-ltb _ _ (omega (arith, length-append (to_be_bytes w n) rest)) in
    rw (
      long,
      take_at (to_be_bytes w n) rest (byte_len w) len,
      drop_at (to_be_bytes w n) rest
          (byte_len w) len,
      wide.again n lt,
    ) refl

pub number_takes : (bytes : List ℕ) (x : ℕ × List ℕ) → IsBytes bytes → number_at w32 bytes ≡ Some x
    → Takes bytes (to_be_bytes w32 x.0) x.1 × (x.0 < 2 ^ 32)
number_takes bytes x fits e = wide_takes w32 (2 ^ 32) wide32 bytes x fits e

pub number_again : (n : ℕ) (rest : List ℕ) → n < 2 ^ 32 → number_at w32 (to_be_bytes w32 n ++ rest) ≡ Some (n, rest)
number_again n rest lt = wide_again w32 (2 ^ 32) wide32 n rest lt

pub wide_number_takes : (bytes : List ℕ) (x : ℕ × List ℕ) → IsBytes bytes → number_at w64 bytes ≡ Some x
    → Takes bytes (to_be_bytes w64 x.0) x.1 × (x.0 < 2 ^ 64)
wide_number_takes bytes x fits e = wide_takes w64 (2 ^ 64) wide64 bytes x fits e

pub wide_number_again : (n : ℕ) (rest : List ℕ) → n < 2 ^ 64
    → number_at w64 (to_be_bytes w64 n ++ rest) ≡ Some (n, rest)
wide_number_again n rest lt = wide_again w64 (2 ^ 64) wide64 n rest lt

-- ---- bytes

pub bytes_take : (count : ℕ) (bytes : List ℕ) (x : List ℕ × List ℕ) → IsBytes bytes → bytes_at count bytes ≡ Some x
    → Takes bytes x.0 x.1 × (length x.0 ≡ count)
bytes_take count bytes x fits e =
    let g = guard_some (ltb (length bytes) count) (take count bytes, drop count bytes) x e in
    let long : count ≤ length bytes = ltb-false _ _ g.0 in
    subst (λ (y : List ℕ × List ℕ). Takes bytes y.0 y.1 × (length y.0 ≡ count)) g.1 (
      record { parts = sym (take-append-drop count bytes); rest_fits = IsBytes-drop count bytes fits },
      omega
          (arith, length-take count bytes),
    )

pub bytes_again : (count : ℕ) (text rest : List ℕ) → length text ≡ count
    → bytes_at count (text ++ rest) ≡ Some (text, rest)
bytes_again count text rest len =
    let long : ltb (length (text ++ rest)) count ≡ false = le-ltb _ _ (omega (arith, length-append text rest)) in
    rw (long, take_at text rest count len, drop_at text rest count len) refl

-- ---- a unit

pub unit_takes : (bytes : List ℕ) (x : (ℕ × ℕ) × List ℕ) → IsBytes bytes → named_unit_at bytes ≡ Some x
    → Takes bytes (x.0.0 ∷ x.0.1 ∷ []) x.1 × HasUnitNumbers x.0.0 x.0.1
unit_takes [] x fits e = absurd cc
unit_takes (host ∷ []) x fits e = absurd cc
unit_takes (host ∷ lun ∷ rest) x fits e =
    let g = test_some (ltb host 4) ((host, lun), rest) x e in
    subst (λ (y : (ℕ × ℕ) × List ℕ). Takes (host ∷ lun ∷ rest) (y.0.0 ∷ y.0.1 ∷ []) y.1 × HasUnitNumbers y.0.0 y.0.1)
    g.1 (
      record { parts = refl; rest_fits = λ i. fits (suc (suc i)) },
      record {
        host_known = ltb-true _ _ g.0;
        lun_fits =
            fits 1;
      },
    )

pub unit_again : (host lun : ℕ) (rest : List ℕ) → HasUnitNumbers host lun
    → named_unit_at (host ∷ lun ∷ rest) ≡ Some ((host, lun), rest)
unit_again host lun rest is = rw (lt-ltb host 4 is.host_known) refl

pub sized_takes : (bytes : List ℕ) (x : ((ℕ × ℕ) × ℕ) × List ℕ) → IsBytes bytes → sized_at bytes ≡ Some x
    → Takes bytes (x.0.0.0 ∷ x.0.0.1 ∷ to_be_bytes w32 x.0.1) x.1 × (HasUnitNumbers x.0.0.0 x.0.0.1 × (x.0.1 < 2 ^ 32))
unfolding sized_at
sized_takes bytes x fits e =
    let a = bind_some (named_unit_at bytes)
    (λ unit. number_at w32 unit.1 >>= λ sectors. Some ((unit.0, sectors.0), sectors.1)) x e in
    let b = bind_some (number_at w32 a.0.1) (λ sectors. Some ((a.0.0, sectors.0), sectors.1)) x a.2 in
    let t0 = unit_takes bytes a.0 fits a.1 in
    let t1 = number_takes a.0.1 b.0 t0.0.rest_fits b.1 in
    let both = Takes-then bytes (a.0.0.0 ∷ a.0.0.1 ∷ []) a.0.1 (to_be_bytes w32 b.0.0) b.0.1 t0.0 t1.0 in
    subst (λ (y : ((ℕ × ℕ) × ℕ) × List ℕ). Takes bytes (y.0.0.0 ∷ y.0.0.1 ∷ to_be_bytes w32 y.0.1) y.1
    × (HasUnitNumbers y.0.0.0 y.0.0.1 × (y.0.1 < 2 ^ 32)))
    (some_is ((a.0.0, b.0.0), b.0.1) x b.2) (both, (t0.1, t1.1))

pub sized_again : (host lun sectors : ℕ) (rest : List ℕ) → HasUnitNumbers host lun → sectors < 2 ^ 32
    → sized_at (host ∷ lun ∷ (to_be_bytes w32 sectors ++ rest)) ≡ Some (((host, lun), sectors), rest)
unfolding sized_at
sized_again host lun sectors rest is lt =
    rw (unit_again host lun (to_be_bytes w32 sectors ++ rest) is, number_again sectors rest lt) refl
