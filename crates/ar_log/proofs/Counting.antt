-- A batch that is torn over zeros has lost some of its length or has more zeros than it counts.
use Rattle.std.proofs.Common.{◌≡◌, ◌⊎◌, inl, inr, ℕ, zero, suc, ◌+◌, ◌-◌, ◌*◌, ◌<◌, ◌≤◌, ◌^◌, List, [], ◌∷◌, ◌++◌}
use Rattle.std.proofs.Common.{length, take, drop, refl, sym, ◌∙◌, ap, subst, arith, append_assoc, length-append}
use Rattle.std.proofs.Common.{length-drop, take-append-drop}
use Rattle.std.proofs.lemmas.Bool.{cases_lt}
use Rattle.std.proofs.lemmas.List.{length-take-le, take_at, take_all, drop_at, drop-drop, drop_all, append-nil}
use Rattle.ar_log.specs.Codec.{number_bytes, number_of}
use Rattle.ar_log.specs.Zeroed.{zero_of, zeros_in, IsTornOf, AreZeros, most, counted_body, len_in, lack_in, count_in}
use Rattle.ar_log.specs.Zeroed.{body_in, Lacks}
use Rattle.ar_log.proofs.Encoding.{length_number_bytes, number_back}

-- a part of what is left is what is left of that part
zeros_take : (t : List ℕ) (n : ℕ) → AreZeros t → AreZeros (take n t)
zeros_take t zero torn = tt
zeros_take [] (suc n) torn = tt
zeros_take (c ∷ t) (suc n) torn = (torn.0, zeros_take t n torn.1)

pub zeros_drop : (t : List ℕ) (n : ℕ) → AreZeros t → AreZeros (drop n t)
zeros_drop t zero torn = torn
zeros_drop [] (suc n) torn = tt
zeros_drop (c ∷ t) (suc n) torn = zeros_drop t n torn.1

pub torn_take : (p t : List ℕ) (n : ℕ) → IsTornOf p t → IsTornOf (take n p) (take n t)
torn_take p t zero torn = tt
torn_take p [] (suc n) torn = tt
torn_take [] (c ∷ t) (suc n) torn = (torn.0, zeros_take t n torn.1)
torn_take (b ∷ p) (c ∷ t) (suc n) torn = (torn.0, torn_take p t n torn.1)

pub torn_drop : (p t : List ℕ) (n : ℕ) → IsTornOf p t → IsTornOf (drop n p) (drop n t)
torn_drop p t zero torn = torn
torn_drop p [] (suc n) torn = tt
torn_drop [] (c ∷ t) (suc n) torn = zeros_drop t n torn.1
torn_drop (b ∷ p) (c ∷ t) (suc n) torn = torn_drop p t n torn.1

-- a byte that is lost adds a zero, or was one
zero_of-le : (b : ℕ) → zero_of b ≤ 1
zero_of-le zero = omega arith
zero_of-le (suc b) = omega arith

zeros_few : (l : List ℕ) → zeros_in l ≤ length l
zeros_few [] = omega arith
zeros_few (b ∷ l) = omega (arith, zero_of-le b, zeros_few l)

zero_if : (b : ℕ) → 1 ≤ zero_of b → 0 ≡ b
zero_if zero some = refl
zero_if (suc b) some = absurd (omega (arith, some))

pub zeros_le : (p t : List ℕ) → IsTornOf p t → length t ≡ length p → zeros_in p ≤ zeros_in t
zeros_le [] [] torn size = omega arith
zeros_le [] (c ∷ t) torn size = absurd (omega (arith, size))
zeros_le (b ∷ p) [] torn size = absurd (omega (arith, size))
zeros_le (b ∷ p) (c ∷ t) torn size =
    let rest = zeros_le p t torn.1 (omega (arith, size)) in
    elim torn.0 [
      | inl none ↦ omega (arith, rest, zero_of-le b, ap zero_of none)
      | inr same ↦ omega (arith, rest, ap zero_of same)
    ]

pub zeros_same : (p t : List ℕ) → IsTornOf p t → length t ≡ length p → zeros_in t ≤ zeros_in p → t ≡ p
zeros_same [] [] torn size few = refl
zeros_same [] (c ∷ t) torn size few = absurd (omega (arith, size))
zeros_same (b ∷ p) [] torn size few = absurd (omega (arith, size))
zeros_same (b ∷ p) (c ∷ t) torn size few =
    let le = zeros_le p t torn.1 (omega (arith, size)) in
    elim torn.0 [
      | inl none ↦
          let one : zero_of c ≡ 1 = ap zero_of none in
          let b_is : c ≡ b = none ∙ zero_if b (omega (arith, few, le, one)) in
          let rest : t ≡ p =
          zeros_same p t torn.1 (omega (arith, size)) (omega (arith, few, one, zero_of-le b)) in
          ap (λ (x : ℕ). x ∷ t) b_is ∙ ap (λ (l : List ℕ). b ∷ l) rest
      | inr same ↦
          let rest : t ≡ p =
          zeros_same p t torn.1 (omega (arith, size)) (omega (arith, few, ap zero_of same)) in
          ap (λ (x : ℕ). x ∷ t) same ∙ ap (λ (l : List ℕ). b ∷ l) rest
    ]

-- the number of some bytes, the lowest first
value : List ℕ → ℕ
value [] = 0
value (b ∷ bytes) = b + 256 * value bytes

-- a number that has lost a byte is smaller
value_le : (p t : List ℕ) → IsTornOf p t → value t ≤ value p
unfolding value
value_le p [] torn = omega arith
value_le [] (c ∷ t) torn = omega (arith, torn.0, value_le [] t torn.1)
value_le (b ∷ p) (c ∷ t) torn =
    let rest = value_le p t torn.1 in
    elim torn.0 [ inl none ↦ omega (arith, none, rest) | inr same ↦ omega (arith, same, rest) ]

value_same : (p t : List ℕ) → IsTornOf p t → length t ≡ length p → value p ≤ value t → t ≡ p
unfolding value
value_same [] [] torn size le = refl
value_same [] (c ∷ t) torn size le = absurd (omega (arith, size))
value_same (b ∷ p) [] torn size le = absurd (omega (arith, size))
value_same (b ∷ p) (c ∷ t) torn size le =
    let less = value_le p t torn.1 in
    let first : c ≤ b = elim torn.0 [ inl none ↦ omega (arith, none) | inr same ↦ omega (arith, same) ] in
    let c_is : c ≡ b = omega (arith, le, less, first) in
    let rest : t ≡ p = value_same p t torn.1 (omega (arith, size)) (omega (arith, le, first)) in
    ap (λ (x : ℕ). x ∷ t) c_is ∙ ap (λ (l : List ℕ). b ∷ l) rest

value_eight : (bs : List ℕ) → length bs ≡ 8 → number_of bs ≡ value bs
unfolding value number_of
value_eight [] l = absurd (omega (arith, l))
value_eight (a ∷ []) l = absurd (omega (arith, l))
value_eight (a ∷ b ∷ []) l = absurd (omega (arith, l))
value_eight (a ∷ b ∷ c ∷ []) l = absurd (omega (arith, l))
value_eight (a ∷ b ∷ c ∷ d ∷ []) l = absurd (omega (arith, l))
value_eight (a ∷ b ∷ c ∷ d ∷ e ∷ []) l = absurd (omega (arith, l))
value_eight (a ∷ b ∷ c ∷ d ∷ e ∷ f ∷ []) l = absurd (omega (arith, l))
value_eight (a ∷ b ∷ c ∷ d ∷ e ∷ f ∷ g ∷ []) l = absurd (omega (arith, l))
value_eight (a ∷ b ∷ c ∷ d ∷ e ∷ f ∷ g ∷ h ∷ []) l = omega arith
value_eight (a ∷ b ∷ c ∷ d ∷ e ∷ f ∷ g ∷ h ∷ x ∷ bs) l = absurd (omega (arith, l))

number_le : (p t : List ℕ) → IsTornOf p t → length p ≡ 8 → length t ≡ 8 → number_of t ≤ number_of p
number_le p t torn size_p size_t =
    omega (arith, value_le p t torn, value_eight p size_p, value_eight t size_t)

number_same : (p t : List ℕ) → IsTornOf p t → length p ≡ 8 → length t ≡ 8 → number_of p ≤ number_of t → t ≡ p
number_same p t torn size_p size_t le =
    value_same p t torn (size_t ∙ sym size_p) (omega (arith, le, value_eight p size_p, value_eight t size_t))

-- the parts of bytes of which some are left
long_part : (t : List ℕ) (at : ℕ) → at + 8 ≤ length t → length (take 8 (drop at t)) ≡ 8
long_part t at long = length-take-le 8 (drop at t) (omega (arith, long, length-drop at t))

no_value : (t : List ℕ) → AreZeros t → value t ≤ 0
unfolding value
no_value [] none = omega arith
no_value (c ∷ t) none = omega (arith, none.0, no_value t none.1)

no_number : (t : List ℕ) → AreZeros t → length t ≡ 8 → number_of t ≡ 0
no_number t none size = omega (arith, no_value t none, value_eight t size)

-- nothing but zeros lacks a batch
pub zeros_lack : (t : List ℕ) → AreZeros t → Lacks t
zeros_lack t zeros = elim (cases_lt (length t) 24) [
  | inl short ↦ inl short
  | inr long ↦
      let first : len_in t ≡ 0 =
      no_number (take 8 t) (zeros_take t 8 zeros) (length-take-le 8 t (omega (arith, long))) in
      let second : lack_in t ≡ 0 =
      no_number (take 8 (drop 8 t)) (zeros_take (drop 8 t) 8 (zeros_drop t 8 zeros))
      (long_part t 8 (omega (arith, long))) in
      inr (inl (omega (arith, first, second)))
]

lacks_body : (p t : List ℕ) → IsTornOf p t → length t ≡ length p → 24 ≤ length t → len_in t ≤ len_in p
    → lack_in t ≤ lack_in p → count_in t ≤ count_in p
    → most ≤ len_in t + lack_in t
    → (len_in p + lack_in p ≡ most)
    × ((length p < 24 + len_in p) ⊎ (count_in p < zeros_in (body_in p)))
    → (len_in t + lack_in t ≡ most)
    × ((length t < 24 + len_in t) ⊎ (count_in t < zeros_in (body_in t)))
lacks_body p t torn size long len lack count enough rest =
    let same : len_in t ≡ len_in p = omega (arith, rest.0, enough, len, lack) in
    let sum : len_in t + lack_in t ≡ most = omega (arith, rest.0, enough, len, lack) in (
      sum,
      elim rest.1 [
        | inl short ↦ inl (omega (arith, short, same, size))
        | inr more ↦ elim (cases_lt (length t) (24 + len_in t)) [
          | inl short ↦ inl short
          | inr fits ↦
              let torn_body : IsTornOf (take (len_in t) (drop 24 p)) (body_in t) =
              torn_take (drop 24 p) (drop 24 t) (len_in t) (torn_drop p t 24 torn) in
              let size_t : length (body_in t) ≡ len_in t =
              length-take-le (len_in t) (drop 24 t) (omega (arith, fits, length-drop 24 t)) in
              let size_p : length (take (len_in t) (drop 24 p)) ≡ len_in t =
              length-take-le (len_in t) (drop 24 p) (omega (arith, fits, size, length-drop 24 p)) in
              let zeros = zeros_le (take (len_in t) (drop 24 p)) (body_in t) torn_body
              (size_t ∙ sym size_p) in
              let same_body : zeros_in (take (len_in t) (drop 24 p)) ≡ zeros_in (body_in p) =
              ap (λ (n : ℕ). zeros_in (take n (drop 24 p))) same in
              inr (omega (arith, more, count, zeros, same_body))
        ]
      ],
    )

-- what lacks some of a batch lacks it still when more is lost
pub lacks_torn : (p t : List ℕ) → IsTornOf p t → length t ≡ length p → Lacks p → Lacks t
lacks_torn p t torn size lacks = elim (cases_lt (length t) 24) [
  | inl short ↦ inl short
  | inr long ↦ numbers long
]
  where
    numbers : 24 ≤ length t → Lacks t
    numbers long =
        let len : len_in t ≤ len_in p =
        number_le (take 8 p) (take 8 t) (torn_take p t 8 torn) (length-take-le 8 p (omega (arith, long, size)))
        (length-take-le 8 t (omega (arith, long))) in
        let lack : lack_in t ≤ lack_in p =
        number_le (take 8 (drop 8 p)) (take 8 (drop 8 t)) (torn_take (drop 8 p) (drop 8 t) 8 (torn_drop p t 8 torn))
        (long_part p 8 (omega (arith, long, size))) (long_part t 8 (omega (arith, long))) in
        let count : count_in t ≤ count_in p =
        number_le (take 8 (drop 16 p)) (take 8 (drop 16 t))
        (torn_take (drop 16 p) (drop 16 t) 8 (torn_drop p t 16 torn))
        (long_part p 16 (omega (arith, long, size))) (long_part t 16 (omega (arith, long))) in
        elim (cases_lt (len_in t + lack_in t) most) [
          | inl less ↦ inr (inl less)
          | inr enough ↦ elim lacks [
            | inl short ↦ absurd (omega (arith, short, long, size))
            | inr more ↦ elim more [
              | inl less ↦ absurd (omega (arith, less, enough, len, lack))
              | inr rest ↦ inr (inr (lacks_body p t torn size long len lack count enough rest))
            ]
          ]
        ]

flat : (body rest : List ℕ) → counted_body body ++ rest ≡ number_bytes (length body)
    ++ (number_bytes (most - length body) ++ (number_bytes (zeros_in body) ++ (body ++ rest)))
flat body rest =
    append_assoc (number_bytes (length body))
    (number_bytes (most - length body) ++ (number_bytes (zeros_in body) ++ body)) rest
    ∙ ap (λ (l : List ℕ). number_bytes (length body) ++ l) (
    append_assoc (number_bytes (most - length body)) (number_bytes (zeros_in body) ++ body) rest
    ∙ ap (λ (l : List ℕ). number_bytes (most - length body) ++ l)
    (append_assoc (number_bytes (zeros_in body)) body rest)
    )

-- the parts of a batch, whatever is after it
module _ (body rest : List ℕ) (fits : length body < 2 ^ 64) where
  pub first_part : take 8 (counted_body body ++ rest) ≡ number_bytes (length body)
  first_part = ap (λ (l : List ℕ). take 8 l) (flat body rest)
      ∙ take_at (number_bytes (length body))
      (number_bytes (most - length body) ++ (number_bytes (zeros_in body) ++ (body ++ rest))) 8
      (length_number_bytes (length body))

  behind_first : drop 8 (counted_body body ++ rest) ≡ number_bytes (most - length body)
      ++ (number_bytes (zeros_in body) ++ (body ++ rest))
  behind_first = ap (λ (l : List ℕ). drop 8 l) (flat body rest)
      ∙ drop_at (number_bytes (length body))
      (number_bytes (most - length body) ++ (number_bytes (zeros_in body) ++ (body ++ rest))) 8
      (length_number_bytes (length body))

  pub second_part : take 8 (drop 8 (counted_body body ++ rest)) ≡ number_bytes (most - length body)
  second_part = ap (λ (l : List ℕ). take 8 l) behind_first
      ∙ take_at (number_bytes (most - length body)) (number_bytes (zeros_in body) ++ (body ++ rest)) 8
      (length_number_bytes (most - length body))

  behind_second : drop 16 (counted_body body ++ rest) ≡ number_bytes (zeros_in body) ++ (body ++ rest)
  behind_second = sym (drop-drop 8 8 (counted_body body ++ rest))
      ∙ ap (λ (l : List ℕ). drop 8 l) behind_first
      ∙ drop_at (number_bytes (most - length body)) (number_bytes (zeros_in body) ++ (body ++ rest)) 8
      (length_number_bytes (most - length body))

  pub third_part : take 8 (drop 16 (counted_body body ++ rest)) ≡ number_bytes (zeros_in body)
  third_part = ap (λ (l : List ℕ). take 8 l) behind_second
      ∙ take_at (number_bytes (zeros_in body)) (body ++ rest) 8 (length_number_bytes (zeros_in body))

  pub behind_head : drop 24 (counted_body body ++ rest) ≡ body ++ rest
  behind_head = sym (drop-drop 8 16 (counted_body body ++ rest))
      ∙ ap (λ (l : List ℕ). drop 8 l) behind_second
      ∙ drop_at (number_bytes (zeros_in body)) (body ++ rest) 8 (length_number_bytes (zeros_in body))

  pub len_back : len_in (counted_body body ++ rest) ≡ length body
  len_back = ap number_of first_part ∙ number_back (length body) fits

  pub lack_back : lack_in (counted_body body ++ rest) ≡ most - length body
  lack_back = ap number_of second_part ∙ number_back (most - length body) (omega arith)

  pub count_back : count_in (counted_body body ++ rest) ≡ zeros_in body
  count_back = ap number_of third_part
      ∙ number_back (zeros_in body) (omega (arith, fits, zeros_few body))

  pub body_back : body_in (counted_body body ++ rest) ≡ body
  body_back = ap (λ (n : ℕ). take n (drop 24 (counted_body body ++ rest))) len_back
      ∙ ap (λ (l : List ℕ). take (length body) l) behind_head
      ∙ take_at body rest (length body) refl

pub length_counted : (body : List ℕ) → length (counted_body body) ≡ 24 + length body
length_counted body = omega (
  arith,
  length-append (number_bytes (length body))
      (number_bytes (most - length body) ++ (number_bytes (zeros_in body) ++ body)),
  length-append (number_bytes (most - length body)) (number_bytes (zeros_in body) ++ body),
  length-append (number_bytes (zeros_in body)) body,
  length_number_bytes (length body),
  length_number_bytes (most - length body),
  length_number_bytes (zeros_in body),
)

-- bytes are their parts
in_parts : (t : List ℕ) (n : ℕ) → t ≡ take 8 t
    ++ (take 8 (drop 8 t) ++ (take 8 (drop 16 t) ++ (take n (drop 24 t) ++ drop (24 + n) t)))
in_parts t n =
    sym (take-append-drop 8 t)
    ∙ ap (λ (l : List ℕ). take 8 t ++ l) (
    sym (take-append-drop 8 (drop 8 t))
    ∙ ap (λ (l : List ℕ). take 8 (drop 8 t) ++ l) (
    drop-drop 8 8 t
    ∙ sym (take-append-drop 8 (drop 16 t))
    ∙ ap (λ (l : List ℕ). take 8 (drop 16 t) ++ l) (
    drop-drop 8 16 t
    ∙ sym (take-append-drop n (drop 24 t))
    ∙ ap (λ (l : List ℕ). take n (drop 24 t) ++ l) (drop-drop n 24 t)
    )
    )
    )

-- bytes whose parts are those of a batch begin with it
pub from_parts : (body t : List ℕ) → take 8 t ≡ number_bytes (length body)
    → take 8 (drop 8 t) ≡ number_bytes (most - length body)
    → take 8 (drop 16 t) ≡ number_bytes (zeros_in body) → take (length body) (drop 24 t) ≡ body
    → t ≡ counted_body body ++ drop (24 + length body) t
from_parts body t first second third fourth =
    let rest = drop (24 + length body) t in
    in_parts t (length body)
    ∙ ap (λ (l : List ℕ). l
    ++ (take 8 (drop 8 t) ++ (take 8 (drop 16 t) ++ (take (length body) (drop 24 t) ++ rest)))) first
    ∙ ap (λ (l : List ℕ). number_bytes (length body)
    ++ (l ++ (take 8 (drop 16 t) ++ (take (length body) (drop 24 t) ++ rest)))) second
    ∙ ap (λ (l : List ℕ). number_bytes (length body)
    ++ (number_bytes (most - length body) ++ (l ++ (take (length body) (drop 24 t) ++ rest)))) third
    ∙ ap (λ (l : List ℕ). number_bytes (length body)
    ++ (number_bytes (most - length body) ++ (number_bytes (zeros_in body) ++ (l ++ rest)))) fourth
    ∙ sym (flat body rest)

-- What is left of a batch over zeros lacks some of it, or is the batch and zeros.
pub torn_or_whole : (body t : List ℕ) → length body < 2 ^ 64 → IsTornOf (counted_body body) t
    → Lacks t ⊎ ((t ≡ counted_body body ++ drop (24 + length body) t) × AreZeros (drop (24 + length body) t))
torn_or_whole body t fits torn = elim (cases_lt (length t) 24) [
  | inl short ↦ inl (inl short)
  | inr long ↦ numbers long
]
  where
    plain : counted_body body ++ [] ≡ counted_body body
    plain = append-nil (counted_body body)

    first : take 8 (counted_body body) ≡ number_bytes (length body)
    first = ap (λ (l : List ℕ). take 8 l) (sym plain) ∙ first_part body [] fits

    second : take 8 (drop 8 (counted_body body)) ≡ number_bytes (most - length body)
    second = ap (λ (l : List ℕ). take 8 (drop 8 l)) (sym plain) ∙ second_part body [] fits

    third : take 8 (drop 16 (counted_body body)) ≡ number_bytes (zeros_in body)
    third = ap (λ (l : List ℕ). take 8 (drop 16 l)) (sym plain) ∙ third_part body [] fits

    fourth : drop 24 (counted_body body) ≡ body
    fourth = ap (λ (l : List ℕ). drop 24 l) (sym plain) ∙ behind_head body [] fits ∙ append-nil body

    number_part : (at n : ℕ) → take 8 (drop at (counted_body body)) ≡ number_bytes n → IsTornOf (number_bytes n)
        (take 8 (drop at t))
    number_part at n is =
        let P : List ℕ → Type 0 = λ l. IsTornOf l (take 8 (drop at t)) in
        subst P is (torn_take (drop at (counted_body body)) (drop at t) 8 (torn_drop (counted_body body) t at torn))

    numbers : 24 ≤ length t
        → Lacks t ⊎ ((t ≡ counted_body body ++ drop (24 + length body) t) × AreZeros (drop (24 + length body) t))
    numbers long =
        let n = length body in
        let P : List ℕ → Type 0 = λ l. IsTornOf l (take 8 t) in
        let torn_1 : IsTornOf (number_bytes n) (take 8 t) = subst P first (torn_take (counted_body body) t 8 torn) in
        let torn_2 : IsTornOf (number_bytes (most - n)) (take 8 (drop 8 t)) = number_part 8 (most - n) second in
        let torn_3 : IsTornOf (number_bytes (zeros_in body)) (take 8 (drop 16 t)) =
        number_part 16 (zeros_in body) third in
        let size_1 : length (take 8 t) ≡ 8 = length-take-le 8 t (omega (arith, long)) in
        let size_2 : length (take 8 (drop 8 t)) ≡ 8 = long_part t 8 (omega (arith, long)) in
        let size_3 : length (take 8 (drop 16 t)) ≡ 8 = long_part t 16 (omega (arith, long)) in
        let back_1 : number_of (number_bytes n) ≡ n = number_back n fits in
        let back_2 : number_of (number_bytes (most - n)) ≡ most - n = number_back (most - n) (omega arith) in
        let back_3 : number_of (number_bytes (zeros_in body)) ≡ zeros_in body =
        number_back (zeros_in body) (omega (arith, fits, zeros_few body)) in
        let le_1 = number_le (number_bytes n) (take 8 t) torn_1 (length_number_bytes n) size_1 in
        let le_2 =
        number_le (number_bytes (most - n)) (take 8 (drop 8 t)) torn_2 (length_number_bytes (most - n)) size_2
        in
        let le_3 =
        number_le (number_bytes (zeros_in body)) (take 8 (drop 16 t)) torn_3 (length_number_bytes (zeros_in body))
        size_3
        in
        elim (cases_lt (len_in t + lack_in t) most) [
          | inl less ↦ inl (inr (inl less))
          | inr enough ↦
              let len : len_in t ≡ n = omega (arith, enough, le_1, le_2, back_1, back_2, fits) in
              let lack : lack_in t ≡ most - n = omega (arith, enough, le_1, le_2, back_1, back_2, fits) in
              let sum : len_in t + lack_in t ≡ most = omega (arith, len, lack, fits) in
              elim (cases_lt (length t) (24 + len_in t)) [
                | inl short ↦ inl (inr (inr (sum, inl short)))
                | inr holds ↦
                    let torn_4 : IsTornOf body (take n (drop 24 t)) =
                    let Q : List ℕ → Type 0 = λ l. IsTornOf l (take n (drop 24 t)) in
                    subst Q (ap (λ (l : List ℕ). take n l) fourth ∙ take_all n body (omega arith))
                    (torn_take (drop 24 (counted_body body)) (drop 24 t) n (torn_drop (counted_body body) t 24 torn)) in
                    let size_4 : length (take n (drop 24 t)) ≡ n =
                    length-take-le n (drop 24 t) (omega (arith, holds, len, length-drop 24 t)) in
                    let zeros = zeros_le body (take n (drop 24 t)) torn_4 size_4 in
                    let same_body : zeros_in (body_in t) ≡ zeros_in (take n (drop 24 t)) =
                    ap (λ (k : ℕ). zeros_in (take k (drop 24 t))) len in
                    elim (cases_lt (count_in t) (zeros_in (body_in t))) [
                      | inl more ↦ inl (inr (inr (sum, inr more)))
                      | inr few ↦
                          let is_1 = number_same (number_bytes n) (take 8 t) torn_1 (length_number_bytes n) size_1
                          (omega (arith, len, back_1)) in
                          let is_2 = number_same (number_bytes (most - n)) (take 8 (drop 8 t)) torn_2
                          (length_number_bytes (most - n)) size_2 (omega (arith, lack, back_2)) in
                          let is_3 = number_same (number_bytes (zeros_in body)) (take 8 (drop 16 t)) torn_3
                          (length_number_bytes (zeros_in body)) size_3 (omega (arith, few, zeros, same_body, back_3)) in
                          let is_4 = zeros_same body (take n (drop 24 t)) torn_4 size_4
                          (omega (arith, few, le_3, back_3, same_body)) in
                          let R : List ℕ → Type 0 = λ l. IsTornOf l (drop (24 + n) t) in
                          let ends : drop (24 + n) (counted_body body) ≡ [] =
                          drop_all (24 + n) (counted_body body) (omega (arith, length_counted body)) in
                          inr (
                            from_parts body t is_1 is_2 is_3 is_4,
                            subst R ends (torn_drop (counted_body body) t (24 + n) torn),
                          )
                    ]
              ]
        ]
