-- Numbers and records as bytes, and back.
use Rattle.std.proofs.Common.{◌≡◌, ◌≢◌, ◌⊎◌, inl, inr, ℕ, ◌+◌, ◌<◌, ◌≤◌, ◌^◌, List, [], ◌∷◌, ◌++◌, length, get_or, take}
use Rattle.std.proofs.Common.{drop, Vec, refl, sym, ◌∙◌, ap, subst, arith, append_assoc, length-append}
use Rattle.std.proofs.Common.{take-append-drop}
use Rattle.std.specs.declared.alloc.Global.{Global}
use Rattle.std.proofs.lemmas.List.{map-append, take_at, drop_at, take_more, flat_map_more}
use Rattle.std.proofs.lemmas.Nat.{from_le_bytes-to_le_bytes_8, le_bytes_8}
use Rattle.ar_log.specs.Codec.{Batch, items_of, number_bytes, number_of, framed, encoded}

pub length_number_bytes : (n : ℕ) → length (number_bytes n) ≡ 8
unfolding number_bytes
length_number_bytes n = refl

pub number_back : (n : ℕ) → n < 2 ^ 64 → number_of (number_bytes n) ≡ n
unfolding number_bytes number_of
number_back n fits = from_le_bytes-to_le_bytes_8 n fits

pub bytes_back : (bs : List ℕ) (n : ℕ) → length bs ≡ 8 → ((i : ℕ) → get_or bs i 0 < 256) → n ≡ number_of bs
    → number_bytes n ≡ bs
unfolding number_bytes number_of
bytes_back bs n len small is = le_bytes_8 bs n len small is

pub encoded_push : (records : Batch) (one : List ℕ) → encoded (records ++ one ∷ []) ≡ encoded records
    ++ (number_bytes (length one) ++ one)
encoded_push records one = sym (flat_map_more framed [] records one)

pub encoded_more : (vs : List (Vec ℕ Global)) (i : ℕ) (v : Vec ℕ Global) → i < length vs → v ≡ get_or vs i v
    → encoded (items_of (take (i + 1) vs)) ≡ encoded (items_of (take i vs))
    ++ (number_bytes (length v.items) ++ v.items)
encoded_more vs i v lt is =
    ap (λ (l : List (Vec ℕ Global)). encoded (items_of l))
    (take_more vs i v lt ∙ ap (λ (w : Vec ℕ Global). take i vs ++ w ∷ []) (sym is))
    ∙ ap encoded (map-append (λ (w : Vec ℕ Global). w.items) (take i vs) (v ∷ []))
    ∙ encoded_push (items_of (take i vs)) v.items

-- one more record of a payload is read
pub taken_one : (vs : List (Vec ℕ Global)) (v : Vec ℕ Global) (rest payload : List ℕ) (n : ℕ) → encoded (items_of vs)
    ++ rest ≡ payload
    → number_bytes n ≡ take 8 rest → v.items ≡ take n (drop 8 rest) → length v.items ≡ n
    → encoded (items_of (vs ++ v ∷ [])) ++ drop n (drop 8 rest) ≡ payload
taken_one vs v rest payload n so_far len is size =
    let behind = drop n (drop 8 rest) in
    ap (λ (l : List ℕ). l ++ behind) (
    ap encoded (map-append (λ (w : Vec ℕ Global). w.items) vs (v ∷ []))
    ∙ encoded_push (items_of vs) v.items
    ∙ ap (λ (k : ℕ). encoded (items_of vs) ++ (number_bytes k ++ v.items)) size
    ∙ ap (λ (l : List ℕ). encoded (items_of vs) ++ (l ++ v.items)) len
    ∙ ap (λ (l : List ℕ). encoded (items_of vs) ++ (take 8 rest ++ l)) is
    )
    ∙ append_assoc (encoded (items_of vs)) (take 8 rest ++ take n (drop 8 rest)) behind
    ∙ ap (λ (l : List ℕ). encoded (items_of vs) ++ l) (
    append_assoc (take 8 rest) (take n (drop 8 rest)) behind
    ∙ ap (λ (l : List ℕ). take 8 rest ++ l) (take-append-drop n (drop 8 rest))
    ∙ take-append-drop 8 rest
    )
    ∙ so_far

-- two texts with fronts of one length
pub same_parts : (a b c d : List ℕ) → length a ≡ length c → a ++ b ≡ c ++ d → (a ≡ c) × (b ≡ d)
same_parts [] b [] d len is = (refl, is)
same_parts [] b (y ∷ c) d len is = absurd (omega (arith, len))
same_parts (x ∷ a) b [] d len is = absurd (omega (arith, len))
same_parts (x ∷ a) b (y ∷ c) d len is =
    let rest = same_parts a b c d (omega (arith, len)) (ap (λ (l : List ℕ). drop 1 l) is) in
    let head : x ≡ y = ap (λ (l : List ℕ). get_or l 0 0) is in
    (ap (λ (l : List ℕ). x ∷ l) rest.0 ∙ ap (λ (z : ℕ). z ∷ c) head, rest.1)

length-framed : (one : List ℕ) → length (framed one) ≡ 8 + length one
length-framed one = omega (arith, length-append (number_bytes (length one)) one, length_number_bytes (length one))

pub length-encoded : (one : List ℕ) (records : Batch)
    → length (encoded (one ∷ records)) ≡ 8 + length one + length (encoded records)
length-encoded one records = omega (arith, length-append (framed one) (encoded records), length-framed one)

-- what stands after some records of a payload is records too
pub rest_of : (done records : Batch) (rest : List ℕ) → encoded done ++ rest ≡ encoded records
    → length (encoded records) < 2 ^ 64 → (more : Batch) × (rest ≡ encoded more)
rest_of [] records rest is fits = (records, is)
rest_of (d ∷ done) [] rest is fits =
    absurd (omega (arith, ap length is, length-append (encoded (d ∷ done)) rest, length-encoded d done))
rest_of (d ∷ done) (r ∷ records) rest is fits =
    let all : number_bytes (length d) ++ (d ++ (encoded done ++ rest)) ≡ number_bytes (length r)
    ++ (r ++ encoded records) =
    sym (append_assoc (number_bytes (length d)) d (encoded done ++ rest))
    ∙ sym (append_assoc (framed d) (encoded done) rest)
    ∙ is
    ∙ append_assoc (number_bytes (length r)) r (encoded records) in
    let first =
    same_parts (number_bytes (length d)) (d ++ (encoded done ++ rest)) (number_bytes (length r))
    (r ++ encoded records)
    (length_number_bytes (length d) ∙ sym (length_number_bytes (length r))) all in
    let long : length (d ++ (encoded done ++ rest)) ≡ length (r ++ encoded records) = ap length first.1 in
    let size : length (r ++ encoded records) ≡ length r + length (encoded records) =
    length-append r (encoded records) in
    let size_d : length (d ++ (encoded done ++ rest)) ≡ length d + length (encoded done ++ rest) =
    length-append d (encoded done ++ rest) in
    let whole = length-encoded r records in
    let lens : length d ≡ length r =
    sym (number_back (length d) (omega (arith, long, size, size_d, whole, fits))) ∙ ap number_of first.0
    ∙ number_back (length r) (omega (arith, whole, fits)) in
    let second = same_parts d (encoded done ++ rest) r (encoded records) lens first.1 in
    rest_of done records rest second.1 (omega (arith, whole, fits))

-- a payload that goes on with no whole record has no records
pub malformed : (done : Batch) (rest payload : List ℕ) → encoded done ++ rest ≡ payload → length payload < 2 ^ 64
    → 0 < length rest
    → ((length rest < 8) ⊎ (length (drop 8 rest) < number_of (take 8 rest))) → (records : Batch)
    → encoded records ≢ payload
malformed done rest payload so_far fits some bad records is =
    let more = rest_of done records rest (so_far ∙ sym is) (subst (λ (l : List ℕ). length l < 2 ^ 64) (sym is) fits) in
    nothing more.0 more.1
  where
    batches_len-le : length rest ≤ length payload
    batches_len-le = omega (arith, ap length so_far, length-append (encoded done) rest)

    nothing : (more : Batch) → rest ≡ encoded more → ⊥
    nothing [] none = omega (arith, some, ap length none)
    nothing (m ∷ more) begins =
        let long = length-encoded m more in
        let len = ap length begins in
        let split : rest ≡ number_bytes (length m) ++ (m ++ encoded more) =
        begins ∙ append_assoc (number_bytes (length m)) m (encoded more) in
        let front : take 8 rest ≡ number_bytes (length m) = ap (λ (l : List ℕ). take 8 l) split
        ∙ take_at (number_bytes (length m)) (m ++ encoded more) 8 (length_number_bytes (length m)) in
        let behind : drop 8 rest ≡ m ++ encoded more = ap (λ (l : List ℕ). drop 8 l) split
        ∙ drop_at (number_bytes (length m)) (m ++ encoded more) 8 (length_number_bytes (length m)) in
        let number : number_of (take 8 rest) ≡ length m = ap number_of front
        ∙ number_back (length m) (omega (arith, long, len, fits, batches_len-le)) in
        let size = length-append m (encoded more) in
        elim bad [
          | inl short ↦ omega (arith, short, len, long)
          | inr short ↦ omega (arith, short, number, ap length behind, size)
        ]
