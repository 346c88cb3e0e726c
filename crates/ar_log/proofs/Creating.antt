-- A new log's bytes, and what a crash leaves while they are written.
use Rattle.std.proofs.Common.{◌≡◌, ◌⊎◌, inl, inr, ℕ, ◌+◌, ◌<◌, ◌≤◌, ◌^◌, min, List, [], ◌∷◌, ◌++◌, length, take, drop}
use Rattle.std.proofs.Common.{refl, sym, ◌∙◌, ap, subst, arith, append_assoc, length-append}
use Rattle.std.proofs.lemmas.List.{append-nil, take_at, drop_at}
use Rattle.ar_media.specs.Media.{Torn, Overwritten, Only}
use Rattle.ar_log.specs.Codec.{Batch, framed, encoded, sealed}
use Rattle.ar_log.specs.Log.{magic, IsOpen, AreBatchesFrom, HoldsBatches, HoldsAfter, IsBegun}
use Rattle.ar_log.specs.Write.{TornOf}
use Rattle.ar_log.proofs.Standing.{after_magic, batches_are}

abbrev pub no_magic : List ℕ
no_magic = 0 ∷ 0 ∷ 0 ∷ 0 ∷ 0 ∷ 0 ∷ 0 ∷ 0 ∷ []

-- of a log, its batches are after the first eight bytes
pub behind_first : (batches : List Batch) (file : List ℕ) → HoldsBatches batches file → HoldsAfter batches file
behind_first batches file holds = subst (AreBatchesFrom 0 batches) (sym (after_magic file holds.0 holds.1)) holds.2

-- the same bytes hold no other batches
pub same_batches : (batches others : List Batch) (bytes : List ℕ) → AreBatchesFrom 0 batches bytes
    → AreBatchesFrom 0 others bytes → others ≡ batches
same_batches batches others bytes are also = sym (batches_are 0 others bytes (length bytes) also (omega arith))
    ∙ batches_are 0 batches bytes (length bytes) are (omega arith)

module _ (head : List ℕ) (old : List ℕ → Type 0) where
  -- nothing is written yet
  pub begun_first : (c : List ℕ) → old c → IsBegun head old c
  begun_first c was batches holds = inr (c, was, behind_first batches c holds)

  -- the first eight bytes are torn
  pub begun_torn : (c : List ℕ) → TornOf 0 8 old c → IsBegun head old c
  begun_torn c torn batches holds =
      inr (torn.0, torn.1, subst (AreBatchesFrom 0 batches) torn.2.after (behind_first batches c holds))

  -- the file begins with zeros, and is torn after them
  pub begun_zeros : (n : ℕ) (first mid : List ℕ) (left : List ℕ → Type 0) → Overwritten first 0 no_magic mid
      → Only mid left → (c : List ℕ) → TornOf 8 n left c → IsBegun head old c
  begun_zeros n first mid left over only c torn batches holds =
      let P : List ℕ → Type 0 = λ d. Torn 8 n d c in
      let tears = subst P (only torn.0 torn.1) torn.2 in
      let long : 8 ≤ length mid =
      omega (arith, ap length over, length-append no_magic (drop (0 + length no_magic) first)) in
      let least : min 8 (length mid) ≡ 8 = omega (arith, long) in
      let zeros : take 8 c ≡ no_magic =
      ap (λ (k : ℕ). take k c) (sym least) ∙ tears.before ∙ ap (λ (l : List ℕ). take 8 l) over
      ∙ take_at no_magic (drop (0 + length no_magic) first) 8 refl in
      let front : take 8 c ≡ magic = ap (λ (l : List ℕ). take 8 l) holds.1 ∙ take_at magic holds.0 8 refl in
      let no : no_magic ≡ magic = sym zeros ∙ front in
      absurd (cc no)

-- all but the magic
pub headed : (head first mid new bytes : List ℕ)
    → bytes ≡ 255 ∷ 255 ∷ (sealed 0 (framed head) ++ 0 ∷ 0 ∷ [])
    → length (framed head) < 2 ^ 64
    → Overwritten first 0 no_magic mid → (8 ≤ length mid → Overwritten mid 8 bytes new)
    → HoldsAfter ((head ∷ []) ∷ []) new
headed head first mid new bytes is fits zeros second =
    let long : 8 ≤ length mid =
    omega (arith, ap length zeros, length-append no_magic (drop (0 + length no_magic) first)) in
    let front : take 8 mid ≡ no_magic = ap (λ (l : List ℕ). take 8 l) zeros
    ∙ take_at no_magic (drop (0 + length no_magic) first) 8 refl in
    let tail = drop (8 + length bytes) mid in
    let new_is : new ≡ no_magic ++ (bytes ++ tail) =
    second long ∙ append_assoc (take 8 mid) bytes tail ∙ ap (λ (l : List ℕ). l ++ (bytes ++ tail)) front in
    let behind : drop 8 new ≡ bytes ++ tail = ap (λ (l : List ℕ). drop 8 l) new_is
    ∙ drop_at no_magic (bytes ++ tail) 8 refl in
    let payload : framed head ≡ encoded (head ∷ []) = sym (append-nil (framed head)) in
    let split : drop 8 new ≡ 255 ∷ 255 ∷ (sealed 0 (encoded (head ∷ [])) ++ (0 ∷ 0 ∷ tail)) =
    behind
    ∙ ap (λ (l : List ℕ). l ++ tail) is
    ∙ ap (λ (l : List ℕ). 255 ∷ 255 ∷ l) (
    append_assoc (sealed 0 (framed head)) (0 ∷ 0 ∷ []) tail
    ∙ ap (λ (l : List ℕ). sealed 0 l ++ (0 ∷ 0 ∷ tail)) payload
    ) in
    let small : length (encoded (head ∷ [])) < 2 ^ 64 = let P : List ℕ → Type 0 =
    λ l. length l < 2 ^ 64 in subst P payload fits in
    let open_gate : IsOpen 255 255 = λ f s. omega (arith, f) in (
      0 ∷ 0 ∷ tail,
      record { first = 255; second = 255; is_open = open_gate; split = split; fits = small },
      (tail, refl),
    )

-- the magic is torn
pub begun_head : (head : List ℕ) (old : List ℕ → Type 0) (mid : List ℕ) (left : List ℕ → Type 0)
    → HoldsAfter ((head ∷ []) ∷ []) mid → Only mid left
    → (c : List ℕ) → TornOf 0 8 left c → IsBegun head old c
begun_head head old mid left behind only c torn batches holds =
    let P : List ℕ → Type 0 = λ d. Torn 0 8 d c in
    let tears = subst P (only torn.0 torn.1) torn.2 in
    inl (same_batches ((head ∷ []) ∷ []) batches (drop 8 mid) behind
    (subst (AreBatchesFrom 0 batches) tears.after (behind_first batches c holds)))

-- with its magic it is a log
pub created : (head mid new : List ℕ) → HoldsAfter ((head ∷ []) ∷ []) mid → Overwritten mid 0 magic new
    → HoldsBatches ((head ∷ []) ∷ []) new
created head mid new behind over = (drop 8 mid, over, behind)
