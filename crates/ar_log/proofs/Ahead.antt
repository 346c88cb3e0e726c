-- What was read of a log, and what is ahead.
use Rattle.std.proofs.Common.{◌≡◌, ◌≢◌, inl, inr, ⊎_elim, ℕ, suc, ◌+◌, ◌<◌, ◌≤◌, ◌^◌, Bool, true, false, not, ◌&&◌}
use Rattle.std.proofs.Common.{◌==◌, Option, Some, None, Result, Ok, Err, IfOk, IfErr, IfSome, IfNone, List, [], ◌∷◌}
use Rattle.std.proofs.Common.{◌++◌, length, get_or, take, drop, refl, sym, ◌∙◌, ap, subst, arith, append_assoc}
use Rattle.std.proofs.Common.{length-append, take-append-drop}
use Rattle.std.proofs.lemmas.Bool.{cases_eq}
use Rattle.std.proofs.lemmas.Bool.Decides.{nat_tests}
use Rattle.std.proofs.lemmas.List.{append-nil, length-take-le, take_at, take-take, take-append-le, drop-append-le}
use Rattle.std.proofs.lemmas.List.{drop-drop, drop-take}
use Rattle.ar_log.specs.Codec.{Batch, number_bytes, number_of, batch_digest, encoded, sealed}
use Rattle.ar_log.specs.Log.{IsOpen, BeginsWith, AreBatchesFrom, HoldsBatches, batches_len, begins_open, batches_of}
use Rattle.ar_log.specs.Reading.{OnlyReads, HasHead, IsClosedGate, IsDamage, GoesAfter, batches_before, IsAt, ReadsOn}
use Rattle.ar_log.specs.declared.place.Place.{Place}
use Rattle.ar_log.proofs.Encoding.{number_back}
use Rattle.ar_log.proofs.Standing.{begins_rest, begins_front, begins_size, begins_number, begins_digest, begins_payload}
use Rattle.ar_log.proofs.Standing.{graft_file, batches_of_stands, after_magic}
use Rattle.ar_log.proofs.Appending.{batches_len-push}

-- one read after another
module _ {M : Type 0} (seen : M → List ℕ) (may_leave : M → List ℕ → Type 0) (moment : M → ℕ)
    (left_since : M → ℕ → List ℕ → Type 0) (is_clean : M → Bool) where
  pub not_read : (m : M) → OnlyReads seen may_leave moment left_since is_clean m m
  not_read m =
      record {
        same = refl;
        crash = λ c left. left;
        later = omega arith;
        since = λ t c le left. inl left;
        clean =
            λ c. c;
      }

  pub reads_then : (old mid new : M) → OnlyReads seen may_leave moment left_since is_clean old mid
      → OnlyReads seen may_leave moment left_since is_clean mid new
      → OnlyReads seen may_leave moment left_since is_clean old new
  reads_then old mid new first second = record {
    same = second.same ∙ first.same;
    crash = λ c left. first.crash c (second.crash c left);
    later = omega (arith, first.later, second.later);
    since = λ t c le left. ⊎_elim (λ was. first.since t c le was) (λ now. inr (first.crash c now))
        (second.since t c (omega (arith, le, first.later)) left);
    clean = λ c. first.clean (second.clean c);
  }

-- a batch is ahead of an open gate
pub first_is : (number : ℕ) (batches : List Batch) (bytes : List ℕ) → begins_open bytes ≡ true
    → AreBatchesFrom number batches bytes
    → (batch : Batch) × ((rest : List ℕ) × BeginsWith number batch bytes rest)
first_is number [] bytes opens stands =
    let e : false ≡ true = sym (ap begins_open stands.1) ∙ opens in
    absurd (cc e)
first_is number (batch ∷ batches) bytes opens stands = (batch, (stands.0, stands.1))

pub too_short_for_gate : (number : ℕ) (bytes : List ℕ) → length bytes < 2 → IsDamage number bytes
too_short_for_gate number bytes short [] stands = omega (arith, short, ap length stands.1)
too_short_for_gate number bytes short (batch ∷ batches) stands =
    omega (arith, short, begins_size number batch bytes stands.0 stands.1)

pub too_short : (number : ℕ) (bytes : List ℕ) → begins_open bytes ≡ true → length bytes < 18 → IsDamage number bytes
too_short number bytes opens short batches stands =
    let first = first_is number batches bytes opens stands in
    omega (arith, short, begins_size number first.0 bytes first.1.0 first.1.1)

pub too_long : (number len : ℕ) (bytes : List ℕ) → begins_open bytes ≡ true → number_of (take 8 (drop 2 bytes)) ≡ len
    → length bytes < 18 + len → IsDamage number bytes
too_long number len bytes opens is short batches stands =
    let first = first_is number batches bytes opens stands in
    omega (
      arith,
      short,
      is,
      begins_number number first.0 bytes first.1.0 first.1.1,
      begins_size number first.0 bytes
          first.1.0 first.1.1,
    )

module _ (number len digest : ℕ) (bytes payload : List ℕ) (head : HasHead bytes len digest) (fits : len < 2 ^ 64)
    (is : payload ≡ take len (drop 18 bytes)) where
  len_is : number_of (take 8 (drop 2 bytes)) ≡ len
  len_is = ap number_of (sym head.len_is) ∙ number_back len fits

  payload_is : (batch : Batch) (rest : List ℕ) → BeginsWith number batch bytes rest → encoded batch ≡ payload
  payload_is batch rest begins =
      let same : len ≡ length (encoded batch) = sym len_is ∙ begins_number number batch bytes rest begins in
      sym (begins_payload number batch bytes rest begins) ∙ ap (λ (n : ℕ). take n (drop 18 bytes)) (sym same) ∙ sym is

  pub other_digest : digest < 2 ^ 64 → (d : ℕ) → d ≡ batch_digest number payload → d < 2 ^ 64 → d ≢ digest
      → IsDamage number bytes
  other_digest small d d_is d_small other batches stands =
      let first = first_is number batches bytes head.opens stands in
      let same : number_bytes digest ≡ number_bytes d =
      head.digest_is
      ∙ begins_digest number first.0 bytes first.1.0 first.1.1
      ∙ ap (λ (l : List ℕ). number_bytes (batch_digest number l)) (payload_is first.0 first.1.0 first.1.1)
      ∙ ap number_bytes (sym d_is) in
      other (sym (number_back d d_small) ∙ ap number_of (sym same) ∙ number_back digest small)

  pub no_records : ((records : Batch) → encoded records ≢ payload) → IsDamage number bytes
  no_records none batches stands =
      let first = first_is number batches bytes head.opens stands in
      none first.0 (payload_is first.0 first.1.0 first.1.1)

-- an open gate, a length, a digest and a payload are a batch
pub assembled : (number : ℕ) (batch : Batch) (bytes payload : List ℕ) (len digest : ℕ) → HasHead bytes len digest
    → length payload ≡ len → len < 2 ^ 64
    → payload ≡ take len (drop 18 bytes) → digest ≡ batch_digest number payload → encoded batch ≡ payload
    → BeginsWith number batch bytes (drop (18 + len) bytes)
assembled number batch [] payload len digest head size fits is tested coded = let e : false ≡ true =
    head.opens in absurd (cc e)
assembled number batch (a ∷ []) payload len digest head size fits is tested coded = let e : false ≡ true =
    head.opens in absurd (cc e)
assembled number batch (a ∷ b ∷ bytes) payload len digest head size fits is tested coded =
    let whole = a ∷ b ∷ bytes in
    let behind = drop (18 + len) whole in
    let is_open : IsOpen a b = λ a_is b_is.
    let e : false ≡ true =
    sym (ap (λ (k : ℕ). not ((k == 0) && (b == 0))) a_is ∙ ap (λ (k : ℕ). not ((0 == 0) && (k == 0))) b_is)
    ∙ head.opens in
    cc e in
    let back : drop len (drop 18 whole) ≡ behind = drop-drop len 18 whole in
    let tail : drop 18 whole ≡ payload ++ behind =
    sym (take-append-drop len (drop 18 whole)) ∙ ap (λ (l : List ℕ). l ++ drop len (drop 18 whole)) (sym is)
    ∙ ap (λ (l : List ℕ). payload ++ l) back in
    let after_len : drop 8 bytes ≡ number_bytes digest ++ (payload ++ behind) =
    sym (take-append-drop 8 (drop 8 bytes)) ∙ ap (λ (l : List ℕ). l ++ drop 8 (drop 8 bytes)) (sym head.digest_is)
    ∙ ap (λ (l : List ℕ). number_bytes digest ++ l) (drop-drop 8 8 bytes ∙ tail) in
    let all : bytes ≡ number_bytes len ++ (number_bytes digest ++ (payload ++ behind)) =
    sym (take-append-drop 8 bytes) ∙ ap (λ (l : List ℕ). l ++ drop 8 bytes) (sym head.len_is)
    ∙ ap (λ (l : List ℕ). number_bytes len ++ l) after_len in
    let named : number_bytes len ++ (number_bytes digest ++ (payload ++ behind)) ≡ sealed number payload ++ behind =
    ap (λ (n : ℕ). number_bytes n ++ (number_bytes digest ++ (payload ++ behind))) (sym size)
    ∙ ap (λ (n : ℕ). number_bytes (length payload) ++ (number_bytes n ++ (payload ++ behind))) tested
    ∙ sym (append_assoc (number_bytes (length payload)) (number_bytes (batch_digest number payload))
    (payload ++ behind))
    ∙ sym (append_assoc (number_bytes (length payload) ++ number_bytes (batch_digest number payload)) payload behind) in
    let P : ℕ → Type 0 = λ n. n < 2 ^ 64 in
    record {
      first = a;
      second = b;
      is_open = is_open;
      split = ap (λ (l : List ℕ). a ∷ b ∷ l) (all ∙ named ∙ ap (λ (l : List ℕ). sealed number l ++ behind) (sym coded));
      fits = subst P (sym (ap length coded ∙ size)) fits;
    }

-- the front of a file, up to a place that was reached
module _ (file : List ℕ) (place : Place) (at_place : IsAt file place) where
  pub reads_on : (batch : Batch) (next : Place) → BeginsWith place.number batch (drop place.at file) (drop next.at file)
      → GoesAfter batch place next → ReadsOn file batch place next
  reads_on batch next begins goes =
      let batches = batches_before place.at file in
      let k = 18 + length (encoded batch) in
      let at_next : next.at ≡ place.at + k = omega (arith, goes.at) in
      let within : next.at ≤ length file = omega (arith, goes.left, at_place.left) in
      let x = take place.at file ++ 0 ∷ 0 ∷ [] in
      let y = take next.at file ++ 0 ∷ 0 ∷ [] in
      let size_y : length (take next.at file) ≡ next.at = length-take-le next.at file within in
      let size_x : length (take place.at file) ≡ place.at =
      length-take-le place.at file (omega (arith, at_next, within)) in
      let same : take place.at y ≡ take place.at x =
      take-append-le place.at (take next.at file) (0 ∷ 0 ∷ []) (omega (arith, size_y, at_next))
      ∙ take-take place.at next.at file (omega (arith, at_next))
      ∙ sym (take_at (take place.at file) (0 ∷ 0 ∷ []) place.at size_x) in
      let front : drop place.at (take next.at file) ≡ begins.first ∷ begins.second ∷ sealed place.number
      (encoded batch) =
      ap (λ (n : ℕ). drop place.at (take n file)) at_next
      ∙ drop-take place.at k file
      ∙ begins_front place.number batch (drop place.at file) (drop next.at file) begins in
      let behind : drop place.at y ≡ (begins.first ∷ begins.second ∷ sealed place.number (encoded batch))
      ++ 0 ∷ 0 ∷ [] =
      drop-append-le place.at (take next.at file) (0 ∷ 0 ∷ []) (omega (arith, size_y, at_next))
      ∙ ap (λ (l : List ℕ). l ++ 0 ∷ 0 ∷ []) front in
      let numbered : AreBatchesFrom place.number (batch ∷ []) (drop place.at y) = (
        0 ∷ 0 ∷ [],
        record {
          first = begins.first;
          second = begins.second;
          is_open = begins.is_open;
          split = behind;
          fits =
              begins.fits;
        },
        ([], refl),
      ) in
      let Q : ℕ → Type 0 = λ n. AreBatchesFrom n (batch ∷ []) (drop place.at y) in
      let R : ℕ → Type 0 = λ n. take n y ≡ take n x → AreBatchesFrom (length batches) (batch ∷ []) (drop n y)
      → HoldsBatches (batches ++ batch ∷ []) y in
      let stands : HoldsBatches (batches ++ batch ∷ []) y =
      subst R (sym at_place.at) (graft_file batches (batch ∷ []) x y at_place.stands) same
      (subst Q at_place.number numbered) in
      let are : batches_of y ≡ batches ++ batch ∷ [] = batches_of_stands (batches ++ batch ∷ []) y stands in
      let P : List Batch → Type 0 = λ b. HoldsBatches b y in
      record {
        place = record {
          stands = subst P (sym are) stands;
          at = omega (arith, at_next, at_place.at, batches_len-push batches batch, ap batches_len are);
          number = omega (
            arith,
            goes.number,
            at_place.number,
            length-append batches (batch ∷ []),
            ap
                (λ (b : List Batch). length b) are,
          );
          left = omega (arith, goes.left, at_place.left);
        };
        batches = are;
      }

  pub reads_all : IsClosedGate (drop place.at file) → HoldsBatches (batches_before place.at file) file
  reads_all gate =
      let batches = batches_before place.at file in
      let x = take place.at file ++ 0 ∷ 0 ∷ [] in
      let size_x : length (take place.at file) ≡ place.at =
      length-take-le place.at file (omega (arith, at_place.left)) in
      let same : take place.at file ≡ take place.at x =
      sym (take_at (take place.at file) (0 ∷ 0 ∷ []) place.at size_x) in
      let R : ℕ → Type 0 = λ n. take n file ≡ take n x → AreBatchesFrom (length batches) [] (drop n file)
      → HoldsBatches (batches ++ []) file in
      let P : List Batch → Type 0 = λ b. HoldsBatches b file in
      subst P (append-nil batches) (subst R (sym at_place.at) (graft_file batches [] x file at_place.stands) same gate)

-- What stands ahead of some batches, where a file stands for others that begin with the same bytes.
ahead : (number : ℕ) (batches others : List Batch) (x y : List ℕ) → AreBatchesFrom number batches x
    → AreBatchesFrom number others y
    → take (batches_len batches) y ≡ take (batches_len batches) x → (more : List Batch)
    × AreBatchesFrom (number + length batches) more (drop (batches_len batches) y)
ahead number [] others x y stands other same =
    let P : ℕ → Type 0 = λ n. AreBatchesFrom n others y in
    let none : number ≡ number + 0 = omega arith in
    (others, subst P none other)
ahead number (batch ∷ batches) [] x y stands other same =
    let begins = stands.1 in
    let k = 18 + length (encoded batch) + batches_len batches in
    let two : 0 ∷ 0 ∷ [] ≡ begins.first ∷ begins.second ∷ [] =
    sym (ap (λ (l : List ℕ). take 2 l) other.1)
    ∙ sym (take-take 2 k y (omega arith))
    ∙ ap (λ (l : List ℕ). take 2 l) same
    ∙ take-take 2 k x (omega arith)
    ∙ ap (λ (l : List ℕ). take 2 l) begins.split in
    absurd (begins.is_open (sym (ap (λ (l : List ℕ). get_or l 0 0) two)) (sym (ap (λ (l : List ℕ). get_or l 1 0) two)))
ahead number (batch ∷ batches) (other_batch ∷ others) x y stands other same =
    let begins = stands.1 in
    let theirs = other.1 in
    let k = 18 + length (encoded batch) in
    let t = batches_len batches in
    let ten : take 10 y ≡ take 10 x =
    sym (take-take 10 (k + t) y (omega arith)) ∙ ap (λ (l : List ℕ). take 10 l) same
    ∙ take-take 10 (k + t) x (omega arith) in
    let lens : length (encoded other_batch) ≡ length (encoded batch) =
    sym (begins_number number other_batch y other.0 theirs)
    ∙ ap number_of (sym (drop-take 2 8 y) ∙ ap (λ (l : List ℕ). drop 2 l) ten ∙ drop-take 2 8 x)
    ∙ begins_number number batch x stands.0 begins in
    let rest_y : other.0 ≡ drop k y =
    sym (begins_rest number other_batch y other.0 theirs) ∙ ap (λ (n : ℕ). drop (18 + n) y) lens in
    let same_rest : take t (drop k y) ≡ take t stands.0 =
    sym (drop-take k t y)
    ∙ ap (λ (l : List ℕ). drop k l) same
    ∙ drop-take k t x
    ∙ ap (λ (l : List ℕ). take t l) (begins_rest number batch x stands.0 begins) in
    let P : List ℕ → Type 0 = λ l. AreBatchesFrom (suc number) others l in
    let found = ahead (suc number) batches others stands.0 (drop k y) stands.2 (subst P rest_y other.2) same_rest in
    let Q : ℕ → Type 0 = λ n. AreBatchesFrom n found.0 (drop t (drop k y)) in
    let R : List ℕ → Type 0 = λ l. AreBatchesFrom (number + suc (length batches)) found.0 l in
    let counts : suc number + length batches ≡ number + suc (length batches) = omega arith in
    (found.0, subst R (drop-drop t k y) (subst Q counts found.1))

-- no batches stand where what is ahead is damaged
pub nothing_stands : (file : List ℕ) (place : Place) → IsAt file place → IsDamage place.number (drop place.at file)
    → (others : List Batch) → HoldsBatches others file → ⊥
nothing_stands file place at_place damage others other =
    let batches = batches_before place.at file in
    let t = batches_len batches in
    let x = take place.at file ++ 0 ∷ 0 ∷ [] in
    let size_x : length (take place.at file) ≡ place.at = length-take-le place.at file (omega (arith, at_place.left)) in
    let same_at : take place.at file ≡ take place.at x =
    sym (take_at (take place.at file) (0 ∷ 0 ∷ []) place.at size_x) in
    let R : ℕ → Type 0 = λ n. take n file ≡ take n x in
    let same : take (8 + t) file ≡ take (8 + t) x = subst R at_place.at same_at in
    let rests : take t other.0 ≡ take t at_place.stands.0 =
    ap (λ (l : List ℕ). take t l) (sym (after_magic file other.0 other.1))
    ∙ sym (drop-take 8 t file)
    ∙ ap (λ (l : List ℕ). drop 8 l) same
    ∙ drop-take 8 t x
    ∙ ap (λ (l : List ℕ). take t l) (after_magic x at_place.stands.0 at_place.stands.1) in
    let found = ahead 0 batches others at_place.stands.0 other.0 at_place.stands.2 other.2 rests in
    let counts : 0 + length batches ≡ place.number = omega (arith, at_place.number) in
    let place_is : drop t other.0 ≡ drop place.at file =
    ap (λ (l : List ℕ). drop t l) (sym (after_magic file other.0 other.1)) ∙ drop-drop t 8 file
    ∙ ap (λ (n : ℕ). drop n file) (sym at_place.at) in
    let P : ℕ → Type 0 = λ n. AreBatchesFrom n found.0 (drop t other.0) in
    let Q : List ℕ → Type 0 = λ l. AreBatchesFrom place.number found.0 l in
    damage found.0 (subst Q place_is (subst P counts found.1))

-- the batches that were read are the first of those that the file holds
pub prefix_of : (file : List ℕ) (place : Place) → IsAt file place → (others : List Batch) → HoldsBatches others file
    → (more : List Batch) × (others ≡ batches_before place.at file ++ more)
prefix_of file place at_place others other =
    let batches = batches_before place.at file in
    let t = batches_len batches in
    let x = take place.at file ++ 0 ∷ 0 ∷ [] in
    let size_x : length (take place.at file) ≡ place.at = length-take-le place.at file (omega (arith, at_place.left)) in
    let same_at : take place.at file ≡ take place.at x =
    sym (take_at (take place.at file) (0 ∷ 0 ∷ []) place.at size_x) in
    let R : ℕ → Type 0 = λ n. take n file ≡ take n x in
    let same : take (8 + t) file ≡ take (8 + t) x = subst R at_place.at same_at in
    let rests : take t other.0 ≡ take t at_place.stands.0 =
    ap (λ (l : List ℕ). take t l) (sym (after_magic file other.0 other.1))
    ∙ sym (drop-take 8 t file)
    ∙ ap (λ (l : List ℕ). drop 8 l) same
    ∙ drop-take 8 t x
    ∙ ap (λ (l : List ℕ). take t l) (after_magic x at_place.stands.0 at_place.stands.1) in
    let found = ahead 0 batches others at_place.stands.0 other.0 at_place.stands.2 other.2 rests in
    let behind : drop t other.0 ≡ drop (8 + t) file =
    ap (λ (l : List ℕ). drop t l) (sym (after_magic file other.0 other.1)) ∙ drop-drop t 8 file in
    let counts : 0 + length batches ≡ length batches = omega arith in
    let P : ℕ → Type 0 = λ n. AreBatchesFrom n found.0 (drop t other.0) in
    let Q : List ℕ → Type 0 = λ l. AreBatchesFrom (length batches) found.0 l in
    let whole : HoldsBatches (batches ++ found.0) file =
    graft_file batches found.0 x file at_place.stands same (subst Q behind (subst P counts found.1)) in
    (found.0, sym (batches_of_stands others file other) ∙ batches_of_stands (batches ++ found.0) file whole)

-- two bytes that are no closed gate
pub opens_if : (gate bytes : List ℕ) → gate ≡ take 2 bytes → length gate ≡ 2 → gate ≢ 0 ∷ 0 ∷ []
    → begins_open bytes ≡ true
opens_if gate [] is len other = absurd (omega (arith, len, ap length is))
opens_if gate (a ∷ []) is len other = absurd (omega (arith, len, ap length is))
opens_if gate (a ∷ b ∷ bytes) is len other = elim (cases_eq a 0) [
  | inl a_is ↦ elim (cases_eq b 0) [
    | inl b_is ↦ absurd (other (is ∙ ap (λ (k : ℕ). k ∷ b ∷ []) a_is ∙ ap (λ (k : ℕ). 0 ∷ k ∷ []) b_is))
    | inr b_not ↦ grind (arith, nat_tests)
  ]
  | inr a_not ↦ grind (arith, nat_tests)
]

pub shuts_if : (gate bytes : List ℕ) → gate ≡ take 2 bytes → gate ≡ 0 ∷ 0 ∷ [] → IsClosedGate bytes
shuts_if gate bytes is shut =
    (drop 2 bytes, sym (take-append-drop 2 bytes) ∙ ap (λ (l : List ℕ). l ++ drop 2 bytes) (sym is ∙ shut))

-- the two numbers after a gate
pub head_len : (file head : List ℕ) (at : ℕ) → head ≡ take 16 (drop (at + 2) file)
    → take 8 (drop 0 head) ≡ take 8 (drop 2 (drop at file))
head_len file head at is =
    ap (λ (l : List ℕ). take 8 l) is
    ∙ take-take 8 16 (drop (at + 2) file) (omega arith)
    ∙ ap (λ (l : List ℕ). take 8 l) (sym (drop-drop 2 at file))

pub head_digest : (file head : List ℕ) (at : ℕ) → head ≡ take 16 (drop (at + 2) file)
    → take 8 (drop 8 head) ≡ take 8 (drop 10 (drop at file))
head_digest file head at is =
    ap (λ (l : List ℕ). take 8 (drop 8 l)) is
    ∙ ap (λ (l : List ℕ). take 8 l) (drop-take 8 8 (drop (at + 2) file))
    ∙ take-take 8 8 (drop 8 (drop (at + 2) file)) (omega arith)
    ∙ ap (λ (l : List ℕ). take 8 (drop 8 l)) (sym (drop-drop 2 at file))
    ∙ ap (λ (l : List ℕ). take 8 l) (drop-drop 8 2 (drop at file))

-- what holds of a result follows from what else does
module _ {T E : Type 0} where
  pub then_ok : (P Q R : T → Type 0) (r : Result T E) → IfOk r P → IfOk r Q → ((x : T) → P x → Q x → R x) → IfOk r R
  then_ok P Q R (Ok x) p q f = f x p q
  then_ok P Q R (Err e) p q f = tt

  pub then_err : (P Q : E → Type 0) (r : Result T E) → IfErr r P → ((e : E) → P e → Q e) → IfErr r Q
  then_err P Q (Ok x) p f = tt
  then_err P Q (Err e) p f = f e p

  pub then_some : (P Q R : T → Type 0) (r : Result (Option T) E) → IfOk r (λ o. IfSome o P) → IfOk r (λ o. IfSome o Q)
      → ((x : T) → P x → Q x → R x) → IfOk r (λ o. IfSome o R)
  then_some P Q R (Ok (Some x)) p q f = f x p q
  then_some P Q R (Ok None) p q f = tt
  then_some P Q R (Err e) p q f = tt

  pub then_none : (P Q : Type 0) (r : Result (Option T) E) → IfOk r (λ o. IfNone o P) → (P → Q)
      → IfOk r (λ o. IfNone o Q)
  then_none P Q (Ok (Some x)) p f = tt
  then_none P Q (Ok None) p f = f p
  then_none P Q (Err e) p f = tt
