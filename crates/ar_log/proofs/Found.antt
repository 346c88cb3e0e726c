-- What is found where a batch may begin, in a log over zeros.
use Rattle.std.proofs.Common.{◌≡◌, ◌≢◌, inl, inr, ℕ, ◌+◌, ◌-◌, ◌<◌, ◌≤◌, ◌^◌, true, false, List, [], ◌∷◌, ◌++◌}
use Rattle.std.proofs.Common.{length, take, drop, Vec, sym, ◌∙◌, ap, subst, arith, append_assoc, length-append}
use Rattle.std.proofs.Common.{length-drop}
use Rattle.std.specs.declared.alloc.Global.{Global}
use Rattle.std.specs.List.{flat_map}
use Rattle.std.proofs.lemmas.List.{length-take-le, take_at, drop_at}
use Rattle.ar_log.specs.Codec.{Batch, items_of, number_bytes, number_of, batch_digest, encoded}
use Rattle.ar_log.specs.Reading.{all_items}
use Rattle.ar_log.specs.Zeroed.{zeros_in, most, body_of, counted_body, counted_bytes, len_in, lack_in, count_in}
use Rattle.ar_log.specs.Zeroed.{body_in, Lacks}
use Rattle.ar_log.specs.Zeroed.{AllFit, zeroed_front, HoldsZeroed, IsNoBatch, begins_whole, zeroed_batches, IsReadTo}
use Rattle.ar_log.proofs.Encoding.{length_number_bytes, number_back, same_parts}
use Rattle.ar_log.proofs.Whole.{all_items-push}
use Rattle.ar_log.proofs.Counting.{len_back, lack_back, count_back, body_back, length_counted, from_parts}
use Rattle.ar_log.proofs.Zeroing.{whole_is_whole, not_whole, holds_are, front_push, fit_push}

-- a number that was read
pub number_read : (n at : ℕ) (bytes : List ℕ) → number_bytes n ≡ take 8 (drop at bytes) → n < 2 ^ 64
    → number_of (take 8 (drop at bytes)) ≡ n
number_read n at bytes is fits = ap number_of (sym is) ∙ number_back n fits

-- the numbers of a head
module _ (bytes : List ℕ) (len lack : ℕ) (len_is : len_in bytes ≡ len) (lack_is : lack_in bytes ≡ lack)
    (long : 24 ≤ length bytes) (fits : len < 2 ^ 64) where
  pub lacks_sum : lack < most - len → Lacks bytes
  lacks_sum less = inr (inl (omega (arith, len_is, lack_is, less, fits)))

  sum_is : lack ≡ most - len → len_in bytes + lack_in bytes ≡ most
  sum_is whole = omega (arith, len_is, lack_is, whole, fits)

  pub lacks_end : lack ≡ most - len → length bytes < 24 + len → Lacks bytes
  lacks_end whole short = inr (inr (sum_is whole, inl (omega (arith, short, len_is))))

  pub lacks_zeros : (count : ℕ) → lack ≡ most - len → count_in bytes ≡ count
      → count < zeros_in (take len (drop 24 bytes)) → Lacks bytes
  lacks_zeros count whole count_is less =
      let same : zeros_in (body_in bytes) ≡ zeros_in (take len (drop 24 bytes)) =
      ap (λ (n : ℕ). zeros_in (take n (drop 24 bytes))) len_is in
      inr (inr (sum_is whole, inr (omega (arith, less, count_is, same))))

  pub no_batch_sum : most - len < lack → IsNoBatch bytes
  no_batch_sum more = record {
    not_torn = λ lacks. elim lacks [
      | inl short ↦ omega (arith, short, long)
      | inr rest ↦ elim rest [
        | inl less ↦ omega (arith, less, len_is, lack_is, more)
        | inr even ↦ omega (arith, even.0, len_is, lack_is, more, fits)
      ]
    ];
    not_whole = λ batch rest is small.
        let P : List ℕ → Type 0 = λ l.
        (len_in l ≡ length (body_of batch)) × (lack_in l ≡ most - length (body_of batch)) in
        let facts = subst P (sym is) (len_back (body_of batch) rest small, lack_back (body_of batch) rest small) in
        omega (arith, facts.0, facts.1, len_is, lack_is, more);
  }

  pub no_batch_zeros : (count : ℕ) → lack ≡ most - len → 24 + len ≤ length bytes → count_in bytes ≡ count
      → zeros_in (take len (drop 24 bytes)) < count → IsNoBatch bytes
  no_batch_zeros count whole holds count_is more =
      let same : zeros_in (body_in bytes) ≡ zeros_in (take len (drop 24 bytes)) =
      ap (λ (n : ℕ). zeros_in (take n (drop 24 bytes))) len_is in
      record {
        not_torn = λ lacks. elim lacks [
          | inl short ↦ omega (arith, short, long)
          | inr rest ↦ elim rest [
            | inl less ↦ omega (arith, less, sum_is whole)
            | inr even ↦ elim even.1 [
              | inl short ↦ omega (arith, short, holds, len_is)
              | inr few ↦ omega (arith, few, count_is, same, more)
            ]
          ]
        ];
        not_whole = λ batch rest is small.
            let P : List ℕ → Type 0 = λ l. count_in l ≡ zeros_in (body_in l) in
            let facts = subst P (sym is)
            (count_back (body_of batch) rest small ∙ ap zeros_in (sym (body_back (body_of batch) rest small))) in
            omega (arith, facts, count_is, same, more);
      }

-- bytes that begin with a whole batch do not lack any of it
whole_lacks_none : (body rest bytes : List ℕ) → length body < 2 ^ 64 → counted_body body ++ rest ≡ bytes
    → Lacks bytes → ⊥
whole_lacks_none body rest bytes fits is lacks =
    let e : true ≡ false = sym (whole_is_whole body rest fits) ∙ ap begins_whole is ∙ not_whole bytes lacks in
    absurd (cc e)

-- a whole body that no batch has
pub no_batch_body : (body rest bytes : List ℕ) → length body < 2 ^ 64 → bytes ≡ counted_body body ++ rest
    → ((batch : Batch) → body_of batch ≡ body → ⊥) → IsNoBatch bytes
no_batch_body body rest bytes fits is none = record {
  not_torn = whole_lacks_none body rest bytes fits (sym is);
  not_whole = λ batch more also small.
      none batch
      (sym (body_back (body_of batch) more small) ∙ ap body_in (sym also ∙ is) ∙ body_back body rest fits);
}

-- the parts of a body
pub body_parts : (batch : Batch) (body : List ℕ) → body_of batch ≡ body
    → (encoded batch ≡ drop 8 body) × (number_bytes (batch_digest 0 (drop 8 body)) ≡ take 8 body)
body_parts batch body is =
    let digest = number_bytes (batch_digest 0 (encoded batch)) in
    let size : length digest ≡ 8 = length_number_bytes (batch_digest 0 (encoded batch)) in
    let payload : encoded batch ≡ drop 8 body =
    sym (drop_at digest (encoded batch) 8 size) ∙ ap (λ (l : List ℕ). drop 8 l) is in (
      payload,
      ap (λ (l : List ℕ). number_bytes (batch_digest 0 l)) (sym payload) ∙ sym (take_at digest (encoded batch) 8 size)
          ∙ ap (λ (l : List ℕ). take 8 l) is,
    )

pub other_digest : (batch : Batch) (body payload head : List ℕ) (digest found : ℕ) → payload ≡ drop 8 body
    → number_bytes digest ≡ take 8 body → digest < 2 ^ 64 → found ≡ batch_digest 0 payload → found < 2 ^ 64
    → digest ≢ found → body_of batch ≡ body → ⊥
other_digest batch body payload head digest found payload_is digest_is digest_fits found_is found_fits other is =
    let parts = body_parts batch body is in
    let same : number_bytes digest ≡ number_bytes found =
    digest_is ∙ sym parts.1 ∙ ap (λ (l : List ℕ). number_bytes (batch_digest 0 l)) (sym payload_is)
    ∙ ap number_bytes (sym found_is) in
    other (sym (number_back digest digest_fits) ∙ ap number_of same ∙ number_back found found_fits)

-- where there is no batch after some, the file is no log
no_more : (done others : List Batch) (t r : List ℕ) → AllFit done → AllFit others → IsNoBatch t → Lacks r
    → flat_map counted_bytes done ++ t ≡ flat_map counted_bytes others ++ r → ⊥
no_more [] [] t r fit also none lacks is = none.not_torn (subst Lacks (sym is) lacks)
no_more [] (o ∷ others) t r fit also none lacks is =
    none.not_whole o (flat_map counted_bytes others ++ r)
    (is ∙ append_assoc (counted_bytes o) (flat_map counted_bytes others) r) also.0
no_more (d ∷ done) [] t r fit also none lacks is =
    whole_lacks_none (body_of d) (flat_map counted_bytes done ++ t) r fit.0
    (sym (append_assoc (counted_bytes d) (flat_map counted_bytes done) t) ∙ is) lacks
no_more (d ∷ done) (o ∷ others) t r fit also none lacks is =
    let a = flat_map counted_bytes done ++ t in
    let b = flat_map counted_bytes others ++ r in
    let all : counted_bytes d ++ a ≡ counted_bytes o ++ b =
    sym (append_assoc (counted_bytes d) (flat_map counted_bytes done) t) ∙ is
    ∙ append_assoc (counted_bytes o) (flat_map counted_bytes others) r in
    let lens : length (body_of d) ≡ length (body_of o) =
    sym (len_back (body_of d) a fit.0) ∙ ap len_in all ∙ len_back (body_of o) b also.0 in
    let rest = same_parts (counted_bytes d) a (counted_bytes o) b
    (omega (arith, length_counted (body_of d), length_counted (body_of o), lens)) all in
    no_more done others t r fit.1 also.1 none lacks rest.1

pub no_holds : (done others : List Batch) (t file : List ℕ) → zeroed_front done ++ t ≡ file → AllFit done → IsNoBatch t
    → HoldsZeroed others file → ⊥
no_holds done others t file is fit none holds =
    no_more done others t holds.rest fit holds.fit none holds.lacks (ap (λ (l : List ℕ). drop 8 l) (is ∙ holds.split))

-- all batches were read
pub read_to : (vs : List (Vec (Vec ℕ Global) Global)) (rest file : List ℕ) (end : ℕ)
    → zeroed_front (all_items vs) ++ rest ≡ file → AllFit (all_items vs) → Lacks rest → end ≡ length file - length rest
    → IsReadTo file vs end
read_to vs rest file end is fit lacks end_is =
    let batches = all_items vs in
    let size : end ≡ length (zeroed_front batches) =
    omega (arith, end_is, ap length is, length-append (zeroed_front batches) rest) in
    let front : take end file ≡ zeroed_front batches =
    ap (λ (l : List ℕ). take end l) (sym is) ∙ take_at (zeroed_front batches) rest end (sym size) in
    let behind : drop end file ≡ rest =
    ap (λ (l : List ℕ). drop end l) (sym is) ∙ drop_at (zeroed_front batches) rest end (sym size) in
    let are : zeroed_batches file ≡ batches =
    holds_are batches file (record { rest = rest; split = sym is; fit = fit; lacks = lacks }) in
    record {
      are = sym are;
      ends = record {
        front = front ∙ ap zeroed_front (sym are);
        fit = subst AllFit (sym are) fit;
        lacks = subst Lacks (sym behind) lacks;
        end_is = size ∙ ap (λ (b : List Batch). length (zeroed_front b)) (sym are);
        within = omega (arith, end_is);
      };
    }

-- one batch more was read
pub reads_one : (vs : List (Vec (Vec ℕ Global) Global)) (v : Vec (Vec ℕ Global) Global) (len : ℕ) (rest file : List ℕ)
    → zeroed_front (all_items vs) ++ rest ≡ file → rest ≡ counted_bytes (items_of v.items) ++ drop len rest
    → zeroed_front (all_items (vs ++ v ∷ [])) ++ drop len rest ≡ file
reads_one vs v len rest file is split =
    let behind = drop len rest in
    ap (λ (b : List Batch). zeroed_front b ++ behind) (all_items-push vs v)
    ∙ ap (λ (l : List ℕ). l ++ behind) (front_push (all_items vs) (items_of v.items))
    ∙ append_assoc (zeroed_front (all_items vs)) (counted_bytes (items_of v.items)) behind
    ∙ ap (λ (l : List ℕ). zeroed_front (all_items vs) ++ l) (sym split)
    ∙ is

pub fits_one : (vs : List (Vec (Vec ℕ Global) Global)) (v : Vec (Vec ℕ Global) Global) → AllFit (all_items vs)
    → length (body_of (items_of v.items)) < 2 ^ 64 → AllFit (all_items (vs ++ v ∷ []))
fits_one vs v fit fits =
    subst AllFit (sym (all_items-push vs v)) (fit_push (all_items vs) (items_of v.items) fit fits)

-- the parts that were read are those of a whole batch
pub whole_from : (bytes : List ℕ) (len lack count : ℕ) → number_bytes len ≡ take 8 bytes
    → number_bytes lack ≡ take 8 (drop 8 bytes) → number_bytes count ≡ take 8 (drop 16 bytes) → 24 + len ≤ length bytes
    → lack ≡ most - len → count ≡ zeros_in (take len (drop 24 bytes))
    → bytes ≡ counted_body (take len (drop 24 bytes)) ++ drop (24 + len) bytes
whole_from bytes len lack count len_is lack_is count_is holds whole zeros =
    let body = take len (drop 24 bytes) in
    let size : length body ≡ len = length-take-le len (drop 24 bytes) (omega (arith, holds, length-drop 24 bytes)) in
    from_parts body bytes (sym len_is ∙ ap number_bytes (sym size))
    (sym lack_is ∙ ap number_bytes (whole ∙ ap (λ (n : ℕ). most - n) (sym size)))
    (sym count_is ∙ ap number_bytes zeros)
    (ap (λ (n : ℕ). take n (drop 24 bytes)) size)
    ∙ ap (λ (n : ℕ). counted_body body ++ drop (24 + n) bytes) size
