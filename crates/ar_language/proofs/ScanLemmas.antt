-- What is found of bytes in pieces: printable characters, and line feeds.
use Rattle.std.proofs.Common.{◌≡◌, ◌∙◌, ◌+◌, ◌-◌, ◌<◌, ◌≤◌, ◌==◌, ℕ, Bool, true, false, List, length, take, drop}
use Rattle.std.proofs.Common.{get_or, ltb, refl, sym, ap, get_or-take, get_or-drop, length-take, length-drop, arith}
use Rattle.std.proofs.lemmas.Bool.{ltb-true, ltb-false}
use Rattle.std.proofs.lemmas.List.{drop-take, take-take, take_all}
use Rattle.std.proofs.lemmas.List.Sums.{AllPass-from_list_all, prefix_len_is, prefix_len_passes, prefix_len_stops}
use Rattle.std.proofs.lemmas.List.Sums.{prefix_len-le-length, sum_by-take-drop}
use Rattle.std.specs.List.{list_all, count_by, prefix_len}
use Rattle.ar_language.specs.Lines.{is_printable}

-- the bytes of a piece from `at` on
pub rest_of_piece : (bytes : List ℕ) (at : ℕ) → take (length bytes - at) (drop at bytes) ≡ drop at bytes
rest_of_piece bytes at = take_all (length bytes - at) (drop at bytes) (omega (arith, length-drop at bytes))

-- a printable piece after printable bytes
pub printable_more : (bytes : List ℕ) (len more room : ℕ) → more ≤ room → len + more ≤ length bytes
    → ((k : ℕ) → k < len → is_printable (get_or bytes k 0) ≡ true)
    → list_all is_printable (take room (drop len bytes)) ≡ true
    → (k : ℕ) → k < len + more → is_printable (get_or bytes k 0) ≡ true
printable_more bytes len more room few inside before piece k within = at (ltb k len) refl
  where
    at : (b : Bool) → ltb k len ≡ b → is_printable (get_or bytes k 0) ≡ true
    at true is = before k (ltb-true _ _ is)
    at false is =
        let past : len ≤ k = ltb-false _ _ is in
        let here : k - len < more = omega arith in
        let place : len + (k - len) ≡ k = omega arith in
        let there : k - len < length (take room (drop len bytes)) =
        omega (arith, length-take room (drop len bytes), length-drop len bytes) in
        ap (λ i. is_printable (get_or bytes i 0)) (sym place)
        ∙ ap is_printable (sym (get_or-drop len bytes (k - len) 0))
        ∙ ap is_printable (sym (get_or-take room (drop len bytes) (k - len) 0 (omega arith)))
        ∙ AllPass-from_list_all is_printable (take room (drop len bytes)) piece (k - len) 0 there

-- what is printable at the front of the bytes after printable ones is so of all of them
pub printable_rest : (bytes : List ℕ) (len near : ℕ) → len ≤ length bytes
    → ((k : ℕ) → k < len → is_printable (get_or bytes k 0) ≡ true)
    → near ≡ prefix_len is_printable (drop len bytes) → len + near ≡ prefix_len is_printable bytes
printable_rest bytes len near inside before is =
    sym (prefix_len_is is_printable bytes (len + near) 0
    (omega (arith, is, prefix_len-le-length is_printable (drop len bytes), length-drop len bytes)) shown stopped)
  where
    rest : List ℕ
    rest = drop len bytes

    shown : (k : ℕ) → k < len + near → is_printable (get_or bytes k 0) ≡ true
    shown k within = at (ltb k len) refl
      where
        at : (b : Bool) → ltb k len ≡ b → is_printable (get_or bytes k 0) ≡ true
        at true is_before = before k (ltb-true _ _ is_before)
        at false is_past =
            let past : len ≤ k = ltb-false _ _ is_past in
            let place : len + (k - len) ≡ k = omega arith in
            ap (λ i. is_printable (get_or bytes i 0)) (sym place)
            ∙ ap is_printable (sym (get_or-drop len bytes (k - len) 0))
            ∙ prefix_len_passes is_printable rest (k - len) 0 (omega (arith, is))

    stopped : len + near < length bytes → is_printable (get_or bytes (len + near) 0) ≡ false
    stopped more =
        ap is_printable (sym (get_or-drop len bytes near 0))
        ∙ ap (λ n. is_printable (get_or rest n 0)) is
        ∙ prefix_len_stops is_printable rest 0 (omega (arith, is, length-drop len bytes))

-- the line feeds up to a place and those of the piece after it
pub feeds_more : (bytes : List ℕ) (at more count found : ℕ) → count ≡ count_by (λ byte. byte == 10) (take at bytes)
    → found ≡ count_by (λ byte. byte == 10) (take more (drop at bytes))
    → count + found ≡ count_by (λ byte. byte == 10) (take (at + more) bytes)
feeds_more bytes at more count found before piece =
    let all = take (at + more) bytes in
    let front : take at all ≡ take at bytes = take-take at (at + more) bytes (omega arith) in
    let behind : drop at all ≡ take more (drop at bytes) = drop-take at more bytes in
    ap (λ n. n + found) (before ∙ ap (count_by (λ byte. byte == 10)) (sym front))
    ∙ ap (λ n. count_by (λ byte. byte == 10) (take at all) + n)
    (piece ∙ ap (count_by (λ byte. byte == 10)) (sym behind))
    ∙ sum_by-take-drop _ all at

-- and of all bytes
pub feeds_rest : (bytes : List ℕ) (at count found : ℕ) → count ≡ count_by (λ byte. byte == 10) (take at bytes)
    → found ≡ count_by (λ byte. byte == 10) (drop at bytes) → count + found ≡ count_by (λ byte. byte == 10) bytes
feeds_rest bytes at count found before rest =
    ap (λ n. n + found) before
    ∙ ap (λ n. count_by (λ byte. byte == 10) (take at bytes) + n) rest
    ∙ sum_by-take-drop _ bytes at
