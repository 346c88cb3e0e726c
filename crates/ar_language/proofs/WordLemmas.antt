-- What std's and hex's contracts say in this crate's words.
use Rattle.std.proofs.Common.{◌≡◌, ◌↔◌, ◌<◌, ◌≤◌, ◌-◌, ◌*◌, ◌&&◌, ◌^◌, ◌++◌, drop, take, replicate, ap, ℕ, Bool, true}
use Rattle.std.proofs.Common.{false, not, List, length, Result, Ok, Err, IsOk, MatchResult, sym, ◌∙◌, rules, arith}
use Rattle.std.specs.List.{list_all, AllPass}
use Rattle.std.specs.Char.{is_ascii_digit}
use Rattle.std.specs.Str.Parse.{digits_value}
use Rattle.std.proofs.lemmas.Str.Parse.{IsNumeralModel, numerals_by_value, digits_value_short}
use Rattle.std.proofs.lemmas.Bool.{false≢true}
use Rattle.std.proofs.lemmas.List.{drop-replicate, length-take}
use Rattle.hex.specs.declared.error.FromHexError.{FromHexError}
use Rattle.hex.specs.Hex.{decode_of, decode_sized, is_hex_digit}
use Rattle.hex.proofs.HexLemmas.{IsOk-decode_sized, IsOk-written, decode_sized-twice}

-- which texts are decoded into room for n bytes
pub decodes : (text out : List ℕ) (n : ℕ) (r : Result Unit FromHexError)
    → MatchResult (decode_sized text n) (λ bytes. (r ≡ Ok tt) × (out ≡ bytes)) (λ e. r ≡ Err e)
    → IsOk r ↔ ((length text ≡ 2 * n) × AllPass is_hex_digit text)
decodes text out n r h =
    let written = IsOk-written (decode_sized text n) r out h in
    let sized = IsOk-decode_sized text n in
    (λ ok. sized.0 (written.0 ok), λ good. written.1 (sized.1 good))

written_value : (d : Result (List ℕ) FromHexError) (out : List ℕ) (r : Result Unit FromHexError)
    → MatchResult d (λ bytes. (r ≡ Ok tt) × (out ≡ bytes)) (λ e. r ≡ Err e) → IsOk r → d ≡ Ok out
written_value (Ok bytes) out r h ok =
    let f : List ℕ → Result (List ℕ) FromHexError = λ x. Ok x in ap f (sym h.1)
written_value (Err e) out r h ok = let bad = rw h at ok in cc bad

-- and as what
pub decoded_value : (text out : List ℕ) (n : ℕ) (r : Result Unit FromHexError)
    → MatchResult (decode_sized text n) (λ bytes. (r ≡ Ok tt) × (out ≡ bytes)) (λ e. r ≡ Err e)
    → IsOk r → decode_of text ≡ Ok out
decoded_value text out n r h ok =
    let good = (decodes text out n r h).0 ok in
    sym (decode_sized-twice text n good.0) ∙ written_value (decode_sized text n) out r h ok

-- the bytes of a block with the zeros after them
pub padded : (out : List ℕ) (n : ℕ) → length out ≡ n
    → out ++ drop n (replicate 16 0) ≡ out ++ replicate (16 - length out) 0
padded out n len =
    ap (λ (zs : List ℕ). out ++ zs) (drop-replicate n 16 0 ∙ ap (λ (k : ℕ). replicate (16 - k) 0) (sym len))

-- a test of a result, and the one that denies it
pub ok_unless_err : (ok err : Bool) → ok ≡ not err → err ≡ false → ok ≡ true
ok_unless_err ok err opposite fine = opposite ∙ ap not fine

pub not_ok_and_err : (ok err : Bool) → ok ≡ not err → err ≡ true → ok ≡ true → ⊥
not_ok_and_err ok err opposite is_err good = false≢true (sym (opposite ∙ ap not is_err) ∙ good)
