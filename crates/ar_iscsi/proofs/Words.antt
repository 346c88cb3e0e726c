-- The words of a header, one after the other.
use Rattle.std.proofs.Common.{◌≡◌, ◌∙◌, ℕ, zero, suc, ◌+◌, ◌<◌, ◌≤◌, List, [], ◌∷◌, ◌++◌, sym, ap, append_assoc}
use Rattle.std.proofs.Common.{append-nil, length, take, get_or, length-take-le, arith}
use Rattle.ar_frames.proofs.Streams.{take-append_more}
use Rattle.byteorder.specs.Endian.{big_bytes}
use Rattle.ar_iscsi.specs.Response.{bytes_of_words}

-- one word more
pub words_more : (ws : List ℕ) (i : ℕ) → i < length ws
    → bytes_of_words (take (suc i) ws) ≡ bytes_of_words (take i ws) ++ big_bytes 4 (get_or ws i 0)
words_more [] i within = absurd (omega (arith, within))
words_more (w ∷ ws) zero within = append-nil (big_bytes 4 w)
words_more (w ∷ ws) (suc i) within =
    ap (λ (l : List ℕ). big_bytes 4 w ++ l) (words_more ws i (omega (arith, within)))
    ∙ sym (append_assoc (big_bytes 4 w) (bytes_of_words (take i ws)) (big_bytes 4 (get_or ws i 0)))

-- the front of a header and one word after it
pub front_more : (header rest : List ℕ) (at w : ℕ) → at ≤ length header
    → take (at + 4) (take at header ++ (big_bytes 4 w ++ rest)) ≡ take at header ++ big_bytes 4 w
front_more header rest at w within =
    let len : length (take at header) ≡ at = length-take-le at header within in
    ap (λ (n : ℕ). take (n + 4) (take at header ++ (big_bytes 4 w ++ rest))) (sym len)
    ∙ take-append_more (take at header) (big_bytes 4 w ++ rest) 4
