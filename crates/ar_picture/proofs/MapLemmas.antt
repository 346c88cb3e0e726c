-- Numbers in fields, and columns one after another.
use Rattle.std.proofs.Common.{◌≡◌, ◌≢◌, ◌∙◌, ℕ, ◌+◌, ◌-◌, ◌*◌, ◌^◌, ◌<◌, true, false, nat_lt, if◌then◌else◌, List, []}
use Rattle.std.proofs.Common.{◌∷◌, ◌++◌, length, get_or, take, refl, sym, ap, add-one, codes, arith}
use Rattle.std.proofs.Math.Seq.{take-suc}
use Rattle.std.proofs.Padding.{char_count-nil, padded_integral_right, repeat_ascii}
use Rattle.std.proofs.lemmas.List.{flat_map_more, replicate-append-replicate}
use Rattle.std.specs.Fmt.{char_count, decimal, format_spec, padded_integral}
use Rattle.std.specs.Char.{encode_utf8}
use Rattle.std.specs.List.{flat_map, range_with_len, repeat}
use Rattle.ar_picture.specs.Maps.{at_left, at_right, down_text, extents_text, heads_text, sizes_text, spaces}
use Rattle.ar_picture.specs.declared.picture.Picture.{Picture}
use Rattle.ar_picture.proofs.FoldLemmas.{range_more}

pub right_is : (width number : ℕ)
    → padded_integral (format_spec 32 3 0 width (2 ^ 64 - 1)) false [] (decimal number) ≡ at_right width number
right_is width number =
    padded_integral_right (format_spec 32 3 0 width (2 ^ 64 - 1)) (decimal number) refl refl (λ one. cc) (λ two. cc)
    (omega arith)

pub left_is : (width number : ℕ)
    → padded_integral (format_spec 32 1 0 width (2 ^ 64 - 1)) false [] (decimal number) ≡ at_left width number
unfolding padded_integral
left_is width number =
    let len = length (decimal number) in
    let short : width - len - 0 - char_count [] - 0 ≡ width - len = omega (arith, char_count-nil) in
    ap (λ n. decimal number ++ repeat n (encode_utf8 32)) short
    ∙ ap (λ (t : List ℕ). decimal number ++ t) (repeat_ascii (width - len) 32 (omega arith))

-- one column more
pub columns-more : (f : ℕ → List ℕ) (front : List ℕ) (n : ℕ)
    → (front ++ flat_map f (range_with_len 0 n)) ++ f n ≡ front ++ flat_map f (range_with_len 0 (n + 1))
columns-more f front n =
    let same : 0 + n ≡ n = omega arith in
    flat_map_more f front (range_with_len 0 n) n
    ∙ ap (λ (ns : List ℕ). front ++ flat_map f ns)
    (ap (λ k. range_with_len 0 n ++ k ∷ []) (sym same) ∙ range_more 0 n 1)

-- one line more
pub lines-more : {X : Type 0} (f : X → List ℕ) (front : List ℕ) (xs : List X) (n : ℕ) (none : X) → n < length xs
    → (front ++ flat_map f (take n xs)) ++ f (get_or xs n none) ≡ front ++ flat_map f (take (n + 1) xs)
lines-more f front xs n none below =
    let taken : take (n + 1) xs ≡ take n xs ++ get_or xs n none ∷ [] = ap (λ k. take k xs) (add-one n)
    ∙ take-suc xs n none below in
    flat_map_more f front (take n xs) (get_or xs n none) ∙ ap (λ ys. front ++ flat_map f ys) (sym taken)

-- five spaces more
pub spaces-more : (n : ℕ) → spaces (10 + 5 * n) ++ codes "     " ≡ spaces (10 + 5 * (n + 1))
spaces-more n =
    let count : 10 + 5 * n + 5 ≡ 10 + 5 * (n + 1) = omega arith in
    replicate-append-replicate (10 + 5 * n) 5 32 ∙ ap spaces count

-- texts with something in them
some_text : (xs ys : List ℕ) (y : ℕ) → xs ++ y ∷ ys ≢ []
some_text [] ys y = λ none. cc
some_text (x ∷ xs) ys y = λ none. cc

pub front_some : (xs ys : List ℕ) → xs ≢ [] → xs ++ ys ≢ []
front_some [] ys some = absurd (some refl)
front_some (x ∷ xs) ys some = λ none. cc

pub heads_some : (picture : Picture) → heads_text picture ≢ []
heads_some picture =
    let sizes = sizes_text picture in
    front_some (sizes ++ spaces 10)
    (flat_map (at_right 5) (range_with_len 0 picture.disks) ++ 10 ∷ down_text picture.health)
    (front_some sizes (spaces 10)
    (some_text (decimal picture.disks)
    (codes "disks (columns) of " ++ (decimal picture.extents ++ codes " extents (lines)\n")) 32))

-- the numbers of extents, as they are printed
pub many_extents : (first last : ℕ) → nat_lt first last ≡ true
    → padded_integral (format_spec 32 3 0 4 (2 ^ 64 - 1)) false [] (decimal first)
    ++ (codes ".." ++ padded_integral (format_spec 32 1 0 4 (2 ^ 64 - 1)) false [] (decimal last))
    ≡ extents_text first last
many_extents first last below =
    ap (λ (t : List ℕ). t
    ++ (codes ".." ++ padded_integral (format_spec 32 1 0 4 (2 ^ 64 - 1)) false [] (decimal last))) (right_is 4 first)
    ∙ ap (λ (t : List ℕ). at_right 4 first ++ (codes ".." ++ t)) (left_is 4 last)
    ∙ sym
    (ap (λ b. if b then at_right 4 first ++ (codes ".." ++ at_left 4 last) else at_right 4 first ++ spaces 6) below)

pub one_extent : (first last : ℕ) → nat_lt first last ≡ false
    → padded_integral (format_spec 32 3 0 4 (2 ^ 64 - 1)) false [] (decimal first)
    ++ codes "      " ≡ extents_text first last
one_extent first last equal =
    ap (λ (t : List ℕ). t ++ codes "      ") (right_is 4 first)
    ∙ sym
    (ap (λ b. if b then at_right 4 first ++ (codes ".." ++ at_left 4 last) else at_right 4 first ++ spaces 6) equal)
