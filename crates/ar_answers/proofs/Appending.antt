-- Texts that are appended one after another, and words that are.
use Rattle.std.proofs.Common.{◌≡◌, ◌∙◌, ℕ, List, [], ◌∷◌, ◌++◌, length, append_assoc, refl, sym, ap, codes}
pub use Rattle.ar_picture.proofs.Appending.{appends_as, appends_none, appends_then, ends_with}
use Rattle.ar_answers.specs.Texts.{gap, words}

-- one word more
words-more : (ws : List (List ℕ)) (w : List ℕ) → words ws ++ (gap (length ws) ++ w) ≡ words (ws ++ w ∷ [])
words-more [] w = refl
words-more (v ∷ []) w = refl
words-more (v ∷ u ∷ ws) w =
    append_assoc v (32 ∷ words (u ∷ ws)) (32 ∷ w) ∙ ap (λ (rest : List ℕ). v ++ 32 ∷ rest) (words-more (u ∷ ws) w)

pub words-at : (ws : List (List ℕ)) (w : List ℕ) (place : ℕ) → length ws ≡ place
    → words ws ++ (gap place ++ w) ≡ words (ws ++ w ∷ [])
words-at ws w place count = ap (λ n. words ws ++ (gap n ++ w)) (sym count) ∙ words-more ws w

-- a moved block's words, and those of its slot after them
pub moved-line : (host lun rb group slot start key place line : List ℕ) → start ≡ [] ++ codes "moved"
    → key ≡ start ++ codes " " ++ (host ++ 32 ∷ (lun ++ 32 ∷ rb))
    → place ≡ key ++ codes " to " ++ (group ++ 32 ∷ slot) → line ≡ place ++ 10 ∷ []
    → line ≡ words (codes "moved" ∷ host ∷ lun ∷ rb ∷ codes "to" ∷ group ∷ slot ∷ []) ++ 10 ∷ []
moved-line host lun rb group slot start key place line is_start is_key is_place is_line =
    let rest = codes " to " ++ (group ++ 32 ∷ slot) in
    let all =
    append_assoc host (32 ∷ (lun ++ 32 ∷ rb)) rest
    ∙ ap (λ l. host ++ 32 ∷ l) (append_assoc lun (32 ∷ rb) rest) in
    is_line
    ∙ ap (λ l. l ++ 10 ∷ []) (is_place ∙ append_assoc key (codes " to ") (group ++ 32 ∷ slot) ∙ ap (λ l. l ++ rest)
    (is_key ∙ ap (λ l. l ++ codes " " ++ (host ++ 32 ∷ (lun ++ 32 ∷ rb))) is_start)
    ∙ ap (λ l. codes "moved " ++ l) all)
