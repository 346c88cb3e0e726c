-- The texts of lists that grow by one, of replies, and of levels.
use Rattle.std.proofs.Common.{◌≡◌, ◌∙◌, ℕ, suc, ◌+◌, ◌<◌, List, [], ◌∷◌, ◌++◌, length, get_or, take, map, append_assoc}
use Rattle.std.proofs.Common.{append-nil, add-zero, add-one, refl, sym, ap, subst, codes, arith, length-take}
use Rattle.std.proofs.Math.Seq.{take-suc}
use Rattle.std.proofs.lemmas.List.{length-map, map-append}
use Rattle.ar_language.specs.declared.order.Notation.{Notation}
use Rattle.ar_language.specs.declared.order.Notation.TheVariants.{Bytes, Runs}
use Rattle.ar_core.specs.declared.views.GroupUse.{GroupUse}
use Rattle.ar_answers.specs.Texts.{data_words, gap, group_text, groups_text, hex_byte, line, onto_runs, run_text}
use Rattle.ar_answers.specs.Texts.{runs_of, words}
use Rattle.ar_answers.proofs.Appending.{words-at}
use Rattle.ar_answers.proofs.RunLengths.{onto_runs_some}

-- one byte more
pub bytes-more : (bytes : List ℕ) (place : ℕ) → place < length bytes
    → words (map hex_byte (take place bytes)) ++ (gap place ++ hex_byte (get_or bytes place 0))
    ≡ words (map hex_byte (take (place + 1) bytes))
bytes-more bytes place below =
    let front = take place bytes in
    let byte = get_or bytes place 0 in
    let count : length (map hex_byte front) ≡ place =
    omega (arith, length-map front hex_byte, length-take place bytes) in
    let taken : take (place + 1) bytes ≡ front ++ byte ∷ [] =
    ap (λ n. take n bytes) (add-one place) ∙ take-suc bytes place 0 below in
    words-at (map hex_byte front) (hex_byte byte) place count
    ∙ ap words (sym (map-append hex_byte front (byte ∷ [])) ∙ ap (λ (xs : List ℕ). map hex_byte xs) (sym taken))

-- one group more
groups-append : (n : ℕ) (groups : List GroupUse) (group : GroupUse) (number : ℕ) → number ≡ n + length groups
    → groups_text n groups ++ group_text number group ≡ groups_text n (groups ++ group ∷ [])
groups-append n [] group number at =
    let same : number ≡ n = at ∙ add-zero n in ap (λ k. group_text k group) same ∙ sym (append-nil (group_text n group))
groups-append n (one ∷ groups) group number at =
    append_assoc (group_text n one) (groups_text (suc n) groups) (group_text number group)
    ∙ ap (λ (rest : List ℕ). group_text n one ++ rest) (groups-append (suc n) groups group number (omega arith))

pub groups-more : (groups : List GroupUse) (place : ℕ) (group : GroupUse) → place < length groups
    → groups_text 0 (take place groups) ++ group_text place (get_or groups place group)
    ≡ groups_text 0 (take (place + 1) groups)
groups-more groups place group below =
    let taken : take (place + 1) groups ≡ take place groups ++ get_or groups place group ∷ [] =
    ap (λ n. take n groups) (add-one place) ∙ take-suc groups place group below in
    groups-append 0 (take place groups) (get_or groups place group) place (omega (arith, length-take place groups))
    ∙ ap (groups_text 0) (sym taken)

-- a reply without data
pub good_alone : (notation : Notation) (bytes : List ℕ) → bytes ≡ []
    → codes "good\n" ≡ line (codes "good" ∷ data_words notation bytes)
good_alone Bytes bytes none = ap (λ (xs : List ℕ). line (codes "good" ∷ data_words Bytes xs)) (sym none)
good_alone Runs bytes none = ap (λ (xs : List ℕ). line (codes "good" ∷ data_words Runs xs)) (sym none)

-- a reply with data
good_with : (ws : List (List ℕ)) (w : List ℕ) (rest : List (List ℕ)) → ws ≡ w ∷ rest
    → codes "good " ++ (words ws ++ 10 ∷ []) ≡ line (codes "good" ∷ ws)
good_with ws w rest some =
    let P : List (List ℕ) → Type 0 = λ xs. codes "good " ++ (words xs ++ 10 ∷ []) ≡ line (codes "good" ∷ xs) in
    subst P (sym some) refl

pub good_data : (notation : Notation) (bytes : List ℕ) → 0 < length bytes
    → codes "good " ++ (words (data_words notation bytes) ++ 10 ∷ []) ≡ line (codes "good" ∷ data_words notation bytes)
good_data notation [] some = absurd (omega arith)
good_data Bytes (byte ∷ bytes) some = good_with (map hex_byte (byte ∷ bytes)) (hex_byte byte) (map hex_byte bytes) refl
good_data Runs (byte ∷ bytes) some =
    let runs = onto_runs_some byte (runs_of bytes) in
    good_with (map run_text (onto_runs byte (runs_of bytes))) (run_text runs.first) (map run_text runs.rest)
    (ap (λ (rs : List (ℕ × ℕ)). map run_text rs) runs.is)
