-- The words of a line, taken off it one by one.
use Rattle.std.proofs.Common.{◌≡◌, ◌∙◌, ◌+◌, ◌-◌, ◌<◌, ◌≤◌, ◌++◌, ◌==◌, ◌||◌, ℕ, Bool, true, false, List, [], ◌∷◌}
use Rattle.std.proofs.Common.{length, min, take, drop, set, get_or, map, refl, subst, sym, ap, cond, Some, None}
use Rattle.std.proofs.Common.{unwrap_or, ltb, append-nil, length-append, arith, rules, tests}
use borrow.Author.Tests.{eqb-true}
use Rattle.std.specs.List.{list_any, position_or_len, slice_range, slice_split}
use Rattle.std.specs.Borrow.{Bor}
use Rattle.std.specs.Str.{IsUtf8, IsCharBoundary}
use Rattle.std.proofs.lemmas.List.{append_assoc, length-set, length-take-le, map-set, take-append-le, take_all}
use Rattle.std.proofs.lemmas.List.{take_more_set}
use Rattle.std.proofs.lemmas.List.Folds.{list_any-append}
use Rattle.std.proofs.lemmas.List.Splits.{slice_split_none, slice_split_first}
use Rattle.std.proofs.lemmas.List.Sums.{fails_before_first, passes_at_first, prefix_len-le-length}
use Rattle.std.proofs.lemmas.Str.{IsCharBoundary-after_ascii}

abbrev pub is_empty : List ℕ → Bool
is_empty word = length word == 0

-- Of these words some were taken, none of them empty, and the others are left. The first eight of those that were taken
-- are kept.
pub record Gathered (all left kept : List (List ℕ)) (count : ℕ) : Type 0 where
  pub taken : List (List ℕ)
  pub split : taken ++ left ≡ all
  pub some : list_any is_empty taken ≡ false
  pub few : count ≡ min 8 (length taken)
  pub front : take count kept ≡ take 8 taken
  pub room : length kept ≡ 8

pub gathered_none : (all kept : List (List ℕ)) → length kept ≡ 8 → Gathered all all kept 0
gathered_none all kept room = record { taken = []; split = refl; some = refl; few = refl; front = refl; room = room }

not_empty : (byte : ℕ) (bytes : List ℕ) → (false || list_any is_empty ((byte ∷ bytes) ∷ [])) ≡ false
not_empty byte bytes = search (rules, tests)

none_or : (word : List ℕ) (words : List (List ℕ)) → 0 < length word → list_any is_empty words ≡ false
    → list_any is_empty (words ++ word ∷ []) ≡ false
none_or [] words some none = absurd (omega arith)
none_or (byte ∷ bytes) words some none =
    list_any-append is_empty words ((byte ∷ bytes) ∷ []) ∙ ap (λ b. b || list_any is_empty ((byte ∷ bytes) ∷ [])) none
    ∙ not_empty byte bytes

module _ (all left kept : List (List ℕ)) (word : List ℕ) (count : ℕ) (g : Gathered all (word ∷ left) kept count)
    (some : 0 < length word) where
  split_on : (g.taken ++ word ∷ []) ++ left ≡ all
  split_on = append_assoc g.taken (word ∷ []) left ∙ g.split

  longer : length (g.taken ++ word ∷ []) ≡ length g.taken + 1
  longer = length-append g.taken (word ∷ [])

  -- one word more, which is kept
  gathered_one : count < 8 → Gathered all left (set kept count word) (count + 1)
  gathered_one few =
      let front : take (count + 1) (set kept count word) ≡ take 8 (g.taken ++ word ∷ []) =
      take_more_set kept count word (omega (arith, g.room))
      ∙ ap (λ l. l ++ word ∷ []) (g.front ∙ take_all 8 g.taken (omega (arith, g.few)))
      ∙ sym (take_all 8 (g.taken ++ word ∷ []) (omega (arith, g.few, longer))) in
      record {
        taken = g.taken ++ word ∷ [];
        split = split_on;
        some = none_or word g.taken some g.some;
        few = omega (arith, g.few, longer);
        front = front;
        room = length-set kept count word ∙ g.room;
      }

  -- one more, for which there is no room
  gathered_past : 8 ≤ count → Gathered all left kept count
  gathered_past full =
      record {
        taken = g.taken ++ word ∷ [];
        split = split_on;
        some = none_or word g.taken some g.some;
        few = omega (arith, g.few, longer);
        front = g.front ∙ sym (take-append-le 8 g.taken (word ∷ []) (omega (arith, g.few)));
        room = g.room;
      }

module _ (all before left : List (List ℕ)) (words next : List (Bor (List ℕ))) (count more : ℕ)
    (g : Gathered all before (map (λ word. word.now) words) count) where
  -- the same of words where they lie
  pub gathered_next : (word : Bor (List ℕ)) → before ≡ word.now ∷ left → 0 < length word.now → count < 8
      → next ≡ set words count word → more ≡ count + 1
      → Gathered all left (map (λ word. word.now) next) more
  gathered_next word first some few is_next is_more =
      let one = gathered_one all left (map (λ word. word.now) words) word.now count
      (subst (λ l. Gathered all l (map (λ word. word.now) words) count) first g) some few in
      let kept : set (map (λ word. word.now) words) count word.now ≡ map (λ word. word.now) next =
      sym (ap (map (λ word. word.now)) is_next ∙ map-set (λ word. word.now) words count word) in
      subst (λ n. Gathered all left (map (λ word. word.now) next) n) (sym is_more)
      (subst (λ l. Gathered all left l (count + 1)) kept one)

  pub gathered_full : (word : List ℕ) → before ≡ word ∷ left → 0 < length word → 8 ≤ count → next ≡ words → more ≡ count
      → Gathered all left (map (λ word. word.now) next) more
  gathered_full word first some full is_next is_more =
      let past = gathered_past all left (map (λ word. word.now) words) word count
      (subst (λ l. Gathered all l (map (λ word. word.now) words) count) first g) some full in
      subst (λ n. Gathered all left (map (λ word. word.now) next) n) (sym is_more)
      (subst (λ (l : List (Bor (List ℕ))). Gathered all left (map (λ word. word.now) l) count) (sym is_next) past)

-- an empty word is one of all
pub gathered_gap : (all before left kept : List (List ℕ)) (count : ℕ) → Gathered all before kept count
    → before ≡ [] ∷ left → list_any is_empty all ≡ true
gathered_gap all before left kept count g first =
    ap (list_any is_empty) (sym g.split ∙ ap (λ l. g.taken ++ l) first) ∙ list_any-append is_empty g.taken ([] ∷ left)
    ∙ ap (λ b. b || list_any is_empty ([] ∷ left)) g.some

-- none is left
pub gathered_all : (all kept : List (List ℕ)) (count : ℕ) → Gathered all [] kept count
    → (list_any is_empty all ≡ false) × (count ≡ min 8 (length all)) × (take count kept ≡ take 8 all)
gathered_all all kept count g =
    let same : g.taken ≡ all = sym (append-nil g.taken) ∙ g.split in (
      ap (list_any is_empty) (sym same) ∙ g.some,
      g.few ∙ ap (λ l. min 8 (length l)) same,
      g.front ∙ ap (take 8) same,
    )

-- ---- the words of a text, of which the first ends at this place

abbrev pub is_space : ℕ → Bool
is_space byte = byte == 32

abbrev pub words_of : List ℕ → List (List ℕ)
words_of text = slice_split is_space text

pub no_further : (text : List ℕ) → position_or_len is_space text ≤ length text
no_further text = prefix_len-le-length _ text

-- the place of a space, or the length, where that is what a search finds
pub found_or : (n len : ℕ) → n ≤ len → unwrap_or (cond (ltb n len) (Some n) None) len ≡ n
found_or n len most = grind arith

-- an empty text is one word, which is empty
pub no_words : (text : List ℕ) → (length text == 0) ≡ true → words_of text ≡ [] ∷ []
no_words [] none = refl
no_words (byte ∷ bytes) none = absurd (search (rules, tests))

pub some_bytes : (text : List ℕ) → (length text == 0) ≡ false → 0 < length text
some_bytes text some = search (rules, tests)

module _ (text : List ℕ) (end : ℕ) (at : end ≡ position_or_len is_space text) where
  not_after : end ≤ length text
  not_after = omega (arith, at, no_further text)

  first_taken : end < length text → words_of text ≡ take end text ∷ words_of (drop (end + 1) text)
  first_taken inside =
      slice_split_first is_space text 0 (omega (arith, at))
      ∙ ap (λ n. take n text ∷ words_of (drop (n + 1) text)) (sym at)

  last_taken : end ≡ length text → words_of text ≡ take end text ∷ []
  last_taken whole =
      slice_split_none is_space text (λ k d l. fails_before_first is_space text k d (omega (arith, whole, at)))
      ∙ ap (λ l. l ∷ []) (sym (take_all end text (omega (arith, whole))))

  pub no_word : 0 < length text → end ≡ 0 → words_of text ≡ [] ∷ words_of (drop (end + 1) text)
  no_word some here =
      first_taken (omega (arith, some, here)) ∙ ap (λ n. take n text ∷ words_of (drop (end + 1) text)) here

  module _ (word : List ℕ) (cut : word ≡ slice_range text 0 end) where
    is : word ≡ take end text
    is = let whole : end - 0 ≡ end = omega arith in cut ∙ ap (λ n. take n text) whole

    pub first_word : (rest : List ℕ) → rest ≡ drop (end + 1) text → (end ≡ length text → ⊥)
        → words_of text ≡ word ∷ words_of rest
    first_word rest is_rest more =
        first_taken (omega (arith, not_after, more)) ∙ ap (λ w. w ∷ words_of (drop (end + 1) text)) (sym is)
        ∙ ap (λ r. word ∷ words_of r) (sym is_rest)

    pub last_word : end ≡ length text → words_of text ≡ word ∷ []
    last_word whole = last_taken whole ∙ ap (λ w. w ∷ []) (sym is)

    pub some_word : (end ≡ 0 → ⊥) → 0 < length word
    some_word some = let len : length word ≡ end =
        ap length is ∙ length-take-le end text not_after in omega (arith, len, some)

  space_at : end < length text → get_or text end 0 ≡ 32
  space_at inside = ap (λ n. get_or text n 0) at ∙ eqb-true _ _ (passes_at_first is_space text 0 (omega (arith, at)))

  -- it may be cut there, and after a space
  pub cut_at : IsCharBoundary text end
  cut_at = (not_after, λ inside wide. absurd (omega (arith, space_at inside)))

  pub cut_behind : IsUtf8 text → (end ≡ length text → ⊥) → IsCharBoundary text (end + 1)
  cut_behind utf8 more =
      let inside : end < length text =
      omega (arith, not_after, more) in IsCharBoundary-after_ascii text end utf8 inside
      (omega (arith, space_at inside))
