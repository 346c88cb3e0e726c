-- A tree whose leaves are blank, and one with a leaf more.
use Rattle.std.proofs.Common.{◌≡◌, ℕ, zero, suc, ◌+◌, ◌-◌, ◌*◌, ◌^◌, ◌<◌, ◌≤◌, false, cond, Option, None, Some, List}
use Rattle.std.proofs.Common.{[], ◌∷◌, ◌++◌, length, set, get_or, replicate, refl, sym, ap, ◌∙◌, inl, inr, arith}
use Rattle.std.proofs.lemmas.Bool.{cases_eq, cases_lt}
use Rattle.std.proofs.lemmas.List.{length-replicate, get_or-replicate, get_or_past, ext_get_or, get_or_push}
use Rattle.std.proofs.lemmas.List.{get_or-set_other, get_or-set_same, length-set, length-append, get_or_append_left}
use Rattle.std.proofs.lemmas.List.{set-append_right}
use Rattle.std.proofs.lemmas.List.Sums.{sum_by-append, sum_by-cons}
use Rattle.ar_disks.specs.declared.address.Addr.{Addr}
use Rattle.ar_index.specs.declared.choices.Age.{Age}
use Rattle.ar_index.specs.declared.choices.Choices.{Choices}
use Rattle.ar_index.specs.Bits.{has}
use Rattle.ar_index.specs.Choices.{nothing, older}
use Rattle.ar_index.specs.Tree.{node_at, leaves_under, IsGrown, IsOfGroups, IsValidTree, IsRight, TreeState, leaf_of}
use Rattle.ar_index.specs.Tree.{leaves, free_in}
use Rattle.ar_index.proofs.Joins.{same_choices}
use Rattle.ar_index.proofs.Leaves.{leaves_are, leaves_count, leaf_at, one_if_free}
use Rattle.ar_index.proofs.Sets.{none_in}

no_block : (n i : ℕ) → node_at (replicate n None) i ≡ None
no_block n i = elim (cases_lt i n) [
  | inl inside ↦ get_or-replicate n i None None inside
  | inr past ↦ get_or_past (replicate n None) i None (omega (arith, length-replicate {A = Option Age} n None))
]

no_leaf : (n i : ℕ) → get_or (replicate n nothing) i nothing ≡ nothing
no_leaf n i = elim (cases_lt i n) [
  | inl inside ↦ get_or-replicate n i nothing nothing inside
  | inr past ↦ get_or_past (replicate n nothing) i nothing (omega (arith, length-replicate {A = Choices} n nothing))
]

none_free : (n : ℕ) → free_in (replicate n nothing) ≡ 0
none_free zero = refl
none_free (suc n) =
    let e : free_in (replicate (suc n) nothing) ≡ 0 + free_in (replicate n nothing) =
    sum_by-cons one_if_free nothing (replicate n nothing) in
    let r = none_free n in
    omega arith

-- a leaf without a number or a block has nothing
blank_leaf : (t : TreeState) (i : ℕ) → has t.mirrored i ≡ false → has t.parity i ≡ false → has t.free i ≡ false
    → node_at t.nodes (t.size + i) ≡ None → leaf_of t i ≡ nothing
blank_leaf t i m p f o =
    same_choices (leaf_of t i) nothing (ap (λ b. cond {A = Option ℕ} b (Some i) None) m)
    (ap (λ b. cond {A = Option ℕ} b (Some i) None) p) (ap (λ b. cond {A = Option ℕ} b (Some i) None) f) o

module _ (size count words : ℕ) where
  abbrev pub blank : TreeState
  blank = record {
    size = size;
    count = count;
    nodes = replicate (2 * size) None;
    mirrored = replicate words 0;
    parity = replicate words 0;
    free = replicate words 0;
  }

  pub blank_is : (nodes : List (Option Age)) (m p f : List ℕ) → nodes ≡ replicate (2 * size) None
      → m ≡ replicate words 0 → p ≡ replicate words 0 → f ≡ replicate words 0
      → (let t : TreeState =
      record { size = size; count = count; nodes = nodes; mirrored = m; parity = p; free = f } in t) ≡ blank
  blank_is nodes m p f a b c d =
      λ i. record { size = size; count = count; nodes = a i; mirrored = b i; parity = c i; free = d i }

  pub blank_leaves : leaves blank ≡ replicate count nothing
  blank_leaves = leaves_are blank (replicate count nothing) (length-replicate count nothing) (λ i inside.
      blank_leaf blank i (none_in words i) (none_in words i) (none_in words i) (no_block (2 * size) (size + i))
      ∙ sym (no_leaf count i))

  pub blank_right : (place : Addr → ℕ) → IsRight place blank
  blank_right place = record {
    joined = λ i low inner ne.
        no_block (2 * size) i
        ∙ sym (ap (λ x. older place x (node_at (replicate (2 * size) None) (2 * i + 1))) (no_block (2 * size) (2 * i))
        ∙ no_block (2 * size) (2 * i + 1));
    behind = λ i h. no_block (2 * size) i;
  }

  pub blank_kept : (h : ℕ) → leaves_under h ≡ size → count ≤ size → size ≤ 2 * count - 1 → count < 2 ^ 32
      → size ≤ 64 * words → 64 * words ≤ size + 63 → IsValidTree blank 0
  blank_kept h height within close few room tight = record {
    grown = record {
      twice = length-replicate {A = Option Age} (2 * size) None;
      height = λ some. (h, height);
      within = within;
      empty = λ i past. no_block (2 * size) i;
    };
    close = close;
    few = few;
    mirrored = groups;
    parity = groups;
    frees = groups;
    counted = sym (ap free_in blank_leaves ∙ none_free count);
  }
    where
      groups : IsOfGroups size count (replicate words 0)
      groups = record {
        room = omega (arith, length-replicate {A = ℕ} words 0);
        close = omega (arith, length-replicate {A = ℕ} words 0);
        past = λ i h. none_in words i;
      }

-- twice as many leaves are a power of two, as they were, and one is
pub twice_height : (size count more : ℕ) (nodes : List (Option Age)) → IsGrown size count nodes
    → (size ≡ 0 → more ≡ 1) → (0 < size → more ≡ 2 * size) → (h : ℕ) × (leaves_under h ≡ more)
twice_height size count more nodes ok first twice = by size refl
  where
    by : (n : ℕ) → n ≡ size → (h : ℕ) × (leaves_under h ≡ more)
    by zero e = (0, sym (first (sym e)))
    by (suc n) e = let p = ok.height (omega arith) in (suc p.0, ap (λ x. 2 * x) p.1 ∙ sym (twice (omega arith)))

-- a higher tree has no fewer leaves
grows : (a b : ℕ) → a ≤ b → leaves_under a ≤ leaves_under b
grows zero zero le = omega arith
grows zero (suc b) le = let h = grows zero b (omega arith) in omega arith
grows (suc a) zero le = absurd (omega arith)
grows (suc a) (suc b) le = let h = grows a b (omega arith) in omega arith

-- twice as many leaves are no more than there may be, where there may be more
pub twice_few : (size count more : ℕ) (nodes : List (Option Age)) → IsGrown size count nodes → size < 2 ^ 24
    → (size ≡ 0 → more ≡ 1) → (0 < size → more ≡ 2 * size) → more ≤ 2 ^ 24
twice_few size count more nodes ok few first twice = by size refl
  where
    by : (n : ℕ) → n ≡ size → more ≤ 2 ^ 24
    by zero e = (let one = first (sym e) in omega arith)
    by (suc n) e = (let p = ok.height (omega arith) in let double = twice (omega arith) in
        let all : leaves_under 24 ≡ 16777216 = refl in
        elim (cases_lt p.0 24) [
          | inl low ↦ (let h : 2 * leaves_under p.0 ≤ leaves_under 24 = grows (suc p.0) 24 (omega arith) in
              omega (arith, p.1))
          | inr high ↦ (let h = grows 24 p.0 high in absurd (omega (arith, p.1)))
        ])

-- one leaf more in use, which is blank
module _ (t : TreeState) (frees : ℕ) (ok : IsValidTree t frees) (room : t.count < t.size) where
  abbrev pub longer : TreeState
  longer = record t { count = t.count + 1 }

  pub longer_leaves : leaves longer ≡ leaves t ++ nothing ∷ []
  longer_leaves =
      leaves_are longer (leaves t ++ nothing ∷ [])
      (length-append (leaves t) (nothing ∷ []) ∙ ap (λ n. n + 1) (leaves_count t)) (λ i h. elim (cases_eq i t.count) [
        | inl e ↦
            blank_leaf longer i (ok.mirrored.past i (omega arith)) (ok.parity.past i (omega arith))
            (ok.frees.past i (omega arith)) (ok.grown.empty (t.size + i) (omega arith))
            ∙ sym (get_or_push (leaves t) nothing nothing i (leaves_count t ∙ sym e))
        | inr ne ↦
            sym (leaf_at t i (omega arith))
            ∙ sym (get_or_append_left (leaves t) (nothing ∷ []) nothing i (omega (arith, leaves_count t)))
      ])

  pub longer_kept : t.count + 1 < 2 ^ 32 → IsValidTree longer frees
  longer_kept few = record {
    grown = record {
      twice = ok.grown.twice;
      height = ok.grown.height;
      within = omega arith;
      empty = λ i h. ok.grown.empty i (omega arith);
    };
    close = omega (arith, ok.close);
    few = few;
    mirrored = more t.mirrored ok.mirrored;
    parity = more t.parity ok.parity;
    frees = more t.free ok.frees;
    counted =
        omega (
          arith,
          ok.counted,
          ap free_in longer_leaves,
          sum_by-append one_if_free (leaves t) (nothing ∷ []),
          sum_by-cons one_if_free nothing [],
        );
  }
    where
      more : (words : List ℕ) → IsOfGroups t.size t.count words → IsOfGroups t.size (t.count + 1) words
      more words h = record { room = h.room; close = h.close; past = λ i low. h.past i (omega arith) }

-- a tree that is filled with the first of these leaves, where it has one more
pub record IsFilled (place : Addr → ℕ) (from : List Choices) (leaf : ℕ) (t : TreeState) : Type 0 where
  pub right : IsRight place t
  pub size : length (leaves t) ≡ length from + 1
  pub done : (i : ℕ) → i < leaf → get_or (leaves t) i nothing ≡ get_or from i nothing
  pub rest : (i : ℕ) → leaf ≤ i → get_or (leaves t) i nothing ≡ nothing

module _ (place : Addr → ℕ) (from : List Choices) where
  pub filled_none : (t : TreeState) (n : ℕ) → IsRight place t → leaves t ≡ replicate n nothing → n ≡ length from + 1
      → IsFilled place from 0 t
  filled_none t n right e size = record {
    right = right;
    size = ap length e ∙ length-replicate n nothing ∙ size;
    done = λ i h. absurd (omega arith);
    rest = λ i h. ap (λ xs. get_or xs i nothing) e ∙ no_leaf n i;
  }

  pub filled_more : (leaf : ℕ) (t new : TreeState) (c : Choices) → leaf < length from → IsFilled place from leaf t
      → IsRight place new → c ≡ get_or from leaf nothing → leaves new ≡ set (leaves t) leaf c
      → IsFilled place from (leaf + 1) new
  filled_more leaf t new c inside ok right same put = record {
    right = right;
    size = ap length put ∙ length-set (leaves t) leaf c ∙ ok.size;
    done = λ i h. elim (cases_eq i leaf) [
      | inl e ↦
          ap (λ xs. get_or xs i nothing) put ∙ ap (λ j. get_or (set (leaves t) leaf c) j nothing) e
          ∙ get_or-set_same (leaves t) leaf c nothing (omega (arith, ok.size)) ∙ same
          ∙ ap (λ j. get_or from j nothing) (sym e)
      | inr ne ↦
          ap (λ xs. get_or xs i nothing) put ∙ get_or-set_other (leaves t) leaf i c nothing ne
          ∙ ok.done i (omega arith)
    ];
    rest = λ i h.
        ap (λ xs. get_or xs i nothing) put ∙ get_or-set_other (leaves t) leaf i c nothing (omega arith)
        ∙ ok.rest i (omega arith);
  }

  pub filled_all : (leaf : ℕ) (t : TreeState) → leaf ≡ length from → IsFilled place from leaf t
      → leaves t ≡ from ++ nothing ∷ []
  filled_all leaf t all ok =
      ext_get_or nothing (leaves t) (from ++ nothing ∷ []) (ok.size ∙ sym (length-append from (nothing ∷ [])))
      (λ i h. elim (cases_lt i leaf) [
        | inl inside ↦
            ok.done i inside ∙ sym (get_or_append_left from (nothing ∷ []) nothing i (omega arith))
        | inr past ↦
            ok.rest i past ∙ sym (get_or_push from nothing nothing i (let size = ok.size in omega arith))
      ])

-- a leaf is put in the place of a blank one after the others
pub put_last : (xs : List Choices) (n : ℕ) (c : Choices) → length xs ≡ n → set (xs ++ nothing ∷ []) n c ≡ xs ++ c ∷ []
put_last xs n c size =
    set-append_right xs (nothing ∷ []) n n c size (omega arith)
    ∙ ap (λ k. xs ++ set (nothing ∷ []) k c) (let e : n - n ≡ 0 = omega arith in e)
