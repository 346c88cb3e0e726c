-- The root of a tree is the oldest of its leaves.
use Rattle.std.proofs.Common.{◌≡◌, ℕ, zero, suc, ◌+◌, ◌*◌, ◌<◌, ◌≤◌, List, [], ◌∷◌, ◌++◌, length, take, drop, get_or}
use Rattle.std.proofs.Common.{Option, None, refl, sym, ap, ◌∙◌, arith}
use Rattle.std.proofs.Math.Nat.{mul-le-mul_left}
use Rattle.std.proofs.Math.Seq.{take-add}
use Rattle.std.proofs.lemmas.List.{drop_more, take_all, length-drop}
use Rattle.ar_disks.specs.declared.address.Addr.{Addr}
use Rattle.ar_index.specs.declared.choices.Age.{Age}
use Rattle.ar_index.specs.Choices.{older, oldest}
use Rattle.ar_index.specs.Tree.{node_at, IsTree, leaves_under}
use Rattle.ar_index.proofs.Joins.{older_none, oldest_both}

-- the place further on by a number of places
pub further : (a b : ℕ) (xs : List (Option Age)) → drop b (drop a xs) ≡ drop (a + b) xs
further zero b xs = ap (λ n. drop n xs) (let e : b ≡ 0 + b = omega arith in e)
further (suc a) b [] = nil b ∙ sym (nil (suc a + b))
  where
    nil : (n : ℕ) → drop n (let e : List (Option Age) = [] in e) ≡ []
    nil zero = refl
    nil (suc n) = refl
further (suc a) b (x ∷ xs) =
    further a b xs ∙ ap (λ n. drop n (x ∷ xs)) (let e : suc (a + b) ≡ suc a + b = omega arith in e)

pub some_leaf : (h : ℕ) → 0 < leaves_under h
some_leaf zero = omega arith
some_leaf (suc h) = let r = some_leaf h in omega arith

-- a node among the inner ones, from the leaves that stand under it
inner : (i w size : ℕ) → 0 < w → i * (2 * w) + 2 * w ≤ 2 * size → i < size
inner i w size some h =
    let least : i * 2 ≤ i * (2 * w) = mul-le-mul_left i (let e : 2 ≤ 2 * w = omega arith in e) in
    omega arith

module _ (place : Addr → ℕ) (size : ℕ) (nodes : List (Option Age)) (tree : IsTree place size nodes) where
  -- a node is the search over the leaves under it
  pub subtree : (h i : ℕ) → 0 < i → i * leaves_under h + leaves_under h ≤ 2 * size
      → node_at nodes i ≡ oldest place (take (leaves_under h) (drop (i * leaves_under h) nodes))
  subtree zero i some inside =
      let one : i * 1 ≡ i = omega arith in
      let here : drop (i * 1) nodes ≡ node_at nodes i ∷ drop (i + 1) nodes =
      ap (λ n. drop n nodes) one ∙ drop_more nodes i None (omega (arith, tree.twice)) in
      sym (ap (λ xs. oldest place (take 1 xs)) here ∙ older_none place (node_at nodes i))
  subtree (suc h) i some inside =
      let w : ℕ = leaves_under h in
      let least : 0 < w = some_leaf h in
      let low : i < size = inner i w size least inside in
      let left : 2 * i * w ≡ i * (2 * w) = omega arith in
      let right : (2 * i + 1) * w ≡ i * (2 * w) + w = omega arith in
      let a = subtree h (2 * i) (omega arith) (omega arith) in
      let b = subtree h (2 * i + 1) (omega arith) (omega arith) in
      let apart : take (2 * w) (drop (i * (2 * w)) nodes)
      ≡ take w (drop (i * (2 * w)) nodes) ++ take w (drop (i * (2 * w) + w) nodes) =
      ap (λ n. take n (drop (i * (2 * w)) nodes)) (let e : 2 * w ≡ w + w = omega arith in e)
      ∙ take-add w w (drop (i * (2 * w)) nodes)
      ∙ ap (λ xs. take w (drop (i * (2 * w)) nodes) ++ take w xs) (further (i * (2 * w)) w nodes) in
      let one : node_at nodes (2 * i) ≡ oldest place (take w (drop (i * (2 * w)) nodes)) =
      a ∙ ap (λ n. oldest place (take w (drop n nodes))) left in
      let other : node_at nodes (2 * i + 1) ≡ oldest place (take w (drop (i * (2 * w) + w) nodes)) =
      b ∙ ap (λ n. oldest place (take w (drop n nodes))) right in
      tree.joined i some low (omega arith) ∙ ap (λ x. older place x (node_at nodes (2 * i + 1))) one
      ∙ ap (older place (oldest place (take w (drop (i * (2 * w)) nodes)))) other
      ∙ sym (oldest_both place (take w (drop (i * (2 * w)) nodes)) (take w (drop (i * (2 * w) + w) nodes)))
      ∙ ap (oldest place) (sym apart)

  -- the root is the search over all leaves
  pub root : (h : ℕ) → leaves_under h ≡ size → node_at nodes 1 ≡ oldest place (drop size nodes)
  root h e =
      let w : ℕ = leaves_under h in
      let one : 1 * w ≡ size = omega (arith, e) in
      let all : length (drop size nodes) ≤ w = omega (arith, length-drop size nodes, tree.twice, e) in
      subtree h 1 (omega arith) (omega (arith, e)) ∙ ap (λ n. oldest place (take w (drop n nodes))) one
      ∙ ap (oldest place) (take_all w (drop size nodes) all)

-- leaves that have None don't change a search
pub search_after : (place : Addr → ℕ) (xs : List (Option Age)) (n : ℕ)
    → ((i : ℕ) → n ≤ i → get_or xs i None ≡ None) → oldest place xs ≡ oldest place (take n xs)
search_after place [] zero empty = refl
search_after place [] (suc n) empty = refl
search_after place (x ∷ xs) zero empty =
    ap (λ c. older place c (oldest place xs)) (empty 0 (omega arith))
    ∙ search_after place xs 0 (λ i h. empty (suc i) (omega arith)) ∙ none xs
  where
    none : (ys : List (Option Age)) → oldest place (take 0 ys) ≡ None
    none [] = refl
    none (y ∷ ys) = refl
search_after place (x ∷ xs) (suc n) empty =
    ap (older place x) (search_after place xs n (λ i h. empty (suc i) (omega arith)))
