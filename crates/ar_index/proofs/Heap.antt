-- The leaves of the binary tree, after one of them was put, and how many levels are above them.
use Rattle.std.proofs.Common.{◌≡◌, ◌≢◌, ℕ, zero, suc, ◌+◌, ◌-◌, ◌*◌, ◌^◌, ◌<◌, ◌≤◌, Option, None, List, length}
use Rattle.std.proofs.Common.{drop, set, get_or, refl, sym, ap, ◌∙◌, inl, inr, lit≤, arith}
use Rattle.std.proofs.Math.Nat.{pow-le-pow_right, pow-succ'}
use Rattle.std.proofs.lemmas.Bool.{cases_lt}
use Rattle.std.proofs.lemmas.List.{length-drop, get_or-drop, get_or-set_other, get_or-set_same}
use Rattle.ar_index.specs.declared.choices.Age.{Age}
use Rattle.ar_index.specs.Tree.{node_at, IsGrown, leaves_under}

module _ (size leaf : ℕ) (old new : List (Option Age)) (c : Option Age)
    (put : drop size new ≡ set (drop size old) leaf c) where
  -- the leaf that was put
  pub put_here : length old ≡ 2 * size → leaf < size → node_at new (size + leaf) ≡ c
  put_here twice there =
      sym (get_or-drop size new leaf None) ∙ ap (λ xs. get_or xs leaf None) put
      ∙ get_or-set_same (drop size old) leaf c None (omega (arith, length-drop size old))

  -- the others
  pub put_elsewhere : (i : ℕ) → i ≢ leaf → node_at new (size + i) ≡ node_at old (size + i)
  put_elsewhere i ne =
      sym (get_or-drop size new i None) ∙ ap (λ xs. get_or xs i None) put
      ∙ get_or-set_other (drop size old) leaf i c None ne ∙ get_or-drop size old i None

  -- the tree with it, where it is in use
  pub put_grown : (count : ℕ) → IsGrown size count old → length new ≡ 2 * size → leaf < count → IsGrown size count new
  put_grown count ok twice inside = record {
    twice = twice;
    height = ok.height;
    within = ok.within;
    empty = λ i h.
        let e : size + (i - size) ≡ i = omega arith in
        ap (node_at new) (sym e) ∙ put_elsewhere (i - size) (omega arith) ∙ ap (node_at old) e
        ∙ ok.empty i (omega arith);
  }

-- as many leaves stand under a node as its height has it
pub under_power : (h : ℕ) → leaves_under h ≡ 2 ^ h
under_power zero = refl
under_power (suc h) = ap (λ n. 2 * n) (under_power h) ∙ sym (pow-succ' 2 h)

-- a tree that is kept for at most 4,096 leaves has room for no more
few_leaves : (size count h : ℕ) → leaves_under h ≡ size → size ≤ 2 * count - 1 → count ≤ 4096 → size ≤ 4096
few_leaves size count h under close most =
    elim (cases_lt 12 h) [
      | inl more ↦ let p : 2 ^ 13 ≤ 2 ^ h = pow-le-pow_right (lit≤ tt) more in absurd (omega (arith, under_power h))
      | inr le ↦ let p : 2 ^ h ≤ 2 ^ 12 = pow-le-pow_right (lit≤ tt) le in omega (arith, under_power h)
    ]

-- the steps of a climb there
pub few_steps : (size leaf count before after : ℕ) (nodes : List (Option Age)) → IsGrown size count nodes
    → 2 ^ (after - before) ≤ size + leaf → leaf < count → size ≤ 2 * count - 1 → count ≤ 4096
    → before ≤ after → after ≤ before + 12
few_steps size leaf count before after nodes ok few inside close most on =
    let height = ok.height (let some : 0 < size = omega (arith, ok.within) in some) in
    let room = few_leaves size count height.0 height.1 close most in
    elim (cases_lt 12 (after - before)) [
      | inl more ↦ let p : 2 ^ 13 ≤ 2 ^ (after - before) = pow-le-pow_right (lit≤ tt) more in absurd (omega arith)
      | inr le ↦ omega arith
    ]
