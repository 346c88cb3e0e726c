-- A tree is right for another order of units too, where that tells the units of the blocks that its leaves name apart
-- as before.
use Rattle.std.proofs.Common.{◌≡◌, ℕ, zero, suc, ◌+◌, ◌-◌, ◌*◌, ◌<◌, ◌≤◌, Bool, true, false, not, cond, Option, None}
use Rattle.std.proofs.Common.{Some, List, [], ◌∷◌, ◌++◌, length, get_or, refl, sym, ap, subst, ◌∙◌, inl, inr, arith}
use Rattle.std.specs.Prelude.{nat_lt, nat_le, ◌==◌, ◌&&◌, ◌||◌}
use Rattle.std.specs.List.{position, position_or_len}
use Rattle.std.specs.Set.{remove_key}
use Rattle.std.proofs.lemmas.Bool.{cases_lt}
use Rattle.std.proofs.lemmas.Bool.Decides.{nat_tests, Decides-ltb}
use Rattle.std.proofs.lemmas.Option.{none-some}
use Rattle.std.proofs.lemmas.List.Sums.{prefix_len-le-length}
use Rattle.ar_disks.specs.declared.address.Addr.{Addr}
use Rattle.ar_index.specs.declared.choices.Age.{Age}
use Rattle.ar_index.specs.Choices.{is_no_newer, older, oldest, nothing}
use Rattle.ar_index.specs.Tree.{node_at, AreJoinedBut, TreeState, leaves, IsRight}
use Rattle.ar_index.proofs.Leaves.{leaf_at}

-- where a unit has no place it has that of the next one
pub no_place : (test : Addr → Bool) (ks : List Addr) → position test ks ≡ None → position_or_len test ks ≡ length ks
no_place test ks e = by (nat_lt (position_or_len test ks) (length ks)) refl e
  where
    by : (b : Bool) → nat_lt (position_or_len test ks) (length ks) ≡ b
        → cond b (Some (position_or_len test ks)) None ≡ None → position_or_len test ks ≡ length ks
    by true f h = absurd (none-some (position_or_len test ks) (sym h))
    by false f h =
        let most = prefix_len-le-length (λ x. not (test x)) ks in
        let no = Decides-ltb (position_or_len test ks) (length ks) in
        grind (arith, nat_tests)

-- two numbers stand to each other as two others do
pub record Alike (m n x y : ℕ) : Type 0 where
  pub before : nat_lt m n ≡ nat_lt x y
  pub same : (m == n) ≡ (x == y)

lt_further : (m n : ℕ) → nat_lt (1 + m) (1 + n) ≡ nat_lt m n
lt_further m n = grind (arith, nat_tests)

eq_further : (m n : ℕ) → (1 + m == 1 + n) ≡ (m == n)
eq_further m n = grind (arith, nat_tests)

lt_none : (m : ℕ) → nat_lt m 0 ≡ false
lt_none m = grind (arith, nat_tests)

lt_some : (m : ℕ) → nat_lt 0 (1 + m) ≡ true
lt_some m = grind (arith, nat_tests)

eq_none : (m : ℕ) → (1 + m == 0) ≡ false
eq_none m = grind (arith, nat_tests)

none_eq : (m : ℕ) → (0 == 1 + m) ≡ false
none_eq m = grind (arith, nat_tests)

-- and so do those that are one further on, or at the front
further_on : (b c : Bool) (m n x y : ℕ) → Alike m n x y
    → Alike (cond b (1 + m) 0) (cond c (1 + n) 0) (cond b (1 + x) 0) (cond c (1 + y) 0)
further_on true true m n x y h = record {
  before = lt_further m n ∙ h.before ∙ sym (lt_further x y);
  same = eq_further m n ∙ h.same ∙ sym (eq_further x y);
}
further_on true false m n x y h =
    record { before = lt_none (1 + m) ∙ sym (lt_none (1 + x)); same = eq_none m ∙ sym (eq_none x) }
further_on false true m n x y h = record { before = lt_some n ∙ sym (lt_some y); same = none_eq n ∙ sym (none_eq y) }
further_on false false m n x y h = record { before = refl; same = refl }

one_further : (m n : ℕ) → Alike (1 + m) (1 + n) m n
one_further m n = record { before = lt_further m n; same = eq_further m n }

-- two places, once another element is removed
module _ (p q r : Addr → Bool) (others : (k : Addr) → r k ≡ true → (p k ≡ false) × (q k ≡ false)) where
  pub removed_alike : (ks : List Addr)
      → Alike (position_or_len p ks) (position_or_len q ks) (position_or_len p (remove_key r ks))
      (position_or_len q (remove_key r ks))
  removed_alike [] = record { before = refl; same = refl }
  removed_alike (k ∷ ks) = by (r k) refl (removed_alike ks)
    where
      gone : p k ≡ false → q k ≡ false
          → Alike (position_or_len p (k ∷ ks)) (position_or_len q (k ∷ ks)) (position_or_len p ks)
          (position_or_len q ks)
      gone e f =
          subst
          (λ b. Alike (cond (not b) (1 + position_or_len p ks) 0) (position_or_len q (k ∷ ks)) (position_or_len p ks)
          (position_or_len q ks))
          (sym e)
          (subst
          (λ b. Alike (1 + position_or_len p ks) (cond (not b) (1 + position_or_len q ks) 0) (position_or_len p ks)
          (position_or_len q ks))
          (sym f)
          (one_further (position_or_len p ks) (position_or_len q ks)))

      by : (b : Bool) → r k ≡ b
          → Alike (position_or_len p ks) (position_or_len q ks) (position_or_len p (remove_key r ks))
          (position_or_len q (remove_key r ks))
          → Alike (position_or_len p (k ∷ ks)) (position_or_len q (k ∷ ks))
          (position_or_len p (cond b ks (k ∷ remove_key r ks))) (position_or_len q (cond b ks (k ∷ remove_key r ks)))
      by true e rest = gone (others k e).0 (others k e).1
      by false e rest = further_on (not (p k)) (not (q k)) _ _ _ _ rest

-- and once another is put after all
module _ (p q : Addr → Bool) (a : Addr) (no : p a ≡ false) (nor : q a ≡ false) where
  pub pushed_alike : (ks : List Addr)
      → Alike (position_or_len p ks) (position_or_len q ks) (position_or_len p (ks ++ a ∷ []))
      (position_or_len q (ks ++ a ∷ []))
  pushed_alike [] =
      subst (λ b. Alike 0 0 (cond (not b) 1 0) (position_or_len q (a ∷ []))) (sym no)
      (subst (λ b. Alike 0 0 1 (cond (not b) 1 0)) (sym nor) (record { before = refl; same = refl }))
  pushed_alike (k ∷ ks) = further_on (not (p k)) (not (q k)) _ _ _ _ (pushed_alike ks)

-- the unit of a block, where there is one, is such
abbrev pub Names : (Addr → Type 0) → Option Age → Type 0
Names P o = (a : Age) → o ≡ Some a → P a.key.addr

-- two orders that tell the same of such units
module _ (f g : Addr → ℕ) (P : Addr → Type 0) (alike : (a b : Addr) → P a → P b → Alike (f a) (f b) (g a) (g b)) where
  same_age : (a b : Age) → P a.key.addr → P b.key.addr → is_no_newer f a b ≡ is_no_newer g a b
  same_age a b p q =
      let h = alike a.key.addr b.key.addr p q in
      λ i. nat_lt a.stamp b.stamp || ((a.stamp == b.stamp) && (h.before i || (h.same i && nat_le a.key.rb b.key.rb)))

  same_older : (x y : Option Age) → Names P x → Names P y → older f x y ≡ older g x y
  same_older None y p q = refl
  same_older (Some a) None p q = refl
  same_older (Some a) (Some b) p q = ap (λ c. Some (cond c a b)) (same_age a b (p a refl) (q b refl))

  older_names : (x y : Option Age) → Names P x → Names P y → Names P (older f x y)
  older_names None y p q = q
  older_names (Some a) None p q = p
  older_names (Some a) (Some b) p q = by (is_no_newer f a b)
    where
      by : (c : Bool) → Names P (Some (cond c a b))
      by true = p
      by false = q

  -- the oldest of a list of such blocks, and that it is such a block
  oldest_both : (os : List (Option Age)) → ((i : ℕ) → Names P (get_or os i None))
      → (oldest f os ≡ oldest g os) × Names P (oldest f os)
  oldest_both [] named = (refl, λ a e. absurd (none-some a e))
  oldest_both (o ∷ os) named =
      let rest = oldest_both os (λ i. named (suc i)) in (
        same_older o (oldest f os) (named 0) rest.1 ∙ ap (older g o) rest.0,
        older_names o (oldest f os) (named 0) rest.1,
      )

  pub same_oldest : (os : List (Option Age)) → ((i : ℕ) → Names P (get_or os i None)) → oldest f os ≡ oldest g os
  same_oldest os named = (oldest_both os named).0

  pub oldest_names : (os : List (Option Age)) → ((i : ℕ) → Names P (get_or os i None)) → Names P (oldest f os)
  oldest_names os named = (oldest_both os named).1

  module _ (size : ℕ) (nodes : List (Option Age)) (joined : AreJoinedBut f size nodes 0)
      (named : (i : ℕ) → Names P (node_at nodes (size + i))) where
    -- each node names such a unit's block, from the leaves up
    each_names : (n i : ℕ) → 0 < i → 2 * size ≤ i + n → Names P (node_at nodes i)
    each_names zero i some near =
        subst (λ j. Names P (node_at nodes j)) (let e : size + (i - size) ≡ i = omega arith in e)
        (named (i - size))
    each_names (suc n) i some near = elim (cases_lt i size) [
      | inl inner ↦
          subst (λ c. Names P c) (sym (joined i some inner (omega arith)))
          (older_names (node_at nodes (2 * i)) (node_at nodes (2 * i + 1))
          (each_names n (2 * i) (omega arith) (omega arith)) (each_names n (2 * i + 1) (omega arith) (omega arith)))
      | inr leaf ↦
          subst (λ j. Names P (node_at nodes j)) (let e : size + (i - size) ≡ i = omega arith in e)
          (named (i - size))
    ]

    joined_too : AreJoinedBut g size nodes 0
    joined_too i some inner ne =
        joined i some inner ne
        ∙ same_older (node_at nodes (2 * i)) (node_at nodes (2 * i + 1))
        (each_names (2 * size) (2 * i) (omega arith) (omega arith))
        (each_names (2 * size) (2 * i + 1) (omega arith) (omega arith))

  -- a tree whose leaves name blocks of such units alone
  pub reordered : (t : TreeState) → IsRight f t → ((i : ℕ) → Names P (get_or (leaves t) i nothing).oldest) → IsRight g t
  reordered t ok named = record { joined = joined_too t.size t.nodes ok.joined each; behind = ok.behind }
    where
      each : (i : ℕ) → Names P (node_at t.nodes (t.size + i))
      each i = elim (cases_lt i t.count) [
        | inl inside ↦ subst (λ c. Names P c.oldest) (leaf_at t i inside) (named i)
        | inr past ↦ λ a e. absurd (none-some a (sym (ok.behind (t.size + i) (omega arith)) ∙ e))
      ]
