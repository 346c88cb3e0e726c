-- What a plain scan of the leaves finds: of each kind the lowest number in its set, and the block at the root.
use Rattle.std.proofs.Common.{◌≡◌, ℕ, zero, suc, ◌+◌, ◌-◌, ◌^◌, ◌<◌, ◌≤◌, Bool, true, false, true≢false, cond, Option}
use Rattle.std.proofs.Common.{None}
use Rattle.std.proofs.Common.{Some, List, [], ◌∷◌, length, take, drop, refl, sym, ap, subst, ◌∙◌, inl, inr, arith}
use Rattle.std.specs.Option.{option_or}
use Rattle.std.proofs.lemmas.Bool.{cases_lt, cases_eq}
use Rattle.std.proofs.lemmas.List.{drop_more, get_or-drop}
use Rattle.ar_disks.specs.declared.address.Addr.{Addr}
use Rattle.ar_index.specs.declared.choices.Age.{Age}
use Rattle.ar_index.specs.Bits.{has, IsNextNumber}
use Rattle.ar_index.specs.Choices.{older, oldest, search_all}
use Rattle.ar_index.specs.Tree.{node_at, AreJoinedBut, IsValidTree, TreeState, if_in, leaves_up, leaves}
use Rattle.ar_index.proofs.Search.{root, search_after}

-- the lowest number in the set, of this many from a place on
abbrev lowest_in : List ℕ → ℕ → ℕ → Option ℕ
lowest_in words i zero = None
lowest_in words i (suc n) = option_or (if_in words i) (lowest_in words (suc i) n)

-- from the next place on, where the first isn't in the set
next_on : (words : List ℕ) (i : ℕ) (o : Option ℕ) → has words i ≡ false → IsNextNumber words i o
    → IsNextNumber words (suc i) o
next_on words i None none next = λ j low. next j (omega arith)
next_on words i (Some m) none next = record {
  behind = elim (cases_eq m i) [
    | inl e ↦ absurd (true≢false (sym next.inside ∙ ap (has words) e ∙ none))
    | inr other ↦ (let low = next.behind in omega arith)
  ];
  inside = next.inside;
  least = λ j low high. next.least j (omega arith) high;
}

-- the first place, where it is in the set
next_here : (words : List ℕ) (i : ℕ) (o : Option ℕ) → has words i ≡ true → IsNextNumber words i o → Some i ≡ o
next_here words i None is next = absurd (true≢false (sym is ∙ next i (omega arith)))
next_here words i (Some m) is next = elim (cases_lt i m) [
  | inl under ↦ absurd (true≢false (sym is ∙ next.least i (omega arith) under))
  | inr past ↦ ap Some (let low = next.behind in let e : i ≡ m = omega arith in e)
]

lowest_is : (words : List ℕ) (i n : ℕ) (o : Option ℕ) → IsNextNumber words i o
    → ((j : ℕ) → i + n ≤ j → has words j ≡ false) → lowest_in words i n ≡ o
lowest_is words i zero None next past = refl
lowest_is words i zero (Some m) next past =
    absurd (true≢false (sym next.inside ∙ past m (let low = next.behind in omega arith)))
lowest_is words i (suc n) o next past =
    by (has words i) refl
    (λ none. lowest_is words (suc i) n o (next_on words i o none next) (λ j low. past j (omega arith)))
  where
    by : (b : Bool) → has words i ≡ b → (has words i ≡ false → lowest_in words (suc i) n ≡ o)
        → lowest_in words i (suc n) ≡ o
    by true e later =
        ap (λ b. option_or (cond {A = Option ℕ} b (Some i) None) (lowest_in words (suc i) n)) e
        ∙ next_here words i o e next
    by false e later =
        ap (λ b. option_or (cond {A = Option ℕ} b (Some i) None) (lowest_in words (suc i) n)) e ∙ later e

module _ (place : Addr → ℕ) (t : TreeState) where
  mirrored_from : (i n : ℕ) → (search_all place (leaves_up t i n)).mirrored ≡ lowest_in t.mirrored i n
  mirrored_from i zero = refl
  mirrored_from i (suc n) = ap (option_or (if_in t.mirrored i)) (mirrored_from (suc i) n)

  parity_from : (i n : ℕ) → (search_all place (leaves_up t i n)).parity ≡ lowest_in t.parity i n
  parity_from i zero = refl
  parity_from i (suc n) = ap (option_or (if_in t.parity i)) (parity_from (suc i) n)

  free_from : (i n : ℕ) → (search_all place (leaves_up t i n)).free ≡ lowest_in t.free i n
  free_from i zero = refl
  free_from i (suc n) = ap (option_or (if_in t.free i)) (free_from (suc i) n)

  oldest_from : (i n : ℕ) → t.size + i + n ≤ length t.nodes
      → (search_all place (leaves_up t i n)).oldest ≡ oldest place (take n (drop (t.size + i) t.nodes))
  oldest_from i zero inside = none (drop (t.size + i) t.nodes)
    where
      none : (xs : List (Option Age)) → (let o : Option Age = None in o) ≡ oldest place (take 0 xs)
      none [] = refl
      none (x ∷ xs) = refl
  oldest_from i (suc n) inside =
      ap (older place (node_at t.nodes (t.size + i))) (oldest_from (suc i) n (omega arith))
      ∙ ap (λ k. older place (node_at t.nodes (t.size + i)) (oldest place (take n (drop k t.nodes))))
      (let e : t.size + suc i ≡ t.size + i + 1 = omega arith in e)
      ∙ ap (λ xs. oldest place (take (suc n) xs)) (sym (drop_more t.nodes (t.size + i) None (omega arith)))

  -- the leaves after one
  drop_from : (k i n : ℕ) → k ≤ n → drop k (leaves_up t i n) ≡ leaves_up t (i + k) (n - k)
  drop_from zero i n le =
      ap (λ j. leaves_up t j n) (let e : i ≡ i + 0 = omega arith in e)
      ∙ ap (leaves_up t (i + 0)) (let e : n ≡ n - 0 = omega arith in e)
  drop_from (suc k) i zero le = absurd (omega arith)
  drop_from (suc k) i (suc n) le =
      drop_from k (suc i) n (omega arith)
      ∙ ap (λ j. leaves_up t j (n - k)) (let e : suc i + k ≡ i + suc k = omega arith in e)
      ∙ ap (leaves_up t (i + suc k)) (let e : n - k ≡ suc n - suc k = omega arith in e)

  module _ (frees : ℕ) (ok : IsValidTree t frees) where
    -- the block at the root
    pub oldest_kept : AreJoinedBut place t.size t.nodes 0 → 0 < t.size
        → node_at t.nodes 1 ≡ (search_all place (leaves t)).oldest
    oldest_kept joined some =
        let p = ok.grown.height some in
        root place t.size t.nodes (record { twice = ok.grown.twice; joined = joined }) p.0 p.1
        ∙ search_after place (drop t.size t.nodes) t.count
        (λ i h. get_or-drop t.size t.nodes i None ∙ ok.grown.empty (t.size + i) (omega arith))
        ∙ ap (λ n. oldest place (take t.count (drop n t.nodes))) (let e : t.size ≡ t.size + 0 = omega arith in e)
        ∙ sym (oldest_from 0 t.count (omega (arith, ok.grown.twice, ok.grown.within)))

    -- a tree without leaves has no block
    pub oldest_nowhere : t.size ≡ 0 → (let o : Option Age = None in o) ≡ (search_all place (leaves t)).oldest
    oldest_nowhere none =
        ap (λ n. (search_all place (leaves_up t 0 n)).oldest)
        (let e : 0 ≡ t.count = omega (arith, ok.grown.within) in e)

    -- the lowest numbers in the sets
    pub mirrored_is : (o : Option ℕ) → IsNextNumber t.mirrored 0 o → o ≡ (search_all place (leaves t)).mirrored
    mirrored_is o next =
        sym (mirrored_from 0 t.count ∙ lowest_is t.mirrored 0 t.count o next (λ j low. ok.mirrored.past j (omega arith)))

    pub parity_is : (o : Option ℕ) → IsNextNumber t.parity 0 o → o ≡ (search_all place (leaves t)).parity
    parity_is o next =
        sym (parity_from 0 t.count ∙ lowest_is t.parity 0 t.count o next (λ j low. ok.parity.past j (omega arith)))

    pub free_is : (o : Option ℕ) → IsNextNumber t.free 0 o → o ≡ (search_all place (leaves t)).free
    free_is o next =
        sym (free_from 0 t.count ∙ lowest_is t.free 0 t.count o next (λ j low. ok.frees.past j (omega arith)))

    -- and after a leaf
    module _ (leaf : ℕ) (inside : leaf < t.count) (o : Option ℕ) where
      rest : drop (leaf + 1) (leaves t) ≡ leaves_up t (leaf + 1) (t.count - (leaf + 1))
      rest =
          drop_from (leaf + 1) 0 t.count (omega arith)
          ∙ ap (λ i. leaves_up t i (t.count - (leaf + 1))) (let e : 0 + (leaf + 1) ≡ leaf + 1 = omega arith in e)

      pub mirrored_after_is : IsNextNumber t.mirrored (leaf + 1) o
          → o ≡ (search_all place (drop (leaf + 1) (leaves t))).mirrored
      mirrored_after_is next =
          sym (ap (λ l. (search_all place l).mirrored) rest ∙ mirrored_from (leaf + 1) (t.count - (leaf + 1))
          ∙ lowest_is t.mirrored (leaf + 1) (t.count - (leaf + 1)) o next (λ j low. ok.mirrored.past j (omega arith)))

      pub parity_after_is : IsNextNumber t.parity (leaf + 1) o
          → o ≡ (search_all place (drop (leaf + 1) (leaves t))).parity
      parity_after_is next =
          sym (ap (λ l. (search_all place l).parity) rest ∙ parity_from (leaf + 1) (t.count - (leaf + 1))
          ∙ lowest_is t.parity (leaf + 1) (t.count - (leaf + 1)) o next (λ j low. ok.parity.past j (omega arith)))

    -- a number that is found is one of a group
    pub found_few : (words : List ℕ) (from : ℕ) (o : Option ℕ)
        → ((i : ℕ) → t.count ≤ i → has words i ≡ false) → IsNextNumber words from o → (n : ℕ) → o ≡ Some n → n < 2 ^ 32
    found_few words from None past next n e = absurd (cc)
    found_few words from (Some m) past next n e = elim (cases_lt m t.count) [
      | inl inside ↦
          let same : m ≡ n = ap (λ (x : Option ℕ). elim x [ None ↦ m | Some k ↦ k ]) e in omega (arith, ok.few)
      | inr beyond ↦ absurd (true≢false (sym next.inside ∙ past m beyond))
    ]
