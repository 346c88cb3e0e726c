-- The climb from a leaf to the root: at each node on the way one node alone may not be the join of its children, the
-- next above it; where a node stays as it was, there is none.
use Rattle.std.proofs.Common.{◌≡◌, ◌≢◌, ℕ, zero, suc, ◌+◌, ◌-◌, ◌*◌, ◌/◌, ◌^◌, ◌<◌, ◌≤◌, ◌⊎◌, List, length, drop, set}
use Rattle.std.proofs.Common.{Bool, true, false, true≢false, Option, None, refl, sym, ap, subst, ◌∙◌, inl, inr, arith}
use Rattle.std.proofs.Math.Nat.{mul-le-mul_left, pow-succ'}
use Rattle.std.proofs.lemmas.Bool.{cases_eq, cases_lt}
use Rattle.std.proofs.lemmas.List.{length-set, drop-set-lt, get_or-set_other, get_or-set_same}
use Rattle.ar_disks.specs.declared.address.Addr.{Addr}
use Rattle.ar_index.specs.declared.choices.Age.{Age}
use Rattle.ar_index.specs.Choices.{older}
use Rattle.ar_index.specs.Tree.{node_at, joined_at, IsChangedTo, AreJoinedBut, AreJoinedAfter, IsTree, above}
use Rattle.ar_index.specs.Tree.{HaveChanged, HaveStayed}
use Rattle.ar_index.proofs.Heap.{put_here}

-- what holds at a node on the way up, which has changed in no more than this, where it began at another, with the
-- nodes, the change and the count of steps of the beginning
pub record IsClimbing (place : Addr → ℕ) (size : ℕ) (old nodes : List (Option Age)) (first changes : Bool)
    (start node before steps : ℕ) : Type 0 where
  pub twice : length nodes ≡ 2 * size
  pub low : 0 < node
  pub high : node < 2 * size
  pub joined : AreJoinedAfter place size nodes changes node
  pub leaves : drop size nodes ≡ drop size old
  pub few : 2 ^ (steps - before) * node ≤ start
  pub on : before ≤ steps
  -- the node is on this level above the first, and those below it in number are as they were
  pub here : node ≡ above (steps - before) start
  pub rest : (i : ℕ) → i < node → node_at nodes i ≡ node_at old i
  -- the first has changed where a step was taken, and so has each on the way, this one too where its change is reported
  pub still : first ≡ false → (steps ≡ before) × (changes ≡ false)
  pub passed : HaveChanged old nodes start 1 (steps - before)
  pub last : changes ≡ true → 0 < steps - before → node_at nodes node ≢ node_at old node

-- the nodes where the one above this is joined again
abbrev pub joined_anew : (Addr → ℕ) → List (Option Age) → ℕ → List (Option Age)
joined_anew place nodes n =
    set nodes (n / 2) (joined_at place nodes (n / 2))

-- a change that is reported is one
pub change_is : (old new : Option Age) (changes : Bool) → IsChangedTo old new changes → changes ≡ true → new ≢ old
change_is old new true reported some = reported
change_is old new false reported some = absurd (true≢false (sym some))

-- and where there is none, none is reported
pub none_reported : (old new : Option Age) (changes : Bool) → IsChangedTo old new changes → new ≡ old → changes ≡ false
none_reported old new false reported same = refl
none_reported old new true reported same = absurd (reported same)

-- two lists of nodes that differ at one node at most
module _ (nodes next : List (Option Age)) (n : ℕ) (elsewhere : (i : ℕ) → i ≢ n → node_at next i ≡ node_at nodes i) where
  -- not at all, where that one is as it was
  same_nodes : node_at next n ≡ node_at nodes n → (j : ℕ) → node_at next j ≡ node_at nodes j
  same_nodes same j =
      elim (cases_eq j n) [
        | inl e ↦ subst (λ k. node_at next k ≡ node_at nodes k) (sym e) same
        | inr other ↦ elsewhere j other
      ]

-- where a node may have changed, those below are joined but for the one above it
but_above : (place : Addr → ℕ) (size : ℕ) (nodes : List (Option Age)) (n : ℕ) (changes : Bool) → changes ≡ true
    → AreJoinedAfter place size nodes changes n → AreJoinedBut place size nodes (n / 2)
but_above place size nodes n true e h = h
but_above place size nodes n false e h = absurd (true≢false (sym e))

-- a leaf is put
pub put_joined : (place : Addr → ℕ) (size : ℕ) (nodes : List (Option Age)) (n : ℕ) (c : Option Age) (changes : Bool)
    → 0 < n → size ≤ n → n < 2 * size → length nodes ≡ 2 * size
    → AreJoinedBut place size nodes 0 → IsChangedTo (node_at nodes n) c changes
    → AreJoinedAfter place size (set nodes n c) changes n
put_joined place size nodes n c changes some outer inside twice joined changed = by changes changed
  where
    next : List (Option Age)
    next = set nodes n c

    elsewhere : (i : ℕ) → i ≢ n → node_at next i ≡ node_at nodes i
    elsewhere i ne = get_or-set_other nodes n i c None ne

    here : node_at next n ≡ c
    here = get_or-set_same nodes n c None (omega arith)

    but : AreJoinedBut place size next (n / 2)
    but i low inner ne =
        elsewhere i (omega arith) ∙ joined i low inner (omega arith)
        ∙ sym (ap (λ x. older place x (node_at next (2 * i + 1))) (elsewhere (2 * i) (omega arith))
        ∙ ap (older place (node_at nodes (2 * i))) (elsewhere (2 * i + 1) (omega arith)))

    by : (changes : Bool) → IsChangedTo (node_at nodes n) c changes → AreJoinedAfter place size next changes n
    by false same = λ i low inner ne.
        all i ∙ joined i low inner ne
        ∙ sym (ap (λ x. older place x (node_at next (2 * i + 1))) (all (2 * i))
        ∙ ap (older place (node_at nodes (2 * i))) (all (2 * i + 1)))
      where
        all : (j : ℕ) → node_at next j ≡ node_at nodes j
        all = same_nodes nodes next n elsewhere (here ∙ same)
    by true same = but

-- one step more at half the node
doubled : (p n start : ℕ) → p * n ≤ start → 2 * p * (n / 2) ≤ start
doubled p n start h =
    let half : p * (2 * (n / 2)) ≤ p * n = mul-le-mul_left p (let e : 2 * (n / 2) ≤ n = omega arith in e) in
    let same : 2 * p * (n / 2) ≡ p * (2 * (n / 2)) = omega arith in
    omega arith

power : (b s : ℕ) → b ≤ s → 2 ^ (s + 1 - b) ≡ 2 * 2 ^ (s - b)
power b s h = ap (λ n. 2 ^ n) (let e : s + 1 - b ≡ suc (s - b) = omega arith in e) ∙ pow-succ' 2 (s - b)

module _ (place : Addr → ℕ) (size : ℕ) (nodes : List (Option Age)) (n : ℕ) (twice : length nodes ≡ 2 * size)
    (low : 1 < n) (high : n < 2 * size) (joined : AreJoinedBut place size nodes (n / 2)) where
  abbrev m : ℕ
  m = n / 2

  abbrev next : List (Option Age)
  next = set nodes m (joined_at place nodes m)

  there : node_at next m ≡ joined_at place nodes m
  there = get_or-set_same nodes m _ None (omega arith)

  elsewhere : (i : ℕ) → i ≢ m → node_at next i ≡ node_at nodes i
  elsewhere i ne = get_or-set_other nodes m i _ None ne

  -- a node is joined in the new list, as it is no parent of the changed one
  pub joined_above : AreJoinedBut place size next (m / 2)
  joined_above i some inside ne =
      elim (cases_eq i m) [
        | inl e ↦ subst (λ j. node_at next j ≡ joined_at place next j) (sym e) here
        | inr other ↦ elsewhere i other ∙ joined i some inside other ∙ sym (below i (omega arith) (omega arith))
      ]
    where
      below : (j : ℕ) → 2 * j ≢ m → 2 * j + 1 ≢ m
          → joined_at place next j
          ≡ joined_at place nodes j
      below j a b =
          ap (λ x. older place x (node_at next (2 * j + 1))) (elsewhere (2 * j) a)
          ∙ ap (older place (node_at nodes (2 * j))) (elsewhere (2 * j + 1) b)

      here : node_at next m ≡ joined_at place next m
      here = there ∙ sym (below m (omega arith) (omega arith))

  -- nor is there such a node where the changed one is as it was
  pub joined_all : node_at next m ≡ node_at nodes m → AreJoinedBut place size next 0
  joined_all same i some inside ne =
      elim (cases_eq i m) [
        | inl e ↦ subst (λ j. node_at next j ≡ joined_at place next j) (sym e) (there ∙ sym (joins m))
        | inr other ↦ elsewhere i other ∙ joined i some inside other ∙ sym (joins i)
      ]
    where
      all : (j : ℕ) → node_at next j ≡ node_at nodes j
      all = same_nodes nodes next m elsewhere same

      joins : (j : ℕ)
          → joined_at place next j
          ≡ joined_at place nodes j
      joins j =
          ap (λ x. older place x (node_at next (2 * j + 1))) (all (2 * j))
          ∙ ap (older place (node_at nodes (2 * j))) (all (2 * j + 1))

  pub joined_after : (changes : Bool) → IsChangedTo (node_at nodes m) (node_at next m) changes
      → AreJoinedAfter place size next changes m
  joined_after false same = joined_all same
  joined_after true same = joined_above

-- levels further up no node has a greater number
above_low : (h k i : ℕ) → h ≤ k → above k i ≤ above h i
above_low h zero i le =
    subst (λ n. above 0 i ≤ above n i) (let e : 0 ≡ h = omega arith in e) (let e : i ≤ i = omega arith in e)
above_low h (suc k) i le = elim (cases_lt k h) [
  | inl top ↦
      subst (λ n. above (suc k) i ≤ above n i) (let e : suc k ≡ h = omega arith in e)
      (let e : above (suc k) i ≤ above (suc k) i = omega arith in e)
  | inr under ↦ let r = above_low h k i under in let e : above k i / 2 ≤ above h i = omega arith in e
]

pub climbed : (place : Addr → ℕ) (size : ℕ) (old nodes : List (Option Age)) (start n before steps : ℕ)
    (first below changes : Bool) → below ≡ true → 1 < n
    → IsClimbing place size old nodes first below start n before steps
    → IsChangedTo (node_at nodes (n / 2)) (node_at (joined_anew place nodes n) (n / 2)) changes
    → IsClimbing place size old (joined_anew place nodes n) first changes start (n / 2) before (steps + 1)
climbed place size old nodes start n before steps first below changes moved low h changed = record {
  twice = length-set nodes (n / 2) _ ∙ h.twice;
  low = omega arith;
  high = omega (arith, h.high);
  joined =
      joined_after place size nodes n h.twice low h.high (but_above place size nodes n below moved h.joined) changes
      changed;
  leaves = drop-set-lt size nodes (n / 2) _ (omega (arith, h.high)) ∙ h.leaves;
  few = subst (λ p. p * (n / 2) ≤ start) (sym (power before steps h.on)) (doubled (2 ^ (steps - before)) n start h.few);
  on = omega (arith, h.on);
  here = ap (λ i. i / 2) h.here ∙ ap (λ d. above d start) (sym more);
  rest = λ i le. elsewhere i (omega arith) ∙ h.rest i (omega arith);
  still = λ e. absurd (true≢false (sym moved ∙ (h.still e).1));
  passed = λ d from to. elim (cases_lt d (steps - before)) [
    | inl past ↦ λ e.
        let le = above_low d (steps - before) start (omega arith) in
        h.passed d from past (sym (elsewhere (above d start) (omega (arith, le, h.here))) ∙ e)
    | inr top ↦
        let level : d ≡ steps - before = omega arith in
        let here : above d start ≡ n = ap (λ i. above i start) level ∙ sym h.here in
        subst (λ i. node_at next i ≢ node_at old i) (sym here)
        (λ e. h.last moved (omega arith) (sym (elsewhere n (omega arith)) ∙ e))
  ];
  last = λ some on e.
      change_is (node_at nodes (n / 2)) (node_at next (n / 2)) changes changed some
      (e ∙ sym (h.rest (n / 2) (omega arith)));
}
  where
    next : List (Option Age)
    next = joined_anew place nodes n

    more : steps + 1 - before ≡ suc (steps - before)
    more = omega (arith, h.on)

    elsewhere : (i : ℕ) → i ≢ n / 2 → node_at next i ≡ node_at nodes i
    elsewhere i other = get_or-set_other nodes (n / 2) i _ None other

-- at the root, or where a node stays as it was, the tree is whole
pub ended : (place : Addr → ℕ) (size : ℕ) (old nodes : List (Option Age)) (start n before steps : ℕ)
    (first changes : Bool) → IsClimbing place size old nodes first changes start n before steps
    → (changes ≡ false) ⊎ (n ≤ 1) → IsTree place size nodes
ended place size old nodes start n before steps first changes h at = record {
  twice = h.twice;
  joined = elim at [
    | inl none ↦ subst (λ c. AreJoinedAfter place size nodes c n) none h.joined
    | inr top ↦ by changes h.joined top
  ];
}
  where
    by : (c : Bool) → AreJoinedAfter place size nodes c n → n ≤ 1 → AreJoinedBut place size nodes 0
    by false joined top = joined
    by true joined top = λ i low inner ne. joined i low inner (omega arith)

-- after a leaf was put, each node below the last one taken has changed
module _ (size leaf steps : ℕ) (old new : List (Option Age)) (c : Option Age) (there : leaf < size)
    (twice : length old ≡ 2 * size)
    (put : drop size new ≡ set (drop size old) leaf c) (still : node_at old (size + leaf) ≡ c → steps ≡ 0) where
  pub put_changed : HaveChanged (set old (size + leaf) c) new (size + leaf) 1 steps
      → HaveChanged old new (size + leaf) 0 steps
  put_changed changed zero from to =
      λ e. let none = still (sym e ∙ put_here size leaf old new c put twice there) in absurd (omega arith)
  put_changed changed (suc h) from to = λ e.
      let le = above_low 1 (suc h) (size + leaf) (omega arith) in
      changed (suc h) (omega arith) to
      (e ∙ sym (get_or-set_other old (size + leaf) (above (suc h) (size + leaf)) c None
      (let ne : above (suc h) (size + leaf) ≢ size + leaf = omega arith in ne)))

-- the higher above a node, the lower the number
pub above_lower : (n h i : ℕ) → n < h → 0 < above n i → above h i < above n i
above_lower n zero i less some = absurd (omega arith)
above_lower n (suc k) i less some =
    elim (cases_eq n k) [
      | inl e ↦ (let same = ap (λ x. above x i) e in omega arith)
      | inr other ↦ (let under = above_lower n k i (omega arith) some in omega arith)
    ]

-- no node above those that were counted has changed
pub climb_stayed : (place : Addr → ℕ) (size : ℕ) (old nodes : List (Option Age)) (first changes : Bool)
    (start node before steps : ℕ)
    → IsClimbing place size old nodes first changes start node before steps
    → HaveStayed old nodes start (steps - before)
climb_stayed place size old nodes first changes start node before steps climbing h less =
    let here = climbing.here in
    let low = climbing.low in
    let under = above_lower (steps - before) h start less (omega arith) in
    climbing.rest (above h start) (omega arith)

-- nor where a leaf was put before
pub put_stayed : (old new : List (Option Age)) (n : ℕ) (c : Option Age) (levels : ℕ) → 0 < n
    → HaveStayed (set old n c) new n levels → HaveStayed old new n levels
put_stayed old new n c levels some stayed h less =
    let under = above_lower 0 h n (omega arith) some in
    stayed h less ∙ get_or-set_other old n (above h n) c None (omega arith)
