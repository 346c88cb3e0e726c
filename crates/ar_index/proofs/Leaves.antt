-- The leaves of a tree: what each is, what they are after one was put, and what a plain scan finds in them.
use Rattle.std.proofs.Common.{◌≡◌, ◌≢◌, ℕ, zero, suc, ◌+◌, ◌-◌, ◌*◌, ◌/◌, ◌<◌, ◌≤◌, Bool, true, false, cond, is_some}
use Rattle.std.proofs.Common.{Option, None, Some, List, length, drop, set, get_or}
use Rattle.std.proofs.Common.{refl, sym, ap, subst, ◌∙◌, inl, inr, arith}
use Rattle.std.specs.Option.{ForSome}
use Rattle.std.proofs.lemmas.Bool.{cases_eq}
use Rattle.std.proofs.lemmas.List.{length-set, get_or-set_other, get_or-set_same, ext_get_or}
use Rattle.std.proofs.lemmas.List.Sums.{sum_by-set, count_by-le-length}
use Rattle.ar_index.specs.declared.choices.Choices.{Choices}
use Rattle.ar_index.specs.Bits.{has, IsBitSet}
use Rattle.ar_index.specs.Choices.{nothing, AreOfGroup}
use Rattle.ar_index.specs.Tree.{node_at, IsGrown, IsOfGroups, IsValidTree, TreeState, if_in, leaf_of}
use Rattle.ar_index.specs.Tree.{leaves_up, leaves, free_in}
use Rattle.ar_index.proofs.Heap.{put_here, put_elsewhere, put_grown}
use Rattle.ar_index.proofs.Joins.{same_choices}

leaves_length : (t : TreeState) (i n : ℕ) → length (leaves_up t i n) ≡ n
leaves_length t i zero = refl
leaves_length t i (suc n) = ap suc (leaves_length t (suc i) n)

pub leaves_count : (t : TreeState) → length (leaves t) ≡ t.count
leaves_count t = leaves_length t 0 t.count

leaf_from : (t : TreeState) (i n k : ℕ) → k < n → get_or (leaves_up t i n) k nothing ≡ leaf_of t (i + k)
leaf_from t i zero k inside = absurd (omega arith)
leaf_from t i (suc n) zero inside = ap (leaf_of t) (let e : i ≡ i + 0 = omega arith in e)
leaf_from t i (suc n) (suc k) inside =
    leaf_from t (suc i) n k (omega arith) ∙ ap (leaf_of t) (let e : suc i + k ≡ i + suc k = omega arith in e)

-- a leaf in use
pub leaf_at : (t : TreeState) (i : ℕ) → i < t.count → get_or (leaves t) i nothing ≡ leaf_of t i
leaf_at t i inside =
    leaf_from t 0 t.count i inside ∙ ap (leaf_of t) (let e : 0 + i ≡ i = omega arith in e)

-- a leaf in use is one of the list that is seen
pub seen_inside : (t seen : TreeState) (leaf : ℕ) → t ≡ seen → leaf < length (leaves seen) → leaf < t.count
seen_inside t seen leaf e inside = omega (arith, leaves_count t, ap (λ x. length (leaves x)) e)

-- the leaves are a list, where they are its elements
pub leaves_are : (t : TreeState) (xs : List Choices) → length xs ≡ t.count
    → ((i : ℕ) → i < t.count → leaf_of t i ≡ get_or xs i nothing) → leaves t ≡ xs
leaves_are t xs size each =
    ext_get_or nothing (leaves t) xs (leaves_count t ∙ sym size) (λ i h.
    let inside : i < t.count = omega (arith, leaves_count t) in leaf_at t i inside ∙ each i inside)

-- a number that is in the set if the group has one of this kind
number_is : (o : Option ℕ) (words : List ℕ) (i : ℕ) → has words i ≡ is_some o → ForSome o (λ n. n ≡ i)
    → if_in words i ≡ o
number_is None words i e own = ap (λ b. cond {A = Option ℕ} b (Some i) None) e
number_is (Some n) words i e own =
    ap (λ b. cond {A = Option ℕ} b (Some i) None) e ∙ ap Some (sym (own n refl))

-- the choices of a leaf name no other group
pub if_own : (words : List ℕ) (i : ℕ) → ForSome (if_in words i) (λ n. n ≡ i)
if_own words i = by (has words i)
  where
    by : (b : Bool) → ForSome (cond {A = Option ℕ} b (Some i) None) (λ n. n ≡ i)
    by true = λ n e. ap (λ (o : Option ℕ). elim o [ None ↦ i | Some m ↦ m ]) (sym e)
    by false = λ n e. absurd (cc)

pub leaf_own : (t : TreeState) (i : ℕ) → AreOfGroup i (leaf_of t i)
leaf_own t i =
    record { mirrored = if_own t.mirrored i; parity = if_own t.parity i; free = if_own t.free i }

abbrev pub one_if_free : Choices → ℕ
one_if_free c = cond {A = ℕ} (is_some c.free) 1 0

-- how many are free where one is put
pub free_put : (xs : List Choices) (i : ℕ) (c : Choices) → i < length xs
    → free_in (set xs i c) + one_if_free (get_or xs i nothing) ≡ free_in xs + one_if_free c
free_put xs i c inside = sum_by-set one_if_free xs i c nothing inside

-- no more are free than there are
pub free_few : (xs : List Choices) → free_in xs ≤ length xs
free_few xs = count_by-le-length (λ c. is_some c.free) xs

-- whether a group is free
pub free_has : (words : List ℕ) (i : ℕ) → is_some (if_in words i) ≡ has words i
free_has words i = by (has words i)
  where
    by : (b : Bool) → is_some (cond {A = Option ℕ} b (Some i) None) ≡ b
    by true = refl
    by false = refl

-- a set where one of the groups in use was put is one of them
pub put_groups : (size count leaf : ℕ) (is : Bool) (old new : List ℕ) → leaf < count → IsOfGroups size count old
    → IsBitSet old leaf is new → IsOfGroups size count new
put_groups size count leaf is old new inside ok put = record {
  room = omega (arith, ok.room, put.size);
  close = omega (arith, ok.close, put.size);
  past = λ i h. put.others i (omega arith) ∙ ok.past i h;
}

-- the choices of a leaf are put
module _ (old new : TreeState) (leaf frees now : ℕ) (c : Choices) (ok : IsValidTree old frees)
    (inside : leaf < old.count)
    (own : AreOfGroup leaf c)
    (size : new.size ≡ old.size) (count : new.count ≡ old.count)
    (twice : length new.nodes ≡ 2 * old.size)
    (put : drop old.size new.nodes ≡ set (drop old.size old.nodes) leaf c.oldest)
    (mirrored : IsBitSet old.mirrored leaf (is_some c.mirrored) new.mirrored)
    (parity : IsBitSet old.parity leaf (is_some c.parity) new.parity)
    (free : IsBitSet old.free leaf (is_some c.free) new.free) where
  here : leaf_of new leaf ≡ c
  here =
      same_choices (leaf_of new leaf) c (number_is c.mirrored new.mirrored leaf mirrored.here own.mirrored)
      (number_is c.parity new.parity leaf parity.here own.parity)
      (number_is c.free new.free leaf free.here own.free)
      (ap (λ n. node_at new.nodes (n + leaf)) size
      ∙ put_here old.size leaf old.nodes new.nodes c.oldest put ok.grown.twice (omega (arith, ok.grown.within)))

  others : (i : ℕ) → i ≢ leaf → leaf_of new i ≡ leaf_of old i
  others i ne =
      same_choices (leaf_of new i) (leaf_of old i)
      (ap (λ b. cond {A = Option ℕ} b (Some i) None) (mirrored.others i ne))
      (ap (λ b. cond {A = Option ℕ} b (Some i) None) (parity.others i ne))
      (ap (λ b. cond {A = Option ℕ} b (Some i) None) (free.others i ne))
      (ap (λ n. node_at new.nodes (n + i)) size
      ∙ put_elsewhere old.size leaf old.nodes new.nodes c.oldest put i ne)

  pub set_leaves : leaves new ≡ set (leaves old) leaf c
  set_leaves =
      leaves_are new (set (leaves old) leaf c)
      (length-set (leaves old) leaf c ∙ leaves_count old ∙ sym count) (λ i h. elim (cases_eq i leaf) [
        | inl e ↦
            subst (λ j. leaf_of new j ≡ get_or (set (leaves old) leaf c) j nothing) (sym e)
            (here ∙ sym (get_or-set_same (leaves old) leaf c nothing (omega (arith, leaves_count old))))
        | inr ne ↦
            others i ne ∙ sym (leaf_at old i (omega arith))
            ∙ sym (get_or-set_other (leaves old) leaf i c nothing ne)
      ])

  pub set_kept : now + cond {A = ℕ} (has old.free leaf) 1 0 ≡ frees + one_if_free c → IsValidTree new now
  set_kept e =
      let before : one_if_free (get_or (leaves old) leaf nothing) ≡ cond {A = ℕ} (has old.free leaf) 1 0 =
      ap one_if_free (leaf_at old leaf inside) ∙ ap (λ b. cond {A = ℕ} b 1 0) (free_has old.free leaf) in
      let all : free_in (set (leaves old) leaf c) + one_if_free (get_or (leaves old) leaf nothing)
      ≡ free_in (leaves old) + one_if_free c =
      free_put (leaves old) leaf c (omega (arith, leaves_count old)) in
      let after : free_in (leaves new) ≡ free_in (set (leaves old) leaf c) = ap free_in set_leaves in
      let counted = ok.counted in
      let grown : IsGrown old.size old.count new.nodes =
      put_grown old.size leaf old.nodes new.nodes c.oldest put old.count ok.grown twice inside in
      record {
        grown = subst (λ n. IsGrown n new.count new.nodes) (sym size)
            (subst (λ n. IsGrown old.size n new.nodes) (sym count) grown);
        close = omega (arith, ok.close);
        few = omega (arith, ok.few);
        mirrored = moved new.mirrored (put_groups _ _ leaf _ _ _ inside ok.mirrored mirrored);
        parity = moved new.parity (put_groups _ _ leaf _ _ _ inside ok.parity parity);
        frees = moved new.free (put_groups _ _ leaf _ _ _ inside ok.frees free);
        counted = omega arith;
      }
    where
      moved : (words : List ℕ) → IsOfGroups old.size old.count words → IsOfGroups new.size new.count words
      moved words h =
          subst (λ n. IsOfGroups n new.count words) (sym size)
          (subst (λ n. IsOfGroups old.size n words) (sym count) h)

-- where one is free, some are
pub some_free : (t : TreeState) (frees leaf : ℕ) → IsValidTree t frees → leaf < t.count → has t.free leaf ≡ true
    → 0 < frees
some_free t frees leaf ok inside e =
    let put : free_in (set (leaves t) leaf nothing) + one_if_free (get_or (leaves t) leaf nothing)
    ≡ free_in (leaves t) + 0 =
    free_put (leaves t) leaf nothing (omega (arith, leaves_count t)) in
    let one : one_if_free (get_or (leaves t) leaf nothing) ≡ 1 =
    ap one_if_free (leaf_at t leaf inside) ∙ ap (λ b. cond {A = ℕ} b 1 0) (free_has t.free leaf ∙ e) in
    omega (arith, ok.counted)

-- the word of a leaf in use is there
pub in_room : (size count leaf : ℕ) (words : List ℕ) → IsOfGroups size count words → count ≤ size → leaf < count
    → leaf / 64 < length words
in_room size count leaf words ok within inside = omega (arith, ok.room)

-- a set that stays
pub put_same : (words : List ℕ) (i : ℕ) → IsBitSet words i (is_some (if_in words i)) words
put_same words i = record { size = refl; here = sym (free_has words i); others = λ j ne. refl }
