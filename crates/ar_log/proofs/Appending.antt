-- What a crash leaves in each of the two steps of an append.
use Rattle.std.proofs.Common.{◌≡◌, inl, inr, ⊎_elim, ℕ, ◌+◌, ◌<◌, ◌≤◌, ◌^◌, min, List, [], ◌∷◌, ◌++◌, length, get_or}
use Rattle.std.proofs.Common.{take, drop, refl, sym, ◌∙◌, ap, subst, arith, append_assoc, length-drop, take-append-drop}
use Rattle.std.proofs.lemmas.Bool.{cases_eq}
use Rattle.std.proofs.lemmas.List.{append-nil, length-take-le, take_at, drop_at, take-take, drop-take, drop_more}
use Rattle.ar_media.specs.Media.{Torn, Overwritten, Only, LeavesOnly}
use Rattle.ar_log.specs.Codec.{Batch, encoded, sealed}
use Rattle.ar_log.specs.Log.{IsOpen, AreBatchesFrom, HoldsBatches, batches_len, IsBeforeOrAfter}
use Rattle.ar_log.specs.Write.{TornOf, TearsOnly}
use Rattle.ar_log.proofs.Standing.{graft_file, closed_gate}

module _ (batches : List Batch) (end : ℕ) (ends : end ≡ 8 + batches_len batches) where
  -- the file has at least the closed gate
  pub long_enough : (file : List ℕ) → HoldsBatches batches file → end + 2 ≤ length file
  long_enough file stands =
      let gate = closed_gate batches file stands in
      omega (arith, ends, ap length gate.1, length-drop (8 + batches_len batches) file)

  gate_is : (file : List ℕ) → HoldsBatches batches file → (tail : List ℕ) × (drop end file ≡ 0 ∷ 0 ∷ tail)
  gate_is file stands =
      let gate = closed_gate batches file stands in
      (gate.0, ap (λ (n : ℕ). drop n file) ends ∙ gate.1)

  grafted : (more : List Batch) (x y : List ℕ) → HoldsBatches batches x → take end y ≡ take end x
      → AreBatchesFrom (length batches) more (drop end y) → HoldsBatches (batches ++ more) y
  grafted more x y stands =
      let P : ℕ → Type 0 = λ n. take n y ≡ take n x → AreBatchesFrom (length batches) more (drop n y)
      → HoldsBatches (batches ++ more) y in
      subst P (sym ends) (graft_file batches more x y stands)

  -- the same batches up to a closed gate
  closes : (x y tail : List ℕ) → HoldsBatches batches x → take end y ≡ take end x → drop end y ≡ 0 ∷ 0 ∷ tail
      → HoldsBatches batches y
  closes x y tail stands same gate =
      let P : List Batch → Type 0 = λ l. HoldsBatches l y in
      subst P (append-nil batches) (grafted [] x y stands same (tail, gate))

  -- one batch more, after an open gate
  opens : (batch : Batch) (x y tail : List ℕ) (first second : ℕ) → HoldsBatches batches x → take end y ≡ take end x
      → IsOpen first second
      → drop end y ≡ first ∷ second ∷ ((sealed (length batches) (encoded batch) ++ 0 ∷ 0 ∷ []) ++ tail)
      → length (encoded batch) < 2 ^ 64 → HoldsBatches (batches ++ batch ∷ []) y
  opens batch x y tail first second stands same is_open gate fits =
      let split : drop end y ≡ first ∷ second ∷ (sealed (length batches) (encoded batch) ++ (0 ∷ 0 ∷ tail)) =
      gate ∙ ap (λ (l : List ℕ). first ∷ second ∷ l)
      (append_assoc (sealed (length batches) (encoded batch)) (0 ∷ 0 ∷ []) tail) in
      grafted (batch ∷ []) x y stands same (
        0 ∷ 0 ∷ tail,
        record { first = first; second = second; is_open = is_open; split = split; fits = fits },
        (tail, refl),
      )

  pub same_front : (x y : List ℕ) → HoldsBatches batches x → take (end + 2) y ≡ take (end + 2) x
      → HoldsBatches batches y
  same_front x y stands same =
      let gate = gate_is x stands in
      let front : take end y ≡ take end x =
      sym (take-take end (end + 2) y (omega arith)) ∙ ap (λ (l : List ℕ). take end l) same
      ∙ take-take end (end + 2) x (omega arith) in
      let two : take 2 (drop end y) ≡ 0 ∷ 0 ∷ [] =
      sym (drop-take end 2 y) ∙ ap (λ (l : List ℕ). drop end l) same ∙ drop-take end 2 x
      ∙ ap (λ (l : List ℕ). take 2 l) gate.1 in
      closes x y (drop 2 (drop end y)) stands front
      (sym (take-append-drop 2 (drop end y)) ∙ ap (λ (l : List ℕ). l ++ drop 2 (drop end y)) two)

  -- whatever is left of what is written after the closed gate
  pub torn_after : (n : ℕ) (x y : List ℕ) → HoldsBatches batches x → Torn (end + 2) n x y → HoldsBatches batches y
  torn_after n x y stands torn =
      let least : min (end + 2) (length x) ≡ end + 2 = omega (arith, long_enough x stands) in
      same_front x y stands (ap (λ (k : ℕ). take k y) (sym least) ∙ torn.before)

  -- the file with a batch after the closed gate
  pub record Staged (batch : Batch) (file : List ℕ) : Type 0 where
    pub stands : HoldsBatches batches file
    pub tail : List ℕ
    pub behind : drop (end + 2) file ≡ (sealed (length batches) (encoded batch) ++ 0 ∷ 0 ∷ []) ++ tail

  pub staged : (batch : Batch) (bytes x y : List ℕ) → HoldsBatches batches x
      → bytes ≡ sealed (length batches) (encoded batch) ++ 0 ∷ 0 ∷ [] → Overwritten x (end + 2) bytes y → Staged batch y
  staged batch bytes x y stands is over =
      let size : length (take (end + 2) x) ≡ end + 2 = length-take-le (end + 2) x (long_enough x stands) in
      let whole : y ≡ take (end + 2) x ++ (bytes ++ drop (end + 2 + length bytes) x) =
      over ∙ append_assoc (take (end + 2) x) bytes (drop (end + 2 + length bytes) x) in
      record {
        stands = same_front x y stands
            (ap (λ (l : List ℕ). take (end + 2) l) whole
            ∙ take_at (take (end + 2) x) (bytes ++ drop (end + 2 + length bytes) x) (end + 2) size);
        tail = drop (end + 2 + length bytes) x;
        behind = ap (λ (l : List ℕ). drop (end + 2) l) whole
            ∙ drop_at (take (end + 2) x) (bytes ++ drop (end + 2 + length bytes) x) (end + 2) size
            ∙ ap (λ (l : List ℕ). l ++ drop (end + 2 + length bytes) x) is;
      }

  -- whatever is left of the gate
  pub torn_gate : (batch : Batch) (x y : List ℕ) → Staged batch x → length (encoded batch) < 2 ^ 64 → Torn end 2 x y
      → IsBeforeOrAfter batches batch y
  torn_gate batch x y at_gate fits torn =
      let long = long_enough x at_gate.stands in
      let least : min end (length x) ≡ end = omega (arith, long) in
      let front : take end y ≡ take end x = ap (λ (k : ℕ). take k y) (sym least) ∙ torn.before in
      let first = get_or y end 0 in
      let second = get_or y (end + 1) 0 in
      let next : end + 1 + 1 ≡ end + 2 = omega arith in
      let gate : drop end y ≡ first ∷ second ∷ drop (end + 2) x =
      drop_more y end 0 (omega (arith, long, torn.no_shorter))
      ∙ ap (λ (l : List ℕ). first ∷ l) (
      drop_more y (end + 1) 0 (omega (arith, long, torn.no_shorter))
      ∙ ap (λ (l : List ℕ). second ∷ l) (ap (λ (k : ℕ). drop k y) next ∙ torn.after)
      ) in
      let behind : drop end y ≡ first ∷ second ∷
      ((sealed (length batches) (encoded batch) ++ 0 ∷ 0 ∷ []) ++ at_gate.tail) =
      gate ∙ ap (λ (l : List ℕ). first ∷ second ∷ l) at_gate.behind in
      elim (cases_eq first 0) [
        | inl first_is ↦ elim (cases_eq second 0) [
          | inl second_is ↦
              let shut : drop end y ≡ 0 ∷ 0 ∷ drop (end + 2) x =
              gate ∙ ap (λ (k : ℕ). k ∷ second ∷ drop (end + 2) x) first_is
              ∙ ap (λ (k : ℕ). 0 ∷ k ∷ drop (end + 2) x) second_is in
              inl (closes x y (drop (end + 2) x) at_gate.stands front shut)
          | inr second_not ↦ inr
              (opens batch x y at_gate.tail first second at_gate.stands front (λ f s. second_not s) behind fits)
        ]
        | inr first_not ↦ inr
            (opens batch x y at_gate.tail first second at_gate.stands front (λ f s. first_not f) behind fits)
      ]

  -- the gate is open
  pub opened : (batch : Batch) (x y : List ℕ) → Staged batch x → length (encoded batch) < 2 ^ 64
      → Overwritten x end (255 ∷ 255 ∷ []) y → HoldsBatches (batches ++ batch ∷ []) y
  opened batch x y at_gate fits over =
      let size : length (take end x) ≡ end = length-take-le end x (omega (arith, long_enough x at_gate.stands)) in
      let whole : y ≡ take end x ++ (255 ∷ 255 ∷ drop (end + 2) x) =
      over ∙ append_assoc (take end x) (255 ∷ 255 ∷ []) (drop (end + 2) x) in
      let front : take end y ≡ take end x = ap (λ (l : List ℕ). take end l) whole
      ∙ take_at (take end x) (255 ∷ 255 ∷ drop (end + 2) x) end size in
      let gate : drop end y ≡ 255 ∷ 255 ∷ drop (end + 2) x = ap (λ (l : List ℕ). drop end l) whole
      ∙ drop_at (take end x) (255 ∷ 255 ∷ drop (end + 2) x) end size in
      opens batch x y at_gate.tail 255 255 at_gate.stands front (λ f s. omega (arith, f))
      (gate ∙ ap (λ (l : List ℕ). 255 ∷ 255 ∷ l) at_gate.behind) fits

  -- the outcomes of both steps
  pub left_behind : (n : ℕ) (old : List ℕ → Type 0) → ((d : List ℕ) → old d → HoldsBatches batches d) → (c : List ℕ)
      → TornOf (end + 2) n old c → HoldsBatches batches c
  left_behind n old all c torn = torn_after n torn.0 c (all torn.0 torn.1) torn.2

  pub left_gate : (batch : Batch) (x : List ℕ) (old : List ℕ → Type 0) → Only x old → Staged batch x
      → length (encoded batch) < 2 ^ 64 → (c : List ℕ) → TornOf end 2 old c → IsBeforeOrAfter batches batch c
  left_gate batch x old only at_gate fits c torn =
      let P : List ℕ → Type 0 = λ d. Torn end 2 d c in
      torn_gate batch x c at_gate fits (subst P (only torn.0 torn.1) torn.2)

pub batches_len-push : (batches : List Batch) (batch : Batch)
    → batches_len (batches ++ batch ∷ []) ≡ batches_len batches + (18 + length (encoded batch))
batches_len-push [] batch = omega arith
batches_len-push (b ∷ batches) batch = omega (arith, batches_len-push batches batch)

-- one step more of a run
module _ {M : Type 0} (moment : M → ℕ) (left_since : M → ℕ → List ℕ → Type 0) (may_leave : M → List ℕ → Type 0) where
  pub tears_on : (at n : ℕ) (old mid new : M) (P : List ℕ → Type 0) → LeavesOnly moment left_since old mid P
      → TearsOnly moment left_since may_leave at n mid new
      → ((c : List ℕ) → TornOf at n (may_leave mid) c → P c) → LeavesOnly moment left_since old new P
  tears_on at n old mid new P so_far tears here = record {
    later = omega (arith, so_far.later, tears.later);
    each = λ c left. ⊎_elim (so_far.each c) (here c) (tears.since (moment old) c so_far.later left);
    before = λ t c le left. ⊎_elim (so_far.before t c le) (λ now. inr (here c now))
        (tears.since t c (omega (arith, le, so_far.later)) left);
  }
