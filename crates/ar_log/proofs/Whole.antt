-- A whole log, batch by batch.
use Rattle.std.proofs.Common.{◌≡◌, inl, inr, ⊎_elim, ℕ, Bool, List, [], ◌∷◌, ◌++◌, length, Vec, sym, ◌∙◌, ap, subst}
use Rattle.std.proofs.Common.{arith}
use Rattle.std.specs.declared.alloc.Global.{Global}
use Rattle.std.proofs.lemmas.List.{map-append}
use Rattle.ar_media.specs.Media.{LeavesOnly}
use Rattle.ar_log.specs.Codec.{Batch, items_of}
use Rattle.ar_log.specs.Log.{HoldsBatches, batches_len, batches_of}
use Rattle.ar_log.specs.Reading.{OnlyReads, batches_before, IsAt, ReadsOn, all_items, IsWholeLog}
use Rattle.ar_log.specs.declared.place.Place.{Place}
use Rattle.ar_log.proofs.Standing.{batches_of_stands}

pub all_items-push : (vs : List (Vec (Vec ℕ Global) Global)) (v : Vec (Vec ℕ Global) Global)
    → all_items (vs ++ v ∷ []) ≡ all_items vs ++ items_of v.items ∷ []
all_items-push vs v = map-append (λ (b : Vec (Vec ℕ Global) Global). items_of b.items) vs (v ∷ [])

-- one more batch was read
pub more_at : (file now : List ℕ) (batch : Batch) (place next : Place) → now ≡ file → ReadsOn now batch place next
    → IsAt file next
more_at file now batch place next is reads = let P : List ℕ → Type 0 = λ f. IsAt f next in subst P is reads.place

pub more_items : (file now : List ℕ) (vs : List (Vec (Vec ℕ Global) Global)) (v : Vec (Vec ℕ Global) Global)
    (place next : Place) → now ≡ file
    → batches_before place.at file ≡ all_items vs → ReadsOn now (items_of v.items) place next
    → batches_before next.at file ≡ all_items (vs ++ v ∷ [])
more_items file now vs v place next is so_far reads =
    ap (λ (f : List ℕ). batches_before next.at f) (sym is)
    ∙ reads.batches
    ∙ ap (λ (f : List ℕ). batches_before place.at f ++ items_of v.items ∷ []) is
    ∙ ap (λ (b : List Batch). b ++ items_of v.items ∷ []) so_far
    ∙ sym (all_items-push vs v)

pub whole : (file now : List ℕ) (vs : List (Vec (Vec ℕ Global) Global)) (place : Place) → now ≡ file → IsAt file place
    → batches_before place.at file ≡ all_items vs
    → HoldsBatches (batches_before place.at now) now → IsWholeLog file vs place
whole file now vs place is at_place so_far holds =
    let P : List ℕ → Type 0 = λ f. HoldsBatches (batches_before place.at f) f in
    let here = subst P is holds in
    let are : batches_of file ≡ batches_before place.at file =
    batches_of_stands (batches_before place.at file) file here in
    let Q : List Batch → Type 0 = λ b. HoldsBatches b file in
    record {
      holds = subst Q (sym are) here;
      are = sym (are ∙ so_far);
      at = omega (arith, at_place.at, ap batches_len are);
      number = omega (arith, at_place.number, ap (λ (b : List Batch). length b) are);
    }

-- a run of reads leaves what was left before
module _ {M : Type 0} (seen : M → List ℕ) (may_leave : M → List ℕ → Type 0) (moment : M → ℕ)
    (left_since : M → ℕ → List ℕ → Type 0) (is_clean : M → Bool) where
  pub read_run : (old new : M) (P : List ℕ → Type 0) → OnlyReads seen may_leave moment left_since is_clean old new
      → ((c : List ℕ) → left_since old (moment old) c → P c)
      → ((c : List ℕ) → may_leave old c → P c) → LeavesOnly moment left_since old new P
  read_run old new P reads here now = record {
    later = reads.later;
    each = λ c left. ⊎_elim (here c) (now c) (reads.since (moment old) c (omega arith) left);
    before = λ t c le left. ⊎_elim (λ was. inl was) (λ l. inr (now c l)) (reads.since t c le left);
  }
