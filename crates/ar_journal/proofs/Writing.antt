-- What calls leave of a journal.
use Rattle.std.proofs.Common.{◌≡◌, inl, inr, ℕ, Bool, true, false, List, Result, Ok, Err, OnOk}
use Rattle.std.proofs.Common.{IfErr, IsTrue, refl, sym, ◌∙◌, ap, subst}
use Rattle.std.proofs.lemmas.Bool.{cases_Bool}
use Rattle.ar_media.specs.Media.{LeavesOnly}
use Rattle.ar_log.specs.Codec.{Batch}
use Rattle.ar_log.specs.Failure.{is_final, final_of}
use Rattle.ar_log.specs.Log.{IsSynced, Appends, KeepsBatches}
use Rattle.ar_log.specs.declared.error.LogError.{LogError}
use Rattle.ar_log.specs.Write.{WriteFails}
use Rattle.ar_log.specs.declared.error.LogError.TheVariants.{Memory, Refused, Failed, Closed, TooLong, NotALog}
use Rattle.ar_log.specs.declared.error.LogError.TheVariants.{OtherVersion, Damaged}
use Rattle.ar_log.specs.declared.log.Log.{Log}
use Rattle.ar_media.proofs.Moments.{started}
use Rattle.ar_journal.specs.Journal.{Names, IsReady, LeavesJournal}
use Rattle.ar_journal.specs.declared.journal.Journal.{Journal}
use Rattle.ar_journal.proofs.Naming.{of_named}

pub not_both : (b : Bool) → b ≡ true → b ≡ false → ⊥
not_both b is not = let e : true ≡ false = sym is ∙ not in cc e

-- what fails in a write or a sync is final once it closes
pub final_closes : (e : LogError) → WriteFails e → is_final (final_of e) ≡ true
final_closes Memory fails = absurd fails
final_closes (Refused e) fails = refl
final_closes (Failed e) fails = refl
final_closes Closed fails = absurd fails
final_closes TooLong fails = absurd fails
final_closes NotALog fails = absurd fails
final_closes OtherVersion fails = absurd fails
final_closes (Damaged offset) fails = absurd fails

-- the selector isn't touched, and the active log leaves what has P
pub leaves_journal : {M : Type 0} (moment : M → ℕ) (left_since : M → ℕ → List ℕ → Type 0) (old new : Journal M)
    (P : List ℕ → Type 0)
    → new.selector ≡ old.selector
    → ((s : List ℕ) → left_since old.selector (moment old.selector) s → Names old.is_second s)
    → LeavesOnly moment left_since old.active.media new.active.media P → LeavesJournal moment left_since old new P
leaves_journal {M = M} moment left_since old new P same named run =
    let Q : M → Type 0 = λ m. LeavesOnly moment left_since old.selector m (Names old.is_second) in
    let names = subst Q (sym same) (started moment left_since old.selector (Names old.is_second) named) in
    record {
      each = λ s active spare left was. of_named old.is_second s active spare P (names.each s left)
          (run.each active was);
      selector = names;
      active = run;
    }

-- an append, by how it ended
module _ {M : Type 0} (seen : M → List ℕ) (may_leave : M → List ℕ → Type 0) (is_clean : M → Bool) (batch : Batch)
    (old new : Journal M) (ready : IsReady seen may_leave is_clean old) where
  pub still_ready : (result : Result Unit LogError) → new.selector ≡ old.selector → new.is_second ≡ old.is_second
      → is_clean new.active.media ≡ is_clean old.active.media
      → (old.active.is_closed ≡ true → (result ≡ Err Closed) × (new.active ≡ old.active))
      → OnOk result (IsTrue (is_clean old.active.media) → Appends seen may_leave batch old.active new.active)
      → IfErr result (λ e. is_final e ≡ false → old.active.is_closed ≡ false → IsTrue (is_clean old.active.media)
      → KeepsBatches seen may_leave old.active new.active)
      → IfErr result (λ e. old.active.is_closed ≡ false → new.active.is_closed ≡ is_final e)
      → IsReady seen may_leave is_clean new
  still_ready result selector which clean closed acknowledged kept closes =
      let was_open : new.active.is_closed ≡ false → old.active.is_closed ≡ false =
      λ now. elim (cases_Bool old.active.is_closed) [
        | inl is ↦ absurd (not_both old.active.is_closed is (sym (ap (λ (a : Log M). a.is_closed) (closed is).1) ∙ now))
        | inr not ↦ not
      ] in
      let back : IsTrue (is_clean new.active.media) → IsTrue (is_clean old.active.media) = λ c. subst IsTrue clean c in
      let N : M → Bool → Type 0 = λ m w. (s : List ℕ) → may_leave m s → Names w s in
      record {
        log = λ now c. synced result now c (was_open now) (back c) acknowledged kept closes;
        named = λ now c.
            let Q : M → Type 0 = λ m. IsTrue (is_clean m) in
            let here : N old.selector old.is_second = ready.named (was_open now) (subst Q selector c) in
            let P : M → Type 0 = λ m. N m old.is_second in
            subst (N new.selector) (sym which) (subst P (sym selector) here);
      }
    where
      synced : (result : Result Unit LogError) → new.active.is_closed ≡ false → IsTrue (is_clean new.active.media)
          → old.active.is_closed ≡ false → IsTrue (is_clean old.active.media)
          → OnOk result (IsTrue (is_clean old.active.media) → Appends seen may_leave batch old.active new.active)
          → IfErr result (λ e. is_final e ≡ false → old.active.is_closed ≡ false → IsTrue (is_clean old.active.media)
          → KeepsBatches seen may_leave old.active new.active)
          → IfErr result (λ e. old.active.is_closed ≡ false → new.active.is_closed ≡ is_final e)
          → IsSynced seen may_leave new.active
      synced (Ok x) now c was before acknowledged kept closes = (acknowledged before).settled
      synced (Err e) now c was before acknowledged kept closes = (kept (sym (closes was) ∙ now) was before).settled
