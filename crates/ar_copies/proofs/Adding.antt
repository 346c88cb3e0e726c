-- A copy that joins a file is a call that has done nothing.
use Rattle.std.proofs.Common.{◌≡◌, ◌⊎◌, inl, inr, ⊎_elim, ℕ, Bool, true, List, [], ◌∷◌, length}
use Rattle.std.proofs.Common.{refl, sym, ◌∙◌, subst, Some}
use Rattle.std.proofs.lemmas.Slice.Eq.{bytes_eq-Decides}
use Rattle.ar_media.specs.Media.{Elapses}
use Rattle.ar_media.specs.declared.record.Call.TheVariants.{Failed as Missed}
use Rattle.ar_copies.specs.Copies.{agrees, seen_first, joined}
use Rattle.ar_copies.specs.Copied.{history, JoinsCopy, Noted}
use Rattle.ar_copies.specs.Model.{Entry, tracks, contents, FileLeaves, LeavesSince, clean_since}
use Rattle.ar_copies.specs.declared.copies.Copies.{Copies}
use Rattle.ar_copies.specs.declared.copied.CopiedFile.{CopiedFile}
use Rattle.ar_copies.proofs.Modelling.{then_contents, then_was_clean, then_joins, then_elapses, tracked_contents}
use Rattle.ar_copies.proofs.Modelling.{and_both, zip_more}

module _ {M : Type 0} (seen : M → List ℕ) (may : M → List ℕ → Type 0) (clean : M → Bool) (old new : CopiedFile M)
    (copy : M) (past : List (Copies M)) (was : past ≡ old.copies ∷ old.past.items)
    (note : Noted past (Some Missed) [] (record old { copies = joined old.copies copy }) new) where
  abbrev H : List (Entry M)
  H = history old

  abbrev K : Copies M
  K = joined old.copies copy

  abbrev more : List (Entry M)
  more = (old.copies, (Missed, [])) ∷ H

  new_history : history new ≡ more
  new_history = zip_more old.past.items new.past.items old.calls.calls new.calls.calls old.copies (Missed, [])
      (note.1 ∙ was) note.2

  to_new : (P : Copies M → List (Entry M) → Type 0) → P K more → P new.copies (history new)
  to_new P holds =
      subst (λ h. P new.copies h) (sym new_history) (subst (λ n. P n more) (sym note.0) holds)

  agreed : seen copy ≡ seen_first seen old.copies → agrees seen K ≡ true
  agreed same = (bytes_eq-Decides (seen_first seen old.copies) (seen copy)).1 (sym same)

  pub joins_copy : JoinsCopy seen may clean old copy new
  joins_copy = record {
    copies = note.0;
    same = to_new (λ n h. contents seen n h ≡ contents seen old.copies H)
        (then_contents seen old.copies K H (Missed, []) (λ s t. t ≡ s) (λ is. refl) refl);
    crash = to_new (λ n h. (x : List ℕ) → FileLeaves seen may n h x → FileLeaves seen may old.copies H x ⊎ may copy x)
        (then_joins seen old.copies K H (Missed, []) may (may copy)
        (λ x left. ⊎_elim (λ first. inl (inl first)) (λ other. inr other) left) (λ x left. left));
    time = to_new (λ n h. Elapses (length H) (length h) (LeavesSince seen may old.copies H) (LeavesSince seen may n h)
        (FileLeaves seen may n h))
        (then_elapses seen old.copies K H (Missed, []) may);
    clean = to_new (λ n h. clean_since seen clean n h ≡ true → clean_since seen clean old.copies H ≡ true)
        (then_was_clean seen old.copies K H (Missed, []) clean);
    tracked = λ is same. to_new (λ n h. tracks seen n h ≡ true)
        (and_both is (agreed (same ∙ tracked_contents seen old.copies H is)));
  }
