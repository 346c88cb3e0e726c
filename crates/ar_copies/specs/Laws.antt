-- The laws of `Media` for a file in copies.
use Rattle.std.specs.Prelude.{◌≡◌, ◌⊎◌, ℕ, Bool, true, false, List, [], ◌∷◌, length, refl}
use Rattle.std.specs.Prelude.{if◌then◌else◌}
use Rattle.std.proofs.Common.{inl, inr, ⊎_elim, sym, subst, ◌∙◌, ap, arith}
use Rattle.std.proofs.lemmas.Bool.{cases_Bool}
use Rattle.ar_media.specs.Media.{Elapses}
use Rattle.ar_media.specs.Calls.{seen_after, LeftAfter}
use Rattle.ar_media.specs.CallLaws.{Torn-overlaid, Cut-padded, Cut-refl}
use Rattle.ar_media.specs.declared.record.Call.{Call}
use Rattle.ar_media.specs.declared.record.Call.TheVariants.{Measured, Read, Wrote, Resized, Synced, Failed}
use Rattle.std.proofs.Common.{length-take, take}
use Rattle.ar_copies.specs.Copies.{agrees, seen_first, OneLeaves}
use Rattle.ar_copies.specs.Model.{Entry, tracks, contents, FileLeaves, LeftEarlier, LeavesSince}
use Rattle.ar_copies.specs.declared.copies.Copies.{Copies}

pub not_both : (b : Bool) → b ≡ true → b ≡ false → ⊥
not_both b is not = let e : true ≡ false = sym is ∙ not in cc e

-- a call leaves what a read returns after it
pub stays : (call : Call) (bytes seen : List ℕ) (earlier : List ℕ → Type 0) → earlier seen
    → LeftAfter call bytes seen earlier (seen_after call bytes seen)
stays (Measured len) bytes seen earlier was = was
stays (Read at) bytes seen earlier was = was
stays (Wrote at n) bytes seen earlier was = (
  seen,
  was,
  Torn-overlaid seen at (length bytes) (take n bytes) (omega
      (arith, length-take n bytes)),
)
stays (Resized len true) bytes seen earlier was = (seen, was, Cut-padded seen len)
stays (Resized len false) bytes seen earlier was = (seen, was, Cut-refl len seen)
stays Synced bytes seen earlier was = refl
stays Failed bytes seen earlier was = was

module _ {M : Type 0} (seen : M → List ℕ) (may_leave : M → List ℕ → Type 0) where
  -- what a read returns is what may stay
  pub contents_stay : ((m : M) → may_leave m (seen m)) → (now : Copies M) (past : List (Entry M))
      → FileLeaves seen may_leave now past (contents seen now past)
  contents_stay stay now [] = elim (cases_Bool (agrees seen now)) [
    | inl agree ↦ inl (agree, inl (stay now.reference))
    | inr not ↦ inr (not, refl)
  ]
  contents_stay stay now (e ∷ earlier) =
      let either : Bool → List ℕ = λ b.
      if b then seen_first seen now else seen_after e.1.0 e.1.1 (contents seen e.0 earlier) in
      elim (cases_Bool (tracks seen now (e ∷ earlier))) [
        | inl is ↦ subst (FileLeaves seen may_leave now (e ∷ earlier)) (sym (ap either is))
            (inl (is, inl (stay now.reference)))
        | inr not ↦ subst (FileLeaves seen may_leave now (e ∷ earlier)) (sym (ap either not))
            (inr (
              not,
              stays e.1.0 e.1.1 (contents seen e.0 earlier) (FileLeaves seen may_leave e.0 earlier)
                  (contents_stay stay e.0 earlier),
            ))
      ]

  none_earlier : (past : List (Entry M)) (x : List ℕ) → LeftEarlier seen may_leave past (length past) x → ⊥
  none_earlier [] x left = left
  none_earlier (e ∷ earlier) x left = absurd (omega (arith, left.0))

  -- since the newest call there is only what a crash now may leave
  pub only_newest : (now : Copies M) (past : List (Entry M)) (x : List ℕ)
      → LeavesSince seen may_leave now past (length past) x → FileLeaves seen may_leave now past x
  only_newest now past x (inl left) = left
  only_newest now past x (inr before) = absurd (none_earlier past x before)

  -- While the copies in use have had the same bytes after each call, a crash leaves what it may leave of one copy.
  pub crash_leaves_one_copy : (now : Copies M) (past : List (Entry M)) → tracks seen now past ≡ true → (x : List ℕ)
      → FileLeaves seen may_leave now past x → OneLeaves may_leave now x
  crash_leaves_one_copy now [] is x (inl left) = left.1
  crash_leaves_one_copy now [] is x (inr left) = absurd (not_both (agrees seen now) is left.0)
  crash_leaves_one_copy now (e ∷ earlier) is x (inl left) = left.1
  crash_leaves_one_copy now (e ∷ earlier) is x (inr left) =
      absurd (not_both (tracks seen now (e ∷ earlier)) is left.0)

-- What a crash during a call may leave of a copy, it may leave before the call or after it: so what it may leave at the
-- ends of the calls is enough.
pub ends_are_enough : {M : Type 0} (may_leave : M → List ℕ → Type 0) (moment : M → ℕ)
    (left_since : M → ℕ → List ℕ → Type 0) → ((m : M) (x : List ℕ) → left_since m (moment m) x → may_leave m x)
    → (old new : M) → Elapses (moment old) (moment new) (left_since old) (left_since new) (may_leave new)
    → (x : List ℕ) → left_since new (moment old) x → may_leave old x ⊎ may_leave new x
ends_are_enough may_leave moment left_since only_now old new time x left =
    ⊎_elim (λ was. inl (only_now old x was)) (λ now. inr now) (time.nothing_else (moment old) x (omega arith) left)
