-- One call more of a file in copies.
use Rattle.std.proofs.Common.{◌≡◌, ◌⊎◌, inl, inr, ⊎_elim, ℕ, Bool, true, false, ◌&&◌, List, [], ◌∷◌, length}
use Rattle.std.proofs.Common.{if◌then◌else◌, refl, sym, ◌∙◌, ap, subst, arith, zip}
use Rattle.std.proofs.lemmas.Bool.{cases_Bool}
use Rattle.ar_media.specs.Media.{Only, OutcomesFollow, Elapses}
use Rattle.ar_media.specs.Calls.{Recorded, seen_after, LeftAfter, is_honest}
use Rattle.ar_copies.specs.Copies.{agrees, seen_first, OneLeaves, copies_clean}
use Rattle.ar_copies.specs.Laws.{not_both}
use Rattle.ar_copies.specs.Model.{Entry, tracks, contents, FileLeaves, LeavesSince, clean_since}
use Rattle.ar_copies.specs.declared.copies.Copies.{Copies}

pub and_first : (x y : Bool) → (x && y) ≡ true → x ≡ true
and_first true y is = refl
and_first false y is = is

pub and_second : (x y : Bool) → (x && y) ≡ true → y ≡ true
and_second true y is = is
and_second false y is = absurd (not_both false is refl)

pub and_both : {x y : Bool} → x ≡ true → y ≡ true → (x && y) ≡ true
and_both one other = rw (one, other) refl

and_known : (a b : Bool) → (a ≡ true → b ≡ true) → (a && b) ≡ a
and_known true b follows = follows refl
and_known false b follows = refl

module _ {M : Type 0} (seen : M → List ℕ) where
  tracked_agrees : (now : Copies M) (past : List (Entry M)) → tracks seen now past ≡ true → agrees seen now ≡ true
  tracked_agrees now [] is = is
  tracked_agrees now (e ∷ earlier) is = and_second (tracks seen e.0 earlier) (agrees seen now) is

  pub tracked_contents : (now : Copies M) (past : List (Entry M)) → tracks seen now past ≡ true
      → contents seen now past ≡ seen_first seen now
  tracked_contents now [] is = refl
  tracked_contents now (e ∷ earlier) is =
      ap (λ (b : Bool). if b then seen_first seen now else seen_after e.1.0 e.1.1 (contents seen e.0 earlier)) is

  module _ (old new : Copies M) (past : List (Entry M)) (rec : Recorded) where
    abbrev more : List (Entry M)
    more = (old, rec) ∷ past

    tracked_before : tracks seen new more ≡ true → tracks seen old past ≡ true
    tracked_before is = and_first (tracks seen old past) (agrees seen new) is

    contents_new : tracks seen new more ≡ false
        → contents seen new more ≡ seen_after rec.0 rec.1 (contents seen old past)
    contents_new is =
        ap (λ (b : Bool). if b then seen_first seen new else seen_after rec.0 rec.1 (contents seen old past)) is

    -- what holds of the copies' bytes, and of the record's
    pub then_contents : (P : List ℕ → List ℕ → Type 0)
        → (agrees seen old ≡ true → P (seen_first seen old) (seen_first seen new))
        → P (contents seen old past) (seen_after rec.0 rec.1 (contents seen old past))
        → P (contents seen old past) (contents seen new more)
    then_contents P copied noted = elim (cases_Bool (tracks seen new more)) [
      | inl is ↦
          let was = tracked_before is in
          subst (λ s. P s (contents seen new more)) (sym (tracked_contents old past was))
          (subst (λ s. P (seen_first seen old) s) (sym (tracked_contents new more is))
          (copied (tracked_agrees old past was)))
      | inr not ↦ subst (λ s. P (contents seen old past) s) (sym (contents_new not)) noted
    ]

    module _ (is_clean : M → Bool) where
      -- whether what is added is clean, by whether the copies have the same bytes
      abbrev newest_clean : Bool → Bool
      newest_clean b = if b then copies_clean is_clean new else is_honest rec.0 rec.1 (contents seen old past)

      tracked_clean : (now : Copies M) (before : List (Entry M)) → tracks seen now before ≡ true
          → clean_since seen is_clean now before ≡ true → copies_clean is_clean now ≡ true
      tracked_clean now [] is clean = clean
      tracked_clean now (e ∷ earlier) is clean =
          and_second (clean_since seen is_clean e.0 earlier) (copies_clean is_clean now)
          (sym (ap (λ (b : Bool). clean_since seen is_clean e.0 earlier && (if b then copies_clean is_clean now
          else is_honest e.1.0 e.1.1 (contents seen e.0 earlier))) is) ∙ clean)

      clean_new : (b : Bool) → tracks seen new more ≡ b → clean_since seen is_clean new more
          ≡ (clean_since seen is_clean old past && newest_clean b)
      clean_new b is = ap (λ t. clean_since seen is_clean old past && newest_clean t) is

      pub then_clean : copies_clean is_clean new ≡ copies_clean is_clean old
          → is_honest rec.0 rec.1 (contents seen old past) ≡ true
          → clean_since seen is_clean new more ≡ clean_since seen is_clean old past
      then_clean same honest = elim (cases_Bool (tracks seen new more)) [
        | inl is ↦ clean_new true is ∙ and_known (clean_since seen is_clean old past) (copies_clean is_clean new)
            (λ clean. same ∙ tracked_clean old past (tracked_before is) clean)
        | inr not ↦ clean_new false not ∙ and_known (clean_since seen is_clean old past)
            (is_honest rec.0 rec.1 (contents seen old past)) (λ clean. honest)
      ]

      pub then_was_clean : clean_since seen is_clean new more ≡ true → clean_since seen is_clean old past ≡ true
      then_was_clean now = and_first (clean_since seen is_clean old past) (newest_clean (tracks seen new more)) now

      -- what a read of a clean file returned
      pub then_reads : (Value : List ℕ → Type 0)
          → (agrees seen old ≡ true → copies_clean is_clean new ≡ true → Value (seen_first seen old))
          → (is_honest rec.0 rec.1 (contents seen old past) ≡ true → Value (contents seen old past))
          → clean_since seen is_clean new more ≡ true → Value (contents seen old past)
      then_reads Value copied noted now = elim (cases_Bool (tracks seen new more)) [
        | inl is ↦
            let was = tracked_before is in
            subst Value (sym (tracked_contents old past was))
            (copied (tracked_agrees old past was) (tracked_clean new more is now))
        | inr not ↦ noted (and_second (clean_since seen is_clean old past)
            (is_honest rec.0 rec.1 (contents seen old past)) (sym (clean_new false not) ∙ now))
      ]

    module _ (may_leave : M → List ℕ → Type 0) where
      tracked_leaves : (now : Copies M) (before : List (Entry M)) (x : List ℕ) → tracks seen now before ≡ true
          → OneLeaves may_leave now x → FileLeaves seen may_leave now before x
      tracked_leaves now [] x is left = inl (is, left)
      tracked_leaves now (e ∷ earlier) x is left = inl (is, left)

      pub then_follows : (Part : List ℕ → List ℕ → Type 0)
          → OutcomesFollow Part (OneLeaves may_leave old) (OneLeaves may_leave new)
          → OutcomesFollow Part (FileLeaves seen may_leave old past)
          (LeftAfter rec.0 rec.1 (contents seen old past) (FileLeaves seen may_leave old past))
          → OutcomesFollow Part (FileLeaves seen may_leave old past) (FileLeaves seen may_leave new more)
      then_follows Part copied noted x (inl left) =
          let was = copied x left.1 in
          (was.0, tracked_leaves old past was.0 (tracked_before left.0) was.1, was.2)
      then_follows Part copied noted x (inr left) = noted x left.1

      pub then_left : ((x : List ℕ) → OneLeaves may_leave new x → OneLeaves may_leave old x)
          → ((x : List ℕ) → LeftAfter rec.0 rec.1 (contents seen old past) (FileLeaves seen may_leave old past) x
          → FileLeaves seen may_leave old past x)
          → (x : List ℕ) → FileLeaves seen may_leave new more x → FileLeaves seen may_leave old past x
      then_left copied noted x (inl left) = tracked_leaves old past x (tracked_before left.0) (copied x left.1)
      then_left copied noted x (inr left) = noted x left.1

      -- what is left is left of the old copies or, of a new one, has P
      pub then_joins : (P : List ℕ → Type 0)
          → ((x : List ℕ) → OneLeaves may_leave new x → OneLeaves may_leave old x ⊎ P x)
          → ((x : List ℕ) → LeftAfter rec.0 rec.1 (contents seen old past) (FileLeaves seen may_leave old past) x
          → FileLeaves seen may_leave old past x)
          → (x : List ℕ) → FileLeaves seen may_leave new more x → FileLeaves seen may_leave old past x ⊎ P x
      then_joins P copied noted x (inl left) =
          ⊎_elim (λ was. inl (tracked_leaves old past x (tracked_before left.0) was)) (λ also. inr also)
          (copied x left.1)
      then_joins P copied noted x (inr left) = inl (noted x left.1)

      pub then_only : (agrees seen old ≡ true → Only (seen_first seen old) (OneLeaves may_leave new))
          → ((x : List ℕ) → LeftAfter rec.0 rec.1 (contents seen old past) (FileLeaves seen may_leave old past) x
          → x ≡ contents seen old past)
          → Only (contents seen old past) (FileLeaves seen may_leave new more)
      then_only copied noted x (inl left) =
          let was = tracked_before left.0 in
          copied (tracked_agrees old past was) x left.1 ∙ sym (tracked_contents old past was)
      then_only copied noted x (inr left) = noted x left.1

      pub then_elapses : Elapses (length past) (length more) (LeavesSince seen may_leave old past)
          (LeavesSince seen may_leave new more) (FileLeaves seen may_leave new more)
      then_elapses = record {
        later = omega arith;
        nothing_else = λ t x le left. ⊎_elim (λ now. inr now) (λ before. inl before.1) left;
        keeps = λ t x le was. inr (le, was);
      }

-- the history, with one call more
pub zip_more : {A B : Type 0} (xs more_xs : List A) (ys more_ys : List B) (x : A) (y : B) → more_xs ≡ x ∷ xs
    → more_ys ≡ y ∷ ys → zip more_xs more_ys ≡ (x, y) ∷ zip xs ys
zip_more xs more_xs ys more_ys x y one other = rw (one, other) refl
