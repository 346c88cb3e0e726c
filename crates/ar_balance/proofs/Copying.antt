-- The accesses of a copy, row by row.
use Rattle.std.proofs.Common.{◌≡◌, ◌⊎◌, inl, inr, ℕ, ◌+◌, Bool, true, false, [], ◌∷◌, ap, subst}
use Rattle.std.proofs.Math.Numerals.{suc-eq-add-one}
use Rattle.ar_disks.specs.declared.address.Place.{Place}
use Rattle.ar_extents.specs.declared.answers.Put.{Put}
use Rattle.ar_extents.specs.declared.answers.Put.TheVariants.{Missing, Broken}
use Rattle.ar_extents.specs.Access.{is_written}
use Rattle.ar_extents.specs.Set.{SetState}
use Rattle.ar_extents.specs.Plans.{Attempts, read_at, write_at, AttemptsAll, one_done, one_failed}
use Rattle.ar_extents.proofs.Plans.{all_one, all_more}
use Rattle.ar_balance.specs.Copies.{row_copy, rows_copy}

-- a row was read and written,
pub row_made : (from to : Place) (row : ℕ) (a b c : SetState) → Attempts (read_at from row) true a b
    → Attempts (write_at to row) true b c
    → AttemptsAll (row_copy from to row) true a c
row_made from to row a b c read written =
    one_done (read_at from row) (write_at to row ∷ []) true a b c read (all_one (write_at to row) true b c written)

-- or only read,
pub row_unwritten : (from to : Place) (row : ℕ) (a b c : SetState) (put : Put) → (put ≡ Missing) ⊎ (put ≡ Broken)
    → Attempts (read_at from row) true a b
    → Attempts (write_at to row) (is_written put) b c → AttemptsAll (row_copy from to row) false a c
row_unwritten from to row a b c put is read tried =
    let P : Bool → Type 0 = λ k. Attempts (write_at to row) k b c in
    one_done (read_at from row) (write_at to row ∷ []) false a b c read
    (all_one (write_at to row) false b c
    (elim is [
      | inl missing ↦ subst P (ap is_written missing) tried
      | inr broken ↦
          subst P (ap is_written broken) tried
    ]))

-- or not read
pub row_unread : (from to : Place) (row : ℕ) (a b : SetState) → Attempts (read_at from row) false a b
    → AttemptsAll (row_copy from to row) false a b
row_unread from to row a b tried = one_failed (read_at from row) (write_at to row ∷ []) a b tried

-- one more row was copied
pub copied_next : (from to : Place) (n : ℕ) (a b c : SetState) → AttemptsAll (rows_copy from to n) true a b
    → AttemptsAll (row_copy from to n) true b c
    → AttemptsAll (rows_copy from to (n + 1)) true a c
copied_next from to n a b c before row =
    subst (λ k. AttemptsAll (rows_copy from to k) true a c) (suc-eq-add-one n)
    (all_more (rows_copy from to n) (row_copy from to n) true a b c before row)
