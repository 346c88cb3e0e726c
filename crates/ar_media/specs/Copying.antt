-- Two media, one to be made a copy of the other.
use Rattle.std.specs.Prelude.{◌≡◌, ℕ, Bool, List, IsTrue}
use Rattle.ar_media.specs.Media.{Elapses}

-- the medium was read and not written: no moment since might have left what it could not have left before
pub record IsUnwritten {M : Type 0} (seen : M → List ℕ) (may_leave : M → List ℕ → Type 0) (moment : M → ℕ)
    (left_since : M → ℕ → List ℕ → Type 0) (is_clean : M → Bool) (old new : M) : Type 0 where
  pub same : seen new ≡ seen old
  pub crash : (c : List ℕ) → may_leave new c → may_leave old c
  pub time : Elapses (moment old) (moment new) (left_since old) (left_since new) (may_leave old)
  pub clean : IsTrue (is_clean new) → IsTrue (is_clean old)
