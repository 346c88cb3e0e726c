-- What calls answered, once their errors were replaced by faults.
use Rattle.std.proofs.Common.{◌≡◌, ◌∙◌, sym, Result, Ok, Err, MatchResult, IsErrAnd}

-- a result whose error was replaced, and that is Ok, was Ok before
pub ok_before : {T E F : Type 0} (r : Result T E) (s : Result T F) (x : T) (Q : E → F → Type 0)
    → MatchResult r (λ y. s ≡ Ok y) (λ e. IsErrAnd s (Q e)) → s ≡ Ok x → r ≡ Ok x
ok_before (Ok y) s x Q h was = let same = sym h ∙ was in cc same
ok_before (Err e) s x Q h was = absurd (rw was at h)
