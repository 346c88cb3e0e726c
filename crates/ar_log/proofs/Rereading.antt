-- What was found in bytes that are those of a medium.
use Rattle.std.proofs.Common.{◌≡◌, ℕ, Result, Ok, Err, IfOk, IfErr, List, subst}

module _ {T E : Type 0} (x y : List ℕ) (C : Type 0) (same : C → x ≡ y) where
  pub ok_of : (P : List ℕ → T → Type 0) (r : Result T E) → IfOk r (λ v. P x v) → IfOk r (λ v. C → P y v)
  ok_of P (Ok v) holds = λ c. let Q : List ℕ → Type 0 = λ l. P l v in subst Q (same c) holds
  ok_of P (Err e) holds = tt

  pub err_of : (D : E → Type 0) (P : List ℕ → Type 0) (r : Result T E) → IfErr r (λ e. D e → P x)
      → IfErr r (λ e. D e → C → P y)
  err_of D P (Ok v) holds = tt
  err_of D P (Err e) holds = λ d c. subst P (same c) (holds d)
