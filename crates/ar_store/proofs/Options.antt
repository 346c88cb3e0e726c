-- Options that are values, and results that are ok.
use Rattle.std.proofs.Common.{◌≡◌, Option, None, Some, IsSome, Result, Ok, Err, OnOk, OnErr, refl, sym, subst, ◌∙◌}
use Rattle.std.proofs.Common.{true≢false}
use Rattle.std.proofs.lemmas.Option.{none-some}

-- an option that is a value is some
pub some_is : {A : Type 0} (o : Option A) (x : A) → o ≡ Some x → IsSome o
some_is o x is = subst (λ (p : Option _). IsSome p) (sym is) refl

-- and one that is some is a value
pub some_value : {A : Type 0} (o : Option A) → IsSome o → (x : A) × (o ≡ Some x)
some_value None e = absurd (true≢false (sym e))
some_value (Some x) e = (x, refl)

pub none_not_some : {A : Type 0} (o : Option A) → IsSome o → o ≡ None → ⊥
none_not_some o some none = let value = some_value o some in none-some value.0 (sym none ∙ value.1)

-- what holds anyway holds of a result that is ok
pub on_ok_always : {A E : Type 0} (r : Result A E) (P : Type 0) → P → OnOk r P
on_ok_always (Ok x) P p = p
on_ok_always (Err e) P p = tt

-- a call that leaves a state alone where it is refused
pub after_call : {A E S : Type 0} (r : Result A E) (P : S → Type 0) (Q : Type 0) (old new changed : S)
    → OnOk r (new ≡ changed) → OnErr r (new ≡ old) → OnOk r Q → (Q → P changed) → P old → P new
after_call (Ok x) P Q old new changed is same granted then before = subst P (sym is) (then granted)
after_call (Err e) P Q old new changed is same granted then before = subst P (sym same) before
