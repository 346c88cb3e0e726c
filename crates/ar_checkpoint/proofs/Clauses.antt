-- What clauses on a result say, once it is known.
use Rattle.std.proofs.Common.{◌≡◌, ℕ, List, [], ◌∷◌, length, Option, Some, None, IfSome, IfNone, Result, Ok, Err}
use Rattle.std.proofs.Common.{OnOk, IfOk, IfErr}
use Rattle.std.proofs.Common.{MatchOption, true, subst, refl, sym, arith}
use Rattle.std.proofs.lemmas.Bool.{eqb-true}
use Rattle.std.specs.Prelude.{◌==◌}

pub on_ok : {T E : Type 0} (X Y : Type 0) (result : Result T E) → (X → Y) → OnOk result X → OnOk result Y
on_ok X Y (Ok x) f holds = f holds
on_ok X Y (Err e) f holds = tt

pub if_ok : {T E : Type 0} (P Q : T → Type 0) (result : Result T E) → ((x : T) → P x → Q x) → IfOk result P
    → IfOk result Q
if_ok P Q (Ok x) f holds = f x holds
if_ok P Q (Err e) f holds = tt

pub if_err : {T E : Type 0} (P Q : E → Type 0) (result : Result T E) → ((e : E) → P e → Q e) → IfErr result P
    → IfErr result Q
if_err P Q (Ok x) f holds = tt
if_err P Q (Err e) f holds = f e holds

pub if_some : {T : Type 0} (P : T → Type 0) (found : Option T) (x : T) → found ≡ Some x → IfSome found P → P x
if_some P found x is holds = subst (λ (o : Option _). IfSome o P) is holds

pub if_none : {T : Type 0} (X : Type 0) (found : Option T) → found ≡ None → IfNone found X → X
if_none X found is holds = subst (λ (o : Option _). IfNone o X) is holds

pub match_some : {T : Type 0} (X : Type 0) (P : T → Type 0) (found : Option T) (x : T) → found ≡ Some x
    → MatchOption found X P → P x
match_some X P found x is holds = subst (λ (o : Option _). MatchOption o X P) is holds

pub match_none : {T : Type 0} (X : Type 0) (P : T → Type 0) (found : Option T) → found ≡ None
    → MatchOption found X P → X
match_none X P found is holds = subst (λ (o : Option _). MatchOption o X P) is holds

-- a list that a test finds empty
pub none_of : (l : List ℕ) → true ≡ (length l == 0) → l ≡ []
none_of [] is = refl
none_of (x ∷ l) is =
    let zero : length (x ∷ l) ≡ 0 = eqb-true (length (x ∷ l)) 0 (sym is) in absurd (omega (arith, zero))
