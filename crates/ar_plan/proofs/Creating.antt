-- Units that are created one after another.
use Rattle.std.proofs.Common.{◌≡◌, ◌+◌, ◌<◌, ◌++◌, ℕ, List, [], ◌∷◌, length, take, get_or, slice_index_or, refl, sym}
use Rattle.std.proofs.Common.{subst}
use Rattle.std.proofs.lemmas.List.{take_more}
use Rattle.ar_served.specs.Kept.{KeptState}
use Rattle.ar_plan.specs.Units.{AreCreated, AreProvided, IsCreated, IsProvided}
use Rattle.ar_plan.specs.declared.plan.NewUnit.{NewUnit}

-- one more after them
created_last : (units : List NewUnit) (unit : NewUnit) (old middle new : KeptState) → AreCreated units old middle
    → IsCreated unit middle new
    → AreCreated (units ++ unit ∷ []) old new
created_last [] unit old middle new before one = (new, subst (λ k. IsCreated unit k new) before one, refl)
created_last (first ∷ units) unit old middle new before one =
    (before.0, before.1, created_last units unit before.0 middle new before.2 one)

-- the next of a list
pub created_more : (units : List NewUnit) (at : ℕ) (unit : NewUnit) (old middle new : KeptState)
    → unit ≡ slice_index_or units at unit
    → at < length units → AreCreated (take at units) old middle → IsCreated unit middle new
    → AreCreated (take (at + 1) units) old new
created_more units at unit old middle new is few before one =
    let there : IsCreated (get_or units at unit) middle new = subst (λ u. IsCreated u middle new) is one in
    subst (λ l. AreCreated l old new) (sym (take_more units at unit few))
    (created_last (take at units) (get_or units at unit) old middle new before there)

-- the same of units that are met
provided_last : (units : List NewUnit) (unit : NewUnit) (old middle new : KeptState) → AreProvided units old middle
    → IsProvided unit middle new
    → AreProvided (units ++ unit ∷ []) old new
provided_last [] unit old middle new before one = (new, subst (λ k. IsProvided unit k new) before one, refl)
provided_last (first ∷ units) unit old middle new before one =
    (before.0, before.1, provided_last units unit before.0 middle new before.2 one)

pub provided_more : (units : List NewUnit) (at : ℕ) (unit : NewUnit) (old middle new : KeptState)
    → unit ≡ slice_index_or units at unit
    → at < length units → AreProvided (take at units) old middle → IsProvided unit middle new
    → AreProvided (take (at + 1) units) old new
provided_more units at unit old middle new is few before one =
    let there : IsProvided (get_or units at unit) middle new = subst (λ u. IsProvided u middle new) is one in
    subst (λ l. AreProvided l old new) (sym (take_more units at unit few))
    (provided_last (take at units) (get_or units at unit) old middle new before there)
