-- The units of a plan, created before a service begins.
use Rattle.std.specs.Prelude.{◌≡◌, ◌⊎◌, ℕ, List, [], ◌∷◌, Option, Some, None, Result, Ok, Err, slice_get, take}
use Rattle.ar_core.specs.Events.{Outcome}
use Rattle.ar_core.specs.Views.{sectors_at}
use Rattle.ar_core.specs.declared.event.OutcomeOf.{OutcomeOf}
use Rattle.ar_core.specs.declared.event.OutcomeOf.TheVariants as outcomes
use Rattle.ar_served.specs.Kept.{KeptState}
use Rattle.ar_language.specs.declared.order.Action.TheVariants as actions
use Rattle.ar_operator.specs.Executing.{Operated}
use Rattle.ar_plan.specs.declared.plan.NewUnit.{NewUnit}
use Rattle.ar_volume.specs.declared.refusal.Refusal.{Refusal}

-- why a unit was not created, or none if it was
abbrev pub refusal_in : {N : Type 0} → OutcomeOf N → Option Refusal
refusal_in (outcomes.Make (Err refusal)) = Some refusal
refusal_in outcome = None

-- a unit of the plan was created, as `make` creates it
pub record IsCreated (unit : NewUnit) (old new : KeptState) : Type 0 where
  pub outcome : Outcome
  pub done : refusal_in outcome ≡ None
  pub operated : Operated (actions.Make unit.addr unit.sectors) outcome old new

-- these units were created, one after another
abbrev pub AreCreated : List NewUnit → KeptState → KeptState → Type 0
AreCreated [] old new = new ≡ old
AreCreated (unit ∷ units) old new = (middle : KeptState) × IsCreated unit old middle × AreCreated units middle new

-- a unit of the plan is there with its length, or was created since it wasn't there
pub record IsProvided (unit : NewUnit) (old new : KeptState) : Type 0 where
  pub how :
      ((sectors_at old.array.store.book unit.addr ≡ Some unit.sectors) × (new ≡ old))
      ⊎ ((sectors_at old.array.store.book unit.addr ≡ None) × IsCreated unit old new)

-- so are these units, one after another
abbrev pub AreProvided : List NewUnit → KeptState → KeptState → Type 0
AreProvided [] old new = new ≡ old
AreProvided (unit ∷ units) old new = (middle : KeptState) × IsProvided unit old middle × AreProvided units middle new

-- the units were created up to the one of this number, which was refused
pub record StopsCreating (units : List NewUnit) (number : ℕ) (refusal : Refusal) (old new : KeptState) : Type 0 where
  pub unit : NewUnit
  pub there : slice_get units number ≡ Some unit
  pub middle : KeptState
  pub before : AreCreated (take number units) old middle
  pub outcome : Outcome
  pub refused : refusal_in outcome ≡ Some refusal
  pub operated : Operated (actions.Make unit.addr unit.sectors) outcome middle new

-- all units of the plan were created, or those up to one that was refused
abbrev pub CreatesUnits : List NewUnit → KeptState → Result (Unit {0}) (ℕ × Refusal) → KeptState → Type 0
CreatesUnits units old (Ok done) new = AreCreated units old new
CreatesUnits units old (Err refused) new = StopsCreating units refused.0 refused.1 old new
