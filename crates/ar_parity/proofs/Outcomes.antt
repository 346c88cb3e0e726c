-- The answer that tells whether the set is broken is the one that goes with its health.
use Rattle.std.proofs.Common.{◌≡◌, sym, ap}
use Rattle.ar_disks.specs.declared.completion.Completion.{Completion}
use Rattle.ar_disks.specs.declared.completion.Completion.TheVariants.{Done, Broken}
use Rattle.ar_extents.specs.Set.{SetState}
use Rattle.ar_extents.specs.Groups.{outcome_of}
use Rattle.ar_extents.proofs.Outcomes.{sound_done}
use Rattle.ar_parity.specs.Call.{ReportsFailure}

pub outcome_reported : (s : SetState) (answered : Completion) → ReportsFailure s answered
    → answered ≡ outcome_of s.health
outcome_reported s Done tells = sym (sound_done s.health tells)
outcome_reported s Broken tells = ap outcome_of (sym tells)
