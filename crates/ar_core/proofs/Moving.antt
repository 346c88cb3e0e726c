-- A demotion and a clean are steps.
use Rattle.std.proofs.Common.{◌≡◌, false, refl}
use Rattle.ar_moves.specs.declared.step.Move.{Move}
use Rattle.ar_volume.specs.Following.{ArrayFollows}
use Rattle.ar_volume.specs.Image.{ArrayState, is_broken}
use Rattle.ar_volume.specs.Moves.{DemotesOne, CleansOne}
use Rattle.ar_volume.specs.Seen.{SameSeen}
use Rattle.ar_core.specs.declared.event.EventOf.TheVariants.{Demote as DemoteEvent, Clean as CleanEvent}
use Rattle.ar_core.specs.declared.event.OutcomeOf.TheVariants.{Demote as DemoteOutcome, Clean as CleanOutcome}
use Rattle.ar_core.specs.Step.{Steps}
use Rattle.ar_core.proofs.Causes.{cause_follows}
use Rattle.ar_core.proofs.Events.{steps_quiet, quiet_follows}

pub steps_demoted : (old new : ArrayState) (answer : Move) → DemotesOne old answer new
    → (is_broken new ≡ false → SameSeen old new) → ArrayFollows old new
    → Steps old DemoteEvent (DemoteOutcome answer) new
steps_demoted old new answer demotes seen follows =
    steps_quiet old new DemoteEvent (DemoteOutcome answer) demotes (λ a. refl) (quiet_follows old new follows seen)
    (cause_follows DemoteEvent old.store.disks new.store.disks (λ d disk is. absurd (cc))
    demotes.moves.leaves.accessed.follows)

pub steps_cleaned : (old new : ArrayState) (answer : Move) → CleansOne old answer new
    → (is_broken new ≡ false → SameSeen old new) → ArrayFollows old new
    → Steps old CleanEvent (CleanOutcome answer) new
steps_cleaned old new answer cleans seen follows =
    steps_quiet old new CleanEvent (CleanOutcome answer) cleans (λ a. refl) (quiet_follows old new follows seen)
    (cause_follows CleanEvent old.store.disks new.store.disks (λ d disk is. absurd (cc))
    cleans.moves.leaves.accessed.follows)
