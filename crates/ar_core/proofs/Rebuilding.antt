-- A step of a rebuild is a step.
use Rattle.std.proofs.Common.{◌≡◌, false, refl, ap}
use Rattle.ar_cache.specs.Cache.{CacheState}
use Rattle.ar_rebuild.specs.declared.step.Rebuild.{Rebuild}
use Rattle.ar_volume.specs.Image.{ArrayState, is_broken}
use Rattle.ar_volume.specs.Rebuild.{RebuildsOne}
use Rattle.ar_volume.specs.Seen.{SameSeen}
use Rattle.ar_core.specs.declared.event.EventOf.TheVariants.{Rebuild as RebuildEvent}
use Rattle.ar_core.specs.declared.event.OutcomeOf.TheVariants.{Rebuild as RebuildOutcome}
use Rattle.ar_core.specs.Step.{Steps}
use Rattle.ar_core.proofs.Causes.{cause_advances}
use Rattle.ar_core.proofs.Events.{steps_quiet, quiet_tables}

pub steps_rebuilt : (old new : ArrayState) (answer : Rebuild) → RebuildsOne old answer new
    → (is_broken new ≡ false → SameSeen old new)
    → Steps old RebuildEvent (RebuildOutcome answer) new
steps_rebuilt old new answer rebuilds seen =
    steps_quiet old new RebuildEvent (RebuildOutcome answer) rebuilds (λ a. refl)
    (quiet_tables old new rebuilds.tables seen (ap (λ (c : CacheState). c.capacity) rebuilds.cache))
    (cause_advances RebuildEvent old.store.disks new.store.disks (λ d disk is. absurd (cc)) rebuilds.advances)
