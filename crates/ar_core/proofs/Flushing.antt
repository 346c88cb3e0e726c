-- A flush is a step, and so is a flush of a part of a unit.
use Rattle.std.proofs.Common.{◌≡◌, ℕ, false, refl}
use Rattle.ar_disks.specs.declared.address.Addr.{Addr}
use Rattle.ar_cache.specs.declared.answers.Flush.{Flush}
use Rattle.ar_volume.specs.declared.flush.PartFlush.{PartFlush}
use Rattle.ar_volume.specs.Image.{ArrayState, is_broken}
use Rattle.ar_volume.specs.Seen.{SameSeen}
use Rattle.ar_volume.specs.Flush.{FlushesOne, FlushesPart}
use Rattle.ar_volume.specs.Following.{ArrayFollows}
use Rattle.ar_core.specs.declared.event.EventOf.TheVariants.{Flush as FlushEvent, FlushPart as FlushPartEvent}
use Rattle.ar_core.specs.declared.event.OutcomeOf.TheVariants.{Flush as FlushOutcome, FlushPart as FlushPartOutcome}
use Rattle.ar_core.specs.Step.{Steps}
use Rattle.ar_core.proofs.Causes.{cause_follows}
use Rattle.ar_core.proofs.Events.{steps_quiet, quiet_follows}

pub steps_flushed : (old new : ArrayState) (answer : Flush) → FlushesOne old answer new
    → (is_broken new ≡ false → SameSeen old new) → ArrayFollows old new
    → Steps old FlushEvent (FlushOutcome answer) new
steps_flushed old new answer flushes seen follows =
    steps_quiet old new FlushEvent (FlushOutcome answer) flushes (λ a. refl) (quiet_follows old new follows seen)
    (cause_follows FlushEvent old.store.disks new.store.disks (λ d disk is. absurd (cc)) flushes.accessed.follows)

-- a flush of a part of a unit
pub steps_part_flushed : (old new : ArrayState) (addr : Addr) (first : ℕ) (answer : PartFlush)
    → FlushesPart old addr first answer new → (is_broken new ≡ false → SameSeen old new) → ArrayFollows old new
    → Steps old (FlushPartEvent addr first) (FlushPartOutcome answer) new
steps_part_flushed old new addr first answer flushes seen follows =
    steps_quiet old new (FlushPartEvent addr first) (FlushPartOutcome answer) flushes (λ a. refl)
    (quiet_follows old new follows seen)
    (cause_follows (FlushPartEvent addr first) old.store.disks new.store.disks (λ d disk is. absurd (cc))
    flushes.accessed.follows)
