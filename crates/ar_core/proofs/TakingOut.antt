-- Taking a disk out is a step.
use Rattle.std.proofs.Common.{◌≡◌, ℕ, ◌<◌, Bool, true, false, cond, Some, None, Result, Ok, Err, refl, sym, ap, subst}
use Rattle.std.proofs.Common.{arith}
use Rattle.std.specs.Prelude.{nat_le, option_map, length}
use Rattle.std.proofs.lemmas.Bool.Decides.{nat_tests}
use Rattle.ar_extents.specs.declared.refusal.DiskRefusal.TheVariants.{NoSuchDisk}
use Rattle.ar_volume.specs.declared.refusal.Refusal.{Refusal}
use Rattle.ar_volume.specs.declared.refusal.Refusal.TheVariants.{Disk as DiskRefused}
use Rattle.ar_volume.specs.Image.{ArrayState, is_broken}
use Rattle.ar_volume.specs.Seen.{SameSeen}
use Rattle.ar_volume.specs.DiskOut.{TakesDiskOut, disk_refusal}
use Rattle.ar_core.specs.declared.event.EventOf.TheVariants.{DiskOut as DiskOutEvent}
use Rattle.ar_core.specs.declared.event.OutcomeOf.TheVariants.{DiskOut as DiskOutOutcome}
use Rattle.ar_core.specs.Causes.{HasCause}
use Rattle.ar_core.specs.Quiet.{IsQuiet}
use Rattle.ar_core.specs.Step.{Steps}
use Rattle.ar_core.proofs.Causes.{cause_failed, cause_same}
use Rattle.ar_core.proofs.Events.{steps_quiet, quiet_tables, quiet_refl}

-- a disk that may be taken out is one of the set
there_is : (s : ArrayState) (d : ℕ) → disk_refusal s d ≡ None → d < length s.store.disks.disks
there_is s d none = by (nat_le (length s.store.disks.disks) d) refl none
  where
    by : (past : Bool) → nat_le (length s.store.disks.disks) d ≡ past
        → option_map DiskRefused (cond past (Some NoSuchDisk) None) ≡ None → d < length s.store.disks.disks
    by true is refused = absurd (cc)
    by false is taken = grind (arith, nat_tests)

out_quiet : (old new : ArrayState) (disk : ℕ) (result : Result (Unit {0}) Refusal) → TakesDiskOut old disk result new
    → (is_broken new ≡ false → SameSeen old new) → IsQuiet old new
out_quiet old new disk (Ok done) takes seen =
    quiet_tables old new (ap (λ (s : ArrayState). s.store.book) takes.out) seen
    (ap (λ (s : ArrayState). s.cache.capacity) takes.out)
out_quiet old new disk (Err refusal) takes seen = quiet_refl old new takes.unchanged

out_cause : (old new : ArrayState) (disk : ℕ) (result : Result (Unit {0}) Refusal) → TakesDiskOut old disk result new
    → HasCause (DiskOutEvent disk) old.store.disks new.store.disks
out_cause old new disk (Ok done) takes =
    subst (λ (s : ArrayState). HasCause (DiskOutEvent disk) old.store.disks s.store.disks) (sym takes.out)
    (cause_failed old.store.disks disk (there_is old disk takes.taken))
out_cause old new disk (Err refusal) takes =
    cause_same (DiskOutEvent disk) old.store.disks new.store.disks
    (ap (λ (s : ArrayState). s.store.disks) takes.unchanged)

pub steps_out : (old new : ArrayState) (disk : ℕ) (result : Result (Unit {0}) Refusal)
    → TakesDiskOut old disk result new → (is_broken new ≡ false → SameSeen old new)
    → Steps old (DiskOutEvent disk) (DiskOutOutcome result) new
steps_out old new disk result takes seen =
    steps_quiet old new (DiskOutEvent disk) (DiskOutOutcome result) takes (λ a. refl)
    (out_quiet old new disk result takes seen) (out_cause old new disk result takes)
