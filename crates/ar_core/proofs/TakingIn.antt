-- Adding a disk is a step, and so is putting one in another's place.
use Rattle.std.proofs.Common.{◌≡◌, ℕ, Bool, true, false, cond, nat_le, length, None, Some, Result, Ok, Err, refl, sym}
use Rattle.std.proofs.Common.{ap, subst, inl, inr, arith}
use Rattle.std.specs.Prelude.{◌==◌, option_map}
use Rattle.std.proofs.lemmas.Bool.{cases_Bool}
use Rattle.std.proofs.lemmas.Bool.Decides.{nat_tests}
use Rattle.ar_disks.specs.Disk.{DiskState}
use Rattle.ar_extents.specs.Set.{SetState}
use Rattle.ar_extents.specs.Changes.{replace_refusal}
use Rattle.ar_extents.specs.declared.health.Health.{Health}
use Rattle.ar_extents.specs.Health.{IsDown}
use Rattle.ar_extents.specs.declared.health.Health.TheVariants.{Whole, Out, Rebuilding, Broken}
use Rattle.ar_extents.specs.declared.refusal.DiskRefusal.{DiskRefusal}
use Rattle.ar_extents.specs.declared.refusal.DiskRefusal.TheVariants.{NoSuchDisk, NotOut}
use Rattle.ar_volume.specs.declared.refusal.Refusal.{Refusal}
use Rattle.ar_volume.specs.declared.refusal.Refusal.TheVariants.{Disk as DiskRefused}
use Rattle.ar_volume.specs.Image.{ArrayState, is_broken}
use Rattle.ar_volume.specs.Seen.{SameSeen}
use Rattle.ar_volume.specs.DiskIn.{AddsDisk, ReplacesDisk}
use Rattle.ar_core.specs.declared.event.EventOf.TheVariants.{AddDisk as AddDiskEvent, Replace as ReplaceEvent}
use Rattle.ar_core.specs.declared.event.OutcomeOf.TheVariants.{AddDisk as AddDiskOutcome, Replace as ReplaceOutcome}
use Rattle.ar_core.specs.Causes.{HasCause}
use Rattle.ar_core.specs.Quiet.{IsQuiet}
use Rattle.ar_core.specs.Step.{Steps}
use Rattle.ar_core.proofs.Causes.{cause_added, cause_replaced, cause_same}
use Rattle.ar_core.proofs.Events.{steps_quiet, quiet_tables, quiet_refl}

added_quiet : (old new : ArrayState) (disk : DiskState) (result : Result (Unit {0}) (Refusal × DiskState))
    → AddsDisk old disk result new
    → (is_broken new ≡ false → SameSeen old new) → IsQuiet old new
added_quiet old new disk (Ok done) adds seen =
    quiet_tables old new (ap (λ (s : ArrayState). s.store.book) adds.added) seen
    (ap (λ (s : ArrayState). s.cache.capacity) adds.added)
added_quiet old new disk (Err back) adds seen = quiet_refl old new adds.unchanged

added_cause : (old new : ArrayState) (disk : DiskState) (result : Result (Unit {0}) (Refusal × DiskState))
    → AddsDisk old disk result new
    → HasCause (AddDiskEvent disk) old.store.disks new.store.disks
added_cause old new disk (Ok done) adds =
    subst (λ (s : ArrayState). HasCause (AddDiskEvent disk) old.store.disks s.store.disks) (sym adds.added)
    (cause_added old.store.disks disk)
added_cause old new disk (Err back) adds =
    cause_same (AddDiskEvent disk) old.store.disks new.store.disks
    (ap (λ (s : ArrayState). s.store.disks) adds.unchanged)

-- a disk was added
pub steps_added : (old new : ArrayState) (disk : DiskState) (result : Result (Unit {0}) (Refusal × DiskState))
    → AddsDisk old disk result new
    → (is_broken new ≡ false → SameSeen old new) → Steps old (AddDiskEvent disk) (AddDiskOutcome result) new
steps_added old new disk result adds seen =
    steps_quiet old new (AddDiskEvent disk) (AddDiskOutcome result) adds (λ a. refl)
    (added_quiet old new disk result adds seen)
    (added_cause old new disk result adds)

refused_both : (b : Bool) (one other : DiskRefusal) → option_map DiskRefused (cond b (Some one) (Some other)) ≡ None → ⊥
refused_both true one other taken = cc
refused_both false one other taken = cc

-- a disk is taken in another's place only where that is out
was_out : (s : SetState) (number : ℕ) (disk : DiskState) → option_map DiskRefused (replace_refusal s number disk) ≡ None
    → IsDown s.health number
was_out s number disk taken = by s.health taken
  where
    by : (h : Health) → option_map DiskRefused (replace_refusal (record s { health = h }) number disk) ≡ None
        → IsDown h number
    by Whole none = refused_both (nat_le (length s.disks) number) NoSuchDisk NotOut none
    by (Out x) none =
        elim (cases_Bool (number == x)) [
          | inl same ↦ grind (arith, nat_tests)
          | inr other ↦ absurd (refused_both (nat_le (length s.disks) number) NoSuchDisk NotOut (rw other at none))
        ]
    by (Rebuilding x n) none = absurd (refused_both (nat_le (length s.disks) number) NoSuchDisk NotOut none)
    by Broken none = absurd (cc)

replaced_quiet : (old new : ArrayState) (number : ℕ) (disk : DiskState)
    (result : Result (Unit {0}) (Refusal × DiskState)) → ReplacesDisk old number disk result new
    → (is_broken new ≡ false → SameSeen old new) → IsQuiet old new
replaced_quiet old new number disk (Ok done) replaces seen =
    quiet_tables old new (ap (λ (s : ArrayState). s.store.book) replaces.replaced) seen
    (ap (λ (s : ArrayState). s.cache.capacity) replaces.replaced)
replaced_quiet old new number disk (Err back) replaces seen = quiet_refl old new replaces.unchanged

replaced_cause : (old new : ArrayState) (number : ℕ) (disk : DiskState)
    (result : Result (Unit {0}) (Refusal × DiskState)) → ReplacesDisk old number disk result new
    → HasCause (ReplaceEvent number disk) old.store.disks new.store.disks
replaced_cause old new number disk (Ok done) replaces =
    subst (λ (s : ArrayState). HasCause (ReplaceEvent number disk) old.store.disks s.store.disks)
    (sym replaces.replaced)
    (cause_replaced old.store.disks number disk (was_out old.store.disks number disk replaces.taken))
replaced_cause old new number disk (Err back) replaces =
    cause_same (ReplaceEvent number disk) old.store.disks new.store.disks
    (ap (λ (s : ArrayState). s.store.disks) replaces.unchanged)

-- a disk was put in another's place
pub steps_replaced : (old new : ArrayState) (number : ℕ) (disk : DiskState)
    (result : Result (Unit {0}) (Refusal × DiskState)) → ReplacesDisk old number disk result new
    → (is_broken new ≡ false → SameSeen old new) → Steps old (ReplaceEvent number disk) (ReplaceOutcome result) new
steps_replaced old new number disk result replaces seen =
    steps_quiet old new (ReplaceEvent number disk) (ReplaceOutcome result) replaces (λ a. refl)
    (replaced_quiet old new number disk result replaces seen)
    (replaced_cause old new number disk result replaces)
