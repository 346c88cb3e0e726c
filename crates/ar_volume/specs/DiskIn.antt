-- How the addition and the replacement of a disk change the array.
use Rattle.std.specs.Prelude.{◌≡◌, ℕ, Option, None, Some, option_map, unwrap_or, Result, OnOk, OnErr, IfErr}
use Rattle.ar_disks.specs.Disk.{DiskState}
use Rattle.ar_extents.specs.Changes.{add_refusal, added, replace_refusal, replaced}
use Rattle.ar_extents.specs.Set.{SetState}
use Rattle.ar_extents.specs.declared.refusal.DiskRefusal.TheVariants.{NoMemory}
use Rattle.ar_volume.specs.declared.refusal.Refusal.{Refusal}
use Rattle.ar_volume.specs.declared.refusal.Refusal.TheVariants.{Disk as DiskRefused}
use Rattle.ar_volume.specs.Image.{ArrayState}

-- the array on these disks
abbrev pub with_disks : ArrayState → SetState → ArrayState
with_disks s disks = record s { store = record s.store { disks = disks } }

-- why a disk isn't added; out of memory apart
abbrev pub disk_add_refusal : ArrayState → DiskState → Option Refusal
disk_add_refusal s disk = option_map DiskRefused (add_refusal s.store.disks disk)

-- why a disk isn't put in the place of another
abbrev pub disk_replace_refusal : ArrayState → ℕ → DiskState → Option Refusal
disk_replace_refusal s number disk = option_map DiskRefused (replace_refusal s.store.disks number disk)

-- a disk was added; or it was refused for its reason, or else out of memory, given back, and nothing changed
pub record AddsDisk (old : ArrayState) (disk : DiskState) (result : Result (Unit {0}) (Refusal × DiskState))
    (new : ArrayState) : Type 0 where
  pub taken : OnOk result (disk_add_refusal old disk ≡ None)
  pub refused : IfErr result (λ back. back.0 ≡ unwrap_or (disk_add_refusal old disk) (DiskRefused NoMemory))
  pub handed_back : IfErr result (λ back. back.1 ≡ disk)
  pub added : OnOk result (new ≡ with_disks old (added old.store.disks disk))
  pub unchanged : OnErr result (new ≡ old)

-- a disk took the place of the failed one, and its rebuild began; or it was refused for its reason, given back, and
-- nothing changed
pub record ReplacesDisk (old : ArrayState) (number : ℕ) (disk : DiskState)
    (result : Result (Unit {0}) (Refusal × DiskState)) (new : ArrayState) : Type 0 where
  pub taken : OnOk result (disk_replace_refusal old number disk ≡ None)
  pub refused : IfErr result (λ back. disk_replace_refusal old number disk ≡ Some back.0)
  pub handed_back : IfErr result (λ back. back.1 ≡ disk)
  pub replaced : OnOk result (new ≡ with_disks old (replaced old.store.disks number disk))
  pub unchanged : OnErr result (new ≡ old)
