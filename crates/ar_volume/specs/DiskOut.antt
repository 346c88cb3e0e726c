-- How the failure of a disk by command changes the array.
use Rattle.std.specs.Prelude.{◌≡◌, ℕ, Option, Some, None, option_map, Result, OnOk, OnErr, IfErr}
use Rattle.ar_extents.specs.Changes.{failed, fail_refusal}
use Rattle.ar_volume.specs.declared.refusal.Refusal.{Refusal}
use Rattle.ar_volume.specs.declared.refusal.Refusal.TheVariants.{Disk as DiskRefused}
use Rattle.ar_volume.specs.Image.{ArrayState}

-- why a disk isn't failed: there is none with this number
abbrev pub disk_refusal : ArrayState → ℕ → Option Refusal
disk_refusal s disk = option_map DiskRefused (fail_refusal s.store.disks disk)

-- a disk was marked as failed, or there is none with this number
pub record TakesDiskOut (old : ArrayState) (disk : ℕ) (result : Result (Unit {0}) Refusal) (new : ArrayState)
    : Type 0 where
  pub taken : OnOk result (disk_refusal old disk ≡ None)
  pub refused : IfErr result (λ r. disk_refusal old disk ≡ Some r)
  pub out : OnOk result (new ≡ record old { store = record old.store { disks = failed old.store.disks disk } })
  pub unchanged : OnErr result (new ≡ old)
