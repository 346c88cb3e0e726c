-- Actions that aren't begun.
use Rattle.std.specs.Prelude.{ℕ, ◌++◌, ◌&&◌, Bool, not, nat_lt, if◌then◌else◌, List, length, codes, Option, Some, None}
use Rattle.std.specs.Prelude.{option_map, Err}
use Rattle.std.specs.Fmt.{decimal}
use Rattle.ar_extents.specs.Changes.{add_refusal, is_broken_set, replace_refusal}
use Rattle.ar_extents.specs.Health.{after_fault}
use Rattle.ar_extents.specs.declared.health.Health.{Health}
use Rattle.ar_extents.specs.declared.refusal.DiskRefusal.{DiskRefusal}
use Rattle.ar_language.specs.declared.order.Action.{Action}
use Rattle.ar_language.specs.declared.order.Action.TheVariants.{AddDisk, DiskOut, Replace}
use Rattle.ar_answers.specs.Setups.{new_disk_for}
use Rattle.ar_answers.specs.Texts.{done_text}
use Rattle.ar_volume.specs.Image.{ArrayState}
use Rattle.ar_volume.specs.declared.refusal.Refusal.TheVariants as refusals
use Rattle.ar_operator.specs.declared.early.EarlyRefusal.{EarlyRefusal}
use Rattle.ar_operator.specs.declared.early.EarlyRefusal.TheVariants.{OnlyCopy, Disk}

-- whether a set that hasn't failed fails without the disk, too
abbrev pub breaks_health : Health → ℕ → Bool
breaks_health health disk = not (is_broken_set health) && is_broken_set (after_fault health disk)

-- why the array doesn't take a new disk, if it doesn't
abbrev pub added_early : ArrayState → Option DiskRefusal
added_early s = add_refusal s.store.disks (new_disk_for s)

-- the same for the place of a disk
abbrev pub replaced_early : ArrayState → ℕ → Option DiskRefusal
replaced_early s disk = replace_refusal s.store.disks disk (new_disk_for s)

-- Why an action isn't begun, if it isn't: it would take out a disk without which the array fails, or the array would
-- refuse its new disk.
abbrev pub early_refusal : ArrayState → Action → Option EarlyRefusal
early_refusal s (DiskOut disk) =
    if nat_lt disk (length s.store.disks.disks) && breaks_health s.store.disks.health disk then Some (OnlyCopy disk)
    else None
early_refusal s AddDisk = option_map Disk (added_early s)
early_refusal s (Replace disk) = option_map Disk (replaced_early s disk)
early_refusal s action = None

-- its answer: what the array would answer, too
abbrev pub early_text : EarlyRefusal → List ℕ
early_text (OnlyCopy disk) = codes "refused: disk " ++ (decimal disk ++ codes " has the only copy\n")
early_text (Disk refusal) = done_text (Err (refusals.Disk refusal))
