-- Which extents are usable in which health, and how a fault and a rebuilt extent change it.
use Rattle.std.specs.Prelude.{◌≡◌, ℕ, ◌==◌, ◌&&◌, ◌+◌, ◌<◌, nat_le, Bool, true, false, if◌then◌else◌}
use Rattle.ar_extents.specs.declared.health.Health.{Health}
use Rattle.ar_extents.specs.declared.health.Health.TheVariants.{Whole, Out, Rebuilding, Broken}

-- the extent isn't used: its disk has failed, it isn't rebuilt yet, or the set has failed
abbrev pub is_lost : Health → ℕ → ℕ → Bool
is_lost Whole disk extent = false
is_lost (Out x) disk extent = disk == x
is_lost (Rebuilding x done) disk extent = (disk == x) && nat_le done extent
is_lost Broken disk extent = true

-- the extent is missing: lost with one disk, while the set hasn't failed
abbrev pub is_missing : Health → ℕ → ℕ → Bool
is_missing Whole disk extent = false
is_missing (Out x) disk extent = disk == x
is_missing (Rebuilding x done) disk extent = (disk == x) && nat_le done extent
is_missing Broken disk extent = false

-- the disk is neither used nor rebuilt any more
abbrev pub is_out : Health → ℕ → Bool
is_out Whole disk = false
is_out (Out x) disk = disk == x
is_out (Rebuilding x done) disk = false
is_out Broken disk = true

-- the disk is the one that has failed or is being rebuilt
abbrev pub IsDown : Health → ℕ → Type 0
IsDown Whole disk = ⊥
IsDown (Out x) disk = disk ≡ x
IsDown (Rebuilding x done) disk = disk ≡ x
IsDown Broken disk = ⊥

-- the health after a fault of the disk: the disk is `Out`, or the set has failed if another was down
abbrev pub after_fault : Health → ℕ → Health
after_fault Whole disk = Out disk
after_fault (Out x) disk = if disk == x then Out x else Broken
after_fault (Rebuilding x done) disk = if disk == x then Out x else Broken
after_fault Broken disk = Broken

-- some disk is being rebuilt
abbrev pub IsRebuilding : Health → Type 0
IsRebuilding Whole = ⊥
IsRebuilding (Out x) = ⊥
IsRebuilding (Rebuilding x done) = Unit {0}
IsRebuilding Broken = ⊥

-- the disk that is being rebuilt (0 if there is none)
abbrev pub rebuilt_disk : Health → ℕ
rebuilt_disk Whole = 0
rebuilt_disk (Out x) = 0
rebuilt_disk (Rebuilding x done) = x
rebuilt_disk Broken = 0

-- the extent that is rebuilt next: the lowest that isn't done (0 if no disk is being rebuilt)
abbrev pub next_extent : Health → ℕ
next_extent Whole = 0
next_extent (Out x) = 0
next_extent (Rebuilding x done) = done
next_extent Broken = 0

-- the health after one more extent is done, on disks of `extents` extents
abbrev pub after_done : Health → ℕ → Health
after_done Whole extents = Whole
after_done (Out x) extents = Out x
after_done (Rebuilding x done) extents = if done + 1 == extents then Whole else Rebuilding x (done + 1)
after_done Broken extents = Broken

-- the health names a disk and an extent that exist
abbrev pub HealthFits : Health → ℕ → ℕ → Type 0
HealthFits Whole count extents = Unit {0}
HealthFits (Out x) count extents = x < count
HealthFits (Rebuilding x done) count extents = (x < count) × (done < extents)
HealthFits Broken count extents = Unit {0}
