-- The disks that a failed array has lost.
use Rattle.std.specs.Prelude.{ℕ, List, Option, Some, None, slice_index}
use Rattle.ar_picture.specs.declared.picture.Health.{Health}
use Rattle.ar_picture.specs.declared.picture.Health.TheVariants.{Broken, Lost}

-- the health that names the two disks that a failed array has lost, where they are known; any other stays as it is
abbrev pub health_naming : Option (List ℕ) → Health → Health
health_naming None health = health
health_naming (Some disks) Broken = Lost (slice_index disks 0) (slice_index disks 1)
health_naming (Some disks) health = health
