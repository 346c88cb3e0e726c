-- What a service warns of, and which disk a spare replaces.
use Rattle.std.specs.Prelude.{ℕ, Option, Some, None, max}
use Rattle.ar_memory.specs.Limits.{percent_reached}
use Rattle.ar_status.specs.declared.status.ArrayHealth.{ArrayHealth}
use Rattle.ar_status.specs.declared.status.ArrayHealth.TheVariants.{Out}

-- the disk that is missing, and not replaced yet
abbrev pub failed_disk : ArrayHealth → Option ℕ
failed_disk (Out disk) = Some disk
failed_disk health = None

-- the highest percentage of the memory that was warned of, once a history takes `bytes` bytes
abbrev pub last_warned : ℕ → ℕ → Option ℕ → ℕ
last_warned warned bytes None = warned
last_warned warned bytes (Some memory) = max warned (percent_reached bytes memory)
