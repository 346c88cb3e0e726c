-- When a checkpoint fails.
use Rattle.ar_checkpoint.specs.declared.error.CheckpointError.{CheckpointError}
use Rattle.ar_checkpoint.specs.declared.error.CheckpointError.TheVariants.{Switch}

-- it fails before the selector is written
abbrev pub IsBeforeSwitch : CheckpointError → Type 0
IsBeforeSwitch (Switch error) = ⊥
IsBeforeSwitch error = Unit {0}
