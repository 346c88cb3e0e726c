-- Clauses that depend on the outcome of a call.
use Rattle.ar_disks.specs.declared.completion.Completion.{Completion}
use Rattle.ar_disks.specs.declared.completion.Completion.TheVariants.{Done, Broken}

-- `P` holds if the call was done
abbrev pub OnDone : Completion → Type 0 → Type 0
OnDone Done P = P
OnDone Broken P = Unit {0}
