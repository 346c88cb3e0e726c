-- What a failure leaves, and whose it is.
use Rattle.std.specs.Prelude.{◌<◌, ◌≤◌, ℕ, Bool, true, false, Result, IfErr, IsTrue}
use Rattle.ar_media.specs.Media.{is_fault}
use Rattle.ar_log.specs.declared.error.LogError.{LogError}
use Rattle.ar_log.specs.declared.error.LogError.TheVariants.{Refused, Failed, Damaged}

-- the log is closed permanently
abbrev pub is_final : LogError → Bool
is_final (Failed e) = true
is_final e = false

-- the same failure, as one that closes the log
abbrev pub final_of : LogError → LogError
final_of (Refused e) = Failed e
final_of e = e

-- the log is damaged
abbrev pub is_damage : LogError → Bool
is_damage (Damaged offset) = true
is_damage e = false

-- the medium itself has failed
abbrev pub is_of_medium : LogError → Bool
is_of_medium (Refused e) = is_fault e
is_of_medium (Failed e) = is_fault e
is_of_medium e = false

-- an error of the medium is returned only where it has failed since
pub record ReportsMedium {T : Type 0} (before now : ℕ) (result : Result T LogError) : Type 0 where
  pub later : before ≤ now
  pub failed : IfErr result (λ e. IsTrue (is_of_medium e) → before < now)
