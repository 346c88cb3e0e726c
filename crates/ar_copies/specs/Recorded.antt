-- The calls as they are recorded, by their results. One that found the file closed was none.
use Rattle.std.specs.Prelude.{ℕ, true, false, ⊤, Option, None, Some, Result, Ok, Err}
use Rattle.ar_media.specs.declared.error.MediaError.{MediaError}
use Rattle.ar_media.specs.declared.error.MediaError.TheVariants.{Memory, Failed, Full, Closed}
use Rattle.ar_media.specs.declared.record.Call.{Call}
use Rattle.ar_media.specs.declared.record.Call.TheVariants.{Measured, Read, Wrote, Resized, Synced, Failed as Missed}

-- unless it found the file closed
abbrev pub unless_closed : MediaError → Call → Option Call
unless_closed Memory call = Some call
unless_closed (Failed kind) call = Some call
unless_closed Full call = Some call
unless_closed Closed call = None

abbrev pub measured : Result ℕ MediaError → Option Call
measured (Ok len) = Some (Measured len)
measured (Err e) = unless_closed e Missed

abbrev pub read : ℕ → Result ⊤ MediaError → Option Call
read at (Ok u) = Some (Read at)
read at (Err e) = unless_closed e Missed

abbrev pub wrote : ℕ → ℕ → Result ⊤ MediaError → Option Call
wrote at len (Ok u) = Some (Wrote at len)
wrote at len (Err e) = unless_closed e (Wrote at 0)

abbrev pub resized : ℕ → Result ⊤ MediaError → Option Call
resized len (Ok u) = Some (Resized len true)
resized len (Err e) = unless_closed e (Resized len false)

abbrev pub synced : Result ⊤ MediaError → Option Call
synced (Ok u) = Some Synced
synced (Err e) = unless_closed e Missed
