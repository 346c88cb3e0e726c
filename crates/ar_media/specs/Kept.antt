-- The calls that a file in memory keeps, as a record of calls.
use Rattle.std.specs.Prelude.{ℕ, List, map, reverse, Vec}
use Rattle.std.specs.declared.alloc.Global.{Global}
use Rattle.ar_media.specs.Calls.{Recorded}
use Rattle.ar_media.specs.declared.record.Call.{Call}

-- the newest first
abbrev pub calls_of : List (Call × Vec ℕ Global) → List Recorded
calls_of kept = reverse (map (λ e. (e.0, e.1.items)) kept)
