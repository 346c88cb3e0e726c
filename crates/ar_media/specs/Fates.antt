-- What a crash may make of one call, by the bytes that were left before it and those that a read returned.
use Rattle.std.specs.Prelude.{◌≡◌, ℕ, List, length}
use Rattle.ar_media.specs.Media.{Torn, Cut}
use Rattle.ar_media.specs.declared.record.Call.{Call}
use Rattle.ar_media.specs.declared.record.Call.TheVariants.{Measured, Read, Wrote, Resized, Synced, Failed}

-- a write is torn, a length is between, and after a sync all is left
abbrev pub LeftBy : Call → List ℕ → List ℕ → List ℕ → List ℕ → Type 0
LeftBy (Measured len) bytes seen left new = new ≡ left
LeftBy (Read at) bytes seen left new = new ≡ left
LeftBy (Wrote at n) bytes seen left new = Torn at (length bytes) left new
LeftBy (Resized len ok) bytes seen left new = Cut len left new
LeftBy Synced bytes seen left new = new ≡ seen
LeftBy Failed bytes seen left new = new ≡ left
