-- What a regular file shows: the model of its record.
use Rattle.std.specs.Prelude.{ℕ, Bool, List}
use Rattle.ar_media.specs.Calls.{seen_of, LeftNow, is_clean_of}
use Rattle.ar_media.specs.declared.regular.RegularFile.{RegularFile}

-- its member `seen`
abbrev pub regular_seen : RegularFile → List ℕ
regular_seen f = seen_of f.history.first f.history.calls

-- its member `may_leave`
abbrev pub regular_may_leave : RegularFile → List ℕ → Type 0
regular_may_leave f = LeftNow f.history.first f.history.calls

-- its member `is_clean`
abbrev pub regular_is_clean : RegularFile → Bool
regular_is_clean f = is_clean_of f.history.first f.history.calls

-- its member `is_usable`
abbrev pub regular_is_usable : RegularFile → Bool
regular_is_usable f = f.is_open
