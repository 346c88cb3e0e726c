-- What a file in memory shows: the model of the calls that it keeps.
use Rattle.std.specs.Prelude.{ℕ, Bool, List}
use Rattle.ar_media.specs.Calls.{LeftNow}
use Rattle.ar_media.specs.Kept.{calls_of}
use Rattle.ar_media.specs.declared.memory.MemoryFile.{MemoryFile}

-- its member `seen`
abbrev pub memory_seen : MemoryFile → List ℕ
memory_seen m = m.bytes.items

-- its member `may_leave`
abbrev pub memory_may_leave : MemoryFile → List ℕ → Type 0
memory_may_leave m = LeftNow m.first.items (calls_of m.calls.items)

-- its member `is_usable`
abbrev pub memory_is_usable : MemoryFile → Bool
memory_is_usable m = m.is_usable
