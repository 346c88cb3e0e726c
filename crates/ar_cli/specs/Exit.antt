-- With which status a program exits.
use Rattle.std.specs.Prelude.{⊤, ℕ, Result, Ok, Err}

-- 0 where the work is done, and else the failure's own status
abbrev pub status_after : {F : Type 0} → (F → ℕ) → Result ⊤ F → ℕ
status_after status_of (Ok _) = 0
status_after status_of (Err failure) = status_of failure
