-- Logins and refusals at a port.
use Rattle.std.specs.Prelude.{ℕ, Bool, true, false, List}
use Rattle.ar_frames.specs.declared.port.Login.{Login}
use Rattle.ar_frames.specs.declared.port.Login.TheVariants.{Taken, BadHost, InUse}

-- what a login may do at a port: the port before, the host's number, the result, the port after
abbrev pub Logins : Type 0 → Type 1
Logins P = P → ℕ → Login → P → Type 0

-- what a refusal may do at a port: the port before, the command block, the port after
abbrev pub CommandRefusals : Type 0 → Type 1
CommandRefusals P = P → List ℕ → P → Type 0

-- the login was accepted
abbrev pub is_taken : Login → Bool
is_taken Taken = true
is_taken BadHost = false
is_taken InUse = false
