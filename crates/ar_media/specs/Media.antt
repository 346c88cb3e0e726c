-- What the calls of a medium do to its bytes, and what a crash may do between two syncs.
use Rattle.std.specs.Prelude.{◌<◌, ◌≡◌, ◌⊎◌, ℕ, ◌+◌, ◌≤◌, min, max, Bool, true, false, List, ◌++◌, length, take, drop}
use Rattle.std.specs.Prelude.{Result, Err, IfErr, IsErrOf, IsTrue}
use Rattle.ar_media.specs.declared.error.MediaError.{MediaError}
use Rattle.ar_media.specs.declared.error.MediaError.TheVariants.{Memory, Failed, Full, Closed}

-- new is old with these bytes at this offset
abbrev pub Overwritten : List ℕ → ℕ → List ℕ → List ℕ → Type 0
Overwritten old at bytes new = new ≡ take at old ++ bytes ++ drop (at + length bytes) old

-- after a write of n bytes that is cut short: any bytes in the range and past the old end, the same elsewhere
pub record Torn (at n : ℕ) (old new : List ℕ) : Type 0 where
  -- up to the range, or to the old end where that comes first
  pub before : take (min at (length old)) new ≡ take at old
  pub after : drop (at + n) new ≡ drop (at + n) old
  pub no_shorter : length old ≤ length new
  pub no_longer : length new ≤ max (length old) (at + n)

-- after a cut to n bytes: any length between, the same below both
pub record Cut (n : ℕ) (old new : List ℕ) : Type 0 where
  pub before : take (min n (length old)) new ≡ take n old
  pub no_shorter : min (length old) n ≤ length new
  pub no_longer : length new ≤ max (length old) n

-- each new outcome of a crash is an old outcome after a step
abbrev pub OutcomesFollow : (List ℕ → List ℕ → Type 0) → (List ℕ → Type 0) → (List ℕ → Type 0) → Type 0
OutcomesFollow step old new = (c : List ℕ) → new c → (d : List ℕ) × old d × step d c

-- a crash leaves this and nothing else
abbrev pub Only : List ℕ → (List ℕ → Type 0) → Type 0
Only file outcomes = (c : List ℕ) → outcomes c → c ≡ file

-- Time goes on: a crash since t might have left what it might have left before, or what it may leave now.
pub record Elapses (before now : ℕ) (past since : ℕ → List ℕ → Type 0) (may_leave : List ℕ → Type 0) : Type 0 where
  pub later : before ≤ now
  pub nothing_else : (t : ℕ) (c : List ℕ) → t ≤ before → since t c → past t c ⊎ may_leave c
  pub keeps : (t : ℕ) (c : List ℕ) → t ≤ before → past t c → since t c

-- A crash at any moment since old leaves contents that have P.
pub record LeavesOnly {M : Type 0} (moment : M → ℕ) (left_since : M → ℕ → List ℕ → Type 0) (old new : M)
    (P : List ℕ → Type 0) : Type 0 where
  pub later : moment old ≤ moment new
  pub each : (c : List ℕ) → left_since new (moment old) c → P c
  -- for a run that began earlier
  pub before : (t : ℕ) (c : List ℕ) → t ≤ moment old → left_since new t c → left_since old t c ⊎ P c

-- the medium itself has failed: neither memory ran out nor was it closed before
abbrev pub is_fault : MediaError → Bool
is_fault Memory = false
is_fault (Failed kind) = true
is_fault Full = true
is_fault Closed = false

-- an error of the medium is returned only where it has failed since
pub record ReportsFaults {T : Type 0} (before now : ℕ) (result : Result T MediaError) : Type 0 where
  pub later : before ≤ now
  pub failed : IfErr result (λ e. IsTrue (is_fault e) → before < now)

-- A medium on which a sync has failed returns that it is closed and does nothing, and no other does.
pub record ClosesFor {M T : Type 0} (is_usable : M → Bool) (old new : M) (result : Result T MediaError) : Type 0 where
  pub closed : is_usable old ≡ false → (result ≡ Err Closed) × (new ≡ old)
  pub no_other : IsErrOf result Closed → is_usable old ≡ false
