-- Output is appended.
use Rattle.std.specs.Prelude.{◌≢◌, ℕ, List, [], Option}
use Rattle.std.specs.Io.KnownBytes.{Appends}

-- bytes, perhaps none, are appended to those that a writer is known to hold
pub record AddsBytes (old new : Option (List ℕ)) : Type 0 where
  pub more : List ℕ
  pub appends : Appends old new more

-- the same, of at least one byte
pub record AddsSome (old new : Option (List ℕ)) : Type 0 where
  pub more : List ℕ
  pub appends : Appends old new more
  pub some : more ≢ []
