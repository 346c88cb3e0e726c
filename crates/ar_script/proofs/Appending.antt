-- Texts that are appended one after another, and then nothing.
use Rattle.std.proofs.Common.{◌≡◌, ◌∙◌, ℕ, List, Option, None, Some, refl}
use Rattle.std.specs.Io.KnownBytes.{Appends, Keeps}
pub use Rattle.ar_picture.proofs.Appending.{appends_as, appends_none, appends_then}

pub keeps_same : (old : Option (List ℕ)) → Keeps old old
keeps_same None = tt
keeps_same (Some xs) = refl

-- a text, and then nothing
pub appends_kept : (old mid new : Option (List ℕ)) (xs : List ℕ) → Appends old mid xs → Keeps mid new
    → Appends old new xs
appends_kept None mid new xs first kept = tt
appends_kept (Some a) None new xs first kept = absurd first
appends_kept (Some a) (Some b) None xs first kept = absurd kept
appends_kept (Some a) (Some b) (Some c) xs first kept = kept ∙ first
