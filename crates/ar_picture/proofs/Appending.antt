-- Texts that are appended one after another.
use Rattle.std.proofs.Common.{◌≡◌, ℕ, List, [], ◌++◌, Option, None, Some, Result, OnOk, append_assoc, append-nil, sym}
use Rattle.std.proofs.Common.{subst, arith}
use Rattle.std.proofs.lemmas.Result.{on_ok_weaker}
use Rattle.std.specs.Io.KnownBytes.{Appends}

-- nothing is written
pub appends_none : (old : Option (List ℕ)) → Appends old old []
appends_none None = tt
appends_none (Some xs) = sym (append-nil xs)

-- a text, and then another
pub appends_then : (old mid new : Option (List ℕ)) (xs ys : List ℕ) → Appends old mid xs → Appends mid new ys
    → Appends old new (xs ++ ys)
appends_then None mid new xs ys first then = tt
appends_then (Some a) None new xs ys first then = absurd first
appends_then (Some a) (Some b) None xs ys first then = absurd then
appends_then (Some a) (Some b) (Some c) xs ys first then = grind (arith, first, then, append_assoc a xs ys)

-- a text that is known by another name
pub appends_as : (old new : Option (List ℕ)) (xs ys : List ℕ) → xs ≡ ys → Appends old new xs → Appends old new ys
appends_as old new xs ys same added = let P : List ℕ → Type 0 = λ text. Appends old new text in subst P same added

-- a text that could be written, by another name
pub said_as : {T E : Type 0} {xs ys : List ℕ} (r : Result T E) (old new : Option (List ℕ)) → xs ≡ ys
    → OnOk r (Appends old new xs)
    → OnOk r (Appends old new ys)
said_as {xs} {ys} r old new same said =
    on_ok_weaker {P = Appends old new xs} {Q = Appends old new ys} r (appends_as old new xs ys same) said

-- a text, and then the last part of one, where that could be written
pub ends_with : {T E : Type 0} (r : Result T E) (old mid new : Option (List ℕ)) (xs ys text : List ℕ) → xs ++ ys ≡ text
    → Appends old mid xs
    → OnOk r (Appends mid new ys) → OnOk r (Appends old new text)
ends_with r old mid new xs ys text same first last =
    on_ok_weaker {P = Appends mid new ys} {Q = Appends old new text} r
    (λ then. appends_as old new (xs ++ ys) text same (appends_then old mid new xs ys first then)) last
