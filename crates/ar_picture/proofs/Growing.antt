-- What is added in turn is added.
use Rattle.std.proofs.Common.{◌≡◌, ◌≢◌, ◌∙◌, ℕ, List, [], ◌∷◌, ◌++◌, Option, None, Some, append_assoc, append-nil, refl}
use Rattle.std.proofs.Common.{sym, arith}
use Rattle.std.specs.Io.KnownBytes.{Appends, Keeps}
use Rattle.ar_picture.specs.Writing.{AddsBytes, AddsSome}

-- where nothing is written
pub grows_same : (old : Option (List ℕ)) → AddsBytes old old
grows_same None = record { more = []; appends = tt }
grows_same (Some xs) = record { more = []; appends = sym (append-nil xs) }

pub kept_grows : (old new : Option (List ℕ)) → Keeps old new → AddsBytes old new
kept_grows None new kept = record { more = []; appends = tt }
kept_grows (Some xs) None kept = absurd kept
kept_grows (Some xs) (Some ys) kept = record { more = []; appends = kept ∙ sym (append-nil xs) }

-- where something is written, and then more
pub grows_then : {old mid new : Option (List ℕ)} → AddsBytes old mid → AddsBytes mid new → AddsBytes old new
grows_then {old = None} first then = record { more = []; appends = tt }
grows_then {old = Some xs} {mid = None} first then = absurd first.appends
grows_then {old = Some xs} {mid = Some ys} {new = None} first then = absurd then.appends
grows_then {old = Some xs} {mid = Some ys} {new = Some zs} first then =
    record {
      more = first.more ++ then.more;
      appends =
          grind (arith, first.appends, then.appends, append_assoc xs first.more then.more);
    }

-- where some bytes are written, and then perhaps more, or the other way round
first_none : (xs ys : List ℕ) → xs ++ ys ≡ [] → xs ≡ []
first_none [] ys is = refl
first_none (x ∷ xs) ys is = absurd (cc)

second_none : (xs ys : List ℕ) → xs ++ ys ≡ [] → ys ≡ []
second_none [] ys is = is
second_none (x ∷ xs) ys is = absurd (cc)

joined : (old mid new : Option (List ℕ)) (xs ys : List ℕ) → Appends old mid xs → Appends mid new ys → xs ++ ys ≢ []
    → AddsSome old new
joined None mid new xs ys first then some = record { more = xs ++ ys; appends = tt; some = some }
joined (Some a) None new xs ys first then some = absurd first
joined (Some a) (Some b) None xs ys first then some = absurd then
joined (Some a) (Some b) (Some c) xs ys first then some =
    record { more = xs ++ ys; appends = grind (arith, first, then, append_assoc a xs ys); some = some }

pub some_then : {old mid new : Option (List ℕ)} → AddsSome old mid → AddsBytes mid new → AddsSome old new
some_then {old} {mid} {new} first then =
    joined old mid new first.more then.more first.appends then.appends
    (λ none. first.some (first_none first.more then.more none))

pub then_some : {old mid new : Option (List ℕ)} → AddsBytes old mid → AddsSome mid new → AddsSome old new
then_some {old} {mid} {new} first then =
    joined old mid new first.more then.more first.appends then.appends
    (λ none. then.some (second_none first.more then.more none))
