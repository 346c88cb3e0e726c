-- The model of a file, read off what it held at first and a record of its calls, the newest first. It assumes nothing:
-- where the answers are not those of such a file, the record says so by `clean_after`.
use Rattle.std.specs.Prelude.{◌≡◌, ◌⊎◌, ◌+◌, ◌-◌, ◌≤◌, ◌==◌, ℕ, Bool, true, false, not, ◌&&◌, nat_lt, if◌then◌else◌}
use Rattle.std.specs.Prelude.{List, [], ◌∷◌, ◌++◌, length, take, drop, replicate, bytes_eq}
use Rattle.ar_media.specs.Media.{Torn, Cut}
use Rattle.ar_media.specs.declared.record.Call.{Call}
use Rattle.ar_media.specs.declared.record.Call.TheVariants.{Measured, Read, Wrote, Resized, Synced, Failed}

-- a call with the bytes that it returned or was given
abbrev pub Recorded : Type 0
Recorded = Call × List ℕ

-- the file with its length changed: cut, or filled up with zeros
unfoldable pub padded : List ℕ → ℕ → List ℕ
padded file len = take len file ++ replicate (len - length file) 0

-- the file with these bytes at this offset, and zeros up to there; a write of no bytes changes nothing
unfoldable pub overlaid : List ℕ → ℕ → List ℕ → List ℕ
overlaid file at [] = file
overlaid file at (b ∷ bytes) = padded file at ++ (b ∷ bytes) ++ drop (at + length (b ∷ bytes)) file

-- what a read returns after a call
abbrev pub seen_after : Call → List ℕ → List ℕ → List ℕ
seen_after (Measured len) bytes seen = seen
seen_after (Read at) bytes seen = seen
seen_after (Wrote at n) bytes seen = overlaid seen at (take n bytes)
seen_after (Resized len ok) bytes seen = if ok then padded seen len else seen
seen_after Synced bytes seen = seen
seen_after Failed bytes seen = seen

-- what a read returns after these calls
abbrev pub seen_of : List ℕ → List Recorded → List ℕ
seen_of first [] = first
seen_of first (e ∷ earlier) = seen_after e.0 e.1 (seen_of first earlier)

-- what a crash may leave after a call, by what it might have left before: a write is torn, a length is between, and
-- what was synced stays
abbrev pub LeftAfter : Call → List ℕ → List ℕ → (List ℕ → Type 0) → List ℕ → Type 0
LeftAfter (Measured len) bytes seen earlier c = earlier c
LeftAfter (Read at) bytes seen earlier c = earlier c
LeftAfter (Wrote at n) bytes seen earlier c = (d : List ℕ) × earlier d × Torn at (length bytes) d c
LeftAfter (Resized len ok) bytes seen earlier c = (d : List ℕ) × earlier d × Cut len d c
LeftAfter Synced bytes seen earlier c = c ≡ seen
LeftAfter Failed bytes seen earlier c = earlier c

-- what a crash may leave after these calls
abbrev pub LeftNow : List ℕ → List Recorded → List ℕ → Type 0
LeftNow first [] = λ c. c ≡ first
LeftNow first (e ∷ earlier) = LeftAfter e.0 e.1 (seen_of first earlier) (LeftNow first earlier)

-- what a crash might have left after the first t calls or any later one but the newest
abbrev pub LeftBefore : List ℕ → List Recorded → ℕ → List ℕ → Type 0
LeftBefore first [] t c = ⊥
LeftBefore first (e ∷ earlier) t c = (t ≤ length earlier) × (LeftNow first earlier c ⊎ LeftBefore first earlier t c)

-- what a crash might have left after the first t calls or any later one
abbrev pub LeftSince : List ℕ → List Recorded → ℕ → List ℕ → Type 0
LeftSince first calls t c = LeftNow first calls c ⊎ LeftBefore first calls t c

-- a call that failed, in whole or in part
abbrev pub has_failed : Call → List ℕ → Bool
has_failed (Measured len) bytes = false
has_failed (Read at) bytes = false
has_failed (Wrote at n) bytes = nat_lt n (length bytes)
has_failed (Resized len ok) bytes = not ok
has_failed Synced bytes = false
has_failed Failed bytes = true

-- how many calls have failed
abbrev pub failed_calls : List Recorded → ℕ
failed_calls [] = 0
failed_calls (e ∷ earlier) = if has_failed e.0 e.1 then failed_calls earlier + 1 else failed_calls earlier

-- the answer is that of a file which holds these bytes
abbrev pub is_honest : Call → List ℕ → List ℕ → Bool
is_honest (Measured len) bytes seen = len == length seen
is_honest (Read at) bytes seen = bytes_eq bytes (take (length bytes) (drop at seen))
is_honest (Wrote at n) bytes seen = true
is_honest (Resized len ok) bytes seen = true
is_honest Synced bytes seen = true
is_honest Failed bytes seen = true

-- each answer is that of a file which held `first`
abbrev pub is_clean_of : List ℕ → List Recorded → Bool
is_clean_of first [] = true
is_clean_of first (e ∷ earlier) = is_clean_of first earlier && is_honest e.0 e.1 (seen_of first earlier)
