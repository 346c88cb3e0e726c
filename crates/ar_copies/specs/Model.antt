-- The model of a file in copies, read off what the copies are and were before each call, and the calls, the newest
-- first. While the copies in use have had the same bytes after each call, it is what the copies are. From the first
-- call on that has left different bytes, as a write with a gap behind the end may, it is the record of the calls alone.
use Rattle.std.specs.Prelude.{◌≡◌, ◌⊎◌, ℕ, ◌≤◌, Bool, true, false, ◌&&◌, if◌then◌else◌, List, [], ◌∷◌, length}
use Rattle.ar_media.specs.Calls.{Recorded, seen_after, LeftAfter, is_honest}
use Rattle.ar_copies.specs.Copies.{agrees, seen_first, OneLeaves, copies_clean}
use Rattle.ar_copies.specs.declared.copies.Copies.{Copies}

-- the copies before a call, and the call
abbrev pub Entry : Type 0 → Type 0
Entry M = Copies M × Recorded

-- the copies in use have had the same bytes after each call
abbrev pub tracks : {M : Type 0} → (M → List ℕ) → Copies M → List (Entry M) → Bool
tracks seen now [] = agrees seen now
tracks seen now (e ∷ earlier) = tracks seen e.0 earlier && agrees seen now

-- the bytes that a read returns
abbrev pub contents : {M : Type 0} → (M → List ℕ) → Copies M → List (Entry M) → List ℕ
contents seen now [] = seen_first seen now
contents seen now (e ∷ earlier) =
    if tracks seen now (e ∷ earlier) then seen_first seen now
    else seen_after e.1.0 e.1.1 (contents seen e.0 earlier)

-- What a crash now may leave: what it may leave of one of the copies that count.
abbrev pub FileLeaves : {M : Type 0} → (M → List ℕ) → (M → List ℕ → Type 0) → Copies M → List (Entry M) → List ℕ
    → Type 0
FileLeaves seen may_leave now [] = λ x.
    ((agrees seen now ≡ true) × OneLeaves may_leave now x) ⊎ ((agrees seen now ≡ false) × (x ≡ seen_first seen now))
FileLeaves seen may_leave now (e ∷ earlier) = λ x.
    ((tracks seen now (e ∷ earlier) ≡ true) × OneLeaves may_leave now x)
    ⊎ ((tracks seen now (e ∷ earlier) ≡ false)
    × LeftAfter e.1.0 e.1.1 (contents seen e.0 earlier) (FileLeaves seen may_leave e.0 earlier) x)

-- what a crash might have left after the first t calls or any later one but the newest
abbrev pub LeftEarlier : {M : Type 0} → (M → List ℕ) → (M → List ℕ → Type 0) → List (Entry M) → ℕ → List ℕ → Type 0
LeftEarlier seen may_leave [] t x = ⊥
LeftEarlier seen may_leave (e ∷ earlier) t x =
    (t ≤ length earlier) × (FileLeaves seen may_leave e.0 earlier x ⊎ LeftEarlier seen may_leave earlier t x)

-- what a crash might have left after the first t calls or any later one
abbrev pub LeavesSince : {M : Type 0} → (M → List ℕ) → (M → List ℕ → Type 0) → Copies M → List (Entry M) → ℕ → List ℕ
    → Type 0
LeavesSince seen may_leave now past t x = FileLeaves seen may_leave now past x ⊎ LeftEarlier seen may_leave past t x

-- no read has returned other bytes than were written, one of a copy that was replaced since neither
abbrev pub clean_since : {M : Type 0} → (M → List ℕ) → (M → Bool) → Copies M → List (Entry M) → Bool
clean_since seen is_clean now [] = copies_clean is_clean now
clean_since seen is_clean now (e ∷ earlier) =
    clean_since seen is_clean e.0 earlier
    && (if tracks seen now (e ∷ earlier) then copies_clean is_clean now
    else is_honest e.1.0 e.1.1 (contents seen e.0 earlier))
