-- What one or two copies of a file are together.
use Rattle.std.specs.Prelude.{◌≡◌, ◌⊎◌, ℕ, ◌+◌, Bool, true, false, not, ◌&&◌, ◌||◌, List, bytes_eq}
use Rattle.std.specs.Prelude.{⊤, Result}
use Rattle.ar_media.specs.declared.error.MediaError.{MediaError}
use Rattle.ar_copies.specs.Choice.{MayKeep, kept_result}
use Rattle.ar_copies.specs.declared.copies.Copies.{Copies}
use Rattle.ar_copies.specs.declared.copies.OtherCopy.{OtherCopy}
use Rattle.ar_copies.specs.declared.copies.OtherCopy.TheVariants.{Absent, InUse, GivenUp, Gone}
use Rattle.ar_copies.specs.declared.choice.Keep.{Keep}
use Rattle.ar_copies.specs.declared.choice.Keep.TheVariants.{Both, Reference, Other}

-- a copy in use has these bytes too
abbrev pub other_has : {M : Type 0} → (M → List ℕ) → List ℕ → OtherCopy M → Bool
other_has seen bytes Absent = true
other_has seen bytes (InUse m) = bytes_eq bytes (seen m)
other_has seen bytes (GivenUp m) = true
other_has seen bytes (Gone m) = true

-- the bytes of the copy that reads ask first
abbrev pub seen_first : {M : Type 0} → (M → List ℕ) → Copies M → List ℕ
seen_first seen c = seen c.reference

-- the copies in use have the same bytes
abbrev pub agrees : {M : Type 0} → (M → List ℕ) → Copies M → Bool
agrees seen c = other_has seen (seen c.reference) c.other

abbrev pub OtherLeaves : {M : Type 0} → (M → List ℕ → Type 0) → OtherCopy M → List ℕ → Type 0
OtherLeaves may_leave Absent x = ⊥
OtherLeaves may_leave (InUse m) x = may_leave m x
OtherLeaves may_leave (GivenUp m) x = may_leave m x
OtherLeaves may_leave (Gone m) x = ⊥

-- What a crash may leave of one of the copies that count: those in use, and one that was given up since the last sync.
abbrev pub OneLeaves : {M : Type 0} → (M → List ℕ → Type 0) → Copies M → List ℕ → Type 0
OneLeaves may_leave c x = may_leave c.reference x ⊎ OtherLeaves may_leave c.other x

abbrev pub is_other_in_use : {M : Type 0} → OtherCopy M → Bool
is_other_in_use Absent = false
is_other_in_use (InUse m) = true
is_other_in_use (GivenUp m) = false
is_other_in_use (Gone m) = false

-- what a crash may leave of the other copy in use
abbrev pub CopyLeaves : {M : Type 0} → (M → List ℕ → Type 0) → OtherCopy M → List ℕ → Type 0
CopyLeaves may_leave Absent x = ⊥
CopyLeaves may_leave (InUse m) x = may_leave m x
CopyLeaves may_leave (GivenUp m) x = ⊥
CopyLeaves may_leave (Gone m) x = ⊥

abbrev pub other_faults : {M : Type 0} → (M → ℕ) → OtherCopy M → ℕ
other_faults faults Absent = 0
other_faults faults (InUse m) = faults m
other_faults faults (GivenUp m) = faults m
other_faults faults (Gone m) = faults m

-- how many calls of the copies have failed
abbrev pub copies_faults : {M : Type 0} → (M → ℕ) → Copies M → ℕ
copies_faults faults c = faults c.reference + other_faults faults c.other

abbrev pub other_clean : {M : Type 0} → (M → Bool) → OtherCopy M → Bool
other_clean is_clean Absent = true
other_clean is_clean (InUse m) = is_clean m
other_clean is_clean (GivenUp m) = is_clean m
other_clean is_clean (Gone m) = is_clean m

-- no read of a copy has returned other bytes than were written
abbrev pub copies_clean : {M : Type 0} → (M → Bool) → Copies M → Bool
copies_clean is_clean c = is_clean c.reference && other_clean is_clean c.other

abbrev pub other_usable : {M : Type 0} → (M → Bool) → OtherCopy M → Bool
other_usable is_usable Absent = false
other_usable is_usable (InUse m) = is_usable m
other_usable is_usable (GivenUp m) = false
other_usable is_usable (Gone m) = false

-- no sync of some copy in use has failed
abbrev pub copies_usable : {M : Type 0} → (M → Bool) → Copies M → Bool
copies_usable is_usable c = is_usable c.reference || other_usable is_usable c.other

abbrev pub give_up_other : {M : Type 0} → OtherCopy M → OtherCopy M
give_up_other Absent = Absent
give_up_other (InUse m) = GivenUp m
give_up_other (GivenUp m) = GivenUp m
give_up_other (Gone m) = Gone m

-- the other copy is not in use any more
abbrev pub given_up : {M : Type 0} → Copies M → Copies M
given_up c = record c { other = give_up_other c.other }

abbrev pub swapped_with : {M : Type 0} → Copies M → OtherCopy M → Copies M
swapped_with c Absent = c
swapped_with c (InUse m) = record { reference = m; other = InUse c.reference; is_swapped = not c.is_swapped }
swapped_with c (GivenUp m) = c
swapped_with c (Gone m) = c

-- two copies in use, the other way round
abbrev pub swapped : {M : Type 0} → Copies M → Copies M
swapped c = swapped_with c c.other

abbrev pub forget_other : {M : Type 0} → OtherCopy M → OtherCopy M
forget_other Absent = Absent
forget_other (InUse m) = InUse m
forget_other (GivenUp m) = Gone m
forget_other (Gone m) = Gone m

-- a copy that is given up counts no more
abbrev pub forgotten : {M : Type 0} → Copies M → Copies M
forgotten c = record c { other = forget_other c.other }

-- a copy is in use beside the reference
abbrev pub joined : {M : Type 0} → Copies M → M → Copies M
joined c m = record c { other = InUse m }

abbrev pub kept_copies : {M : Type 0} → Copies M → Keep → Copies M
kept_copies c Both = c
kept_copies c Reference = given_up c
kept_copies c Other = given_up (swapped c)

-- a choice is made of which copies go on, and the result is that of one that does
abbrev pub SettlesCall : {M : Type 0} → Result ⊤ MediaError → Result ⊤ MediaError → Copies M → Copies M
    → Result ⊤ MediaError → Type 0
SettlesCall first second old new result =
    (keep : Keep) × MayKeep first second keep × (new ≡ kept_copies old keep) × (result ≡ kept_result first second keep)
