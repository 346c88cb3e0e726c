-- What the bytes of a log stand for.
use Rattle.std.specs.Prelude.{◌≡◌, ◌⊎◌, ℕ, zero, suc, ◌+◌, ◌<◌, ◌^◌, Bool, false, not, ◌&&◌, ◌==◌, if◌then◌else◌, List}
use Rattle.std.specs.Prelude.{[], ◌∷◌, ◌++◌, length, take, drop}
use Rattle.std.specs.List.{flat_map}
use Rattle.ar_log.specs.Codec.{Batch, number_of, encoded, sealed}
use Rattle.ar_log.specs.declared.log.Log.{Log}

-- "ARLOG", two zeros and the version
abbrev pub magic : List ℕ
magic = 65 ∷ 82 ∷ 76 ∷ 79 ∷ 71 ∷ 0 ∷ 0 ∷ 1 ∷ []

-- a gate is open unless both of its bytes are zero
abbrev pub IsOpen : ℕ → ℕ → Type 0
IsOpen first second = first ≡ 0 → second ≡ 0 → ⊥

-- an open gate and a whole batch of this number, and the rest after it
pub record BeginsWith (number : ℕ) (batch : Batch) (bytes rest : List ℕ) : Type 0 where
  pub first : ℕ
  pub second : ℕ
  pub is_open : IsOpen first second
  pub split : bytes ≡ first ∷ second ∷ sealed number (encoded batch) ++ rest
  pub fits : length (encoded batch) < 2 ^ 64

-- whole batches from this number on, a closed gate, and anything
abbrev pub AreBatchesFrom : ℕ → List Batch → List ℕ → Type 0
AreBatchesFrom number [] bytes = (tail : List ℕ) × (bytes ≡ 0 ∷ 0 ∷ tail)
AreBatchesFrom number (batch ∷ batches) bytes =
    (rest : List ℕ) × BeginsWith number batch bytes rest × AreBatchesFrom (suc number) batches rest

-- the file is a log of these batches
abbrev pub HoldsBatches : List Batch → List ℕ → Type 0
HoldsBatches batches file = (rest : List ℕ) × (file ≡ magic ++ rest) × AreBatchesFrom 0 batches rest

-- the bytes of these batches, with their gates
abbrev pub batches_len : List Batch → ℕ
batches_len [] = 0
batches_len (batch ∷ batches) = 18 + length (encoded batch) + batches_len batches

abbrev pub begins_open : List ℕ → Bool
begins_open (first ∷ second ∷ rest) = not ((first == 0) && (second == 0))
begins_open rest = false

-- the records of a payload; the count bounds how many
abbrev pub records_in : ℕ → List ℕ → Batch
records_in zero bytes = []
records_in (suc count) [] = []
records_in (suc count) (byte ∷ bytes) =
    take (number_of (take 8 (byte ∷ bytes))) (drop 8 (byte ∷ bytes))
    ∷ records_in count (drop (8 + number_of (take 8 (byte ∷ bytes))) (byte ∷ bytes))

-- the batches from a gate on, up to one that is closed
abbrev pub batches_in : ℕ → List ℕ → List Batch
batches_in zero bytes = []
batches_in (suc count) bytes =
    if begins_open bytes
    then records_in (length bytes) (take (number_of (take 8 (drop 2 bytes))) (drop 18 bytes))
    ∷ batches_in count (drop (18 + number_of (take 8 (drop 2 bytes))) bytes)
    else []

-- all batches of a file, its head's first
abbrev pub batches_of : List ℕ → List Batch
batches_of file = batches_in (length file) (drop 8 file)

-- all records after the head, in order
abbrev pub recovered : List ℕ → Batch
recovered file = flat_map (λ (batch : Batch). batch) (drop 1 (batches_of file))

-- The file is a log of whole batches, and a crash leaves the same, whatever is after the closed gate.
pub record IsSynced {M : Type 0} (seen : M → List ℕ) (may_leave : M → List ℕ → Type 0) (log : Log M) : Type 0 where
  pub file : HoldsBatches (batches_of (seen log.media)) (seen log.media)
  pub durable : (c : List ℕ) → may_leave log.media c → HoldsBatches (batches_of (seen log.media)) c
  pub end : log.end ≡ 8 + batches_len (batches_of (seen log.media))
  pub number : log.number ≡ length (batches_of (seen log.media))

-- the log has one batch more
pub record Appends {M : Type 0} (seen : M → List ℕ) (may_leave : M → List ℕ → Type 0) (batch : Batch)
    (old new : Log M) : Type 0 where
  pub settled : IsSynced seen may_leave new
  pub batches : batches_of (seen new.media) ≡ batches_of (seen old.media) ++ batch ∷ []

-- the log has the same batches
pub record KeepsBatches {M : Type 0} (seen : M → List ℕ) (may_leave : M → List ℕ → Type 0)
    (old new : Log M) : Type 0 where
  pub settled : IsSynced seen may_leave new
  pub batches : batches_of (seen new.media) ≡ batches_of (seen old.media)

-- the file is a log of these batches, or of these and one more
abbrev pub IsBeforeOrAfter : List Batch → Batch → List ℕ → Type 0
IsBeforeOrAfter batches batch file = HoldsBatches batches file ⊎ HoldsBatches (batches ++ batch ∷ []) file

-- these batches are after the first eight bytes, whatever those are
abbrev pub HoldsAfter : List Batch → List ℕ → Type 0
HoldsAfter batches file = AreBatchesFrom 0 batches (drop 8 file)

-- The file is no log, or the log with this head and no batch, or one that a crash might have left before, after its
-- first eight bytes. Of a medium that held no batches there it is no log or the new one.
abbrev pub IsBegun : List ℕ → (List ℕ → Type 0) → List ℕ → Type 0
IsBegun head old file =
    (batches : List Batch) → HoldsBatches batches file
    → (batches ≡ (head ∷ []) ∷ []) ⊎ ((before : List ℕ) × old before × HoldsAfter batches before)
