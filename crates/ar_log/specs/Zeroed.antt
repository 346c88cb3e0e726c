-- A log that is written over zeros, so that an append needs one sync. A batch counts its own zero bytes, so that one
-- that is torn has more of them than it says.
use Rattle.std.specs.Prelude.{◌≡◌, ◌⊎◌, ℕ, zero, suc, ◌+◌, ◌-◌, ◌<◌, ◌≤◌, ◌^◌, Bool, ◌&&◌, ◌==◌, nat_le}
use Rattle.std.specs.Prelude.{if◌then◌else◌, List, [], ◌∷◌, ◌++◌, length, take, drop, Vec}
use Rattle.std.specs.List.{flat_map}
use Rattle.std.specs.declared.alloc.Global.{Global}
use Rattle.ar_log.specs.Codec.{Batch, number_bytes, number_of, batch_digest, encoded}
use Rattle.ar_log.specs.Log.{records_in}
use Rattle.ar_log.specs.Reading.{all_items}
use Rattle.ar_log.specs.declared.zeroed.ZeroedLog.{ZeroedLog}

-- "ARLOG", two zeros and the version
abbrev pub zeroed_magic : List ℕ
zeroed_magic = 65 ∷ 82 ∷ 76 ∷ 79 ∷ 71 ∷ 0 ∷ 0 ∷ 2 ∷ []

-- one for a zero byte, and none for another
abbrev pub zero_of : ℕ → ℕ
zero_of zero = 1
zero_of (suc n) = 0

-- how many of the bytes are zero
abbrev pub zeros_in : List ℕ → ℕ
zeros_in [] = 0
zeros_in (b ∷ bytes) = zero_of b + zeros_in bytes

-- What a crash may leave of bytes that are written over zeros: each byte is zero or the one that was written, and past
-- them is nothing but zeros.
abbrev pub IsTornOf : List ℕ → List ℕ → Type 0
IsTornOf bytes [] = Unit {0}
IsTornOf [] (c ∷ left) = (c ≡ 0) × IsTornOf [] left
IsTornOf (b ∷ bytes) (c ∷ left) = ((c ≡ 0) ⊎ (c ≡ b)) × IsTornOf bytes left

-- nothing but zeros
abbrev pub AreZeros : List ℕ → Type 0
AreZeros left = IsTornOf [] left

-- the greatest length
abbrev pub most : ℕ
most = 2 ^ 64 - 1

-- a payload after its digest
abbrev pub body_of : Batch → List ℕ
body_of batch = number_bytes (batch_digest 0 (encoded batch)) ++ encoded batch

-- a body after its length, what that lacks to the greatest length, and how many of its bytes are zero
abbrev pub counted_body : List ℕ → List ℕ
counted_body body =
    number_bytes (length body)
    ++ (number_bytes (most - length body) ++ (number_bytes (zeros_in body) ++ body))

-- the bytes of a batch
abbrev pub counted_bytes : Batch → List ℕ
counted_bytes batch = counted_body (body_of batch)

-- the length of the body that begins here
abbrev pub len_in : List ℕ → ℕ
len_in bytes = number_of (take 8 bytes)

-- what its length lacks to the greatest
abbrev pub lack_in : List ℕ → ℕ
lack_in bytes = number_of (take 8 (drop 8 bytes))

-- how many zeros it is to have
abbrev pub count_in : List ℕ → ℕ
count_in bytes = number_of (take 8 (drop 16 bytes))

-- the body itself
abbrev pub body_in : List ℕ → List ℕ
body_in bytes = take (len_in bytes) (drop 24 bytes)

-- The bytes have lost some of a batch that began here: they end too early, or a number or a byte of the body is gone.
abbrev pub Lacks : List ℕ → Type 0
Lacks bytes =
    (length bytes < 24)
    ⊎ ((len_in bytes + lack_in bytes < most)
    ⊎ ((len_in bytes + lack_in bytes ≡ most)
    × ((length bytes < 24 + len_in bytes) ⊎ (count_in bytes < zeros_in (body_in bytes)))))

-- each body has a length that a number holds
abbrev pub AllFit : List Batch → Type 0
AllFit [] = Unit {0}
AllFit (batch ∷ batches) = (length (body_of batch) < 2 ^ 64) × AllFit batches

-- a log of these batches up to its end
abbrev pub zeroed_front : List Batch → List ℕ
zeroed_front batches = zeroed_magic ++ flat_map counted_bytes batches

-- The file is a log of these batches, and what is after them is no whole batch.
pub record HoldsZeroed (batches : List Batch) (file : List ℕ) : Type 0 where
  pub rest : List ℕ
  pub split : file ≡ zeroed_front batches ++ rest
  pub fit : AllFit batches
  pub lacks : Lacks rest

-- neither a whole batch nor what is left of one begins here
pub record IsNoBatch (bytes : List ℕ) : Type 0 where
  pub not_torn : Lacks bytes → ⊥
  pub not_whole : (batch : Batch) (rest : List ℕ) → bytes ≡ counted_bytes batch ++ rest
      → length (body_of batch) < 2 ^ 64 → ⊥

-- a whole batch begins here
abbrev pub begins_whole : List ℕ → Bool
begins_whole bytes =
    nat_le 24 (length bytes) && ((len_in bytes + lack_in bytes == most)
    && (nat_le (24 + len_in bytes) (length bytes) && (count_in bytes == zeros_in (body_in bytes))))

-- the whole batches from here on; the count bounds how many
abbrev pub zeroed_in : ℕ → List ℕ → List Batch
zeroed_in zero bytes = []
zeroed_in (suc count) bytes =
    if begins_whole bytes
    then records_in (length bytes) (drop 8 (body_in bytes)) ∷ zeroed_in count (drop (24 + len_in bytes) bytes)
    else []

-- all whole batches of a file
abbrev pub zeroed_batches : List ℕ → List Batch
zeroed_batches file = zeroed_in (length file) (drop 8 file)

-- the end of the last of them
abbrev pub zeroed_end : List ℕ → ℕ
zeroed_end file = length (zeroed_front (zeroed_batches file))

-- the batches of the file end here
pub record EndsAt (file : List ℕ) (end : ℕ) : Type 0 where
  pub front : take end file ≡ zeroed_front (zeroed_batches file)
  pub fit : AllFit (zeroed_batches file)
  pub lacks : Lacks (drop end file)
  pub end_is : end ≡ zeroed_end file
  pub within : end ≤ length file

-- these batches were read of the file, up to this end
pub record IsReadTo (file : List ℕ) (batches : List (Vec (Vec ℕ Global) Global)) (end : ℕ) : Type 0 where
  pub are : all_items batches ≡ zeroed_batches file
  pub ends : EndsAt file end

-- the file has these batches up to the end, and zeros from there up to its length
pub record IsZeroedTo (batches : List Batch) (end ahead : ℕ) (file : List ℕ) : Type 0 where
  pub front : take end file ≡ zeroed_front batches
  pub fit : AllFit batches
  pub within : end ≤ ahead
  pub size : length file ≡ ahead
  pub zeros : AreZeros (drop end file)

-- It has the batches that the first file has, if from their end on each of its bytes is zero or that of the first.
abbrev pub IsStillHeld : List ℕ → List ℕ → Type 0
IsStillHeld first file =
    IsTornOf (drop (zeroed_end first) first) (drop (zeroed_end first) file) → HoldsZeroed (zeroed_batches first) file

-- It is no log, or one with no batch, if each of its bytes is zero or that of the magic.
abbrev pub IsBegunAhead : List ℕ → Type 0
IsBegunAhead file = IsTornOf zeroed_magic file → (batches : List Batch) → HoldsZeroed batches file → batches ≡ []

-- The file is a log of whole batches with zeros after them, and a crash leaves it.
pub record IsAhead {M : Type 0} (seen : M → List ℕ) (may_leave : M → List ℕ → Type 0) (log : ZeroedLog M) : Type 0 where
  pub front : take log.end (seen log.media) ≡ zeroed_front (zeroed_batches (seen log.media))
  pub fit : AllFit (zeroed_batches (seen log.media))
  pub within : log.end ≤ log.ahead
  pub ahead : length (seen log.media) ≡ log.ahead
  pub zeros : AreZeros (drop log.end (seen log.media))
  pub durable : (c : List ℕ) → may_leave log.media c → c ≡ seen log.media

-- the log has one batch more
pub record AppendsAhead {M : Type 0} (seen : M → List ℕ) (may_leave : M → List ℕ → Type 0) (batch : Batch)
    (old new : ZeroedLog M) : Type 0 where
  pub ahead : IsAhead seen may_leave new
  pub batches : zeroed_batches (seen new.media) ≡ zeroed_batches (seen old.media) ++ batch ∷ []

-- the log has the same batches
pub record KeepsAhead {M : Type 0} (seen : M → List ℕ) (may_leave : M → List ℕ → Type 0)
    (old new : ZeroedLog M) : Type 0 where
  pub ahead : IsAhead seen may_leave new
  pub batches : zeroed_batches (seen new.media) ≡ zeroed_batches (seen old.media)

-- The file is a log of these batches, or of these and one more, if from `end` on each of its bytes is zero or that of
-- the new batch.
abbrev pub IsWithOrWithout : ℕ → List Batch → Batch → List ℕ → Type 0
IsWithOrWithout end batches batch file =
    IsTornOf (counted_bytes batch) (drop end file)
    → HoldsZeroed batches file ⊎ HoldsZeroed (batches ++ batch ∷ []) file
