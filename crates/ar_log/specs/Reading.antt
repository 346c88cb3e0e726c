-- Reading a log, batch by batch.
use Rattle.std.specs.Prelude.{◌≡◌, ◌⊎◌, ℕ, ◌+◌, ◌≤◌, Bool, true, List, [], ◌∷◌, ◌++◌, length, map, take, drop, IsTrue}
use Rattle.std.specs.Prelude.{Vec}
use Rattle.std.specs.declared.alloc.Global.{Global}
use Rattle.ar_log.specs.Codec.{Batch, items_of, number_bytes, encoded}
use Rattle.ar_log.specs.Log.{AreBatchesFrom, HoldsBatches, batches_len, begins_open, batches_of}
use Rattle.ar_log.specs.declared.place.Place.{Place}

-- the medium was read and not written
pub record OnlyReads {M : Type 0} (seen : M → List ℕ) (may_leave : M → List ℕ → Type 0) (moment : M → ℕ)
    (left_since : M → ℕ → List ℕ → Type 0) (is_clean : M → Bool) (old new : M) : Type 0 where
  pub same : seen new ≡ seen old
  pub crash : (c : List ℕ) → may_leave new c → may_leave old c
  pub later : moment old ≤ moment new
  pub since : (t : ℕ) (c : List ℕ) → t ≤ moment old → left_since new t c → left_since old t c ⊎ may_leave old c
  pub clean : IsTrue (is_clean new) → IsTrue (is_clean old)

-- an open gate, and a batch of this length and digest after it
pub record HasHead (bytes : List ℕ) (len digest : ℕ) : Type 0 where
  pub opens : begins_open bytes ≡ true
  pub len_is : number_bytes len ≡ take 8 (drop 2 bytes)
  pub digest_is : number_bytes digest ≡ take 8 (drop 10 bytes)

-- a closed gate
abbrev pub IsClosedGate : List ℕ → Type 0
IsClosedGate bytes = (tail : List ℕ) × (bytes ≡ 0 ∷ 0 ∷ tail)

-- neither a closed gate nor whole batches and then one
abbrev pub IsDamage : ℕ → List ℕ → Type 0
IsDamage number bytes = (batches : List (List (List ℕ))) → AreBatchesFrom number batches bytes → ⊥

-- the place after a batch
pub record GoesAfter (batch : Batch) (old new : Place) : Type 0 where
  pub at : new.at ≡ old.at + 18 + length (encoded batch)
  pub number : new.number ≡ old.number + 1
  pub left : new.at + new.left ≡ old.at + old.left

-- the batches before an offset
abbrev pub batches_before : ℕ → List ℕ → List Batch
batches_before at file = batches_of (take at file ++ 0 ∷ 0 ∷ [])

-- whole batches were read up to this place of the file
pub record IsAt (file : List ℕ) (place : Place) : Type 0 where
  pub stands : HoldsBatches (batches_before place.at file) (take place.at file ++ 0 ∷ 0 ∷ [])
  pub at : place.at ≡ 8 + batches_len (batches_before place.at file)
  pub number : place.number ≡ length (batches_before place.at file)
  pub left : place.at + place.left ≡ length file

-- a batch more was read
pub record ReadsOn (file : List ℕ) (batch : Batch) (old new : Place) : Type 0 where
  pub place : IsAt file new
  pub batches : batches_before new.at file ≡ batches_before old.at file ++ batch ∷ []

-- the batches that the vectors hold
abbrev pub all_items : List (Vec (Vec ℕ Global) Global) → List Batch
all_items batches = map (λ b. items_of b.items) batches

-- these are all batches of the file, which end at this place
pub record IsWholeLog (file : List ℕ) (batches : List (Vec (Vec ℕ Global) Global)) (end : Place) : Type 0 where
  pub holds : HoldsBatches (batches_of file) file
  pub are : all_items batches ≡ batches_of file
  pub at : end.at ≡ 8 + batches_len (batches_of file)
  pub number : end.number ≡ length (batches_of file)
