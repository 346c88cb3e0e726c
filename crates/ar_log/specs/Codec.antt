-- The bytes of a batch of records.
use Rattle.std.specs.Prelude.{ℕ, List, ◌++◌, length, map, Vec}
use Rattle.std.specs.List.{flat_map}
use Rattle.std.specs.Int.{w64, to_le_bytes, from_le_bytes}
use Rattle.std.specs.Hash.DefaultHasher as sip
use Rattle.std.specs.declared.alloc.Global.{Global}

-- the records of a batch, each as its bytes
abbrev pub Batch : Type 0
Batch = List (List ℕ)

-- what the vectors hold
abbrev pub items_of : List (Vec ℕ Global) → Batch
items_of records = map (λ v. v.items) records

-- a number in eight bytes, the lowest first
unfoldable pub number_bytes : ℕ → List ℕ
number_bytes n = to_le_bytes w64 n

unfoldable pub number_of : List ℕ → ℕ
number_of bytes = from_le_bytes w64 bytes

-- SipHash of the batch's number and its payload
unfoldable pub batch_digest : ℕ → List ℕ → ℕ
batch_digest number payload = sip.finish (sip.write (sip.write sip.initial (to_le_bytes w64 number)) payload)

-- a record after its length
abbrev pub framed : List ℕ → List ℕ
framed bytes = number_bytes (length bytes) ++ bytes

-- the payload of a batch: its records in order
abbrev pub encoded : Batch → List ℕ
encoded records = flat_map framed records

-- a payload after its length and its digest
abbrev pub sealed : ℕ → List ℕ → List ℕ
sealed number payload = number_bytes (length payload) ++ number_bytes (batch_digest number payload) ++ payload
