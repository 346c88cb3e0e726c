-- The record at the front of bytes, and the bytes after it. There is none where a field is cut short or unknown.
use Rattle.std.specs.Prelude.{◌≡◌, ℕ, List, [], ◌∷◌, length, take, drop, Option, Some, None, nat_lt, ◌==◌}
use Rattle.std.specs.Prelude.{if◌then◌else◌, Result, Ok, Err}
use Rattle.std.specs.Int.{Width, w32, w64, byte_len, from_be_bytes}
use Rattle.ar_record.specs.declared.decoding.DecodeError.{DecodeError}
use Rattle.ar_record.specs.declared.decoding.DecodeError.TheVariants.{NoMemory, Invalid}
use Rattle.ar_record.specs.Record.{RecordData, Make, Grow, Remove, Command, Unmap, AddDisk}

infixl 10 ◌>>=◌
abbrev pub ◌>>=◌ : {A B : Type 0} → Option A → (A → Option B) → Option B
(Some x) >>= f = f x
None >>= f = None

-- this many bytes
abbrev pub bytes_at : ℕ → List ℕ → Option (List ℕ × List ℕ)
bytes_at count bytes = if nat_lt (length bytes) count then None else Some (take count bytes, drop count bytes)

-- a number of this width
abbrev pub number_at : Width → List ℕ → Option (ℕ × List ℕ)
number_at w bytes =
    if nat_lt (length bytes) (byte_len w) then None
    else Some (from_be_bytes w (take (byte_len w) bytes), drop (byte_len w) bytes)

-- a host and a LUN
abbrev pub named_unit_at : List ℕ → Option ((ℕ × ℕ) × List ℕ)
named_unit_at (host ∷ lun ∷ rest) = if nat_lt host 4 then Some ((host, lun), rest) else None
named_unit_at bytes = None

-- a unit and a number of sectors
unfoldable pub sized_at : List ℕ → Option (((ℕ × ℕ) × ℕ) × List ℕ)
sized_at bytes = do
  unit ← named_unit_at bytes
  sectors ← number_at w32 unit.1
  Some ((unit.0, sectors.0), sectors.1)

-- a command
unfoldable pub command_at : List ℕ → Option (RecordData × List ℕ)
command_at bytes = do
  unit ← named_unit_at bytes
  cdb ← bytes_at 16 unit.1
  count ← number_at w32 cdb.1
  payload ← bytes_at count.0 count.1
  Some (Command unit.0.0 unit.0.1 cdb.0 payload.0, payload.1)

-- a discard
unfoldable pub discard_at : List ℕ → Option (RecordData × List ℕ)
discard_at bytes = do
  unit ← named_unit_at bytes
  lba ← number_at w64 unit.1
  count ← number_at w32 lba.1
  Some (Unmap unit.0.0 unit.0.1 lba.0 count.0, count.1)

-- a record
unfoldable pub record_at : List ℕ → Option (RecordData × List ℕ)
record_at [] = None
record_at (kind ∷ bytes) =
    if kind == 0 then (do
      unit ← sized_at bytes
      Some (Make unit.0.0.0 unit.0.0.1 unit.0.1, unit.1))
    else (if kind == 1 then (do
      unit ← sized_at bytes
      Some (Grow unit.0.0.0 unit.0.0.1 unit.0.1, unit.1))
    else (if kind == 2 then (do
      unit ← named_unit_at bytes
      Some (Remove unit.0.0 unit.0.1, unit.1))
    else (if kind == 3 then command_at bytes
    else (if kind == 4 then (do
      extents ← number_at w32 bytes
      Some (AddDisk extents.0, extents.1))
    else (if kind == 5 then discard_at bytes
    else None)))))

-- one record and nothing after it
unfoldable pub decoded : List ℕ → Option RecordData
decoded bytes = do
  found ← record_at bytes
  if length found.1 == 0 then Some found.0 else None

-- a record, if there is one, before others
abbrev pub with_record : Option RecordData → List RecordData → List RecordData
with_record None records = records
with_record (Some r) records = r ∷ records

-- the records that items are the encodings of, in order; other items are left out
abbrev pub all_decoded : List (List ℕ) → List RecordData
all_decoded [] = []
all_decoded (item ∷ items) = with_record (decoded item) (all_decoded items)

-- What a reader returned, seen by view, is what reading gives, unless out of memory.
abbrev pub FailsAs : {Y : Type 0} → DecodeError → Option Y → Type 0
FailsAs NoMemory read = Unit {0}
FailsAs Invalid read = read ≡ None

abbrev pub ReadsAs : {X Y : Type 0} → (X → Y) → Result X DecodeError → Option Y → Type 0
ReadsAs view (Ok x) read = read ≡ Some (view x)
ReadsAs view (Err e) read = FailsAs e read
