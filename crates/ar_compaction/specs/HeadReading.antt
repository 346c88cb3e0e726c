-- The head that bytes are the encoding of. There is none where a field is cut short or unknown, or bytes follow.
use Rattle.std.specs.Prelude.{◌≡◌, ◌==◌, ℕ, Bool, true, false, nat_lt, List, [], ◌∷◌, length, Option, Some, None}
use Rattle.std.specs.Prelude.{if◌then◌else◌, Result, Ok, Err}
use Rattle.std.specs.Int.{w16, w64}
use Rattle.ar_disks.specs.declared.geometry.Geometry.{Geometry}
use Rattle.ar_disks.specs.declared.geometry.Geometry.TheVariants.{Paper, Small}
use Rattle.ar_record.specs.Reading.{◌>>=◌, bytes_at, number_at}
use Rattle.ar_compaction.specs.declared.head.HeadError.{HeadError}
use Rattle.ar_compaction.specs.declared.head.HeadError.TheVariants.{NoMemory, OtherVersion, Invalid}
use Rattle.ar_compaction.specs.Head.{HeadData}
use Rattle.ar_compaction.specs.Makes.{no_makes}

-- the geometry of a byte
abbrev pub geometry_at : ℕ → Option Geometry
geometry_at byte = if byte == 0 then Some Paper else (if byte == 1 then Some Small else None)

-- geometry, number of disks, and extents of each
abbrev pub shape_at : List ℕ → Option ((Geometry × ℕ) × List ℕ)
shape_at (geometry ∷ disks ∷ rest) = do
  found ← geometry_at geometry
  Some ((found, disks), rest)
shape_at bytes = None

-- a name, and nothing after it
abbrev pub name_at : List ℕ → Option (List ℕ)
name_at [] = None
name_at (count ∷ name) = if nat_lt 64 count then None else (if length name == count then Some name else None)

-- the numbers of units made, which the former version lacks
abbrev pub makes_field_at : Bool → List ℕ → Option (List ℕ × List ℕ)
makes_field_at true bytes = Some (no_makes, bytes)
makes_field_at false bytes = bytes_at 64 bytes

-- a head by its fields
abbrev pub head_with : ℕ → List ℕ → Geometry × ℕ → ℕ → List ℕ → List ℕ → HeadData
head_with generation identity shape extents makes name = record {
  generation = generation;
  identity = identity;
  geometry = shape.0;
  disks = shape.1;
  extents = extents;
  makes = makes;
  name = name;
}

-- the fields after the version, which may be the former one
unfoldable pub fields_at : Bool → List ℕ → Option HeadData
fields_at is_former bytes = do
  generation ← number_at w64 bytes
  identity ← bytes_at 16 generation.1
  shape ← shape_at identity.1
  extents ← number_at w16 shape.1
  makes ← makes_field_at is_former extents.1
  name ← name_at makes.1
  Some (head_with generation.0 identity.0 shape.0 extents.0 makes.0 name)

-- what a reader of a part returned, seen by `view`, is what reading gives, unless out of memory
abbrev pub PartFailsAs : {Y : Type 0} → HeadError → Option Y → Type 0
PartFailsAs NoMemory read = Unit {0}
PartFailsAs OtherVersion read = ⊥
PartFailsAs Invalid read = read ≡ None

abbrev pub PartReadsAs : {X Y : Type 0} → (X → Y) → Result X HeadError → Option Y → Type 0
PartReadsAs view (Ok x) read = read ≡ Some (view x)
PartReadsAs view (Err e) read = PartFailsAs e read

-- the fields, or else the bytes are invalid
abbrev pub or_invalid : Option HeadData → Result HeadData HeadError
or_invalid None = Err Invalid
or_invalid (Some head) = Ok head

-- a head, of this version or the former one
abbrev pub head_decoded : List ℕ → Result HeadData HeadError
head_decoded [] = Err Invalid
head_decoded (version ∷ bytes) =
    if version == 1 then or_invalid (fields_at true bytes)
    else (if version == 2 then or_invalid (fields_at false bytes) else Err OtherVersion)

-- the same of a whole head
abbrev pub HeadFailsAs : HeadError → Result HeadData HeadError → Type 0
HeadFailsAs NoMemory read = Unit {0}
HeadFailsAs OtherVersion read = read ≡ Err OtherVersion
HeadFailsAs Invalid read = read ≡ Err Invalid

abbrev pub HeadReadsAs : {X : Type 0} → (X → HeadData) → Result X HeadError → Result HeadData HeadError → Type 0
HeadReadsAs view (Ok x) read = read ≡ Ok (view x)
HeadReadsAs view (Err e) read = HeadFailsAs e read
