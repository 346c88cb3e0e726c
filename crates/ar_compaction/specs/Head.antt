-- The head of a store's log as bytes: its version, its generation and identity, the shape of its array, how many units
-- were made before, and its name.
use Rattle.std.specs.Prelude.{◌≡◌, ◌<◌, ◌≤◌, ◌^◌, ◌⊎◌, ℕ, Bool, true, false, List, [], ◌∷◌, ◌++◌, length}
use Rattle.std.specs.Int.{w16, w64, to_be_bytes}
use Rattle.ar_disks.specs.declared.geometry.Geometry.{Geometry}
use Rattle.ar_disks.specs.declared.geometry.Geometry.TheVariants.{Paper, Small}
use Rattle.ar_compaction.specs.Makes.{no_makes}
use Rattle.ar_compaction.specs.declared.head.StoreHead.{StoreHead}

-- a head's fields
pub record HeadData : Type 0 where
  pub generation : ℕ
  pub identity : List ℕ
  pub geometry : Geometry
  pub disks : ℕ
  pub extents : ℕ
  pub makes : List ℕ
  pub name : List ℕ

abbrev pub head_data : StoreHead → HeadData
head_data head = record {
  generation = head.generation;
  identity = head.identity;
  geometry = head.geometry;
  disks = head.disks;
  extents = head.extents;
  makes = head.makes.bytes;
  name = head.name.items;
}

-- each field fits its bytes
pub record IsHead (head : HeadData) : Type 0 where
  pub generation_fits : head.generation < 2 ^ 64
  pub identity_len : length head.identity ≡ 16
  pub disks_fit : head.disks < 256
  pub extents_fit : head.extents < 2 ^ 16
  pub makes_len : length head.makes ≡ 64
  pub name_short : length head.name ≤ 64

-- the geometry as a byte
abbrev pub geometry_byte : Geometry → ℕ
geometry_byte Paper = 0
geometry_byte Small = 1

-- the numbers of units made as bytes, which the former version lacks
abbrev pub makes_part : Bool → List ℕ → List ℕ
makes_part true makes = []
makes_part false makes = makes

-- the bytes after the version
abbrev pub fields_of : Bool → HeadData → List ℕ
fields_of is_former head =
    to_be_bytes w64 head.generation ++ (head.identity ++ geometry_byte head.geometry ∷ head.disks
    ∷ (to_be_bytes w16 head.extents ++ (makes_part is_former head.makes ++ length head.name ∷ head.name)))

-- the bytes of a head
abbrev pub head_encoding : HeadData → List ℕ
head_encoding head = 2 ∷ fields_of false head

-- the same in the former version, which doesn't say how many units were made
abbrev pub former_encoding : HeadData → List ℕ
former_encoding head = 1 ∷ fields_of true head

-- the bytes are those of a head, in this version or the former one
abbrev pub IsEncodingOf : HeadData → List ℕ → Type 0
IsEncodingOf head bytes =
    (bytes ≡ head_encoding head) ⊎ ((bytes ≡ former_encoding head) × (head.makes ≡ no_makes))
