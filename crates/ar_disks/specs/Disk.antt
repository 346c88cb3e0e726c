-- A disk: its contents, whether it has failed, and what an access changes.
use Rattle.std.specs.Prelude.{◌≡◌, ◌≢◌, ℕ, ◌+◌, ◌*◌, ◌<◌, ◌^◌, ◌-◌, min, nat_lt, Bool, not, IsTrue, if◌then◌else◌, List}
use Rattle.std.specs.Prelude.{[], length, slice_range}
use Rattle.ar_disks.specs.declared.geometry.Geometry.{Geometry}
use Rattle.ar_disks.specs.Block.{part_at}
use Rattle.ar_disks.specs.Geometry.{rows_of, block_len_of}

-- the disk's contents, extent by extent and row by row in each; whether it has failed (`gone`); its fault count; and
-- the number of its reads and writes, whatever they returned
pub record DiskState : Type 0 where
  pub geometry : Geometry
  pub extents : ℕ
  pub bytes : List ℕ
  pub gone : Bool
  pub faults : ℕ
  pub accesses : ℕ

-- the offset in the bytes of a row of an extent
abbrev pub offset_of : Geometry → ℕ → ℕ → ℕ
offset_of g extent row = (extent * rows_of g + row) * block_len_of g

-- the block at a row of an extent; empty at a row that no extent has
unfoldable pub block_at : DiskState → ℕ → ℕ → List ℕ
block_at disk extent row =
    if nat_lt row (rows_of disk.geometry)
    then slice_range disk.bytes (offset_of disk.geometry extent row)
    (offset_of disk.geometry extent row + block_len_of disk.geometry)
    else []

-- the disk has this row of this extent
pub record HasPlace (disk : DiskState) (extent row : ℕ) : Type 0 where
  pub extent_exists : extent < disk.extents
  pub row_exists : row < rows_of disk.geometry

-- the fault count after one more fault: it saturates
abbrev pub counted : ℕ → ℕ
counted faults = min (faults + 1) (2 ^ 64 - 1)

-- What each access does, whatever it returns: the disk keeps its shape, the access returns false exactly where the
-- disk has failed after it, a failed disk stays failed, only a false return counts a fault, and it is one access.
pub record AccessesDisk (old new : DiskState) (answer : Bool) : Type 0 where
  pub geometry : new.geometry ≡ old.geometry
  pub extents : new.extents ≡ old.extents
  pub gone : new.gone ≡ not answer
  pub stays_gone : IsTrue old.gone → IsTrue new.gone
  pub faults : new.faults ≡ (if answer then old.faults else counted old.faults)
  pub accesses : new.accesses ≡ old.accesses + 1

-- a read: no block changes, and where it returns true `into` is the block
pub record Reads (old new : DiskState) (extent row : ℕ) (answer : Bool) (into : List ℕ) : Type 0 where
  pub answers : AccessesDisk old new answer
  pub blocks : (e r : ℕ) → block_at new e r ≡ block_at old e r
  pub content : IsTrue answer → into ≡ block_at old extent row

-- a read of a part: that of the block, of which `into` has the bytes from sector `first` on where it returns true
pub record ReadsPart (old new : DiskState) (extent row first : ℕ) (answer : Bool) (into : List ℕ) : Type 0 where
  pub block : Reads old new extent row answer (block_at old extent row)
  pub part : IsTrue answer → into ≡ part_at (block_at old extent row) first (length into)

-- a write: where it returns true the place stores the block; whatever it returns, no other place changes
pub record Writes (old new : DiskState) (extent row : ℕ) (answer : Bool) (from : List ℕ) : Type 0 where
  pub answers : AccessesDisk old new answer
  pub written : IsTrue answer → block_at new extent row ≡ from
  pub same_extent : (r : ℕ) → r ≢ row → block_at new extent r ≡ block_at old extent r
  pub other_extents : (e r : ℕ) → e ≢ extent → block_at new e r ≡ block_at old e r
