-- What a copy of an extent leaves, complete or stopped by a fault.
use Rattle.std.specs.Prelude.{◌≡◌, ◌≢◌, ◌⊎◌, ℕ, zero, suc, ◌<◌, true, false, List, [], ◌∷◌, ◌++◌}
use Rattle.ar_disks.specs.declared.address.Place.{Place}
use Rattle.ar_disks.specs.Geometry.{rows_of}
use Rattle.ar_extents.specs.declared.health.Health.TheVariants.{Whole, Out}
use Rattle.ar_extents.specs.declared.log.AccessKind.{AccessKind}
use Rattle.ar_extents.specs.declared.log.AccessKind.TheVariants.{Read, Write}
use Rattle.ar_extents.specs.Set.{SetState, faults_of, content}
use Rattle.ar_extents.specs.Follows.{Follows, Faulted, Keeps}
use Rattle.ar_extents.specs.Plans.{Attempt, read_at, write_at, AttemptsAll}
use Rattle.ar_book.specs.declared.class.Class.{Class}
use Rattle.ar_book.specs.declared.class.Class.TheVariants.{Free, Mirrored, Parity}

-- the attempts to copy a row from one extent to another: it is read, and only then written
abbrev pub row_copy : Place → Place → ℕ → List Attempt
row_copy from to row = read_at from row ∷ write_at to row ∷ []

-- the same of the rows below a number, in order
abbrev pub rows_copy : Place → Place → ℕ → List Attempt
rows_copy from to zero = []
rows_copy from to (suc n) = rows_copy from to n ++ row_copy from to n

-- the kinds of the accesses by which n rows are copied from one extent to another
abbrev pub row_copies_kinds : ℕ → List AccessKind
row_copies_kinds zero = []
row_copies_kinds (suc n) = row_copies_kinds n ++ Read ∷ Write ∷ []

-- accesses in which no disk faulted, and which wrote to one extent only
pub record HasWritten (old new : SetState) (to : Place) : Type 0 where
  pub follows : Follows old new
  pub loose : new.loose ≡ old.loose
  pub keeps : Keeps (λ p. p ≢ to) old new
  pub health : new.health ≡ Whole
  pub faults : (d : ℕ) → faults_of new d ≡ faults_of old d

-- the rows of an extent below a number are copied to another
pub record AreCopied (old new : SetState) (from to : Place) (end : ℕ) : Type 0 where
  pub written : HasWritten old new to
  pub rows : (row : ℕ) → row < end → content new to row ≡ content old from row

-- one row is copied, and the other rows are as before
pub record IsRowCopied (old new : SetState) (from to : Place) (row : ℕ) : Type 0 where
  pub written : HasWritten old new to
  pub here : content new to row ≡ content old from row
  pub others : (r : ℕ) → r ≢ row → content new to r ≡ content old to r

-- one of the two disks faulted, and has failed (`IsStopped` says which rows are copied)
pub record IsCutShort (old new : SetState) (from to : Place) : Type 0 where
  pub follows : Follows old new
  pub loose : new.loose ≡ old.loose
  pub keeps : Keeps (λ p. p ≢ to) old new
  pub disk : ℕ
  pub which : (disk ≡ from.disk) ⊎ (disk ≡ to.disk)
  pub faulted : Faulted old new disk
  pub out : new.health ≡ Out disk

-- all rows of an extent were copied, and exactly these accesses were made
pub record IsExtentCopied (old new : SetState) (from to : Place) : Type 0 where
  pub copied : AreCopied old new from to (rows_of old.geometry)
  pub made : AttemptsAll (rows_copy from to (rows_of old.geometry)) true old new

-- The copy stopped at a row: those below it are copied, and those past it are as they were. So is the row itself,
-- unless it is the new extent's disk that has failed: a row is written only once it was read.
pub record IsStopped (old new : SetState) (from to : Place) : Type 0 where
  pub row : ℕ
  pub there : row < rows_of old.geometry
  pub below : (r : ℕ) → r < row → content new to r ≡ content old from r
  pub past : (r : ℕ) → row < r → content new to r ≡ content old to r
  pub unread : new.health ≢ Out to.disk → content new to row ≡ content old to row
  -- exactly these accesses were made: those of the rows below it, and then those of the row itself, of which one failed
  pub before : SetState
  pub made : AttemptsAll (rows_copy from to row) true old before
  pub failed : AttemptsAll (row_copy from to row) false before new

-- what is copied of a group's extent: all rows; of a free group nothing, so that no disk is accessed
abbrev pub IsFilled : Class → SetState → SetState → Place → Place → Type 0
IsFilled Free old new from to = new ≡ old
IsFilled Mirrored old new from to = IsExtentCopied old new from to
IsFilled Parity old new from to = IsExtentCopied old new from to
