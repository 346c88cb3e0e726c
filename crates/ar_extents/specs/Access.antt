-- What a read and a write of a row change in a set.
use Rattle.std.specs.Prelude.{◌≡◌, ◌≢◌, ℕ, Bool, true, false, List, length}
use Rattle.ar_disks.specs.declared.address.Place.{Place}
use Rattle.ar_disks.specs.Block.{part_at}
use Rattle.ar_disks.specs.Disk.{DiskState}
use Rattle.ar_extents.specs.declared.health.Health.TheVariants.{Whole, Out, Rebuilding, Broken}
use Rattle.ar_extents.specs.declared.answers.Got.{Got}
use Rattle.ar_extents.specs.declared.answers.Got.TheVariants.{Read, Missing as ReadMissing, Broken as ReadBroken}
use Rattle.ar_extents.specs.declared.answers.Put.{Put}
use Rattle.ar_extents.specs.declared.answers.Put.TheVariants.{Written, Missing as PutMissing, Broken as PutBroken}
use Rattle.ar_extents.specs.declared.answers.PutNew.{PutNew}
use Rattle.ar_extents.specs.declared.answers.PutNew.TheVariants.{Written as NewWritten, GivenUp}
use Rattle.ar_extents.specs.Health.{rebuilt_disk, next_extent}
use Rattle.ar_extents.specs.declared.health.Health.{Health}
use Rattle.ar_extents.specs.Set.{SetState, disk_in, content, IsSound, IsMissing}
use Rattle.ar_extents.specs.Follows.{Faulted}

-- an access of disk `d` changes no other disk of the list
pub record OthersStay (olds news : List DiskState) (d : ℕ) : Type 0 where
  pub others : (x : ℕ) → x ≢ d → disk_in news x ≡ disk_in olds x
  pub len : length news ≡ length olds

-- the bytes are those of the row, and the extent was and still is usable
pub record IsRead (old new : SetState) (place : Place) (row : ℕ) (bytes : List ℕ) : Type 0 where
  pub bytes_are : bytes ≡ content old place row
  pub was_sound : IsSound old place
  pub sound : IsSound new place

-- what each outcome of a read means
abbrev pub Gets : SetState → SetState → Place → ℕ → List ℕ → Got → Type 0
Gets old new place row bytes Read = IsRead old new place row bytes
Gets old new place row bytes ReadMissing = IsMissing new place
Gets old new place row bytes ReadBroken = new.health ≡ Broken

-- what each outcome of a read of a part of a row means: that of a read of the row, of which the bytes are those from
-- sector `first` on
pub record GetsPart (old new : SetState) (place : Place) (row first : ℕ) (bytes : List ℕ) (answer : Got) : Type 0 where
  pub block : Gets old new place row (content old place row) answer
  pub part : answer ≡ Read → bytes ≡ part_at (content old place row) first (length bytes)

-- the row has these bytes now, and the extent was and still is usable
pub record IsWritten (old new : SetState) (place : Place) (row : ℕ) (bytes : List ℕ) : Type 0 where
  pub content_is : content new place row ≡ bytes
  pub was_sound : IsSound old place
  pub sound : IsSound new place

-- what each outcome of a write means
abbrev pub PutsRow : SetState → SetState → Place → ℕ → List ℕ → Put → Type 0
PutsRow old new place row bytes Written = IsWritten old new place row bytes
PutsRow old new place row bytes PutMissing = IsMissing new place
PutsRow old new place row bytes PutBroken = new.health ≡ Broken

-- the extent that is rebuilt next: the lowest of the new disk that isn't done
abbrev pub next_place : SetState → Place
next_place s = record { disk = rebuilt_disk s.health; extent = next_extent s.health }

-- the disk that was being rebuilt has faulted, and is `Out`
pub record IsGivenUp (old new : SetState) : Type 0 where
  pub faulted : Faulted old new (rebuilt_disk old.health)
  pub out : new.health ≡ Out (rebuilt_disk old.health)

-- what each outcome of a write to the extent that is rebuilt next means
abbrev pub PutsNew : SetState → SetState → ℕ → List ℕ → PutNew → Type 0
PutsNew old new row bytes NewWritten = (content new (next_place old) row ≡ bytes) × (new.health ≡ old.health)
PutsNew old new row bytes GivenUp = IsGivenUp old new

-- the read was done
abbrev pub is_read : Got → Bool
is_read Read = true
is_read ReadMissing = false
is_read ReadBroken = false

-- the write was done
abbrev pub is_written : Put → Bool
is_written Written = true
is_written PutMissing = false
is_written PutBroken = false

-- the write to a rebuilt extent was done
abbrev pub is_new_written : PutNew → Bool
is_new_written NewWritten = true
is_new_written GivenUp = false

-- the outcome of a read, and of a write, at a lost extent
abbrev pub lost_got : Health → Got
lost_got Whole = ReadMissing
lost_got (Out x) = ReadMissing
lost_got (Rebuilding x done) = ReadMissing
lost_got Broken = ReadBroken

abbrev pub lost_put : Health → Put
lost_put Whole = PutMissing
lost_put (Out x) = PutMissing
lost_put (Rebuilding x done) = PutMissing
lost_put Broken = PutBroken
