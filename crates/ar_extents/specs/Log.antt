-- The log of a set's accesses, and what the accesses of a call change.
use Rattle.std.specs.Prelude.{◌≡◌, ℕ, ◌==◌, ◌&&◌, ◌+◌, Bool, true, false, not, List, [], ◌∷◌, ◌++◌, length, count_by}
use Rattle.std.specs.Prelude.{if◌then◌else◌}
use Rattle.ar_disks.specs.declared.address.Place.{Place}
use Rattle.ar_extents.specs.declared.health.Health.{Health}
use Rattle.ar_extents.specs.declared.log.RowAccess.{RowAccess}
use Rattle.ar_extents.specs.declared.log.AccessKind.{AccessKind}
use Rattle.ar_extents.specs.declared.log.AccessKind.TheVariants.{Read, Write, Rebuild}
use Rattle.ar_extents.specs.Health.{after_fault}
use Rattle.ar_extents.specs.Set.{SetState, disk_in, faults_of, content}

-- the number of accesses that a disk has counted
abbrev pub accesses_of : SetState → ℕ → ℕ
accesses_of s d = (disk_in s.disks d).accesses

-- the access is one of this disk
abbrev pub is_on : ℕ → RowAccess → Bool
is_on d a = a.place.disk == d

-- the access is one of this disk, and faulted
abbrev pub is_fault_of : ℕ → RowAccess → Bool
is_fault_of d a = is_on d a && not a.answered

-- the access writes
abbrev pub is_writing : AccessKind → Bool
is_writing Read = false
is_writing Write = true
is_writing Rebuild = true

-- the access writes this row of this extent
abbrev pub writes_row : Place → ℕ → RowAccess → Bool
writes_row place row a =
    is_writing a.kind && (a.row == row && (a.place.disk == place.disk && a.place.extent == place.extent))

-- health after an access: only a fault changes it
abbrev pub health_then : Health → RowAccess → Health
health_then h a = if a.answered then h else after_fault h a.place.disk

-- health after some accesses, in order
abbrev pub health_after : Health → List RowAccess → Health
health_after h [] = h
health_after h (a ∷ rest) = health_after (health_then h a) rest

-- Between two states of a set exactly these accesses were made, in this order: the log has grown by them; each disk has
-- counted its own, and the faults among them; the faults have changed health; a disk without an access is unchanged;
-- and a row that none of them writes keeps its content. What a written row holds is said apart.
pub record AccountsFor (made : List RowAccess) (old new : SetState) : Type 0 where
  pub geometry : new.geometry ≡ old.geometry
  pub extents : new.extents ≡ old.extents
  pub count : length new.disks ≡ length old.disks
  pub loose : new.loose ≡ old.loose
  pub log : new.log ≡ old.log ++ made
  pub health : new.health ≡ health_after old.health made
  pub accesses : (d : ℕ) → accesses_of new d ≡ accesses_of old d + count_by (is_on d) made
  pub faults : (d : ℕ) → faults_of new d ≡ faults_of old d + count_by (is_fault_of d) made
  pub disks : (d : ℕ) → count_by (is_on d) made ≡ 0 → disk_in new.disks d ≡ disk_in old.disks d
  pub rows : (place : Place) (row : ℕ) → count_by (writes_row place row) made ≡ 0
      → content new place row ≡ content old place row
