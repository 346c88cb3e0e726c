-- The accesses of a rebuild, as plans. `i` is the position in the group of the member that is rebuilt.
use Rattle.std.specs.Prelude.{◌≡◌, ◌≢◌, ℕ, zero, suc, ◌<◌, List, [], ◌∷◌, ◌++◌, length}
use Rattle.ar_disks.specs.declared.address.Members.{Members}
use Rattle.ar_disks.specs.Geometry.{rows_of}
use Rattle.ar_disks.specs.Members.{member}
use Rattle.ar_extents.specs.Health.{IsRebuilding}
use Rattle.ar_extents.specs.declared.log.AccessKind.{AccessKind}
use Rattle.ar_extents.specs.declared.log.AccessKind.TheVariants.{Read, Rebuild as RebuildWrite}
use Rattle.ar_extents.specs.Set.{SetState}
use Rattle.ar_extents.specs.Access.{next_place}
use Rattle.ar_extents.specs.Changes.{with_done}
use Rattle.ar_extents.specs.Groups.{IsOutside}
use Rattle.ar_extents.specs.Plans.{Attempt, AccessPlan, Stop, read_at, rebuild_at, all_of, CarriesOut}
use Rattle.ar_mirror.specs.Slots.{partner_of}
use Rattle.ar_parity.specs.Plans.{three_reads}
use Rattle.ar_book.specs.declared.class.Class.{Class}
use Rattle.ar_book.specs.declared.class.Class.TheVariants.{Free, Mirrored, Parity}
use Rattle.ar_store.specs.Store.{StoreState, members_of, class_in}
use Rattle.ar_rebuild.specs.declared.step.Rebuild.{Rebuild}
use Rattle.ar_rebuild.specs.declared.step.Rebuild.TheVariants.{Rebuilt, Finished, Idle, GivenUp, Broken}

-- the attempts to rebuild a row: its sources are read, and only then it is written; of a free group nothing is rebuilt
abbrev pub row_attempts : Class → Members → ℕ → ℕ → List Attempt
row_attempts Free m i row = []
row_attempts Mirrored m i row = read_at (member m (partner_of i)) row ∷ rebuild_at (member m i) row ∷ []
row_attempts Parity m i row = three_reads m i row ++ rebuild_at (member m i) row ∷ []

-- the attempts to rebuild the rows below a number, in order
abbrev pub rows_attempts : Class → Members → ℕ → ℕ → List Attempt
rows_attempts class m i zero = []
rows_attempts class m i (suc n) = rows_attempts class m i n ++ row_attempts class m i n

-- the rebuild of a member's first `rows` rows: it ends at the first attempt that doesn't succeed
abbrev pub member_plan : Class → Members → ℕ → ℕ → AccessPlan
member_plan class m i rows = all_of (rows_attempts class m i rows) Stop

-- the extent that is rebuilt next is this member of this group
pub record IsMemberNext (s : StoreState) (g i : ℕ) : Type 0 where
  pub rebuilding : IsRebuilding s.disks.health
  pub there : g < length s.book.groups
  pub below : i < 4
  pub is : member (members_of s g) i ≡ next_place s.disks

-- The extent that is rebuilt next needs no write: no used group has it.
pub record HasNothingNext (s : StoreState) : Type 0 where
  pub rebuilding : IsRebuilding s.disks.health
  pub unused : (g : ℕ) → g < length s.book.groups → class_in s g ≢ Free
      → IsOutside (members_of s g) (next_place s.disks)

-- What was accessed to rebuild the extent that is rebuilt next: where it is a member of a group, this member's plan
-- was carried out; where no used group has it, or no disk is being rebuilt, nothing was accessed.
pub record AccessesNext (old : StoreState) (new : SetState) : Type 0 where
  pub plan : (g i : ℕ) → IsMemberNext old g i
      → CarriesOut (member_plan (class_in old g) (members_of old g) i (rows_of old.disks.geometry)) old.disks new
  pub nothing : HasNothingNext old → new ≡ old.disks
  pub idle : (IsRebuilding old.disks.health → ⊥) → new ≡ old.disks

-- the set once a step returns this: the extent counts as done, or not
abbrev pub after_answer : Rebuild → SetState → SetState
after_answer (Rebuilt extent left) s = with_done s
after_answer Finished s = with_done s
after_answer Idle s = s
after_answer GivenUp s = s
after_answer Broken s = s

-- A step made exactly these accesses; then the extent counts as done, if that is what it returns, and nothing else
-- happened.
pub record CarriesOutRebuild (old : StoreState) (answer : Rebuild) (new : SetState) : Type 0 where
  pub written : SetState
  pub accesses : AccessesNext old written
  pub done : new ≡ after_answer answer written

-- the kinds of the accesses by which a row is rebuilt, and by which n rows are
abbrev pub row_kinds : Class → List AccessKind
row_kinds Free = []
row_kinds Mirrored = Read ∷ RebuildWrite ∷ []
row_kinds Parity = Read ∷ Read ∷ Read ∷ RebuildWrite ∷ []

abbrev pub rows_kinds : Class → ℕ → List AccessKind
rows_kinds class zero = []
rows_kinds class (suc n) = rows_kinds class n ++ row_kinds class
