-- Plans of accesses: which accesses a call makes, in which order, and how it goes on where a disk faults.
use Rattle.std.specs.Prelude.{◌≡◌, ℕ, Bool, true, false, List, [], ◌∷◌, if◌then◌else◌}
use Rattle.ar_disks.specs.declared.address.Place.{Place}
use Rattle.ar_extents.specs.declared.health.Health.{Health}
use Rattle.ar_extents.specs.declared.health.Health.TheVariants.{Whole, Out, Rebuilding, Broken}
use Rattle.ar_extents.specs.declared.log.RowAccess.{RowAccess}
use Rattle.ar_extents.specs.declared.log.AccessKind.{AccessKind}
use Rattle.ar_extents.specs.declared.log.AccessKind.TheVariants.{Read, Write, Rebuild}
use Rattle.ar_extents.specs.Health.{is_lost, is_missing, after_fault}
use Rattle.ar_extents.specs.Set.{SetState, faults_of}
use Rattle.ar_extents.specs.Log.{AccountsFor}

-- an access to try
pub record Attempt : Type 0 where
  pub place : Place
  pub row : ℕ
  pub kind : AccessKind

-- the attempts to read a row, to write it, and to write it on the disk that is being rebuilt
abbrev pub read_at : Place → ℕ → Attempt
read_at p r = record { place = p; row = r; kind = Read }

abbrev pub write_at : Place → ℕ → Attempt
write_at p r = record { place = p; row = r; kind = Write }

abbrev pub rebuild_at : Place → ℕ → Attempt
rebuild_at p r = record { place = p; row = r; kind = Rebuild }

-- no disk is being rebuilt
abbrev pub rebuilds_none : Health → Bool
rebuilds_none Whole = true
rebuilds_none (Out x) = true
rebuilds_none (Rebuilding x done) = false
rebuilds_none Broken = true

-- An attempt is skipped, at no access, where its extent is lost; a write to the extent that is rebuilt next, where no
-- disk is being rebuilt.
abbrev pub is_skipped : Health → AccessKind → Place → Bool
is_skipped h Read p = is_lost h p.disk p.extent
is_skipped h Write p = is_lost h p.disk p.extent
is_skipped h Rebuild p = rebuilds_none h

abbrev pub skips : Health → Attempt → Bool
skips h t = is_skipped h t.kind t.place

-- the access of an attempt that isn't skipped
abbrev pub access_of : Attempt → Bool → RowAccess
access_of t answered = record { place = t.place; row = t.row; kind = t.kind; answered = answered }

-- the accesses of one attempt: none where it is skipped, else one
abbrev pub accesses_for : Attempt → Bool → Health → List RowAccess
accesses_for t answered h = if skips h t then [] else access_of t answered ∷ []

-- One attempt was made: exactly one access, which returned `answered`; or none where the attempt is skipped, and then
-- `answered` is false.
pub record Attempts (t : Attempt) (answered : Bool) (old new : SetState) : Type 0 where
  pub skipped : skips old.health t ≡ true → answered ≡ false
  pub made : AccountsFor (accesses_for t answered old.health) old new

-- A plan: stop; or try an access, and go on with the first plan if it succeeds, else with the second; or go on, at no
-- access, with the first plan if an extent is missing, else with the second.
pub data AccessPlan : Type 0 where
  Stop : AccessPlan
  Try : Attempt → AccessPlan → AccessPlan → AccessPlan
  IfMissing : Place → AccessPlan → AccessPlan → AccessPlan

-- the one plan, and then the other
abbrev pub both_of : AccessPlan → AccessPlan → AccessPlan
both_of Stop last = last
both_of (Try t next other) last = Try t (both_of next last) (both_of other last)
both_of (IfMissing p next other) last = IfMissing p (both_of next last) (both_of other last)

-- no attempt of the plan is one to write the disk that is being rebuilt
abbrev pub UsesOnly : AccessKind → Type 0
UsesOnly Read = Unit {0}
UsesOnly Write = Unit {0}
UsesOnly Rebuild = ⊥

abbrev pub RebuildsNothing : AccessPlan → Type 0
RebuildsNothing Stop = Unit {0}
RebuildsNothing (Try t next other) = UsesOnly t.kind × RebuildsNothing next × RebuildsNothing other
RebuildsNothing (IfMissing p next other) = RebuildsNothing next × RebuildsNothing other

-- these attempts in turn, as long as they succeed; after the last the plan goes on
abbrev pub all_of : List Attempt → AccessPlan → AccessPlan
all_of [] next = next
all_of (t ∷ rest) next = Try t (all_of rest next) Stop

-- each of these attempts in turn, whether or not the others succeed
abbrev pub each_of : List Attempt → AccessPlan
each_of [] = Stop
each_of (t ∷ rest) = Try t (each_of rest) (each_of rest)

-- These attempts were made in turn up to the first that didn't succeed; the flag says whether all of them did.
pub data AttemptsAll : List Attempt → Bool → SetState → SetState → Type 0 where
  all_done : (s : SetState) → AttemptsAll [] true s s
  one_done : (t : Attempt) (rest : List Attempt) (done : Bool) (old between new : SetState)
      → Attempts t true old between → AttemptsAll rest done between new
      → AttemptsAll (t ∷ rest) done old new
  one_failed : (t : Attempt) (rest : List Attempt) (old new : SetState) → Attempts t false old new
      → AttemptsAll (t ∷ rest) false old new

-- The plan was carried out: its attempts were made one after the other, each going on by whether it succeeded, and
-- nothing else happened.
pub data CarriesOut : AccessPlan → SetState → SetState → Type 0 where
  stops : (s : SetState) → CarriesOut Stop s s
  goes_on : (t : Attempt) (next other : AccessPlan) (old between new : SetState) → Attempts t true old between
      → CarriesOut next between new
      → CarriesOut (Try t next other) old new
  falls_back : (t : Attempt) (next other : AccessPlan) (old between new : SetState) → Attempts t false old between
      → CarriesOut other between new
      → CarriesOut (Try t next other) old new
  without : (p : Place) (next other : AccessPlan) (old new : SetState)
      → is_missing old.health p.disk p.extent ≡ true → CarriesOut next old new
      → CarriesOut (IfMissing p next other) old new
  with_it : (p : Place) (next other : AccessPlan) (old new : SetState)
      → is_missing old.health p.disk p.extent ≡ false → CarriesOut other old new
      → CarriesOut (IfMissing p next other) old new

-- these accesses are a path through the plan, from this health on
pub data IsPath : AccessPlan → Health → List RowAccess → Type 0 where
  stopped : (h : Health) → IsPath Stop h []
  skipped : (t : Attempt) (next other : AccessPlan) (h : Health) (rest : List RowAccess) → skips h t ≡ true
      → IsPath other h rest
      → IsPath (Try t next other) h rest
  answered : (t : Attempt) (next other : AccessPlan) (h : Health) (rest : List RowAccess) → skips h t ≡ false
      → IsPath next h rest
      → IsPath (Try t next other) h (access_of t true ∷ rest)
  faulted : (t : Attempt) (next other : AccessPlan) (h : Health) (rest : List RowAccess) → skips h t ≡ false
      → IsPath other (after_fault h t.place.disk) rest → IsPath (Try t next other) h (access_of t false ∷ rest)
  path_without : (p : Place) (next other : AccessPlan) (h : Health) (rest : List RowAccess)
      → is_missing h p.disk p.extent ≡ true → IsPath next h rest → IsPath (IfMissing p next other) h rest
  path_with : (p : Place) (next other : AccessPlan) (h : Health) (rest : List RowAccess)
      → is_missing h p.disk p.extent ≡ false → IsPath other h rest → IsPath (IfMissing p next other) h rest

-- a path through the plan accounts for all that happened
pub record Accounted (plan : AccessPlan) (old new : SetState) : Type 0 where
  pub made : List RowAccess
  pub path : IsPath plan old.health made
  pub accounts : AccountsFor made old new

-- no disk has faulted between the two states
pub record NoneFaults (old new : SetState) : Type 0 where
  pub faults : (d : ℕ) → faults_of new d ≡ faults_of old d

-- the accesses of the plan where none faults
abbrev pub planned : AccessPlan → Health → List RowAccess
planned Stop h = []
planned (Try t next other) h = if skips h t then planned other h else access_of t true ∷ planned next h
planned (IfMissing p next other) h = if is_missing h p.disk p.extent then planned next h else planned other h
