-- Background maintenance, step by step.
use Rattle.std.specs.Prelude.{◌≡◌, ℕ, ◌+◌, ◌*◌, Bool, true, false, not, ◌&&◌, ◌==◌, nat_lt, nat_le, min, if◌then◌else◌}
use Rattle.std.specs.Prelude.{Option, Some, None}
use Rattle.ar_book.specs.Tables.{free_groups}
use Rattle.ar_volume.specs.Image.{is_broken, image}
use Rattle.ar_volume.specs.Sectors.{Address}
use Rattle.ar_served.specs.declared.operation.Task.{Task}
use Rattle.ar_served.specs.declared.operation.Task.TheVariants.{Flush, Rebuild, Clean, Balance, Demote}
use Rattle.ar_served.specs.Kept.{KeptState}
use Rattle.ar_served.specs.Served.{Works}
use Rattle.ar_sessions.specs.declared.background.Rotation.{Rotation}

-- the next task of the rotation
abbrev pub task_after : Task → Task
task_after Flush = Rebuild
task_after Rebuild = Clean
task_after Clean = Balance
task_after Balance = Demote
task_after Demote = Flush

-- whether a task is due: blocks are demoted only while fewer than three groups are free
abbrev pub is_due : Task → ℕ → Bool
is_due Flush free = true
is_due Rebuild free = true
is_due Clean free = true
is_due Balance free = true
is_due Demote free = nat_lt free 3

-- whether a step of a task may copy a whole extent while it holds the lock
abbrev pub is_long : Task → Bool
is_long Flush = false
is_long Rebuild = true
is_long Clean = false
is_long Balance = true
is_long Demote = false

-- whether the maintenance rests: the five steps of a round did nothing, and nothing has happened to the array since the
-- first of them. After 64 pauses it works all the same, since a step that lacked memory may have it then.
abbrev pub is_resting : Rotation → ℕ → Bool
is_resting rotation events = nat_le 5 rotation.turns && nat_lt rotation.turns 69 && rotation.seen == events

-- the rotation before a step: after a round that did nothing another one begins
abbrev pub begun : Rotation → ℕ → Rotation
begun rotation events = if nat_lt rotation.turns 5 then rotation else record rotation { turns = 0; seen = events }

-- the rotation after a pause of the idle: the next one is twice as long, up to 16 milliseconds
abbrev pub paused : Rotation → Rotation
paused rotation = record rotation { turns = rotation.turns + 1; pause = min (rotation.pause * 2) 16 }

-- the rotation after a step that did something, `events` with it, or nothing
abbrev pub stepped : Rotation → Bool → ℕ → Rotation
stepped rotation true events = record { task = task_after rotation.task; turns = 0; pause = 1; seen = events }
stepped rotation false events =
    if nat_lt (rotation.turns + 1) 5 then record rotation
    { task = task_after rotation.task; turns = rotation.turns + 1 }
    else paused (record rotation { task = task_after rotation.task })

-- the milliseconds of the pause after a step, if there is one: after a long one that did something, so that hosts go on
-- meanwhile, and after the last one of a round that did nothing
abbrev pub pause_after : Rotation → Bool → Option ℕ
pause_after rotation true = if is_long rotation.task then Some 4 else None
pause_after rotation false = if nat_lt (rotation.turns + 1) 5 then None else Some rotation.pause

-- A step, and whether it returns that it did something: a task that is due is one step of the array, one that isn't
-- changes nothing. The history and its capacity stay, and so do the contents of all units, unless the array has failed.
pub record TakesTurn (old : KeptState) (task : Task) (reported : Bool) (new : KeptState) : Type 0 where
  pub due : is_due task (free_groups old.array.store.book) ≡ true → Works task old reported new
  pub idle : is_due task (free_groups old.array.store.book) ≡ false → (reported ≡ false) × (new ≡ old)
  pub history : new.history ≡ old.history
  pub room : new.room ≡ old.room
  pub images : is_broken new.array ≡ false → (a : Address) → image new.array a ≡ image old.array a

-- The next task of the rotation was a step of the maintenance: the rotation after it, and the pause.
pub record Performs (old : KeptState) (rotation : Rotation) (pause : Option ℕ) (new : KeptState)
    (next : Rotation) : Type 0 where
  pub reported : Bool
  pub turn : TakesTurn old rotation.task reported new
  pub next_is : next ≡ stepped rotation reported new.events
  pub pause_is : pause ≡ pause_after rotation reported

-- One pass of the maintenance: which task was done, which comes next, and which pause follows, in milliseconds. While
-- it rests, none is done: the array stays, and the next pass follows a pause.
pub record MakesPass (old : KeptState) (rotation : Rotation) (pause : Option ℕ) (new : KeptState)
    (next : Rotation) : Type 0 where
  pub rests : is_resting rotation old.events ≡ true
      → (new ≡ old) × (next ≡ paused rotation) × (pause ≡ Some rotation.pause)
  pub works : is_resting rotation old.events ≡ false → Performs old (begun rotation old.events) pause new next
