-- What has happened to an array between two looks at it, by its health.
use Rattle.std.specs.Prelude.{ℕ, ◌==◌, nat_lt, if◌then◌else◌, List, [], ◌∷◌, ◌++◌, take}
use Rattle.ar_status.specs.declared.events.EventKind.{EventKind}
use Rattle.ar_status.specs.declared.events.EventKind.TheVariants.{DiskFailed, DiskReplaced, DiskRebuilt, ArrayFailed}
use Rattle.ar_status.specs.declared.events.RecentEvent.{RecentEvent}
use Rattle.ar_status.specs.declared.events.RecentEvents.{RecentEvents}
use Rattle.ar_status.specs.declared.status.ArrayHealth.{ArrayHealth}
use Rattle.ar_status.specs.declared.status.ArrayHealth.TheVariants.{Whole, Out, Rebuilding, Broken}

-- the events of a list, the newest first
abbrev pub events_in : RecentEvents → List RecentEvent
events_in recent = take recent.count recent.list

-- the events after these have happened, one after another: the newest comes first, and 50 are kept
abbrev pub listed_with : ℕ → List EventKind → List RecentEvent → List RecentEvent
listed_with seconds [] events = events
listed_with seconds (kind ∷ kinds) events =
    listed_with seconds kinds (take 50 ((record { seconds = seconds; kind = kind }) ∷ events))

-- what leads to a health from that of an array with all disks
abbrev pub falls_to : ArrayHealth → List EventKind
falls_to Whole = []
falls_to (Out disk) = DiskFailed disk ∷ []
falls_to (Rebuilding disk done) = DiskFailed disk ∷ DiskReplaced disk ∷ []
falls_to Broken = ArrayFailed ∷ []

-- what leads from a health to that of an array with all disks; nothing does from a failed array
abbrev pub recovers_from : ArrayHealth → List EventKind
recovers_from Whole = []
recovers_from (Out disk) = DiskReplaced disk ∷ DiskRebuilt disk ∷ []
recovers_from (Rebuilding disk done) = DiskRebuilt disk ∷ []
recovers_from Broken = []

-- The fewest events that lead from a health to another. A failed array stays failed. While one disk is replaced and
-- rebuilt, only its own steps have happened; fewer extents are done if it has failed and was replaced again.
abbrev pub between : ArrayHealth → ArrayHealth → List EventKind
between Broken new = []
between old Broken = ArrayFailed ∷ []
between (Out was) (Out disk) = if was == disk then [] else recovers_from (Out was) ++ falls_to (Out disk)
between (Out was) (Rebuilding disk done) =
    if was == disk then DiskReplaced disk ∷ [] else recovers_from (Out was) ++ falls_to (Rebuilding disk done)
between (Rebuilding was done) (Out disk) =
    if was == disk then DiskFailed disk ∷ [] else recovers_from (Rebuilding was done) ++ falls_to (Out disk)
between (Rebuilding was done) (Rebuilding disk more) =
    if was == disk then (if nat_lt more done then falls_to (Rebuilding disk more) else [])
    else recovers_from (Rebuilding was done) ++ falls_to (Rebuilding disk more)
between old new = recovers_from old ++ falls_to new
