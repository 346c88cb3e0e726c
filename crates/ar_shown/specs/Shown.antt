-- What the pages show of an array with its history.
use Rattle.std.specs.Prelude.{◌≡◌, ℕ, ◌-◌, ◌++◌, List, length, map, Option, Some, None, option_map}
use Rattle.std.specs.List.{range_with_len}
use Rattle.ar_disks.specs.Geometry.{block_len_of, rows_of}
use Rattle.ar_extents.specs.declared.health.Health.{Health}
use Rattle.ar_extents.specs.declared.health.Health.TheVariants as health
use Rattle.ar_book.specs.Tables.{free_groups, room}
use Rattle.ar_volume.specs.Image.{ArrayState, geometry_of}
use Rattle.ar_volume.specs.declared.blocks.Counters.{Counters}
use Rattle.ar_served.specs.declared.counts.Counts.{Counts}
use Rattle.ar_served.specs.declared.counts.HostCounts.{HostCounts}
use Rattle.ar_served.specs.declared.counts.OperationCounts.{OperationCounts}
use Rattle.ar_served.specs.declared.counts.ReplyCounts.{ReplyCounts}
use Rattle.ar_served.specs.declared.counts.TaskCounts.{TaskCounts}
use Rattle.ar_served.specs.declared.store_status.StoreState.{StoreState}
use Rattle.ar_served.specs.declared.store_status.StoreState.TheVariants as states
use Rattle.ar_served.specs.declared.store_status.StoreStatus.{StoreStatus}
use Rattle.ar_shown.specs.Lengths.{lengths_in}
use Rattle.ar_shown.specs.declared.shown.Beside.{Beside}
use Rattle.ar_status.specs.Changes.{between, events_in, listed_with}
use Rattle.ar_status.specs.declared.changes.EventLog.{EventLog}
use Rattle.ar_status.specs.declared.events.EventKind.TheVariants.{DiskAdded}
use Rattle.ar_status.specs.declared.events.RecentEvents.{RecentEvents}
use Rattle.ar_status.specs.declared.status.ArrayCounters.{ArrayCounters}
use Rattle.ar_status.specs.declared.status.ArrayHealth.{ArrayHealth}
use Rattle.ar_status.specs.declared.status.ArrayHealth.TheVariants as watched
use Rattle.ar_status.specs.declared.status.ArrayStatus.{ArrayStatus}
use Rattle.ar_status.specs.declared.status.HostCounters.{HostCounters}
use Rattle.ar_status.specs.declared.status.MaintenanceSteps.{MaintenanceSteps}
use Rattle.ar_status.specs.declared.status.OperationCounters.{OperationCounters}
use Rattle.ar_status.specs.declared.status.ReplyCounters.{ReplyCounters}
use Rattle.ar_status.specs.declared.status.StoreHealth.{StoreHealth}
use Rattle.ar_status.specs.declared.status.StoreHealth.TheVariants as shown
use Rattle.ar_status.specs.declared.status.StoreNumbers.{StoreNumbers}

-- the health, as the pages have it
abbrev pub health_watched : Health → ArrayHealth
health_watched health.Whole = watched.Whole
health_watched (health.Out disk) = watched.Out disk
health_watched (health.Rebuilding disk done) = watched.Rebuilding disk done
health_watched health.Broken = watched.Broken

-- the disks that an array has lost, as the pages have them: none, unless it has failed
abbrev pub lost_watched : Option (List ℕ) → Health → Option (List ℕ)
lost_watched None state = None
lost_watched (Some disks) health.Broken = Some disks
lost_watched (Some disks) state = None

-- whether a store takes what is committed to it, as the pages have it
abbrev pub store_health_watched : StoreState → StoreHealth
store_health_watched states.Sound = shown.Sound
store_health_watched states.Degraded = shown.Degraded
store_health_watched states.Failing = shown.Failing
store_health_watched states.GivenUp = shown.GivenUp

-- a store, as the pages have it
abbrev pub store_watched : StoreStatus → StoreNumbers
store_watched store = record {
  state = store_health_watched store.state;
  log_bytes = store.log_bytes;
  waiting_bytes = store.waiting_bytes;
  commits = store.commits;
  checkpoints = store.checkpoints;
}

-- replies by status, as the pages have them
abbrev pub replies_watched : ReplyCounts → ReplyCounters
replies_watched counts = record { good = counts.good; check_condition = counts.check; busy = counts.busy }

-- replies by operation, as the pages have them
abbrev pub operations_watched : OperationCounts → OperationCounters
operations_watched counts = record {
  test_unit_ready = replies_watched counts.ready;
  inquiry = replies_watched counts.inquiry;
  read_capacity = replies_watched counts.capacity;
  read = replies_watched counts.read;
  write = replies_watched counts.write;
  other = replies_watched counts.other;
}

-- what was done for a host, as the pages have it
abbrev pub host_watched : HostCounts → HostCounters
host_watched counts = record {
  commands = counts.commands;
  read_bytes = counts.read;
  written_bytes = counts.written;
  replies = operations_watched counts.replies;
}

-- maintenance steps, as the pages have them
abbrev pub steps_watched : TaskCounts → MaintenanceSteps
steps_watched counts = record {
  flush = counts.flushed;
  demote = counts.demoted;
  clean = counts.cleaned;
  balance = counts.balanced;
  rebuild = counts.rebuilt;
}

-- what else the array did, as the pages have it
abbrev pub counters_watched : Counters → ArrayCounters
counters_watched counters = record {
  promotions = counters.promotions;
  squeezes = counters.squeezes;
  cache_hits = counters.cache_hits;
  destages = counters.destages;
  discards = counters.discards;
}

-- The status is that of this array with these counts, `stored` entries of whose history are stored, with this store,
-- these events, and what is shown beside it. The memory of the history, what was counted of disks, and the counters of
-- what else the array did, are not specified.
pub record IsStatusOf (array : ArrayState) (counts : Counts) (stored : ℕ) (store : Option StoreStatus)
    (latest : RecentEvents) (beside : Beside) (status : ArrayStatus) : Type 0 where
  pub name : status.name ≡ beside.name
  pub uptime : status.uptime_seconds ≡ beside.seconds
  pub health : status.health ≡ health_watched array.store.disks.health
  pub lost_is : status.lost_disks ≡ lost_watched beside.lost array.store.disks.health
  pub disks : status.disks ≡ length array.store.disks.disks
  pub extents : status.extents ≡ array.store.disks.extents
  pub rows : status.extent_rows ≡ rows_of (geometry_of array)
  pub free_groups : status.free_groups ≡ free_groups array.store.book
  pub block_bytes : status.block_bytes ≡ block_len_of (geometry_of array)
  pub room : status.room_blocks ≡ room array.store.book
  pub units : status.unit_sectors ≡ lengths_in array.store.book
  pub cached : status.cached_blocks ≡ length array.cache.entries
  pub entries : status.history_entries ≡ stored
  pub store_is : status.store ≡ option_map store_watched store
  pub hosts : status.hosts ≡ map host_watched counts.hosts
  pub sessions_are : status.sessions ≡ beside.sessions
  pub refused : status.refused_logins ≡ beside.refused
  pub latencies : status.latencies ≡ beside.latencies
  pub steps : status.steps ≡ steps_watched counts.tasks
  pub events : status.events ≡ latest
  pub samples : status.samples ≡ beside.samples

-- the array was compared with how it was seen last: its health, and its disks; and what leads from one look to the
-- other was listed
pub record SeesArray (seconds : ℕ) (array : ArrayState) (old new : EventLog) : Type 0 where
  pub health : new.health ≡ health_watched array.store.disks.health
  pub disks : new.disks ≡ length array.store.disks.disks
  pub events :
      events_in new.events
      ≡ listed_with seconds
      (between old.health (health_watched array.store.disks.health)
      ++ map DiskAdded (range_with_len old.disks (length array.store.disks.disks - old.disks)))
      (events_in old.events)
