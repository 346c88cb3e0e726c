-- What a live array records, and what it leaves unchanged.
use Rattle.std.specs.Prelude.{◌≡◌, ◌-◌, Bool, true, false, List, length, take, Option, Some, None, Ok}
use Rattle.ar_extents.specs.Follows.{Keeps, Anywhere}
use Rattle.ar_volume.specs.Image.{ArrayState}
use Rattle.ar_core.specs.Events.{Event, Outcome}
use Rattle.ar_core.specs.declared.event.EventOf.TheVariants as events
use Rattle.ar_core.specs.declared.event.OutcomeOf.TheVariants as outcomes
use Rattle.ar_served.specs.declared.entry.Entry.{Entry}
use Rattle.ar_served.specs.declared.entry.Entry.TheVariants as entries

-- a history without its last entry
abbrev pub before_last : List Entry → List Entry
before_last history = take (length history - 1) history

-- the entry of a create, resize or delete, if it is done
abbrev pub entry_asked : Event → Option Entry
entry_asked (events.Make addr sectors) = Some (entries.Make addr sectors)
entry_asked (events.Grow addr sectors) = Some (entries.Grow addr sectors)
entry_asked (events.Remove addr) = Some (entries.Remove addr)
entry_asked event = None

-- a create, resize or delete was done
abbrev pub is_done : Outcome → Bool
is_done (outcomes.Make (Ok done)) = true
is_done (outcomes.Grow (Ok done)) = true
is_done (outcomes.Remove (Ok done)) = true
is_done outcome = false

-- no table, no cache entry and no row of any disk has changed
pub record LeavesStorage (old new : ArrayState) : Type 0 where
  pub tables : new.store.book ≡ old.store.book
  pub cache : new.cache ≡ old.cache
  pub rows : Keeps Anywhere old.store.disks new.store.disks
