-- What follows from the plans of calls: disks fail only by faults, reads keep every row, and a failed array stays.
use Rattle.std.proofs.Common.{ℕ, zero, suc, ◌+◌, ◌≤◌, List, ◌++◌, Option, None, Some, inl, inr, sym, subst}
use Rattle.ar_disks.specs.declared.address.Key.{Key}
use Rattle.ar_disks.specs.declared.address.Members.{Members}
use Rattle.ar_disks.specs.declared.geometry.Geometry.{Geometry}
use Rattle.ar_disks.specs.Geometry.{rows_of}
use Rattle.ar_extents.specs.Set.{SetState}
use Rattle.ar_extents.specs.Follows.{Keeps, Anywhere}
use Rattle.ar_extents.specs.Plans.{Attempt, AccessPlan, CarriesOut, RebuildsNothing, each_of}
use Rattle.ar_extents.proofs.Follows.{keeps_refl}
use Rattle.ar_extents.proofs.Asking.{nothing_done}
use Rattle.ar_extents.proofs.Carried.{plan_follows, plan_loose, plan_lost, rebuilds_neither}
use Rattle.ar_mirror.proofs.Reported.{read_reported}
use Rattle.ar_parity.specs.Plans.{writes_from, stripes_from}
use Rattle.ar_parity.proofs.Reported.{slot_read as parity_reported}
use Rattle.ar_book.specs.declared.class.Class.{Class}
use Rattle.ar_book.specs.declared.class.Class.TheVariants.{Free, Mirrored, Parity}
use Rattle.ar_book.specs.declared.class.Slot.{Slot}
use Rattle.ar_book.specs.Tables.{home, free_groups}
use Rattle.ar_book.specs.Choices.{IsLowestFree}
use Rattle.ar_store.specs.Store.{StoreState, members_of, class_in}
use Rattle.ar_store.specs.Calls.{IsAccessed, Opens}
use Rattle.ar_store.specs.declared.open.Opening.{Opening}
use Rattle.ar_store.specs.declared.open.Opening.TheVariants.{Opened, Idle, Broken as NotOpened}
use Rattle.ar_store.proofs.Fills.{accessed_refl}
use Rattle.ar_store.specs.Plans.{slot_read, slot_write, home_read, get_plan, write_of, move_plan, open_plan}

pub plan_accessed : (plan : AccessPlan) (a b : SetState) → RebuildsNothing plan → CarriesOut plan a b → IsAccessed a b
plan_accessed plan a b none carried =
    record {
      follows = plan_follows plan a b carried;
      loose = plan_loose plan a b carried;
      lost = plan_lost plan a b none carried;
    }

pub read_rebuilds : (c : Class) (g : Geometry) (m : Members) (i : ℕ) → RebuildsNothing (slot_read c g m i)
read_rebuilds Free g m i = tt
read_rebuilds Mirrored g m i = (tt, tt, (tt, tt, tt))
read_rebuilds Parity g m i = (tt, tt, (tt, (tt, (tt, tt, tt), tt), tt))

pub write_rebuilds : (c : Class) (g : Geometry) (m : Members) (i : ℕ) → RebuildsNothing (slot_write c g m i)
write_rebuilds Free g m i = tt
write_rebuilds Mirrored g m i = (tt, (tt, tt, tt), (tt, tt, tt))
write_rebuilds Parity g m i =
    ((tt, tt, tt), (tt, (tt, (tt, (tt, tt, tt), (tt, tt, tt)), (tt, tt, tt)), (tt, (tt, (tt, tt, tt), tt), tt)))

members_rebuild : (m : Members) (row i n : ℕ) (ts : List Attempt) → RebuildsNothing (each_of ts)
    → RebuildsNothing (each_of (writes_from m row i n ++ ts))
members_rebuild m row i zero ts rest = rest
members_rebuild m row i (suc n) ts rest =
    let more = members_rebuild m row (i + 1) n ts rest in (tt, more, more)

stripes_rebuild : (m : Members) (row n : ℕ) → RebuildsNothing (each_of (stripes_from m row n))
stripes_rebuild m row zero = tt
stripes_rebuild m row (suc n) = members_rebuild m row 0 4 (stripes_from m (row + 1) n) (stripes_rebuild m (row + 1) n)

open_rebuilds : (c : Class) (g : Geometry) (m : Members) → RebuildsNothing (open_plan c g m)
open_rebuilds Free g m = tt
open_rebuilds Mirrored g m = tt
open_rebuilds Parity g m = stripes_rebuild m 0 (rows_of g)

home_rebuilds : (s : StoreState) (h : Option Slot) → RebuildsNothing (home_read s h)
home_rebuilds s None = tt
home_rebuilds s (Some slot) = read_rebuilds (class_in s slot.group) s.disks.geometry (members_of s slot.group) slot.slot

-- a get, a move and an opening
pub get_accessed : (s : StoreState) (k : Key) (b : SetState) → CarriesOut (get_plan s k) s.disks b
    → IsAccessed s.disks b
get_accessed s k b carried = plan_accessed (get_plan s k) s.disks b (home_rebuilds s (home s.book k)) carried

pub move_accessed : (s : StoreState) (k : Key) (to : Slot) (b : SetState) → CarriesOut (move_plan s k to) s.disks b
    → IsAccessed s.disks b
move_accessed s k to b carried =
    plan_accessed (move_plan s k to) s.disks b
    (rebuilds_neither (get_plan s k) (write_of s to) (home_rebuilds s (home s.book k))
    (write_rebuilds (class_in s to.group) s.disks.geometry (members_of s to.group) to.slot)) carried

pub open_accessed : (c : Class) (g : Geometry) (m : Members) (a b : SetState) → CarriesOut (open_plan c g m) a b
    → IsAccessed a b
open_accessed c g m a b carried = plan_accessed (open_plan c g m) a b (open_rebuilds c g m) carried

-- what was opened, if anything
pub opens_accessed : (a b : StoreState) (c : Class) (o : Opening) → Opens a b c o
    → ((g : ℕ) → 2 ≤ free_groups a.book → IsLowestFree a.book g
    → CarriesOut (open_plan c a.disks.geometry (members_of a g)) a.disks b.disks)
    → IsAccessed a.disks b.disks
opens_accessed a b c (Opened g) opening plan =
    open_accessed c a.disks.geometry (members_of a g) a.disks b.disks (plan g opening.many opening.lowest)
opens_accessed a b c Idle none plan =
    subst (λ (s : StoreState). IsAccessed a.disks s.disks) (sym none.same) (accessed_refl a.disks)
opens_accessed a b c NotOpened cut plan =
    elim cut.tables [
      | inl was ↦ subst (λ (s : StoreState). IsAccessed a.disks s.disks) (sym was.same) (accessed_refl a.disks)
      | inr opening ↦
          open_accessed c a.disks.geometry (members_of a opening.0) a.disks b.disks
          (plan opening.0 opening.1.many opening.1.lowest)
    ]

pub slot_keeps : (c : Class) (m : Members) (i : ℕ) (a b : SetState) → CarriesOut (slot_read c a.geometry m i) a b
    → Keeps Anywhere a b
slot_keeps Free m i a b carried =
    subst (λ (s : SetState). Keeps Anywhere a s) (nothing_done a b carried) (keeps_refl Anywhere a)
slot_keeps Mirrored m i a b carried = (read_reported m i a b carried).keeps
slot_keeps Parity m i a b carried = (parity_reported m i a b carried).keeps

home_keeps : (s : StoreState) (h : Option Slot) (b : SetState) → CarriesOut (home_read s h) s.disks b
    → Keeps Anywhere s.disks b
home_keeps s None b carried =
    subst (λ (x : SetState). Keeps Anywhere s.disks x) (nothing_done s.disks b carried) (keeps_refl Anywhere s.disks)
home_keeps s (Some slot) b carried =
    slot_keeps (class_in s slot.group) (members_of s slot.group) slot.slot s.disks b carried

-- a get changes no row
pub get_keeps : (s : StoreState) (k : Key) (b : SetState) → CarriesOut (get_plan s k) s.disks b
    → Keeps Anywhere s.disks b
get_keeps s k b carried = home_keeps s (home s.book k) b carried
