-- What a put and a squeeze access: their plans, by the way on which a slot was found.
use Rattle.std.proofs.Common.{◌≡◌, ℕ, zero, suc, Option, None, Some, refl, sym, ap, subst, ◌∙◌}
use Rattle.ar_disks.specs.declared.address.Key.{Key}
use Rattle.ar_disks.specs.declared.address.Members.{Members}
use Rattle.ar_extents.specs.declared.health.Health.TheVariants.{Broken as AllBroken}
use Rattle.ar_extents.specs.Set.{SetState}
use Rattle.ar_extents.specs.Plans.{CarriesOut}
use Rattle.ar_extents.proofs.Plans.{carries_broken, both_carried}
use Rattle.ar_book.specs.declared.class.Class.{Class}
use Rattle.ar_book.specs.declared.class.Class.TheVariants.{Parity}
use Rattle.ar_book.specs.declared.class.Slot.{Slot}
use Rattle.ar_book.specs.Tables.{Tables, group_in, class_of, home}
use Rattle.ar_book.specs.Changes.{opened, slot_at, moved_from, moved_first}
use Rattle.ar_book.specs.Choices.{IsLowestFree}
use Rattle.ar_book.proofs.AfterAssign.{assigned_members}
use Rattle.ar_book.proofs.AfterOpen.{opened_members}
use Rattle.ar_store.specs.Store.{StoreState, members_of, class_in}
use Rattle.ar_store.specs.Placing.{squeezed}
use Rattle.ar_store.specs.Plans.{slot_write, home_read, get_plan, write_of, move_plan, fill_plan, open_plan, WritesSlot}
use Rattle.ar_store.proofs.Squeezing.{same_free}

-- the members of groups stay where blocks move, and in a squeeze
from_members : (t : Tables) (o : Option Key) (s : Slot) (g : ℕ)
    → (group_in (moved_from t o s).groups g).members ≡ (group_in t.groups g).members
from_members t None s g = refl
from_members t (Some k) s g = assigned_members t k s g

pub first_members : (t : Tables) (from to n g : ℕ)
    → (group_in (moved_first t from to n).groups g).members ≡ (group_in t.groups g).members
first_members t from to zero g = refl
first_members t from to (suc n) g =
    from_members (moved_first t from to n) _ (slot_at to n) g ∙ first_members t from to n g

pub squeezed_members : (t : Tables) (from to g : ℕ) → (group_in (squeezed t from to).groups g).members
    ≡ (group_in t.groups g).members
squeezed_members t from to g = first_members (opened t to Parity) from to _ g ∙ opened_members t to Parity g

-- on a failed array a write of a slot is no access
pub broken_slot : (class : Class) (a b : SetState) (m : Members) (i : ℕ) → a.health ≡ AllBroken → b ≡ a
    → WritesSlot class a b m i
broken_slot class a b m i broken same =
    subst (λ (x : SetState). WritesSlot class a x m i) (sym same) (record {
      plan = carries_broken (slot_write class a.geometry m i) a broken;
      beside = λ k block inside ne has. has;
    })

-- a block's home was read
pub home_plan : (a : StoreState) (k : Key) (s : Slot) (b : SetState) → home a.book k ≡ Some s
    → CarriesOut (home_read a (Some s)) a.disks b
    → CarriesOut (get_plan a k) a.disks b
home_plan a k s b placed read = let P : Option Slot → Type 0 =
    λ h. CarriesOut (home_read a h) a.disks b in subst P (sym placed) read

-- A slot was read, and then another was written, where the tables stayed.
pub moved_by : (a b : StoreState) (c : SetState) (k : Key) (from to : Slot) → home a.book k ≡ Some from
    → b.book ≡ a.book → b.disks.geometry ≡ a.disks.geometry
    → CarriesOut (home_read a (Some from)) a.disks b.disks → CarriesOut (write_of b to) b.disks c
    → CarriesOut (move_plan a k to) a.disks c
moved_by a b c k from to placed book geometry read written =
    let Q : Tables → Type 0 = λ t.
    CarriesOut (slot_write (class_of t to.group) b.disks.geometry (group_in t.groups to.group).members to.slot) b.disks
    c in
    let R : _ → Type 0 =
    λ g. CarriesOut (slot_write (class_in a to.group) g (members_of a to.group) to.slot) b.disks c in
    both_carried (get_plan a k) (write_of a to) a.disks b.disks c (home_plan a k from b.disks placed read)
    (subst R geometry (subst Q book written))

-- a slot was read, the array failed, and the other wasn't written
pub moved_none : (a b : StoreState) (k : Key) (from to : Slot) → home a.book k ≡ Some from → b.disks.health ≡ AllBroken
    → CarriesOut (home_read a (Some from)) a.disks b.disks → CarriesOut (move_plan a k to) a.disks b.disks
moved_none a b k from to placed broken read =
    both_carried (get_plan a k) (write_of a to) a.disks b.disks b.disks (home_plan a k from b.disks placed read)
    (carries_broken (write_of a to) b.disks broken)

-- the members of the group that was opened were filled with zeros
pub opened_plan : (a b : SetState) (t u : Tables) (g : ℕ) (c : Class) (m : Members) → u ≡ opened t g c
    → m ≡ (group_in u.groups g).members
    → CarriesOut (fill_plan a.geometry m) a b → CarriesOut (fill_plan a.geometry (group_in t.groups g).members) a b
opened_plan a b t u g c m is members plan =
    let P : Members → Type 0 = λ x. CarriesOut (fill_plan a.geometry x) a b in
    subst P (members ∙ ap (λ (x : Tables). (group_in x.groups g).members) is ∙ opened_members t g c g) plan

-- there is one lowest free group
pub only_opened : (a : StoreState) (b : SetState) (c : Class) (g : ℕ) → c ≡ Parity → IsLowestFree a.book g
    → CarriesOut (fill_plan a.disks.geometry (members_of a g)) a.disks b
    → (h : ℕ) → IsLowestFree a.book h → CarriesOut (open_plan c a.disks.geometry (members_of a h)) a.disks b
only_opened a b c g is free plan h is_h =
    let P : ℕ → Type 0 = λ n. CarriesOut (fill_plan a.disks.geometry (members_of a n)) a.disks b in
    let Q : Class → Type 0 = λ x. CarriesOut (open_plan x a.disks.geometry (members_of a h)) a.disks b in
    subst Q (sym is) (subst P (same_free a.book g h free is_h) plan)
