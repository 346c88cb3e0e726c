-- The plans of calls, for the extents and the row that the code computes.
use Rattle.std.proofs.Common.{◌≡◌, ◌∷◌, ◌++◌, [], ℕ, Bool, true, ◌∙◌, ap, subst}
use Rattle.ar_disks.specs.declared.geometry.Geometry.{Geometry}
use Rattle.ar_disks.specs.declared.address.Place.{Place}
use Rattle.ar_disks.specs.declared.address.Members.{Members}
use Rattle.ar_extents.specs.Set.{SetState}
use Rattle.ar_extents.specs.declared.health.Health.{Health}
use Rattle.ar_extents.specs.Health.{rebuilt_disk, next_extent}
use Rattle.ar_extents.specs.Access.{next_place}
use Rattle.ar_extents.specs.Plans.{AccessPlan, Stop, Try, Attempts, CarriesOut, goes_on, NoneFaults, planned, access_of}
use Rattle.ar_extents.specs.Plans.{read_at, write_at, rebuild_at}
use Rattle.ar_extents.proofs.Plans.{carries_one, answered_health, planned_made}
use Rattle.ar_extents.specs.declared.health.Health.TheVariants.{Whole}
use Rattle.ar_mirror.specs.Slots.{one_of, other_of, row_of}
use Rattle.ar_mirror.specs.Plans.{copy_row, mirror_read, mirror_write}

-- a plan for two extents and a row is one for those of the slot
pub carried_at : (plan : Place → Place → ℕ → AccessPlan) (m : Members) (slot : ℕ) (a b : SetState) (g : Geometry)
    (one other : Place) (row : ℕ) → g ≡ a.geometry
    → one ≡ one_of g m slot → other ≡ other_of g m slot → row ≡ row_of g slot → CarriesOut (plan one other row) a b
    → CarriesOut (plan (one_of a.geometry m slot) (other_of a.geometry m slot) (row_of a.geometry slot)) a b
carried_at plan m slot a b g one other row same is_one is_other is_row carried =
    let P : Place → Type 0 = λ p. CarriesOut (plan p other row) a b in
    let Q : Place → Type 0 = λ p. CarriesOut (plan (one_of a.geometry m slot) p row) a b in
    let R : ℕ → Type 0 = λ n. CarriesOut (plan (one_of a.geometry m slot) (other_of a.geometry m slot) n) a b in
    subst R (is_row ∙ ap (λ (x : Geometry). row_of x slot) same)
    (subst Q (is_other ∙ ap (λ (x : Geometry). other_of x m slot) same)
    (subst P (is_one ∙ ap (λ (x : Geometry). one_of x m slot) same) carried))

-- a row that was read and then written to the extent that is rebuilt next
pub copied_row : (from : Place) (row : ℕ) (a b c : SetState) (done : Bool) → Attempts (read_at from row) true a b
    → Attempts (rebuild_at (next_place b) row) done b c
    → CarriesOut (copy_row from (next_place a) row) a c
copied_row from row a b c done read written =
    let place : Health → Place = λ h. record { disk = rebuilt_disk h; extent = next_extent h } in
    let P : Place → Type 0 = λ p. Attempts (rebuild_at p row) done b c in
    let same : next_place b ≡ next_place a = ap place (answered_health (read_at from row) a b read) in
    goes_on (read_at from row) (Try (rebuild_at (next_place a) row) Stop Stop) Stop a b c read
    (carries_one (rebuild_at (next_place a) row) b c done (subst P same written))

-- on a healthy set, and without a fault
pub healthy_read : (a b : SetState) (m : Members) (slot : ℕ) → a.health ≡ Whole → NoneFaults a b
    → CarriesOut (mirror_read a.geometry m slot) a b
    → b.log ≡ a.log ++ access_of (read_at (one_of a.geometry m slot) (row_of a.geometry slot)) true ∷ []
healthy_read a b m slot whole none carried =
    planned_made (mirror_read a.geometry m slot) a b carried none
    ∙ ap (λ (h : Health). a.log ++ planned (mirror_read a.geometry m slot) h) whole

pub healthy_write : (a b : SetState) (m : Members) (slot : ℕ) → a.health ≡ Whole → NoneFaults a b
    → CarriesOut (mirror_write a.geometry m slot) a b
    → b.log ≡ a.log ++ access_of (write_at (one_of a.geometry m slot) (row_of a.geometry slot)) true
    ∷ access_of (write_at (other_of a.geometry m slot) (row_of a.geometry slot)) true ∷ []
healthy_write a b m slot whole none carried =
    planned_made (mirror_write a.geometry m slot) a b carried none
    ∙ ap (λ (h : Health). a.log ++ planned (mirror_write a.geometry m slot) h) whole
