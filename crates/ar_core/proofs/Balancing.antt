-- A step of balancing is a step.
use Rattle.std.proofs.Common.{◌≡◌, ℕ, false, refl, ap, arith, [], ◌∷◌}
use Rattle.std.specs.Prelude.{◌≤◌, ◌*◌, length}
use Rattle.std.proofs.Math.ListN.{length-set}
use Rattle.std.proofs.lemmas.List.{length-append}
use Rattle.ar_disks.specs.declared.address.Addr.{Addr}
use Rattle.ar_disks.specs.declared.address.Members.{Members}
use Rattle.ar_disks.specs.declared.address.Place.{Place}
use Rattle.ar_disks.specs.Geometry.{rows_of}
use Rattle.ar_book.specs.Tables.{Tables, has_unit, reserved}
use Rattle.ar_book.specs.Changes.{free_group, formed, shifted}
use Rattle.ar_store.specs.Store.{StoreState}
use Rattle.ar_balance.specs.declared.step.Balance.{Balance}
use Rattle.ar_balance.specs.declared.step.Balance.TheVariants.{Formed, Shifted, GivenUp, NoMemory, Idle, Broken}
use Rattle.ar_balance.specs.Balance.{Balances, KeepsUnits}
use Rattle.ar_volume.specs.Balance.{BalancesOne}
use Rattle.ar_volume.specs.Image.{ArrayState, is_broken, length_at, attention_at}
use Rattle.ar_volume.specs.Seen.{SameSeen, SameUnit}
use Rattle.ar_core.specs.declared.event.EventOf.TheVariants.{Balance as BalanceEvent}
use Rattle.ar_core.specs.declared.event.OutcomeOf.TheVariants.{Balance as BalanceOutcome}
use Rattle.ar_core.specs.Quiet.{IsQuiet}
use Rattle.ar_core.specs.Step.{Steps}
use Rattle.ar_core.proofs.Causes.{cause_follows}
use Rattle.ar_core.proofs.Events.{steps_quiet}

unit_kept : (t u : Tables) (b : Addr) → KeepsUnits t u → SameUnit t u b
unit_kept t u b kept = record {
  there = ap (λ units. has_unit (record t { units = units }) b) kept.units;
  sectors = ap (λ units. length_at (record t { units = units }) b) kept.units;
  mark = ap (λ units. attention_at (record t { units = units }) b) kept.units;
}

more_formed : (t : Tables) (m : Members) → length t.groups ≤ length (formed t m).groups
more_formed t m = let more = length-append t.groups (free_group m (3 * rows_of t.geometry) ∷ []) in omega arith

same_shifted : (t : Tables) (g position : ℕ) (place : Place)
    → length (shifted t g position place).groups ≡ length t.groups
same_shifted t g position place = length-set t.groups g _

same_groups : (t u : Tables) → u ≡ t → length t.groups ≤ length u.groups
same_groups t u same = let is = ap (λ (x : Tables). length x.groups) same in omega arith

-- no group is let go
groups_kept : (old new : StoreState) (answer : Balance) → Balances old new answer
    → length old.book.groups ≤ length new.book.groups
groups_kept old new (Formed group) does =
    let is = ap (λ (s : StoreState). length s.book.groups) does.formed in
    let more = more_formed old.book does.members in
    omega arith
groups_kept old new (Shifted group from to) does =
    let is = ap (λ (s : StoreState). length s.book.groups) does.tables in
    let same = same_shifted old.book group does.position does.to in
    omega arith
groups_kept old new GivenUp does = same_groups old.book new.book does.book
groups_kept old new NoMemory does = same_groups old.book new.book (ap (λ (s : StoreState). s.book) does.same)
groups_kept old new Idle does = same_groups old.book new.book (ap (λ (s : StoreState). s.book) does.same)
groups_kept old new Broken does = same_groups old.book new.book (ap (λ (s : StoreState). s.book) does.same)

balanced_quiet : (old new : ArrayState) (answer : Balance) → BalancesOne old answer new
    → (is_broken new ≡ false → SameSeen old new) → IsQuiet old new
balanced_quiet old new answer balances seen = record {
  units = λ addr. unit_kept old.store.book new.store.book addr balances.leaves.units;
  seen = seen;
  reserved_same = ap (λ units. reserved (record old.store.book { units = units })) balances.leaves.units.units;
  groups = groups_kept old.store new.store answer balances.does;
  capacity = ap (λ cache. cache.capacity) balances.cache;
}

-- a step of balancing
pub steps_balanced : (old new : ArrayState) (answer : Balance) → BalancesOne old answer new
    → (is_broken new ≡ false → SameSeen old new)
    → Steps old BalanceEvent (BalanceOutcome answer) new
steps_balanced old new answer balances seen =
    steps_quiet old new BalanceEvent (BalanceOutcome answer) balances (λ a. refl)
    (balanced_quiet old new answer balances seen)
    (cause_follows BalanceEvent old.store.disks new.store.disks (λ d disk is. absurd (cc)) balances.leaves.follows)
