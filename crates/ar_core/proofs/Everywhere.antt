-- What holds of a unit's entry at each host's address holds at every pair of numbers.
use Rattle.std.proofs.Common.{◌≡◌, ◌⊎◌, ℕ, ◌<◌, ◌≤◌, false, cond, [], refl, sym, ap, inl, inr, arith}
use Rattle.std.proofs.lemmas.Bool.{cases_lt}
use Rattle.std.proofs.lemmas.Bool.Decides.{nat_tests}
use Rattle.ar_disks.specs.declared.address.Addr.{Addr}
use Rattle.ar_unit.specs.Unit.{UnitState, Absent, unit_run}
use Rattle.ar_volume.specs.Sectors.{Address, address_of}
use Rattle.ar_volume.specs.Image.{at_numbers, at_address}
use Rattle.ar_core.specs.Events.{Event}
use Rattle.ar_core.specs.declared.event.EventOf.TheVariants.{Make, Grow, Remove, Cmd, Flush, FlushPart, Demote, Clean}
use Rattle.ar_core.specs.declared.event.EventOf.TheVariants.{Balance, AddDisk, DiskOut, Replace, Rebuild, Unmap}
use Rattle.ar_core.specs.Events.{Outcome}
use Rattle.ar_core.specs.Step.{is_about, entry_at, entry_of}

-- an event is about no pair of numbers that is no host's
nowhere : (event : Event) (outcome : Outcome) (number lun : ℕ) → 4 ≤ number → is_about event (number, lun) ≡ false
nowhere (Make addr n) outcome number lun high = let few = addr.host.in_range in grind (arith, nat_tests)
nowhere (Grow addr n) outcome number lun high = let few = addr.host.in_range in grind (arith, nat_tests)
nowhere (Remove addr) outcome number lun high = let few = addr.host.in_range in grind (arith, nat_tests)
nowhere (Cmd host l cdb payload) outcome number lun high = let few = host.in_range in grind (arith, nat_tests)
nowhere (Unmap addr lba count) outcome number lun high = let few = addr.host.in_range in grind (arith, nat_tests)
nowhere Flush outcome number lun high = refl
nowhere (FlushPart addr first) outcome number lun high = refl
nowhere Demote outcome number lun high = refl
nowhere Clean outcome number lun high = refl
nowhere Balance outcome number lun high = refl
nowhere (AddDisk disk) outcome number lun high = refl
nowhere (DiskOut d) outcome number lun high = refl
nowhere (Replace d disk) outcome number lun high = refl
nowhere Rebuild outcome number lun high = refl

-- what holds of a unit's entry at each host's address holds at each pair of numbers
at_all : {A : Type 0} (f : UnitState → A) (old new : Addr
    → UnitState) (event : Event) (outcome : Outcome) (number lun : ℕ) (test : (number < 4) ⊎ (4 ≤ number))
    → ((addr : Addr) → f (new addr) ≡ f (unit_run (old addr) (entry_at (address_of addr) event outcome)))
    → f (at_numbers new number lun test)
    ≡ f (unit_run (at_numbers old number lun test) (entry_at (number, lun) event outcome))
at_all f old new event outcome number lun (inl is) here =
    here (record { host = record { number = number; in_range = is }; lun = lun })
at_all f old new event outcome number lun (inr high) here =
    ap (λ b. f (unit_run Absent (cond b (entry_of event outcome) []))) (sym (nowhere event outcome number lun high))

pub everywhere : {A : Type 0} (f : UnitState → A) (old new : Addr → UnitState) (event : Event) (outcome : Outcome)
    → ((addr : Addr) → f (new addr) ≡ f (unit_run (old addr) (entry_at (address_of addr) event outcome)))
    → (a : Address) → f (at_address new a) ≡ f (unit_run (at_address old a) (entry_at a event outcome))
unfolding at_address
everywhere f old new event outcome here (number, lun) =
    at_all f old new event outcome number lun (cases_lt number 4) here
