-- A look leaves each unit.
use Rattle.std.proofs.Common.{◌≡◌, ◌⊎◌, ℕ, ◌<◌, ◌≤◌, false, refl, inl, inr}
use Rattle.std.proofs.lemmas.Bool.{cases_lt}
use Rattle.ar_disks.specs.declared.address.Addr.{Addr}
use Rattle.ar_unit.specs.Unit.{UnitState}
use Rattle.ar_unit.specs.Broken.{shape_of}
use Rattle.ar_volume.specs.Image.{ArrayState, is_broken, image, image_at, at_numbers, at_address}
use Rattle.ar_volume.specs.Sectors.{Address}
use Rattle.ar_volume.specs.Seen.{SameUnit}
use Rattle.ar_volume.proofs.Images.{image_same, shape_same}
use Rattle.ar_core.specs.Quiet.{LooksAt}
use Rattle.ar_core.proofs.Events.{unit_refl}

-- what is the same at each host's address is the same at each pair of numbers
each_number : {A : Type 0} (f : UnitState → A) (old new : Addr
    → UnitState) (number lun : ℕ) (test : (number < 4) ⊎ (4 ≤ number))
    → ((addr : Addr) → f (new addr) ≡ f (old addr))
    → f (at_numbers new number lun test) ≡ f (at_numbers old number lun test)
each_number f old new number lun (inl is) here =
    here (record { host = record { number = number; in_range = is }; lun = lun })
each_number f old new number lun (inr high) here = refl

each_address : {A : Type 0} (f : UnitState → A) (old new : Addr → UnitState)
    → ((addr : Addr) → f (new addr) ≡ f (old addr))
    → (a : Address) → f (at_address new a) ≡ f (at_address old a)
unfolding at_address
each_address f old new here (number, lun) = each_number f old new number lun (cases_lt number 4) here

same_unit : (old new : ArrayState) → LooksAt old new → (addr : Addr) → SameUnit old.store.book new.store.book addr
same_unit old new looks addr = unit_refl old.store.book new.store.book addr looks.places.reads.tables

pub looked_image : (old new : ArrayState) → LooksAt old new → is_broken new ≡ false → (a : Address)
    → image new a ≡ image old a
looked_image old new looks now a =
    each_address (λ (u : UnitState). u) (image_at old) (image_at new)
    (λ addr. image_same old new addr (same_unit old new looks addr) looks.accessed.follows.geometry
    (λ k _. (looks.seen now).same k)) a

pub looked_shape : (old new : ArrayState) → LooksAt old new → (a : Address)
    → shape_of (image new a) ≡ shape_of (image old a)
looked_shape old new looks a =
    each_address shape_of (image_at old) (image_at new) (λ addr. shape_same old new addr (same_unit old new looks addr))
    a
