-- The slots of a mirrored group. Members 0 and 1 are a pair, and so are 2 and 3; the slots are the rows of the first
-- pair in order, then those of the second.
use Rattle.std.specs.Prelude.{ℕ, zero, suc, ◌+◌, ◌*◌, ◌/◌, ◌%◌}
use Rattle.ar_disks.specs.declared.geometry.Geometry.{Geometry}
use Rattle.ar_disks.specs.declared.address.Place.{Place}
use Rattle.ar_disks.specs.declared.address.Members.{Members}
use Rattle.ar_disks.specs.Geometry.{rows_of}
use Rattle.ar_disks.specs.Members.{member}

-- the number of slots of a mirrored group
abbrev pub mirror_slots_of : Geometry → ℕ
mirror_slots_of g = 2 * rows_of g

-- the row of a slot, in both members of its pair
abbrev pub row_of : Geometry → ℕ → ℕ
row_of g slot = slot % rows_of g

-- the first member of a slot's pair, and the other
abbrev pub one_of : Geometry → Members → ℕ → Place
one_of g m slot = member m (2 * (slot / rows_of g))

abbrev pub other_of : Geometry → Members → ℕ → Place
other_of g m slot = member m (2 * (slot / rows_of g) + 1)

-- the other member position of the pair
abbrev pub partner_of : ℕ → ℕ
partner_of zero = 1
partner_of (suc zero) = 0
partner_of (suc (suc zero)) = 3
partner_of (suc (suc (suc n))) = 2
