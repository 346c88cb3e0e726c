-- Unassigned (`loose`) extents: those in no group.
use Rattle.std.specs.Prelude.{ℕ, Bool, true, false, Option, Some, None, position, count_by, slice_index_or, slice_set}
use Rattle.ar_disks.specs.declared.address.Place.{Place}
use Rattle.ar_extents.specs.Set.{SetState, marks_of}

-- the extent is in no group
abbrev pub is_loose : SetState → Place → Bool
is_loose s place = slice_index_or (marks_of s place.disk) place.extent false

-- the number of unassigned extents of a disk
abbrev pub loose_count : SetState → ℕ → ℕ
loose_count s d = count_by (λ mark. mark) (marks_of s d)

-- the lowest unassigned extent of a disk, or none
abbrev pub lowest_loose : SetState → ℕ → Option ℕ
lowest_loose s d = position (λ mark. mark) (marks_of s d)

-- the set with this flag at an extent
abbrev pub marked : SetState → ℕ → ℕ → Bool → SetState
marked s d extent mark = record s { loose = slice_set s.loose d (slice_set (marks_of s d) extent mark) }

-- the set after an extent of disk `d` was taken, if there was one: it is assigned
abbrev pub taken : SetState → ℕ → Option ℕ → SetState
taken s d None = s
taken s d (Some extent) = marked s d extent false

-- the set after an extent was given back: it is unassigned
abbrev pub given : SetState → Place → SetState
given s place = marked s place.disk place.extent true
