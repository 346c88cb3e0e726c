-- The measure by which balancing ends.
use Rattle.std.specs.Prelude.{ℕ, ◌*◌, Bool, List, sum_by, count_by}
use Rattle.ar_extents.specs.Set.{SetState}

-- the square of the number of a disk's unassigned extents
abbrev pub square_of : List Bool → ℕ
square_of marks = count_by (λ mark. mark) marks * count_by (λ mark. mark) marks

-- The sum of the squares of the disks' unassigned extents: a group that is formed takes one of each of four disks, and
-- a shift evens out two disks that differ by two or more. So it bounds how often balancing changes a table.
abbrev pub balance_left : SetState → ℕ
balance_left s = sum_by square_of s.loose
