-- Which of a unit's blocks were written: the others read as zeros.
use Rattle.std.specs.Prelude.{ℕ, zero, suc, ◌+◌, ◌-◌, ◌==◌, ◌&&◌, min, Bool, not, if◌then◌else◌, length}
use Rattle.ar_disks.specs.declared.address.Addr.{Addr}
use Rattle.ar_disks.specs.declared.address.Key.{Key}
use Rattle.ar_book.specs.Tables.{unit_in}
use Rattle.ar_volume.specs.Image.{ArrayState}
use Rattle.ar_volume.specs.Sectors.{key_of}
use Rattle.ar_volume.specs.Unmap.{is_unwritten}
use Rattle.ar_core.specs.declared.allocation.Allocation.{Allocation}

-- whether a block was written, or whether it wasn't, as `written` says
abbrev pub is_alike : ArrayState → Bool → Key → Bool
is_alike array written key = if written then not (is_unwritten array key) else is_unwritten array key

-- of the `most` blocks from `rb` on, the number of those before the first that differs
abbrev pub alike : ArrayState → Addr → Bool → ℕ → ℕ → ℕ
alike array addr written rb zero = 0
alike array addr written rb (suc most) =
    if (alike array addr written rb most == most) && is_alike array written (key_of addr (rb + most)) then suc most
    else alike array addr written rb most

-- whether block `rb` was written, and how many from it on, `most` at most and all of the unit, are as it is
abbrev pub allocation_of : ArrayState → Addr → ℕ → ℕ → Allocation
allocation_of array addr rb most =
    record {
      is_written = not (is_unwritten array (key_of addr rb));
      blocks =
          alike array addr (not (is_unwritten array (key_of addr rb))) rb
          (min most (length (unit_in array.store.book.units addr).homes - rb));
    }
