-- What the deletion of a unit leaves of the others.
use Rattle.std.specs.Prelude.{◌≡◌, ◌≢◌, Some}
use Rattle.ar_disks.specs.declared.address.Addr.{Addr}
use Rattle.ar_disks.specs.declared.address.Key.{Key}
use Rattle.ar_book.specs.declared.class.Slot.{Slot}
use Rattle.ar_book.specs.Tables.{Tables, key_at, home, level, stamp_of}

-- the blocks of all units but the one at an address keep their slots, homes, levels and write sequence numbers
pub record KeepsOtherUnits (old : Tables) (a : Addr) (new : Tables) : Type 0 where
  pub slots : (s : Slot) (k : Key) → k.addr ≢ a → key_at old s ≡ Some k → key_at new s ≡ Some k
  pub homes : (k : Key) → k.addr ≢ a → home new k ≡ home old k
  pub levels : (k : Key) → k.addr ≢ a → level new k ≡ level old k
  pub stamps : (k : Key) → k.addr ≢ a → stamp_of new k ≡ stamp_of old k
