-- How create, resize and delete change the units.
use Rattle.std.specs.Prelude.{◌≡◌, ◌≢◌, ℕ, if◌then◌else◌, Option, Some, None, option_map, unwrap_or, Result, OnOk}
use Rattle.std.specs.Prelude.{OnErr, IfErr}
use Rattle.ar_disks.specs.declared.address.Addr.{Addr}
use Rattle.ar_book.specs.declared.refusal.Refusal.TheVariants.{NoMemory, Absent as NoUnit}
use Rattle.ar_book.specs.Tables.{has_unit}
use Rattle.ar_book.specs.Changes.{made, grown, dropped}
use Rattle.ar_book.specs.Refusals as book
use Rattle.ar_cache.specs.Cache.{with_entries, without_addr}
use Rattle.ar_volume.specs.declared.refusal.Refusal.{Refusal}
use Rattle.ar_volume.specs.declared.refusal.Refusal.TheVariants.{Unit as UnitRefused, Broken}
use Rattle.ar_volume.specs.Image.{ArrayState, is_broken, with_book}

-- why a create is refused, the first reason that applies; out of memory apart
abbrev pub make_refusal : ArrayState → Addr → ℕ → Option Refusal
make_refusal s addr sectors =
    if is_broken s then Some Broken else option_map UnitRefused (book.unit_make_refusal s.store.book addr sectors)

-- why a resize is refused
abbrev pub grow_refusal : ArrayState → Addr → ℕ → Option Refusal
grow_refusal s addr sectors =
    if is_broken s then Some Broken else option_map UnitRefused (book.unit_grow_refusal s.store.book addr sectors)

-- why a delete is refused
abbrev pub remove_refusal : ArrayState → Addr → Option Refusal
remove_refusal s addr =
    if is_broken s then Some Broken else if has_unit s.store.book addr then None else Some (UnitRefused NoUnit)

-- the array without a unit: its cached blocks are discarded, and its slots emptied
abbrev pub removed : ArrayState → Addr → ArrayState
removed s addr = record {
  store = record s.store { book = dropped s.store.book addr };
  cache = with_entries s.cache (without_addr s.cache.entries addr);
}

-- what a create, resize or delete returns and changes: it is refused for its reason or else because it is out of
-- memory, and changes nothing; or it is done
pub record Changes (old : ArrayState) (refusal : Option Refusal) (done : ArrayState)
    (result : Result (Unit {0}) Refusal) (new : ArrayState) : Type 0 where
  pub granted : OnOk result (refusal ≡ None)
  pub refused : IfErr result (λ r. r ≡ unwrap_or refusal (UnitRefused NoMemory))
  pub changed : OnOk result (new ≡ done)
  pub unchanged : OnErr result (new ≡ old)

-- a unit was created, of zeros and without homes, or the create was refused
abbrev pub Makes : ArrayState → Addr → ℕ → Result (Unit {0}) Refusal → ArrayState → Type 0
Makes old addr sectors result new =
    Changes old (make_refusal old addr sectors) (with_book old (made old.store.book addr sectors)) result new

-- a unit was extended by zeros and has a pending UNIT ATTENTION, or the resize was refused
abbrev pub Grows : ArrayState → Addr → ℕ → Result (Unit {0}) Refusal → ArrayState → Type 0
Grows old addr sectors result new =
    Changes old (grow_refusal old addr sectors) (with_book old (grown old.store.book addr sectors)) result new

-- a unit was deleted, or the delete was refused; it is never out of memory
pub record Removes (old : ArrayState) (addr : Addr) (result : Result (Unit {0}) Refusal) (new : ArrayState)
    : Type 0 where
  pub changes : Changes old (remove_refusal old addr) (removed old addr) result new
  pub reason : OnErr result (remove_refusal old addr ≢ None)
