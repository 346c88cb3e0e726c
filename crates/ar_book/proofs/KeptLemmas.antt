-- What each change leaves of the book's invariant.
use Rattle.std.proofs.Common.{◌≡◌, ℕ, ◌^◌, ◌<◌, List, None, Some, length, sym, ◌∙◌, arith}
use Rattle.std.proofs.lemmas.Option.{none-some}
use Rattle.ar_disks.specs.declared.address.Key.{Key}
use Rattle.ar_book.specs.declared.class.Slot.{Slot}
use Rattle.ar_book.specs.Tables.{GroupState, Tables, group_in, key_in, key_at, home, HasBlock, HasSlot}
use Rattle.ar_book.specs.Changes.{named, assigned, released}
use Rattle.ar_book.specs.Book.{TablesAgree, BookAgrees}
use Rattle.ar_book.proofs.GroupLemmas.{there_group, there_slot, named_other, few_groups}
use Rattle.ar_book.proofs.UnitLemmas.{homed_reserved}
use Rattle.ar_book.proofs.PlaceLemmas.{assigned_agrees, released_agrees}

former : (t : Tables) (k : Key) (s : Slot) → TablesAgree t → HasSlot t s → key_at t s ≡ None → (q : Slot)
    → home t k ≡ Some q → key_in (named t.groups s k) q ≡ Some k
former t k s ok slot empty q e = grind (arith, named_other, none-some)

-- a block that is assigned: its former slot is there when it is vacated
pub former_group : (t : Tables) (k : Key) (s : Slot) → TablesAgree t → HasSlot t s → key_at t s ≡ None → (q : Slot)
    → home t k ≡ Some q → q.group < length (named t.groups s k)
former_group t k s ok slot empty q e = there_group (named t.groups s k) q k (former t k s ok slot empty q e)

pub former_slot : (t : Tables) (k : Key) (s : Slot) → TablesAgree t → HasSlot t s → key_at t s ≡ None → (q : Slot)
    → home t k ≡ Some q → q.slot < length (group_in (named t.groups s k) q.group).slots
former_slot t k s ok slot empty q e = there_slot (named t.groups s k) q k (former t k s ok slot empty q e)

pub assigned_kept : (t : Tables) (n : ℕ) (k : Key) (s : Slot) → BookAgrees t n → HasBlock t k → HasSlot t s
    → key_at t s ≡ None → BookAgrees (assigned t k s) n
assigned_kept t n k s ok block slot empty = record {
  tables = assigned_agrees t k s ok.tables block slot empty;
  total = ok.total ∙ sym (homed_reserved t.units k (Some s) block);
}

pub released_kept : (t : Tables) (n : ℕ) (k : Key) → BookAgrees t n → HasBlock t k → BookAgrees (released t k) n
released_kept t n k ok block = grind (arith, released_agrees, homed_reserved)

-- as many groups as the book has are fewer than 2 ^ 32, so each number is below the one that stands for none
pub still_few : (t : Tables) (new : List GroupState) → TablesAgree t → length new ≡ length t.groups
    → length new < 2 ^ 32
still_few t new ok same = omega (arith, few_groups t.geometry t.groups ok.groups)
