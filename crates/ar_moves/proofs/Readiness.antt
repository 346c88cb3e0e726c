-- The slots that are named are holes, and the blocks have homes.
use Rattle.std.proofs.Common.{◌≡◌, ℕ, ◌<◌, ◌*◌, Option, Some, IsSome, refl, sym, ap, subst, ◌∙◌, inl, inr, arith}
use Rattle.ar_disks.specs.Block.{zeros}
use Rattle.ar_disks.specs.Geometry.{rows_of, block_len_of}
use Rattle.ar_disks.specs.declared.address.Key.{Key}
use Rattle.ar_disks.specs.declared.geometry.Geometry.{Geometry}
use Rattle.ar_disks.specs.declared.geometry.Geometry.TheVariants.{Paper, Small}
use Rattle.ar_book.specs.declared.class.Class.{Class}
use Rattle.ar_book.specs.declared.class.Class.TheVariants.{Free, Mirrored, Parity}
use Rattle.ar_book.specs.declared.class.Slot.{Slot}
use Rattle.ar_book.specs.Tables.{Tables, home, slots_of}
use Rattle.ar_book.specs.Changes.{opened, slot_at}
use Rattle.ar_book.specs.Choices.{IsHole}
use Rattle.ar_book.specs.Book.{TablesAgree}
use Rattle.ar_book.proofs.AfterOpen.{opened_hole}
use Rattle.ar_book.proofs.Homes.{hole_slot, key_home}
use Rattle.ar_store.specs.Store.{StoreState, members_of, class_in}
use Rattle.ar_store.specs.Slots.{ClassHolds, SlotHolds, BesideHold}
use Rattle.ar_store.specs.Kept.{IsKept}
use Rattle.ar_store.specs.Placing.{IsVacant}
use Rattle.ar_store.specs.Calls.{IsOpened, HoldsZeros}
use Rattle.ar_moves.specs.Demotion.{HoldsZerosBeside}
use Rattle.ar_moves.specs.Cleaning.{NamesCleaning, NamesCleaningOf}

-- a hole of a class is a slot that names none
pub hole_vacant : (t : Tables) (c : Class) (s : Slot) → IsHole t c s → IsVacant t s
hole_vacant t c s hole = record { there = hole_slot t c s hole; empty = hole.empty }

-- A block and a slot that are ready for a move.
pub record IsReadyToMove (t : Tables) (key : Key) (to : Slot) : Type 0 where
  pub placed : IsSome (home t key)
  pub hole : IsVacant t to

some_home : (o : Option Slot) (s : Slot) → o ≡ Some s → IsSome o
some_home o s e = subst (λ x. IsSome x) (sym e) refl

class_ready : (t : Tables) (c : Class) (key : Key) (to : Slot) → TablesAgree t → NamesCleaningOf t c key to
    → IsReadyToMove t key to
class_ready t c key to ok names = record {
  placed = some_home (home t key) (slot_at names.group names.first.slot)
      (key_home t ok (slot_at names.group names.first.slot) key names.first.names);
  hole = hole_vacant t c to names.hole.found.hole;
}

-- those that cleaning names are
pub cleaning_ready : (t : Tables) (key : Key) (to : Slot) → TablesAgree t → NamesCleaning t key to
    → IsReadyToMove t key to
cleaning_ready t key to ok (inl mirrored) = class_ready t Mirrored key to ok mirrored
cleaning_ready t key to ok (inr parity) = class_ready t Parity key to ok parity.names

slots_some : (g : Geometry) → 0 < slots_of g Parity
slots_some Paper = omega arith
slots_some Small = omega arith

-- each slot of a group that was opened is a hole
pub opened_holes : (t u : Tables) (g i : ℕ) → TablesAgree t → IsOpened t u Parity g → i < slots_of t.geometry Parity
    → IsVacant u (slot_at g i)
opened_holes t u g i ok opening inside =
    subst (λ (x : Tables). IsVacant x (slot_at g i)) (sym opening.tables)
    (hole_vacant (opened t g Parity) Parity (slot_at g i)
    (opened_hole t g Parity ok opening.lowest.there opening.lowest.free i inside))

pub opened_first : (t u : Tables) (g : ℕ) → TablesAgree t → IsOpened t u Parity g → IsVacant u (slot_at g 0)
opened_first t u g ok opening = opened_holes t u g 0 ok opening (slots_some t.geometry)

-- and once a block has moved there, the others still hold zeros
pub zeros_beside : (old mid new : StoreState) (g : ℕ) → IsKept old → IsOpened old.book mid.book Parity g
    → HoldsZeros mid g → BesideHold mid new (slot_at g 0)
    → mid.disks.geometry ≡ old.disks.geometry → new.disks.geometry ≡ mid.disks.geometry
    → HoldsZerosBeside new (slot_at g 0)
zeros_beside old mid new g kept opening holds beside first second = record {
  slots = λ i lt ne.
      let lt_mid : i < 3 * rows_of mid.disks.geometry = subst (λ x. i < 3 * rows_of x) second lt in
      let lt_old : i < 3 * rows_of old.disks.geometry = subst (λ x. i < 3 * rows_of x) first lt_mid in
      let inside : i < slots_of old.book.geometry Parity =
      subst (λ x. i < slots_of x Parity) (sym kept.space.geometry) lt_old in
      subst (λ x. SlotHolds new (slot_at g i) (zeros (block_len_of x))) (sym second)
      (beside.slots (slot_at g i) (zeros (block_len_of mid.disks.geometry))
      (opened_holes old.book mid.book g i kept.space.tables opening inside).there refl
      (λ same. ne (ap (λ (s : Slot). s.slot) same)) (holds.slots i lt_mid));
}

-- a group that was free held no block
pub free_beside : (old new : StoreState) (g : ℕ) → class_in old g ≡ Free → BesideHold old new (slot_at g 0)
free_beside old new g free = record {
  slots = λ slot block there here ne holds.
      absurd (subst (λ (c : Class). ClassHolds c old.disks (members_of old slot.group) slot.slot block)
      (ap (λ n. class_in old n) here ∙ free) holds);
}
