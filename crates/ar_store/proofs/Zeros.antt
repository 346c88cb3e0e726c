-- What a squeeze leaves after the blocks that it moves: zeros.
use Rattle.std.proofs.Common.{◌≡◌, ℕ, ◌+◌, ◌*◌, ◌<◌, length, refl, sym, ap, subst, arith}
use Rattle.ar_disks.specs.Block.{zeros}
use Rattle.ar_disks.specs.Geometry.{rows_of, block_len_of}
use Rattle.ar_disks.specs.declared.address.Key.{Key}
use Rattle.ar_disks.specs.declared.geometry.Geometry.{Geometry}
use Rattle.ar_disks.specs.declared.address.Members.{Members}
use Rattle.ar_extents.specs.declared.health.Health.TheVariants.{Broken as AllBroken}
use Rattle.ar_extents.specs.Set.{SetState}
use Rattle.ar_extents.specs.Follows.{Follows}
use Rattle.ar_extents.proofs.Follows.{follows_refl}
use Rattle.ar_parity.specs.Group.{Holds as ParityHolds}
use Rattle.ar_parity.proofs.Updates.{broken_zero_agrees}
use Rattle.ar_parity.proofs.SlotLemmas.{zero_slots}
use Rattle.ar_book.specs.declared.class.Class.{Class}
use Rattle.ar_book.specs.declared.class.Class.TheVariants.{Parity}
use Rattle.ar_book.specs.declared.class.Slot.{Slot}
use Rattle.ar_book.specs.Tables.{Tables, slots_of}
use Rattle.ar_book.specs.Changes.{stamped, slot_at}
use Rattle.ar_store.specs.Store.{StoreState, store_of, class_in}
use Rattle.ar_store.specs.Slots.{SlotHolds, BesideHold}
use Rattle.ar_store.specs.Kept.{IsSpace}
use Rattle.ar_store.specs.Calls.{HoldsZerosFrom}

-- of broken disks no extent is used, so each slot holds any block, and zeros
pub zeros_broken : (m : Members) (s : SetState) → s.health ≡ AllBroken
    → (i : ℕ) → i < 3 * rows_of s.geometry → ParityHolds s m i (zeros (block_len_of s.geometry))
zeros_broken m s broken =
    zero_slots s m (rows_of s.geometry) (block_len_of s.geometry)
    (λ row lt. broken_zero_agrees s s m row (follows_refl s) broken)

-- One of its slots was written: those after it hold zeros.
pub zeros_later : (a b : StoreState) (s : Slot) → IsSpace a → s.group < length a.book.groups
    → class_in a s.group ≡ Parity → Follows a.disks b.disks
    → BesideHold a b s → HoldsZerosFrom a s.group s.slot → HoldsZerosFrom b s.group (s.slot + 1)
zeros_later a b s space there parity ab beside held = record {
  slots = λ i le inside.
      let inside_a : i < 3 * rows_of a.disks.geometry =
      subst (λ (g : Geometry). i < 3 * rows_of g) ab.geometry inside in
      let inside_t : i < slots_of a.book.geometry Parity =
      subst (λ (g : Geometry). i < slots_of g Parity) (sym space.geometry) inside_a in
      subst (λ (g : Geometry). SlotHolds b (slot_at s.group i) (zeros (block_len_of g))) (sym ab.geometry)
      (beside.slots (slot_at s.group i) (zeros (block_len_of a.disks.geometry))
      (there, subst (λ (c : Class). i < slots_of a.book.geometry c) (sym parity) inside_t) refl
      (λ e. (let same : i ≡ s.slot = ap (λ (x : Slot). x.slot) e in omega arith))
      (held.slots i (omega arith) inside_a));
}

-- a stamp changes no slot
pub beside_hold_stamped : (a : StoreState) (b : SetState) (t : Tables) (k : Key) (to : Slot)
    → BesideHold a (store_of b t) to → BesideHold a (store_of b (stamped t k)) to
beside_hold_stamped a b t k to beside =
    record { slots = λ slot block there same ne holds. beside.slots slot block there same ne holds }
