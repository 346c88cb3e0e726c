-- Disks of which no extent is usable that wasn't, and each has the content that it had: slots and blocks keep their
-- contents.
use Rattle.std.proofs.Common.{◌≡◌, ◌≢◌, ℕ, List, sym, ap, subst, ◌∙◌}
use Rattle.ar_disks.specs.declared.address.Place.{Place}
use Rattle.ar_disks.specs.declared.address.Members.{Members}
use Rattle.ar_disks.specs.declared.geometry.Geometry.{Geometry}
use Rattle.ar_disks.specs.Geometry.{block_len_of}
use Rattle.ar_disks.specs.Members.{member}
use Rattle.ar_extents.specs.declared.health.Health.TheVariants.{Broken}
use Rattle.ar_extents.specs.Set.{SetState, IsSound, content}
use Rattle.ar_mirror.specs.Slots.{one_of, other_of, row_of}
use Rattle.ar_mirror.specs.Holds.{Holds as MirrorHolds}
use Rattle.ar_mirror.proofs.Holding.{holds_at}
use Rattle.ar_parity.specs.Row.{AddUp, row_of as parity_row_of}
use Rattle.ar_parity.specs.Group.{Holds as ParityHolds}
use Rattle.ar_book.specs.declared.class.Class.{Class}
use Rattle.ar_book.specs.declared.class.Class.TheVariants.{Free, Mirrored, Parity}
use Rattle.ar_book.specs.Tables.{Tables, group_in, class_of}
use Rattle.ar_book.proofs.Homes.{home_slot}
use Rattle.ar_store.specs.Store.{store_of}
use Rattle.ar_store.specs.Slots.{ClassHolds, SlotsHold, AllStand}
use Rattle.ar_store.specs.Kept.{IsSpace}
use Rattle.ar_store.proofs.Spaces.{HaveShape, space_kept}
use Rattle.ar_store.proofs.Standing.{stands_kept}

-- what is used was used before, and has the content that it had
pub record AreAlike (a b : SetState) : Type 0 where
  pub geometry : b.geometry ≡ a.geometry
  pub sound : (p : Place) → IsSound b p → IsSound a p
  pub same : (p : Place) (row : ℕ) → IsSound b p → content b p row ≡ content a p row

mirror_alike : (a b : SetState) (m : Members) (i : ℕ) (bytes : List ℕ) → AreAlike a b → MirrorHolds a m i bytes
    → MirrorHolds b m i bytes
mirror_alike a b m i bytes alike has =
    let one = one_of a.geometry m i in
    let other = other_of a.geometry m i in
    let row = row_of a.geometry i in
    holds_at b a.geometry m i bytes alike.geometry (record {
      one_has = λ used. alike.same one row used ∙ has.one_has (alike.sound one used);
      other_has = λ used. alike.same other row used ∙ has.other_has (alike.sound other used);
    })

parity_alike : (a b : SetState) (m : Members) (i : ℕ) (bytes : List ℕ) → AreAlike a b → ParityHolds a m i bytes
    → ParityHolds b m i bytes
parity_alike a b m i bytes alike has = record {
  blocks = has.blocks;
  agrees = record {
    add_up = (let P : Geometry → Type 0 = λ g. AddUp (block_len_of g) has.blocks in
        subst P (sym alike.geometry) has.agrees.add_up);
    stand = λ n lt. record {
      content_is =
          λ used. alike.same (member m n) (parity_row_of i) used
          ∙ (has.agrees.stand n lt).content_is (alike.sound (member m n) used);
    };
  };
  here = has.here;
}

-- a slot of any class holds what it held
pub class_alike : (c : Class) (a b : SetState) (m : Members) (i : ℕ) (bytes : List ℕ) → AreAlike a b
    → ClassHolds c a m i bytes → ClassHolds c b m i bytes
class_alike Free a b m i bytes alike has = has
class_alike Mirrored a b m i bytes alike has = mirror_alike a b m i bytes alike has
class_alike Parity a b m i bytes alike has = parity_alike a b m i bytes alike has

pub slots_alike : (a b : SetState) (t : Tables) → AreAlike a b → SlotsHold (store_of a t) (store_of b t)
slots_alike a b t alike = record {
  slots = λ slot bytes has holds. class_alike (class_of t slot.group) a b (group_in t.groups slot.group).members
      slot.slot bytes alike holds;
}

-- where every slot holds what it held, the store keeps what it kept,
pub space_alike : (a b : SetState) (t : Tables) → IsSpace (store_of a t) → HaveShape a b
    → SlotsHold (store_of a t) (store_of b t) → IsSpace (store_of b t)
space_alike a b t space shape slots =
    space_kept a b t space shape
    (λ slot has held. record {
      block = held.block;
      len = held.len ∙ ap block_len_of (sym shape.geometry);
      holds = slots.slots slot held.block has held.holds;
    })

-- and every block stands as it did
pub all_alike : (a b : SetState) (t : Tables) → IsSpace (store_of a t) → HaveShape a b
    → SlotsHold (store_of a t) (store_of b t) → (b.health ≢ Broken → a.health ≢ Broken)
    → AllStand (store_of a t) (store_of b t)
all_alike a b t space shape slots before = record {
  blocks = λ sound k.
      stands_kept a b t k space (space_alike a b t space shape slots) shape.geometry (before sound) sound
      (λ slot block is holds. slots.slots slot block (home_slot t space.tables k slot is) holds);
}
