-- What a slot holds goes by the contents of its group's extents, wherever these stand.
use Rattle.std.proofs.Common.{◌≡◌, ℕ, ◌+◌, ◌*◌, ◌/◌, ◌<◌, List, sym, subst, ◌∙◌, arith}
use Rattle.ar_disks.specs.declared.geometry.Geometry.{Geometry}
use Rattle.ar_disks.specs.declared.address.Members.{Members}
use Rattle.ar_disks.specs.Members.{member}
use Rattle.ar_disks.specs.Geometry.{rows_of, block_len_of}
use Rattle.ar_extents.specs.Set.{SetState, content, IsSound}
use Rattle.ar_mirror.specs.Holds.{Holds as MirrorHolds}
use Rattle.ar_mirror.specs.Slots.{row_of as mirror_row_of}
use Rattle.ar_mirror.proofs.Holding.{holds_at as mirror_holds_at}
use Rattle.ar_mirror.proofs.SlotLemmas.{pair_fits, row_fits}
use Rattle.ar_parity.specs.Group.{Holds as ParityHolds}
use Rattle.ar_parity.specs.Row.{AddUp, row_of as parity_row_of}
use Rattle.ar_book.specs.declared.class.Class.{Class}
use Rattle.ar_book.specs.declared.class.Class.TheVariants.{Free, Mirrored, Parity}
use Rattle.ar_book.specs.Tables.{slots_of}
use Rattle.ar_store.specs.Slots.{ClassHolds}

-- four extents stand for four others: what can be used of them could be used of those, and has the same content in
-- every row
pub record IsCopy (a c : SetState) (m n : Members) : Type 0 where
  pub geometry : c.geometry ≡ a.geometry
  pub usable : (j : ℕ) → j < 4 → IsSound c (member n j) → IsSound a (member m j)
  pub rows : (j row : ℕ) → j < 4 → row < rows_of a.geometry → content c (member n j) row ≡ content a (member m j) row

mirror_copied : (a c : SetState) (m n : Members) (i : ℕ) (block : List ℕ) → IsCopy a c m n → i < 2 * rows_of a.geometry
    → MirrorHolds a m i block → MirrorHolds c n i block
mirror_copied a c m n i block copy inside has =
    let pair = pair_fits a.geometry i inside in
    let one : ℕ = 2 * (i / rows_of a.geometry) in
    let row = mirror_row_of a.geometry i in
    let fits = row_fits a.geometry i in
    mirror_holds_at c a.geometry n i block copy.geometry (record {
      one_has = λ sound. copy.rows one row (omega arith) fits ∙ has.one_has (copy.usable one (omega arith) sound);
      other_has = λ sound. copy.rows (one + 1) row (omega arith) fits
          ∙ has.other_has (copy.usable (one + 1) (omega arith) sound);
    })

parity_copied : (a c : SetState) (m n : Members) (i : ℕ) (block : List ℕ) → IsCopy a c m n → i < 3 * rows_of a.geometry
    → ParityHolds a m i block → ParityHolds c n i block
parity_copied a c m n i block copy inside has =
    let fits : parity_row_of i < rows_of a.geometry = omega arith in
    let P : Geometry → Type 0 = λ g. AddUp (block_len_of g) has.blocks in
    record {
      blocks = has.blocks;
      agrees = record {
        add_up = subst P (sym copy.geometry) has.agrees.add_up;
        stand = λ j lt. record {
          content_is =
              λ sound. copy.rows j (parity_row_of i) lt fits
              ∙ (has.agrees.stand j lt).content_is (copy.usable j lt sound);
        };
      };
      here = has.here;
    }

-- a slot of theirs holds what the same slot of those held
pub class_copied : (class : Class) (a c : SetState) (m n : Members) (i : ℕ) (block : List ℕ) → IsCopy a c m n
    → i < slots_of a.geometry class
    → ClassHolds class a m i block → ClassHolds class c n i block
class_copied Free a c m n i block copy inside has = has
class_copied Mirrored a c m n i block copy inside has = mirror_copied a c m n i block copy inside has
class_copied Parity a c m n i block copy inside has = parity_copied a c m n i block copy inside has
