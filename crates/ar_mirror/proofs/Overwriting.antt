-- What two writes of a part of a slot's block come to: those of the block with that part overwritten.
use Rattle.std.proofs.Common.{◌≡◌, ◌≢◌, ℕ, ◌<◌, List, sym, ◌∙◌, ap, subst}
use Rattle.ar_disks.specs.Block.{with_sectors}
use Rattle.ar_disks.specs.declared.geometry.Geometry.{Geometry}
use Rattle.ar_disks.specs.declared.address.Place.{Place}
use Rattle.ar_disks.specs.declared.address.Members.{Members}
use Rattle.ar_extents.specs.Set.{SetState, content, IsSound}
use Rattle.ar_extents.specs.Access.{PutsRow, is_written}
use Rattle.ar_extents.specs.Plans.{Attempts, write_at, CarriesOut}
use Rattle.ar_extents.specs.declared.answers.Put.{Put}
use Rattle.ar_extents.specs.declared.answers.Put.TheVariants.{Written, Missing, Broken}
use Rattle.ar_extents.specs.Groups.{IsGroup}
use Rattle.ar_extents.proofs.Asking.{attempt_keeps, attempt_follows}
use Rattle.ar_mirror.specs.Slots.{mirror_slots_of, row_of, one_of, other_of}
use Rattle.ar_mirror.specs.Holds.{Holds}
use Rattle.ar_mirror.specs.Plans.{mirror_write}
use Rattle.ar_mirror.specs.Calls.{OtherMirrorSlotsHold, OtherGroupsHold}
use Rattle.ar_mirror.proofs.SlotLemmas.{pair_apart}
use Rattle.ar_mirror.proofs.Holding.{slot_written, slots_hold, groups_hold}
use Rattle.ar_mirror.proofs.Reported.{write_reported}

-- a write of a part of a row that has this block
as_block : (a b : SetState) (p : Place) (row first : ℕ) (bytes block : List ℕ) (answer : Put)
    → (IsSound a p → content a p row ≡ block)
    → PutsRow a b p row (with_sectors (content a p row) first bytes) answer
    → PutsRow a b p row (with_sectors block first bytes) answer
as_block a b p row first bytes block Written has puts = record {
  content_is = puts.content_is ∙ ap (λ x. with_sectors x first bytes) (has puts.was_sound);
  was_sound = puts.was_sound;
  sound = puts.sound;
}
as_block a b p row first bytes block Missing has puts = puts
as_block a b p row first bytes block Broken has puts = puts

-- what a slot holds after both writes
pub part_holds : (m : Members) (slot : ℕ) (a b c : SetState) (g : Geometry) (one other : Place) (row first : ℕ)
    (bytes block : List ℕ) (answer answer_other : Put) → IsGroup a m → slot < mirror_slots_of a.geometry
    → g ≡ a.geometry → one ≡ one_of g m slot → other ≡ other_of g m slot → row ≡ row_of g slot
    → PutsRow a b one row (with_sectors (content a one row) first bytes) answer
    → Attempts (write_at one row) (is_written answer) a b
    → PutsRow b c other row (with_sectors (content b other row) first bytes) answer_other
    → Attempts (write_at other row) (is_written answer_other) b c
    → Holds a m slot block → Holds c m slot (with_sectors block first bytes)
part_holds m slot a b c g one other row first bytes block answer answer_other group hs same is_one is_other is_row puts
    made puts_other made_other has =
    let one_is : one ≡ one_of a.geometry m slot = is_one ∙ ap (λ (x : Geometry). one_of x m slot) same in
    let other_is : other ≡ other_of a.geometry m slot = is_other ∙ ap (λ (x : Geometry). other_of x m slot) same in
    let row_is : row ≡ row_of a.geometry slot = is_row ∙ ap (λ (x : Geometry). row_of x slot) same in
    let Has : Place → ℕ → Type 0 = λ p r. IsSound a p → content a p r ≡ block in
    let one_has : Has one row =
    subst (λ (p : Place). Has p row) (sym one_is)
    (subst (λ r. Has (one_of a.geometry m slot) r) (sym row_is) has.one_has) in
    let other_has : Has other row =
    subst (λ (p : Place). Has p row) (sym other_is)
    (subst (λ r. Has (other_of a.geometry m slot) r) (sym row_is) has.other_has) in
    let apart : other ≢ one =
    λ is. pair_apart a.geometry m slot group.apart hs
    (ap (λ (p : Place). p.disk) (sym one_is ∙ sym is ∙ other_is)) in
    let keeps = attempt_keeps (write_at one row) (is_written answer) a b made in
    let follows = attempt_follows (write_at one row) (is_written answer) a b made in
    let after : List ℕ = with_sectors block first bytes in
    (slot_written m slot a b c g one other row after answer answer_other group hs same is_one is_other is_row
    (as_block a b one row first bytes block answer one_has puts) made
    (as_block b c other row first bytes block answer_other
    (λ sound. keeps.other_places.rows other apart row ∙ other_has (follows.usable other sound)) puts_other)
    made_other).holds

-- what they leave of the other slots
pub record PartWritten (m : Members) (slot : ℕ) (a c : SetState) : Type 0 where
  pub slots : OtherMirrorSlotsHold m slot a c
  pub groups : OtherGroupsHold m a c

pub part_written : (m : Members) (slot : ℕ) (a c : SetState) → IsGroup a m → slot < mirror_slots_of a.geometry
    → CarriesOut (mirror_write a.geometry m slot) a c
    → PartWritten m slot a c
part_written m slot a c group hs carried =
    let reported = write_reported m slot a c carried in
    record {
      slots = slots_hold m slot a c group.apart hs reported.works.follows reported.keeps;
      groups = groups_hold m slot a c hs reported.works.follows reported.keeps;
    }
