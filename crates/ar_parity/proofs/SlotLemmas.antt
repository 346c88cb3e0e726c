-- Slots, by their rows.
use Rattle.std.proofs.Common.{◌≡◌, ◌≢◌, inl, inr, ℕ, ◌*◌, ◌/◌, ◌<◌, List, length, sym, ◌∙◌, ap, subst, arith}
use Rattle.std.proofs.lemmas.Bool.Decides.{eqb_tells, nat_tests}
use Rattle.ar_disks.specs.declared.address.Members.{Members}
use Rattle.ar_disks.specs.Block.{zeros, part_at, with_sectors}
use Rattle.ar_disks.specs.Geometry.{block_len_of}
use Rattle.ar_disks.specs.Endings.{OnDone}
use Rattle.ar_disks.specs.declared.completion.Completion.{Completion}
use Rattle.ar_disks.specs.declared.completion.Completion.TheVariants.{Done, Broken}
use Rattle.ar_disks.specs.Members.{member}
use Rattle.ar_extents.specs.Set.{SetState}
use Rattle.ar_extents.specs.Follows.{Follows}
use Rattle.ar_parity.specs.Row.{block, changed, row_of, data_position, parity_position, zero_blocks}
use Rattle.ar_parity.specs.Group.{RowAgrees, Holds, KeepsButRow}
use Rattle.ar_parity.specs.Call.{UpdatesPart}
use Rattle.ar_parity.proofs.Sums.{changed-data, changed-other}
use Rattle.ar_parity.proofs.PartSums.{part_at-whole, with_sectors-whole}
use Rattle.ar_parity.proofs.Agrees.{agrees_kept}
use Rattle.ar_parity.proofs.Updates.{zero_block}

pub position_below : (slot : ℕ) → data_position slot < 4
position_below slot = grind (arith, nat_tests)

pub position_apart : (slot : ℕ) → data_position slot ≢ parity_position (row_of slot)
position_apart slot = grind (arith, nat_tests)

pub parity_below : (row : ℕ) → parity_position row < 4
parity_below row = omega arith

-- different slots of a row stand on different members
pub positions_apart : (k slot : ℕ) → row_of k ≡ row_of slot → k ≢ slot → data_position k ≢ data_position slot
positions_apart k slot same ne = grind (arith, nat_tests)

-- the slot of which a part was put holds its block with that part overwritten
pub slot_changed : (a b : SetState) (m : Members) (slot first : ℕ) (bytes : List ℕ)
    → UpdatesPart a b m (row_of slot) (data_position slot) first bytes
    → (x : List ℕ) → Holds a m slot x → Holds b m slot (with_sectors x first bytes)
slot_changed a b m slot first bytes changes x holds =
    let i = data_position slot in
    let j = parity_position (row_of slot) in
    let new = with_sectors (block holds.blocks i) first bytes in
    record {
      blocks = changed holds.blocks i j new;
      agrees = changes.agrees holds.blocks holds.agrees;
      here = changed-data holds.blocks i j new (position_below slot) (parity_below (row_of slot)) (position_apart slot)
          ∙ ap (λ y. with_sectors y first bytes) holds.here;
    }

same_row : (a b : SetState) (m : Members) (slot k first : ℕ) (bytes : List ℕ)
    → UpdatesPart a b m (row_of slot) (data_position slot) first bytes
    → k ≢ slot → row_of k ≡ row_of slot → (x : List ℕ) → Holds a m k x → Holds b m k x
same_row a b m slot k first bytes changes ne same x holds =
    let i = data_position slot in
    let j = parity_position (row_of slot) in
    let new = with_sectors (block holds.blocks i) first bytes in
    let agrees = changes.agrees holds.blocks (subst (λ r. RowAgrees a m r holds.blocks) same holds.agrees) in
    record {
      blocks = changed holds.blocks i j new;
      agrees = subst (λ r. RowAgrees b m r (changed holds.blocks i j new)) (sym same) agrees;
      here =
          changed-other holds.blocks i j (data_position k) new (position_below slot) (parity_below (row_of slot))
          (position_below k)
          (positions_apart k slot same ne) (λ e. position_apart k (e ∙ ap parity_position (sym same)))
          ∙ holds.here;
    }

-- every other slot holds what it held
pub others_kept : (a b : SetState) (m : Members) (slot first : ℕ) (bytes : List ℕ) → Follows a b
    → UpdatesPart a b m (row_of slot) (data_position slot) first bytes → KeepsButRow m (row_of slot) a b
    → (k : ℕ) → k ≢ slot → (x : List ℕ) → Holds a m k x → Holds b m k x
others_kept a b m slot first bytes ab changes keeps k ne x holds =
    elim (eqb_tells (row_of k) (row_of slot)) [
      | inl q ↦ same_row a b m slot k first bytes changes ne q.1 x holds
      | inr q ↦
          record {
            blocks = holds.blocks;
            agrees = agrees_kept a b m (row_of k) holds.blocks ab (λ i lt. keeps.other_rows (member m i) (row_of k) q.1)
                holds.agrees;
            here = holds.here;
          }
    ]

-- a block that a slot holds is as long as the set's blocks
pub held_len : (s : SetState) (m : Members) (slot : ℕ) (x : List ℕ) → Holds s m slot x
    → length x ≡ block_len_of s.geometry
held_len s m slot x holds = ap length (sym holds.here) ∙ holds.agrees.add_up.lengths (data_position slot)

-- all of a part is the block that the slot holds
pub whole_given : (o : Completion) (s : SetState) (m : Members) (slot : ℕ) (x : List ℕ)
    → length x ≡ block_len_of s.geometry
    → OnDone o ((b : List ℕ) → Holds s m slot b → x ≡ part_at b 0 (length x))
    → OnDone o ((b : List ℕ) → Holds s m slot b → x ≡ b)
whole_given Done s m slot x len part = λ b holds.
    part b holds ∙ ap (λ n. part_at b 0 n) (len ∙ sym (held_len s m slot b holds)) ∙ part_at-whole b
whole_given Broken s m slot x len part = tt

-- and a slot whose block is overwritten whole holds the new one
pub whole_put : (a b : SetState) (m : Members) (slot : ℕ) (bytes x : List ℕ) → length bytes ≡ block_len_of a.geometry
    → Holds a m slot x → Holds b m slot (with_sectors x 0 bytes) → Holds b m slot bytes
whole_put a b m slot bytes x len held holds =
    subst (λ (y : List ℕ). Holds b m slot y)
    (with_sectors-whole x bytes (len ∙ sym (held_len a m slot x held))) holds

-- where every row agrees on zeros, every slot holds zeros
pub zero_slots : (s : SetState) (m : Members) (rows n : ℕ)
    → ((row : ℕ) → row < rows → RowAgrees s m row (zero_blocks n))
    → (slot : ℕ) → slot < 3 * rows → Holds s m slot (zeros n)
zero_slots s m rows n all slot lt = record {
  blocks = zero_blocks n;
  agrees = all (row_of slot) (let k : slot / 3 < rows = omega arith in k);
  here = zero_block n (data_position slot);
}
