-- Rows that agree, and what reads and writes leave of them.
use Rattle.std.proofs.Common.{◌≡◌, ◌≢◌, ℕ, ◌<◌, List, length, sym, ◌∙◌, ap, subst}
use Rattle.ar_disks.specs.declared.address.Members.{Members}
use Rattle.ar_disks.specs.declared.geometry.Geometry.{Geometry}
use Rattle.ar_disks.specs.Block.{xor, part_at}
use Rattle.ar_disks.specs.Geometry.{block_len_of}
use Rattle.ar_disks.specs.Members.{member}
use Rattle.ar_extents.specs.declared.health.Health.TheVariants.{Broken as AllBroken}
use Rattle.ar_extents.specs.Set.{SetState, content, IsLost}
use Rattle.ar_extents.specs.Follows.{Follows, Keeps, Anywhere}
use Rattle.ar_extents.proofs.Losses.{lost_not_sound, broken_lost}
use Rattle.ar_disks.specs.declared.completion.Completion.{Completion}
use Rattle.ar_disks.specs.declared.completion.Completion.TheVariants.{Done, Broken}
use Rattle.ar_parity.specs.Row.{Blocks, block, AddUp}
use Rattle.ar_parity.specs.Others.{low_other, high_other}
use Rattle.ar_parity.specs.Group.{Stands, RowAgrees, KeepsButRow}
use Rattle.ar_disks.specs.Endings.{OnDone}
use Rattle.ar_parity.proofs.Sums.{sum_of_others, back_from_sum}
use Rattle.ar_parity.proofs.PartSums.{part_at-xor, part_at-whole}

-- of a member that is lost anything may be said
pub lost_stands : (s : SetState) (m : Members) (row i : ℕ) (bytes : List ℕ) → IsLost s (member m i)
    → Stands s m row i bytes
lost_stands s m row i bytes lost = record { content_is = λ sound. absurd (lost_not_sound s (member m i) lost sound) }

pub broken_stands : (s : SetState) (m : Members) (row i : ℕ) (bytes : List ℕ) → s.health ≡ AllBroken
    → Stands s m row i bytes
broken_stands s m row i bytes is = lost_stands s m row i bytes (broken_lost s (member m i) is)

pub stands_kept : (a b : SetState) (m : Members) (row i : ℕ) (bytes : List ℕ) → Follows a b
    → content b (member m i) row ≡ content a (member m i) row → Stands a m row i bytes → Stands b m row i bytes
stands_kept a b m row i bytes ab same stands =
    record { content_is = λ sound. same ∙ stands.content_is (ab.usable (member m i) sound) }

-- after reads a member has what it had
pub stands_read : (a b : SetState) (m : Members) (row i : ℕ) (bytes : List ℕ) → Follows a b → Keeps Anywhere a b
    → Stands a m row i bytes → Stands b m row i bytes
stands_read a b m row i bytes ab keeps stands = stands_kept a b m row i bytes ab (keeps.rows (member m i) tt row) stands

pub add_up_then : (a b : SetState) (blocks : Blocks) → Follows a b → AddUp (block_len_of a.geometry) blocks
    → AddUp (block_len_of b.geometry) blocks
add_up_then a b blocks ab up = subst (λ (g : Geometry). AddUp (block_len_of g) blocks) (sym ab.geometry) up

-- a row whose content stays agrees on the blocks that it agreed on
pub agrees_kept : (a b : SetState) (m : Members) (row : ℕ) (blocks : Blocks) → Follows a b
    → ((i : ℕ) → i < 4 → content b (member m i) row ≡ content a (member m i) row) → RowAgrees a m row blocks
    → RowAgrees b m row blocks
agrees_kept a b m row blocks ab same agrees = record {
  add_up = add_up_then a b blocks ab agrees.add_up;
  stand = λ i lt. stands_kept a b m row i (block blocks i) ab (same i lt) (agrees.stand i lt);
}

pub agrees_read : (a b : SetState) (m : Members) (row : ℕ) (blocks : Blocks) → Follows a b → Keeps Anywhere a b
    → RowAgrees a m row blocks → RowAgrees b m row blocks
agrees_read a b m row blocks ab keeps agrees =
    agrees_kept a b m row blocks ab (λ i lt. keeps.rows (member m i) tt row) agrees

pub broken_agrees : (s : SetState) (m : Members) (row : ℕ) (blocks : Blocks) → s.health ≡ AllBroken
    → AddUp (block_len_of s.geometry) blocks → RowAgrees s m row blocks
broken_agrees s m row blocks is up = record { add_up = up; stand = λ i lt. broken_stands s m row i (block blocks i) is }

-- parts of two of the blocks beside a lost one, read in turn and added
two_sum : (s t : SetState) (m : Members) (row lost beside low high first n : ℕ) (x y : List ℕ) → lost < 4 → beside < 4
    → beside ≢ lost
    → low ≡ low_other lost beside → high ≡ high_other lost beside → low < 4 → high < 4 → Follows s t
    → Keeps Anywhere s t
    → ((b : List ℕ) → Stands s m row low b → x ≡ part_at b first n)
    → ((b : List ℕ) → Stands t m row high b → y ≡ xor x (part_at b first n))
    → (blocks : Blocks) → RowAgrees s m row blocks
    → y ≡ part_at (xor (block blocks beside) (block blocks lost)) first n
two_sum s t m row lost beside low high first n x y ll lb ne is_low is_high ll_low ll_high st keeps one two blocks
    agrees =
    let of_low = one (block blocks low) (agrees.stand low ll_low) in
    let of_high = two (block blocks high)
    (stands_read s t m row high (block blocks high) st keeps (agrees.stand high ll_high)) in
    let sum = sum_of_others (block_len_of s.geometry) blocks lost beside agrees.add_up ll lb (λ e. ne (sym e)) in
    of_high ∙ ap (λ z. xor z (part_at (block blocks high) first n)) of_low
    ∙ sym (part_at-xor (block blocks low) (block blocks high) first n)
    ∙ ap (λ z. part_at z first n)
    (ap (λ i. xor (block blocks i) (block blocks high)) is_low
    ∙ ap (λ i. xor (block blocks (low_other lost beside)) (block blocks i)) is_high
    ∙ sum)

-- the third one, added to that sum
three_sum : (s t : SetState) (m : Members) (row lost third first n : ℕ) (x y : List ℕ) → third < 4 → Follows s t
    → Keeps Anywhere s t
    → ((blocks : Blocks) → RowAgrees s m row blocks
    → x ≡ part_at (xor (block blocks third) (block blocks lost)) first n)
    → ((b : List ℕ) → Stands t m row third b → y ≡ xor x (part_at b first n))
    → (blocks : Blocks) → RowAgrees s m row blocks → y ≡ part_at (block blocks lost) first n
three_sum s t m row lost third first n x y lt st keeps two last blocks agrees =
    let up = agrees.add_up in
    let sum : List ℕ = xor (block blocks third) (block blocks lost) in
    last (block blocks third) (stands_read s t m row third (block blocks third) st keeps (agrees.stand third lt))
    ∙ ap (λ z. xor z (part_at (block blocks third) first n)) (two blocks agrees)
    ∙ sym (part_at-xor sum (block blocks third) first n)
    ∙ ap (λ z. part_at z first n)
    (back_from_sum (block_len_of s.geometry) (block blocks lost) (block blocks third) (up.lengths lost)
    (up.lengths third))

-- and so where the last read answers that it is done
pub two_sum_done : (o : Completion) (s t : SetState) (m : Members) (row lost beside low high first n : ℕ)
    (x y : List ℕ) → lost < 4 → beside < 4 → beside ≢ lost
    → low ≡ low_other lost beside → high ≡ high_other lost beside → low < 4 → high < 4 → Follows s t
    → Keeps Anywhere s t
    → ((b : List ℕ) → Stands s m row low b → x ≡ part_at b first n)
    → OnDone o ((b : List ℕ) → Stands t m row high b → y ≡ xor x (part_at b first n))
    → OnDone o ((blocks : Blocks) → RowAgrees s m row blocks
    → y ≡ part_at (xor (block blocks beside) (block blocks lost)) first n)
two_sum_done Done s t m row lost beside low high first n x y ll lb ne is_low is_high ll_low ll_high st keeps one two =
    two_sum s t m row lost beside low high first n x y ll lb ne is_low is_high ll_low ll_high st keeps one two
two_sum_done Broken s t m row lost beside low high first n x y ll lb ne is_low is_high ll_low ll_high st keeps one
    two = tt

pub three_sum_done : (o : Completion) (s t : SetState) (m : Members) (row lost third first n : ℕ) (x y : List ℕ)
    → third < 4 → Follows s t → Keeps Anywhere s t
    → ((blocks : Blocks) → RowAgrees s m row blocks
    → x ≡ part_at (xor (block blocks third) (block blocks lost)) first n)
    → OnDone o ((b : List ℕ) → Stands t m row third b → y ≡ xor x (part_at b first n))
    → OnDone o ((blocks : Blocks) → RowAgrees s m row blocks → y ≡ part_at (block blocks lost) first n)
three_sum_done Done s t m row lost third first n x y lt st keeps two last =
    three_sum s t m row lost third first n x y lt st keeps two last
three_sum_done Broken s t m row lost third first n x y lt st keeps two last = tt

-- all of a part is the block
pub whole_sum : (o : Completion) (s : SetState) (m : Members) (row lost : ℕ) (x : List ℕ)
    → length x ≡ block_len_of s.geometry
    → OnDone o ((blocks : Blocks) → RowAgrees s m row blocks → x ≡ part_at (block blocks lost) 0 (length x))
    → OnDone o ((blocks : Blocks) → RowAgrees s m row blocks → x ≡ block blocks lost)
whole_sum Done s m row lost x len part = λ blocks agrees.
    part blocks agrees
    ∙ ap (λ n. part_at (block blocks lost) 0 n) (len ∙ sym (agrees.add_up.lengths lost))
    ∙ part_at-whole (block blocks lost)
whole_sum Broken s m row lost x len part = tt

-- a row beside the one that was written agrees on what it agreed on
pub other_row_agrees : (a b : SetState) (m : Members) (row r : ℕ) (blocks : Blocks) → Follows a b
    → KeepsButRow m row a b → r ≢ row
    → RowAgrees a m r blocks → RowAgrees b m r blocks
other_row_agrees a b m row r blocks ab keeps ne agrees =
    agrees_kept a b m r blocks ab (λ i lt. keeps.other_rows (member m i) r ne) agrees
