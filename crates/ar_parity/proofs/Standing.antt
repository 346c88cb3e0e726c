-- What stands in a slot is the block that it holds, so a slot holds one block at most.
use Rattle.std.proofs.Common.{◌≡◌, ◌≢◌, inl, inr, ℕ, zero, suc, ◌<◌, List, sym, ◌∙◌, ap, arith}
use Rattle.ar_disks.specs.declared.address.Members.{Members}
use Rattle.ar_disks.specs.Block.{xor}
use Rattle.ar_disks.specs.Geometry.{block_len_of}
use Rattle.ar_disks.specs.Members.{member, AreApart}
use Rattle.ar_extents.specs.declared.health.Health.TheVariants.{Broken as AllBroken}
use Rattle.ar_extents.specs.Set.{SetState, IsMissing, content}
use Rattle.ar_extents.proofs.Losses.{lost_or_sound, lost_missing_or_broken, other_sound}
use Rattle.ar_parity.specs.Row.{Blocks, block, AddUp, row_of, data_position}
use Rattle.ar_parity.specs.Others.{low_other, high_other}
use Rattle.ar_parity.specs.Group.{RowAgrees, Holds, sum_beside, standing_at, standing}
use Rattle.ar_parity.proofs.Sums.{sum_of_others, back_from_sum}
use Rattle.ar_parity.proofs.SlotLemmas.{position_below}

-- a block is the sum of the three others
pub of_others : (n : ℕ) (x : Blocks) (i j : ℕ) → AddUp n x → i < 4 → j < 4 → i ≢ j
    → block x i ≡ xor (xor (block x (low_other i j)) (block x (high_other i j))) (block x j)
of_others n x i j up li lj ne =
    sym (ap (λ z. xor z (block x j)) (sum_of_others n x i j up li lj ne)
    ∙ back_from_sum n (block x i) (block x j) (up.lengths i) (up.lengths j))

same_sum : (a b c x y z : List ℕ) → a ≡ x → b ≡ y → c ≡ z → xor (xor a b) c ≡ xor (xor x y) z
same_sum a b c x y z ax by cz =
    ap (λ l. xor (xor l b) c) ax ∙ ap (λ l. xor (xor x l) c) by ∙ ap (λ l. xor (xor x y) l) cz

sum_is : (s : SetState) (m : Members) (row i n : ℕ) (x : Blocks) → i < 4 → AddUp n x
    → ((k : ℕ) → k < 4 → k ≢ i → content s (member m k) row ≡ block x k) → sum_beside s m row i ≡ block x i
sum_is s m row zero n x lt up others =
    same_sum (content s m.second row) (content s m.third row) (content s m.fourth row) x.second x.third x.fourth
    (others 1 (omega arith) (λ e. omega arith)) (others 2 (omega arith) (λ e. omega arith))
    (others 3 (omega arith) (λ e. omega arith))
    ∙ sym (of_others n x 0 3 up lt (omega arith) (λ e. omega arith))
sum_is s m row (suc zero) n x lt up others =
    same_sum (content s m.first row) (content s m.third row) (content s m.fourth row) x.first x.third x.fourth
    (others 0 (omega arith) (λ e. omega arith)) (others 2 (omega arith) (λ e. omega arith))
    (others 3 (omega arith) (λ e. omega arith))
    ∙ sym (of_others n x 1 3 up lt (omega arith) (λ e. omega arith))
sum_is s m row (suc (suc zero)) n x lt up others =
    same_sum (content s m.first row) (content s m.second row) (content s m.fourth row) x.first x.second x.fourth
    (others 0 (omega arith) (λ e. omega arith)) (others 1 (omega arith) (λ e. omega arith))
    (others 3 (omega arith) (λ e. omega arith))
    ∙ sym (of_others n x 2 3 up lt (omega arith) (λ e. omega arith))
sum_is s m row (suc (suc (suc zero))) n x lt up others =
    same_sum (content s m.first row) (content s m.second row) (content s m.third row) x.first x.second x.third
    (others 0 (omega arith) (λ e. omega arith)) (others 1 (omega arith) (λ e. omega arith))
    (others 2 (omega arith) (λ e. omega arith))
    ∙ sym (of_others n x 3 2 up lt (omega arith) (λ e. omega arith))
sum_is s m row (suc (suc (suc (suc i)))) n x lt up others = absurd (omega arith)

-- what the members beside a missing one add up to is its block
pub sum_beside_is : (s : SetState) (m : Members) (row i : ℕ) (blocks : Blocks) → AreApart m → i < 4
    → IsMissing s (member m i)
    → RowAgrees s m row blocks → sum_beside s m row i ≡ block blocks i
sum_beside_is s m row i blocks apart lt missing agrees =
    sum_is s m row i (block_len_of s.geometry) blocks lt agrees.add_up
    (λ k lk ne. (agrees.stand k lk).content_is
    (other_sound s (member m i) (member m k) missing (apart i k lt lk (λ e. ne (sym e)))))

-- while the set isn't broken, what stands at a position of a row is the row's block there
pub standing_at_is : (s : SetState) (m : Members) (row i : ℕ) (blocks : Blocks) → AreApart m → i < 4
    → s.health ≢ AllBroken
    → RowAgrees s m row blocks → standing_at s m row i ≡ block blocks i
standing_at_is s m row i blocks apart lt healthy agrees =
    let place = member m i in
    elim (lost_or_sound s place) [
      | inr sound ↦ rw sound ((agrees.stand i lt).content_is sound)
      | inl lost ↦
          elim (lost_missing_or_broken s place lost) [
            | inl missing ↦ rw lost (sum_beside_is s m row i blocks apart lt missing agrees)
            | inr broken ↦ absurd (healthy broken)
          ]
    ]

-- while the set isn't broken, what stands in a slot is the block that it holds
pub standing_is : (s : SetState) (m : Members) (slot : ℕ) (bytes : List ℕ) → AreApart m → s.health ≢ AllBroken
    → Holds s m slot bytes
    → standing s m slot ≡ bytes
standing_is s m slot bytes apart healthy holds =
    standing_at_is s m (row_of slot) (data_position slot) holds.blocks apart (position_below slot) healthy holds.agrees
    ∙ holds.here

-- and so it holds one block at most
pub holds_one : (s : SetState) (m : Members) (slot : ℕ) (b c : List ℕ) → AreApart m → s.health ≢ AllBroken
    → Holds s m slot b → Holds s m slot c → b ≡ c
holds_one s m slot b c apart healthy in_b in_c =
    sym (standing_is s m slot b apart healthy in_b) ∙ standing_is s m slot c apart healthy in_c
