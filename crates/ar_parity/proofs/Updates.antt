-- What a put leaves of a row.
use Rattle.std.proofs.Common.{◌≡◌, ◌≢◌, inl, inr, ℕ, zero, suc, ◌+◌, ◌*◌, ◌<◌, ◌≤◌, below_more, List, length}
use Rattle.std.proofs.Common.{refl, sym, ◌∙◌, ap}
use Rattle.std.proofs.Common.{subst, arith}
use Rattle.std.proofs.lemmas.Bool.Decides.{eqb_tells}
use Rattle.ar_disks.specs.declared.address.Place.{Place}
use Rattle.ar_disks.specs.declared.address.Members.{Members}
use Rattle.ar_disks.specs.declared.geometry.Geometry.{Geometry}
use Rattle.ar_disks.specs.Block.{xor, zeros, part_at, with_sectors}
use Rattle.ar_disks.specs.Geometry.{block_len_of}
use Rattle.ar_disks.specs.Members.{member, AreApart}
use Rattle.ar_extents.specs.declared.health.Health.TheVariants.{Broken as AllBroken}
use Rattle.ar_extents.specs.Set.{SetState, content, IsLost, IsMissing}
use Rattle.ar_extents.specs.Follows.{Follows, Keeps, KeepsBut, Anywhere}
use Rattle.ar_extents.specs.Access.{GetsPart, PutsRow}
use Rattle.ar_extents.specs.declared.answers.Got.TheVariants.{Read}
use Rattle.ar_extents.specs.declared.answers.Put.{Put}
use Rattle.ar_extents.specs.declared.answers.Put.TheVariants.{Written, Missing, Broken as PutBroken}
use Rattle.ar_extents.proofs.Follows.{follows_then, keeps_refl}
use Rattle.ar_extents.proofs.GroupLemmas.{same_place}
use Rattle.ar_extents.proofs.Losses.{missing_lost, stays_lost}
use Rattle.ar_extents.specs.Groups.{IsOutside}
use Rattle.ar_parity.specs.Row.{Blocks, block, AddUp, changed, parity_position, zero_blocks}
use Rattle.ar_parity.specs.Group.{Stands, RowAgrees, KeepsButRow}
use Rattle.ar_parity.specs.Call.{UpdatesStripe, UpdatesPart}
use Rattle.ar_parity.proofs.Sums.{changed-data, changed-parity, changed-other, changed-sum, zeros_add_up}
use Rattle.ar_parity.proofs.PartSums.{part_at-xor, length-with_sectors, with_sectors-whole, sum_overwritten}
use Rattle.ar_parity.proofs.Agrees.{lost_stands, broken_stands, stands_kept, add_up_then, agrees_kept, agrees_read}
use Rattle.ar_parity.proofs.Agrees.{broken_agrees}

-- a write to a member leaves the others
pub kept_beside : (a b : SetState) (m : Members) (row i k : ℕ) → AreApart m → i < 4 → k < 4 → k ≢ i
    → KeepsBut (member m i) row a b
    → (r : ℕ) → content b (member m k) r ≡ content a (member m k) r
kept_beside a b m row i k apart li lk ne keeps r =
    keeps.other_places.rows (member m k) (λ e. apart k i lk li ne (ap (λ (p : Place). p.disk) e)) r

-- and what stands at them
pub stands_beside : (a b : SetState) (m : Members) (row i k : ℕ) (bytes : List ℕ) → AreApart m → i < 4 → k < 4 → k ≢ i
    → Follows a b → KeepsBut (member m i) row a b → Stands a m row k bytes → Stands b m row k bytes
stands_beside a b m row i k bytes apart li lk ne ab keeps stands =
    stands_kept a b m row k bytes ab (kept_beside a b m row i k apart li lk ne keeps row) stands

other_row_kept : (a b : SetState) (place p : Place) (row r : ℕ) → KeepsBut place row a b → r ≢ row
    → content b p r ≡ content a p r
other_row_kept a b place p row r keeps ne =
    elim (same_place p place) [
      | inl e ↦ subst (λ (x : Place). content b x r ≡ content a x r) (sym e) (keeps.other_rows r ne)
      | inr e ↦ keeps.other_places.rows p e r
    ]

pub row_refl : (m : Members) (row : ℕ) (s : SetState) → KeepsButRow m row s s
row_refl m row s = record { other_rows = λ place r ne. refl; other_places = keeps_refl (IsOutside m) s }

-- one more write in a row
pub row_then : (a b c : SetState) (m : Members) (row i : ℕ) → i < 4 → KeepsButRow m row a b
    → KeepsBut (member m i) row b c → KeepsButRow m row a c
row_then a b c m row i lt ab bc = record {
  other_rows = λ place r ne. other_row_kept b c (member m i) place row r bc ne ∙ ab.other_rows place r ne;
  other_places =
      record {
        rows = λ place outside r. bc.other_places.rows place (outside i lt) r
            ∙ ab.other_places.rows place outside r;
      };
}

-- the block and the parity were written, and no other member of the row
pub agrees_changed : (a b : SetState) (m : Members) (row i j : ℕ) (bytes : List ℕ) → Follows a b → i < 4 → j < 4 → i ≢ j
    → length bytes ≡ block_len_of a.geometry → (blocks : Blocks) → RowAgrees a m row blocks → Stands b m row i bytes
    → Stands b m row j (xor (xor (block blocks j) (block blocks i)) bytes)
    → ((k : ℕ) → k < 4 → k ≢ i → k ≢ j → content b (member m k) row ≡ content a (member m k) row)
    → RowAgrees b m row (changed blocks i j bytes)
agrees_changed a b m row i j bytes ab li lj ne len blocks agrees at_i at_j others = record {
  add_up = add_up_then a b (changed blocks i j bytes) ab
      (changed-sum (block_len_of a.geometry) blocks i j bytes agrees.add_up li lj ne len);
  stand = λ k lk.
      let here = block (changed blocks i j bytes) k in
      elim (eqb_tells k i) [
        | inl q ↦
            (let P : ℕ → Type 0 = λ n. Stands b m row n (block (changed blocks i j bytes) n) in
            subst P (sym q.1)
            (subst (λ (x : List ℕ). Stands b m row i x) (sym (changed-data blocks i j bytes li lj ne)) at_i))
        | inr q ↦
            elim (eqb_tells k j) [
              | inl r ↦
                  (let P : ℕ → Type 0 = λ n. Stands b m row n (block (changed blocks i j bytes) n) in
                  subst P (sym r.1)
                  (subst (λ (x : List ℕ). Stands b m row j x) (sym (changed-parity blocks i j bytes)) at_j))
              | inr r ↦
                  subst (λ (x : List ℕ). Stands b m row k x) (sym (changed-other blocks i j k bytes li lj lk q.1 r.1))
                  (stands_kept a b m row k (block blocks k) ab (others k lk q.1 r.1) (agrees.stand k lk))
            ]
      ];
}

-- on a broken set any row agrees
pub broken_changed : (a b : SetState) (m : Members) (row i j : ℕ) (bytes : List ℕ) → Follows a b → b.health ≡ AllBroken
    → i < 4 → j < 4 → i ≢ j
    → length bytes ≡ block_len_of a.geometry → (blocks : Blocks) → RowAgrees a m row blocks
    → RowAgrees b m row (changed blocks i j bytes)
broken_changed a b m row i j bytes ab is li lj ne len blocks agrees =
    broken_agrees b m row (changed blocks i j bytes) is
    (add_up_then a b (changed blocks i j bytes) ab
    (changed-sum (block_len_of a.geometry) blocks i j bytes agrees.add_up li lj ne len))

len_then : (a b : SetState) (bytes : List ℕ) → Follows a b → length bytes ≡ block_len_of a.geometry
    → length bytes ≡ block_len_of b.geometry
len_then a b bytes ab len = len ∙ ap block_len_of (sym ab.geometry)

-- what was read of a part of a member is that of what stands there
pub part_read : (a b : SetState) (m : Members) (row i first : ℕ) (place : Place) (bytes x : List ℕ) → place ≡ member m i
    → GetsPart a b place row first bytes Read
    → Stands a m row i x → bytes ≡ part_at x first (length bytes)
part_read a b m row i first place bytes x at got stands =
    let there = subst (λ (p : Place). GetsPart a b p row first bytes Read) at got in
    there.part refl ∙ ap (λ y. part_at y first (length bytes)) (stands.content_is there.block.was_sound)

-- what stands at a member of which a part was overwritten, unless it is missing
pub part_stands : (a b : SetState) (m : Members) (row i first : ℕ) (place : Place) (bytes : List ℕ) (answer : Put)
    → place ≡ member m i
    → PutsRow a b place row (with_sectors (content a place row) first bytes) answer
    → (x : List ℕ) → Stands a m row i x → Stands b m row i (with_sectors x first bytes)
part_stands a b m row i first place bytes Written at puts x stands =
    let P : Place → Type 0 = λ p. PutsRow a b p row (with_sectors (content a p row) first bytes) Written in
    let there = subst P at puts in
    record {
      content_is = λ sound.
          there.content_is ∙ ap (λ y. with_sectors y first bytes) (stands.content_is there.was_sound);
    }
part_stands a b m row i first place bytes Missing at puts x stands =
    lost_stands b m row i (with_sectors x first bytes)
    (missing_lost b (member m i) (subst (λ (p : Place). IsMissing b p) at puts))
part_stands a b m row i first place bytes PutBroken at puts x stands =
    broken_stands b m row i (with_sectors x first bytes) puts

overwritten_len : (n : ℕ) (blocks : Blocks) (i first : ℕ) (bytes : List ℕ) → AddUp n blocks
    → 512 * first + length bytes ≤ n
    → length (with_sectors (block blocks i) first bytes) ≡ n
overwritten_len n blocks i first bytes up within =
    let fits : 512 * first + length bytes ≤ length (block blocks i) = rw (up.lengths i) within in
    length-with_sectors (block blocks i) bytes first fits ∙ up.lengths i

-- the parity with its part overwritten
new_parity : (n : ℕ) (blocks : Blocks) (i j first : ℕ) (bytes sum : List ℕ) → AddUp n blocks
    → 512 * first + length bytes ≤ n
    → sum
    ≡ xor (xor (part_at (block blocks j) first (length bytes)) (part_at (block blocks i) first (length bytes))) bytes
    → with_sectors (block blocks j) first sum
    ≡ xor (xor (block blocks j) (block blocks i)) (with_sectors (block blocks i) first bytes)
new_parity n blocks i j first bytes sum up within is =
    let fits : 512 * first + length bytes ≤ length (block blocks i) = rw (up.lengths i) within in
    ap (λ y. with_sectors (block blocks j) first y) is
    ∙ sum_overwritten (block blocks j) (block blocks i) bytes first (up.lengths j ∙ sym (up.lengths i))
    fits

-- a part of the parity alone was written, since the block's member is lost
pub lost_changed : (a b c : SetState) (m : Members) (row i j p first : ℕ) (bytes two sum : List ℕ) → AreApart m → j ≡ p
    → i < 4 → j < 4 → i ≢ p
    → 512 * first + length bytes ≤ block_len_of a.geometry → IsLost a (member m i) → Follows a b → Keeps Anywhere a b
    → Follows b c → KeepsBut (member m j) row b c → sum ≡ xor two bytes
    → ((x : List ℕ) → Stands b m row j x → Stands c m row j (with_sectors x first sum))
    → ((blocks : Blocks) → RowAgrees a m row blocks
    → two ≡ part_at (xor (block blocks j) (block blocks i)) first (length bytes))
    → (blocks : Blocks) → RowAgrees a m row blocks
    → RowAgrees c m row (changed blocks i p (with_sectors (block blocks i) first bytes))
lost_changed a b c m row i j p first bytes two sum apart is li lj ne within lost ab keeps bc but sum_is at_j two_is
    blocks agrees =
    let n = block_len_of a.geometry in
    let new = with_sectors (block blocks i) first bytes in
    let read = agrees_read a b m row blocks ab keeps agrees in
    let parts = two_is blocks agrees ∙ part_at-xor (block blocks j) (block blocks i) first (length bytes) in
    let whole = new_parity n blocks i j first bytes sum agrees.add_up within (sum_is ∙ ap (λ x. xor x bytes) parts) in
    subst (λ k. RowAgrees c m row (changed blocks i k new)) is
    (agrees_changed b c m row i j new bc li lj (λ e. ne (e ∙ is))
    (len_then a b new ab (overwritten_len n blocks i first bytes agrees.add_up within)) blocks read
    (lost_stands c m row i new (stays_lost a c (member m i) (follows_then a b c ab bc) lost))
    (subst (λ (x : List ℕ). Stands c m row j x) whole (at_j (block blocks j) (read.stand j lj)))
    (λ k lk ki kj. kept_beside b c m row j k apart lj lk kj but row))

-- a part of the block alone was written, since the parity's member is missing
pub alone_changed : (a b c : SetState) (m : Members) (row i j p first : ℕ) (place : Place) (bytes : List ℕ)
    → AreApart m → place ≡ member m j → j ≡ p → i < 4 → j < 4 → i ≢ p
    → 512 * first + length bytes ≤ block_len_of a.geometry → Follows a b → Keeps Anywhere a b → IsMissing b place
    → Follows b c → KeepsBut (member m i) row b c
    → ((x : List ℕ) → Stands b m row i x → Stands c m row i (with_sectors x first bytes))
    → (blocks : Blocks) → RowAgrees a m row blocks
    → RowAgrees c m row (changed blocks i p (with_sectors (block blocks i) first bytes))
alone_changed a b c m row i j p first place bytes apart at is li lj ne within ab keeps missing bc but at_i blocks
    agrees =
    let new = with_sectors (block blocks i) first bytes in
    let read = agrees_read a b m row blocks ab keeps agrees in
    subst (λ k. RowAgrees c m row (changed blocks i k new)) is
    (agrees_changed b c m row i j new bc li lj (λ e. ne (e ∙ is))
    (len_then a b new ab (overwritten_len (block_len_of a.geometry) blocks i first bytes agrees.add_up within)) blocks
    read
    (at_i (block blocks i) (read.stand i li))
    (lost_stands c m row j (xor (xor (block blocks j) (block blocks i)) new)
    (stays_lost b c (member m j) bc (missing_lost b (member m j) (subst (λ (x : Place). IsMissing b x) at missing))))
    (λ k lk ki kj. kept_beside b c m row i k apart li lk ki but row))

-- a part of both was written
pub both_changed : (a b c : SetState) (m : Members) (row i j p first : ℕ) (place : Place)
    (bytes before old_parity sum : List ℕ) → place ≡ member m j → j ≡ p → i < 4 → j < 4 → i ≢ p
    → 512 * first + length bytes ≤ block_len_of a.geometry → Follows a b → Keeps Anywhere a b
    → GetsPart a b place row first old_parity Read → length old_parity ≡ length bytes
    → sum ≡ xor (xor old_parity before) bytes → Follows b c
    → ((x : List ℕ) → Stands b m row i x → Stands c m row i (with_sectors x first bytes))
    → ((x : List ℕ) → Stands b m row j x → Stands c m row j (with_sectors x first sum))
    → ((k : ℕ) → k < 4 → k ≢ i → k ≢ j → content c (member m k) row ≡ content b (member m k) row)
    → (blocks : Blocks) → RowAgrees a m row blocks → before ≡ part_at (block blocks i) first (length bytes)
    → RowAgrees c m row (changed blocks i p (with_sectors (block blocks i) first bytes))
both_changed a b c m row i j p first place bytes before old_parity sum at is li lj ne within ab keeps got len sum_is
    bc at_i at_j others blocks agrees before_is =
    let n = block_len_of a.geometry in
    let new = with_sectors (block blocks i) first bytes in
    let read = agrees_read a b m row blocks ab keeps agrees in
    let parity_is : old_parity ≡ part_at (block blocks j) first (length bytes) =
    part_read a b m row j first place old_parity (block blocks j) at got (agrees.stand j lj)
    ∙ ap (λ k. part_at (block blocks j) first k) len in
    let parts = ap (λ x. xor x before) parity_is
    ∙ ap (λ x. xor (part_at (block blocks j) first (length bytes)) x) before_is in
    let whole = new_parity n blocks i j first bytes sum agrees.add_up within (sum_is ∙ ap (λ x. xor x bytes) parts) in
    subst (λ k. RowAgrees c m row (changed blocks i k new)) is
    (agrees_changed b c m row i j new bc li lj (λ e. ne (e ∙ is))
    (len_then a b new ab (overwritten_len n blocks i first bytes agrees.add_up within)) blocks read
    (at_i (block blocks i) (read.stand i li))
    (subst (λ (x : List ℕ). Stands c m row j x) whole (at_j (block blocks j) (read.stand j lj))) others)

-- the set failed before anything was written
pub broken_part : (a b : SetState) (m : Members) (row i j first : ℕ) (bytes : List ℕ) → Follows a b
    → b.health ≡ AllBroken → i < 4 → j < 4 → i ≢ j → 512 * first + length bytes ≤ block_len_of a.geometry
    → (blocks : Blocks) → RowAgrees a m row blocks
    → RowAgrees b m row (changed blocks i j (with_sectors (block blocks i) first bytes))
broken_part a b m row i j first bytes ab is li lj ne within blocks agrees =
    broken_changed a b m row i j (with_sectors (block blocks i) first bytes) ab is li lj ne
    (overwritten_len (block_len_of a.geometry) blocks i first bytes agrees.add_up within) blocks agrees

-- The three ways of a put, after its first read.

pub changes_known : (a b c : SetState) (m : Members) (row i first : ℕ) (place : Place) (bytes before : List ℕ)
    → place ≡ member m i → i < 4 → Follows a b → Keeps Anywhere a b
    → GetsPart a b place row first before Read → length before ≡ length bytes
    → ((blocks : Blocks) → RowAgrees b m row blocks → before ≡ part_at (block blocks i) first (length bytes)
    → RowAgrees c m row (changed blocks i (parity_position row) (with_sectors (block blocks i) first bytes)))
    → UpdatesPart a c m row i first bytes
changes_known a b c m row i first place bytes before at li ab keeps got len after = record {
  agrees = λ blocks agrees.
      after blocks (agrees_read a b m row blocks ab keeps agrees)
      (part_read a b m row i first place before (block blocks i) at got (agrees.stand i li)
      ∙ ap (λ k. part_at (block blocks i) first k) len);
}

pub changes_lost : (a b c : SetState) (m : Members) (row i first : ℕ) (bytes : List ℕ) → Follows a b
    → Keeps Anywhere a b → UpdatesPart b c m row i first bytes → UpdatesPart a c m row i first bytes
changes_lost a b c m row i first bytes ab keeps after = record {
  agrees = λ blocks agrees. after.agrees blocks (agrees_read a b m row blocks ab keeps agrees);
}

pub changes_broken : (a b : SetState) (m : Members) (row i first : ℕ) (bytes : List ℕ) → Follows a b
    → b.health ≡ AllBroken → i < 4 → parity_position row < 4 → i ≢ parity_position row
    → 512 * first + length bytes ≤ block_len_of a.geometry
    → UpdatesPart a b m row i first bytes
changes_broken a b m row i first bytes ab is li lj ne within =
    record { agrees = broken_part a b m row i (parity_position row) first bytes ab is li lj ne within }

-- a block that is overwritten whole
pub stripe_updated : (a b : SetState) (m : Members) (row i : ℕ) (bytes : List ℕ)
    → length bytes ≡ block_len_of a.geometry → UpdatesPart a b m row i 0 bytes → UpdatesStripe a b m row i bytes
stripe_updated a b m row i bytes len changes = record {
  agrees = λ blocks agrees.
      subst (λ (x : List ℕ). RowAgrees b m row (changed blocks i (parity_position row) x))
      (with_sectors-whole (block blocks i) bytes (len ∙ sym (agrees.add_up.lengths i)))
      (changes.agrees blocks agrees);
}

pub zero_block : (n i : ℕ) → block (zero_blocks n) i ≡ zeros n
zero_block n zero = refl
zero_block n (suc zero) = refl
zero_block n (suc (suc zero)) = refl
zero_block n (suc (suc (suc i))) = refl

-- a row of zeros
pub zero_agrees : (a b : SetState) (m : Members) (row : ℕ) (zero_bytes : List ℕ)
    → zero_bytes ≡ zeros (block_len_of a.geometry) → Follows a b
    → ((i : ℕ) → i < 4 → Stands b m row i zero_bytes) → RowAgrees b m row (zero_blocks (block_len_of a.geometry))
zero_agrees a b m row zero_bytes is ab stands =
    let n = block_len_of a.geometry in
    record {
      add_up = add_up_then a b (zero_blocks n) ab (zeros_add_up n);
      stand = λ i lt. subst (λ (x : List ℕ). Stands b m row i x) (is ∙ sym (zero_block n i)) (stands i lt);
    }

pub broken_zero_agrees : (a b : SetState) (m : Members) (row : ℕ) → Follows a b → b.health ≡ AllBroken
    → RowAgrees b m row (zero_blocks (block_len_of a.geometry))
broken_zero_agrees a b m row ab is =
    let n = block_len_of a.geometry in
    broken_agrees b m row (zero_blocks n) is (add_up_then a b (zero_blocks n) ab (zeros_add_up n))

-- one more row of zeros
pub zeros_then : (a b c : SetState) (m : Members) (row : ℕ) → Follows a b → Follows b c → KeepsButRow m row b c
    → ((r : ℕ) → r < row → RowAgrees b m r (zero_blocks (block_len_of a.geometry)))
    → RowAgrees c m row (zero_blocks (block_len_of b.geometry))
    → (r : ℕ) → r < row + 1 → RowAgrees c m r (zero_blocks (block_len_of a.geometry))
zeros_then a b c m row ab bc keeps before here =
    let blocks = zero_blocks (block_len_of a.geometry) in
    below_more (λ r. RowAgrees c m r blocks) row
    (λ r lt. agrees_kept b c m r blocks bc (λ i li. keeps.other_rows (member m i) r (λ e. omega arith)) (before r lt))
    (subst (λ (g : Geometry). RowAgrees c m row (zero_blocks (block_len_of g))) ab.geometry here)

-- one more member of a row
pub stands_then : (a b : SetState) (m : Members) (row position : ℕ) (bytes : List ℕ) → AreApart m → position < 4
    → Follows a b
    → KeepsBut (member m position) row a b → ((i : ℕ) → i < position → Stands a m row i bytes)
    → Stands b m row position bytes
    → (i : ℕ) → i < position + 1 → Stands b m row i bytes
stands_then a b m row position bytes apart below ab keeps before here =
    below_more (λ i. Stands b m row i bytes) position
    (λ i lt. stands_kept a b m row i bytes ab
    (kept_beside a b m row position i apart below (omega arith) (λ e. omega arith) keeps row) (before i lt))
    here
