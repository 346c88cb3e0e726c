-- A stripe that was written whole.
use Rattle.std.proofs.Common.{◌≡◌, ◌≢◌, ℕ, zero, suc, ◌+◌, ◌*◌, ◌/◌, ◌%◌, ◌<◌, nat_lt, if◌then◌else◌, List, [], ◌∷◌}
use Rattle.std.proofs.Common.{length, refl, sym, ◌∙◌, ap, subst, arith}
use Rattle.ar_disks.specs.declared.address.Members.{Members}
use Rattle.ar_disks.specs.Block.{xor, zeros}
use Rattle.ar_disks.specs.Geometry.{block_len_of}
use Rattle.ar_disks.specs.Members.{member}
use Rattle.ar_disks.proofs.Xor.{xor_self}
use Rattle.ar_extents.specs.declared.health.Health.TheVariants.{Broken as AllBroken}
use Rattle.ar_extents.specs.Set.{SetState, content}
use Rattle.ar_extents.specs.Follows.{Follows}
use Rattle.ar_extents.specs.Plans.{CarriesOut, each_of, write_at}
use Rattle.ar_extents.proofs.Plans.{each_then}
use Rattle.ar_parity.specs.Row.{Blocks, block, total, AddUp, data_position, parity_position}
use Rattle.ar_parity.specs.Group.{Stands, RowAgrees, Holds, HoldsStripe}
use Rattle.ar_parity.specs.Plans.{write_two, stripe_writes}
use Rattle.ar_parity.proofs.Sums.{s34, f03, f30, length_sum}
use Rattle.ar_parity.proofs.Agrees.{broken_stands, stands_kept}
use Rattle.ar_parity.proofs.SlotLemmas.{position_below, position_apart, positions_apart}
use Rattle.ar_parity.proofs.Plans.{carried_to}

-- three blocks in order, past a fourth at this position
abbrev pub around : ℕ → List ℕ → List ℕ → List ℕ → List ℕ → Blocks
around zero p a b c = record { first = p; second = a; third = b; fourth = c }
around (suc zero) p a b c = record { first = a; second = p; third = b; fourth = c }
around (suc (suc zero)) p a b c = record { first = a; second = b; third = p; fourth = c }
around (suc (suc (suc n))) p a b c = record { first = a; second = b; third = c; fourth = p }

-- the position of the `i`th of them
abbrev pub past : ℕ → ℕ → ℕ
past i parity = if nat_lt i parity then i else i + 1

-- what is so of each of the four, is so at every position
each_block : (P : ℕ → List ℕ → Type 0) (x : Blocks) → P 0 x.first → P 1 x.second → P 2 x.third → P 3 x.fourth
    → (i : ℕ) → i < 4 → P i (block x i)
each_block P x one two three four zero lt = one
each_block P x one two three four (suc zero) lt = two
each_block P x one two three four (suc (suc zero)) lt = three
each_block P x one two three four (suc (suc (suc zero))) lt = four
each_block P x one two three four (suc (suc (suc (suc i)))) lt = absurd (omega arith)

each_around : (P : ℕ → List ℕ → Type 0) (j : ℕ) (p a b c : List ℕ) → j < 4 → P j p → P (past 0 j) a → P (past 1 j) b
    → P (past 2 j) c → (i : ℕ) → i < 4 → P i (block (around j p a b c) i)
each_around P zero p a b c lt at_p at_a at_b at_c = each_block P (around 0 p a b c) at_p at_a at_b at_c
each_around P (suc zero) p a b c lt at_p at_a at_b at_c = each_block P (around 1 p a b c) at_a at_p at_b at_c
each_around P (suc (suc zero)) p a b c lt at_p at_a at_b at_c = each_block P (around 2 p a b c) at_a at_b at_p at_c
each_around P (suc (suc (suc zero))) p a b c lt at_p at_a at_b at_c =
    each_block P (around 3 p a b c) at_a at_b at_c at_p
each_around P (suc (suc (suc (suc j)))) p a b c lt at_p at_a at_b at_c = absurd (omega arith)

first_around : (j : ℕ) (p a b c : List ℕ) → j < 4 → block (around j p a b c) (past 0 j) ≡ a
first_around zero p a b c lt = refl
first_around (suc zero) p a b c lt = refl
first_around (suc (suc zero)) p a b c lt = refl
first_around (suc (suc (suc zero))) p a b c lt = refl
first_around (suc (suc (suc (suc j)))) p a b c lt = absurd (omega arith)

second_around : (j : ℕ) (p a b c : List ℕ) → j < 4 → block (around j p a b c) (past 1 j) ≡ b
second_around zero p a b c lt = refl
second_around (suc zero) p a b c lt = refl
second_around (suc (suc zero)) p a b c lt = refl
second_around (suc (suc (suc zero))) p a b c lt = refl
second_around (suc (suc (suc (suc j)))) p a b c lt = absurd (omega arith)

third_around : (j : ℕ) (p a b c : List ℕ) → j < 4 → block (around j p a b c) (past 2 j) ≡ c
third_around zero p a b c lt = refl
third_around (suc zero) p a b c lt = refl
third_around (suc (suc zero)) p a b c lt = refl
third_around (suc (suc (suc zero))) p a b c lt = refl
third_around (suc (suc (suc (suc j)))) p a b c lt = absurd (omega arith)

total_around : (j : ℕ) (p a b c : List ℕ) → total (around j p a b c) ≡ xor (xor (xor a b) c) p
total_around zero p a b c = sym (f30 a b c p)
total_around (suc zero) p a b c = sym (f03 a b c p)
total_around (suc (suc zero)) p a b c = sym (s34 a b c p)
total_around (suc (suc (suc j))) p a b c = refl

all_lengths : (n : ℕ) (x : Blocks) → length x.first ≡ n → length x.second ≡ n → length x.third ≡ n
    → length x.fourth ≡ n → (i : ℕ) → length (block x i) ≡ n
all_lengths n x one two three four zero = one
all_lengths n x one two three four (suc zero) = two
all_lengths n x one two three four (suc (suc zero)) = three
all_lengths n x one two three four (suc (suc (suc i))) = four

lengths_around : (n j : ℕ) (p a b c : List ℕ) → length p ≡ n → length a ≡ n → length b ≡ n → length c ≡ n → (i : ℕ)
    → length (block (around j p a b c) i) ≡ n
lengths_around n zero p a b c lp la lb lc = all_lengths n (around 0 p a b c) lp la lb lc
lengths_around n (suc zero) p a b c lp la lb lc = all_lengths n (around 1 p a b c) la lp lb lc
lengths_around n (suc (suc zero)) p a b c lp la lb lc = all_lengths n (around 2 p a b c) la lb lp lc
lengths_around n (suc (suc (suc j))) p a b c lp la lb lc = all_lengths n (around 3 p a b c) la lb lc lp

-- three blocks and their XOR
around_adds_up : (n j : ℕ) (a b c : List ℕ) → length a ≡ n → length b ≡ n → length c ≡ n
    → AddUp n (around j (xor (xor a b) c) a b c)
around_adds_up n j a b c la lb lc =
    let p = xor (xor a b) c in
    let lp : length p ≡ n = length_sum (xor a b) c n (length_sum a b n la lb) lc in
    record {
      lengths = lengths_around n j p a b c lp la lb lc;
      sum = total_around j p a b c ∙ xor_self p ∙ ap zeros lp;
    }

position_in : (slot row i : ℕ) → slot / 3 ≡ row → slot % 3 ≡ i → data_position slot ≡ past i (parity_position row)
position_in slot row i same place = ap (λ r. past (slot % 3) (r % 4)) same ∙ ap (λ k. past k (row % 4)) place

-- a slot of a stripe that agrees on these blocks
slot_around : (s : SetState) (m : Members) (slot row i : ℕ) (x : Blocks) (bytes : List ℕ) → slot / 3 ≡ row
    → slot % 3 ≡ i → RowAgrees s m row x → block x (past i (parity_position row)) ≡ bytes → Holds s m slot bytes
slot_around s m slot row i x bytes same place agrees here = record {
  blocks = x;
  agrees = subst (λ r. RowAgrees s m r x) (sym same) agrees;
  here = ap (λ k. block x k) (position_in slot row i same place) ∙ here;
}

-- a stripe whose members store three blocks and their XOR
pub stripe_held : (s : SetState) (m : Members) (row : ℕ) (a b c : List ℕ) → length a ≡ block_len_of s.geometry
    → length b ≡ block_len_of s.geometry → length c ≡ block_len_of s.geometry
    → Stands s m row (data_position (3 * row)) a → Stands s m row (data_position (3 * row + 1)) b
    → Stands s m row (data_position (3 * row + 2)) c → Stands s m row (parity_position row) (xor (xor a b) c)
    → HoldsStripe s m row a b c
stripe_held s m row a b c la lb lc at_a at_b at_c at_p =
    let p = xor (xor a b) c in
    let j = parity_position row in
    let lj : j < 4 = omega arith in
    let at : (slot i : ℕ) → slot / 3 ≡ row → slot % 3 ≡ i → (x : List ℕ) → Stands s m row (data_position slot) x
    → Stands s m row (past i j) x = λ slot i same place x stands.
    subst (λ k. Stands s m row k x) (position_in slot row i same place) stands in
    let agrees : RowAgrees s m row (around j p a b c) = record {
      add_up = around_adds_up (block_len_of s.geometry) j a b c la lb lc;
      stand = each_around (λ i x. Stands s m row i x) j p a b c lj at_p
          (at (3 * row) 0 (omega arith) (omega arith) a at_a)
          (at (3 * row + 1) 1 (omega arith) (omega arith) b at_b)
          (at (3 * row + 2) 2 (omega arith) (omega arith) c at_c);
    } in
    record {
      first = slot_around s m (3 * row) row 0 (around j p a b c) a (omega arith) (omega arith) agrees
          (first_around j p a b c lj);
      second = slot_around s m (3 * row + 1) row 1 (around j p a b c) b (omega arith) (omega arith) agrees
          (second_around j p a b c lj);
      third = slot_around s m (3 * row + 2) row 2 (around j p a b c) c (omega arith) (omega arith) agrees
          (third_around j p a b c lj);
    }

-- on a broken set a stripe holds any blocks
pub broken_stripe_held : (s : SetState) (m : Members) (row : ℕ) (a b c : List ℕ) → length a ≡ block_len_of s.geometry
    → length b ≡ block_len_of s.geometry → length c ≡ block_len_of s.geometry → s.health ≡ AllBroken
    → HoldsStripe s m row a b c
broken_stripe_held s m row a b c la lb lc is =
    stripe_held s m row a b c la lb lc (broken_stands s m row (data_position (3 * row)) a is)
    (broken_stands s m row (data_position (3 * row + 1)) b is)
    (broken_stands s m row (data_position (3 * row + 2)) c is)
    (broken_stands s m row (parity_position row) (xor (xor a b) c) is)

-- a slot that was written before two other members of the stripe
slot_kept : (b d : SetState) (m : Members) (slot row i k l : ℕ) (x : List ℕ) → slot / 3 ≡ row → slot ≢ 3 * row + 2
    → i ≡ data_position slot → k ≡ data_position (3 * row + 2) → l ≡ parity_position row → Follows b d
    → ((h : ℕ) → h < 4 → h ≢ k → h ≢ l → content d (member m h) row ≡ content b (member m h) row)
    → Stands b m row i x → Stands d m row (data_position slot) x
slot_kept b d m slot row i k l x same ne is_i is_k is_l bd others stands =
    let same_row : slot / 3 ≡ (3 * row + 2) / 3 = omega arith in
    subst (λ h. Stands d m row h x) is_i
    (stands_kept b d m row i x bd
    (others i (subst (λ h. h < 4) (sym is_i) (position_below slot))
    (λ e. positions_apart slot (3 * row + 2) same_row ne (sym is_i ∙ e ∙ is_k))
    (λ e. position_apart slot (sym is_i ∙ e ∙ is_l ∙ ap parity_position (sym same)))) stands)

-- two slots were written and then, with the parity, the third; in terms of the positions that were found
pub stripe_written : (b d : SetState) (m : Members) (row i j k l : ℕ) (x y z sum : List ℕ)
    → length x ≡ block_len_of d.geometry → length y ≡ block_len_of d.geometry → length z ≡ block_len_of d.geometry
    → i ≡ data_position (3 * row) → j ≡ data_position (3 * row + 1) → k ≡ data_position (3 * row + 2)
    → l ≡ parity_position row → Follows b d
    → ((h : ℕ) → h < 4 → h ≢ k → h ≢ l → content d (member m h) row ≡ content b (member m h) row)
    → Stands b m row i x → Stands b m row j y → Stands d m row k z → Stands d m row l sum → sum ≡ xor (xor x y) z
    → HoldsStripe d m row x y z
stripe_written b d m row i j k l x y z sum lx ly lz is_i is_j is_k is_l bd others at_i at_j at_k at_l is =
    stripe_held d m row x y z lx ly lz
    (slot_kept b d m (3 * row) row i k l x (omega arith) (λ e. omega arith) is_i is_k is_l bd others at_i)
    (slot_kept b d m (3 * row + 1) row j k l y (omega arith) (λ e. omega arith) is_j is_k is_l bd others at_j)
    (subst (λ h. Stands d m row h z) is_k at_k)
    (subst (λ h. Stands d m row h (xor (xor x y) z)) is_l (subst (λ t. Stands d m row l t) is at_l))

two_at : (m : Members) (row i j x y : ℕ) (a b : SetState) → i ≡ x → j ≡ y → CarriesOut (write_two m i j row) a b
    → CarriesOut (write_two m x y row) a b
two_at m row i j x y a b is_i is_j carried =
    carried_to (λ h. write_two m x h row) j y a b is_j (carried_to (λ h. write_two m h j row) i x a b is_i carried)

-- its plan, in terms of the positions that were found
pub stripe_carried_out : (m : Members) (row i j k l : ℕ) (a b d : SetState) → i ≡ data_position (3 * row)
    → j ≡ data_position (3 * row + 1) → k ≡ data_position (3 * row + 2) → l ≡ parity_position row
    → CarriesOut (write_two m i j row) a b → CarriesOut (write_two m k l row) b d
    → CarriesOut (each_of (stripe_writes m row)) a d
stripe_carried_out m row i j k l a b d is_i is_j is_k is_l first second =
    let slot : ℕ = 3 * row in
    each_then
    (write_at (member m (data_position slot)) row ∷ write_at (member m (data_position (slot + 1))) row ∷ [])
    (write_at (member m (data_position (slot + 2))) row ∷ write_at (member m (parity_position row)) row ∷ []) a b d
    (two_at m row i j (data_position slot) (data_position (slot + 1)) a b is_i is_j first)
    (two_at m row k l (data_position (slot + 2)) (parity_position row) b d is_k is_l second)
