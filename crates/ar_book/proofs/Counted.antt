-- The counts of the groups stay exact when a group comes, goes or changes.
use Rattle.std.proofs.Common.{◌≡◌, ℕ, suc, ◌+◌, ◌-◌, ◌*◌, ◌^◌, ◌<◌, ◌≤◌, List, [], ◌∷◌, ◌++◌, length, Option, None}
use Rattle.std.proofs.Common.{get_or, set, take, sum_by, is_some, refl, sym, ap, subst, ◌∙◌, inl, inr, arith}
use Rattle.std.proofs.Common.{length-append}
use Rattle.std.proofs.lemmas.Bool.{cases_lt}
use Rattle.std.proofs.lemmas.Bool.Decides.{eqb_tells}
use Rattle.std.proofs.lemmas.List.{get_or_past, get_or_append_left, get_or-append_right, length-set, length-take}
use Rattle.std.proofs.lemmas.List.{get_or-take}
use Rattle.std.proofs.lemmas.List.Sums.{sum_by-set, sum_by-cons, sum_by-append, sum_by_more, get_or-le-sum_by}
use Rattle.std.proofs.lemmas.List.Sums.{count_by-le-length}
use Rattle.std.proofs.lemmas.List.{take_all, get_or_read, take-append-le, length-replicate}
use Rattle.ar_disks.specs.declared.address.Key.{Key}
use Rattle.ar_disks.specs.declared.address.Members.{Members}
use Rattle.ar_book.specs.declared.class.Class.{Class}
use Rattle.ar_book.specs.declared.class.Class.TheVariants.{Free, Mirrored, Parity}
use Rattle.ar_book.specs.declared.group.GroupCount.{GroupCount}
use Rattle.ar_book.specs.declared.group_list.Holes.{Holes}
use Rattle.ar_book.specs.Tables.{GroupState, group_in, no_group, used}
use Rattle.ar_book.specs.Fills.{ChunkState, fill_at, fill_in, count_of, counted_as, IsCounted, IsRecounted}
use Rattle.ar_book.specs.Changes.{free_group}
use Rattle.ar_book.proofs.GroupLemmas.{put_same, put_other}
use Rattle.ar_book.proofs.Padding.{count_none}

-- the counts of a class are below these
pub record IsSmall (n : GroupCount) : Type 0 where
  pub fill : n.fill < 192
  pub mirrored : n.mirrored ≤ 48
  pub parity : n.parity ≤ 48

small_as : (c : Class) (blocks slots : ℕ) → blocks ≤ slots → slots ≤ 48 → IsSmall (counted_as c blocks slots)
small_as Free blocks slots h most = record { fill = omega arith; mirrored = omega arith; parity = omega arith }
small_as Mirrored blocks slots h most = record { fill = omega arith; mirrored = omega arith; parity = omega arith }
small_as Parity blocks slots h most = record { fill = omega arith; mirrored = omega arith; parity = omega arith }

pub small_count : (x : GroupState) → length x.slots ≤ 48 → IsSmall (count_of x)
small_count x most = small_as x.class (used x) (length x.slots) (count_by-le-length is_some x.slots) most

-- a fill of 0 is that of a free group, which has no hole
pub record HasNothing (n : GroupCount) : Type 0 where
  pub mirrored : n.mirrored ≡ 0
  pub parity : n.parity ≡ 0

nothing_as : (c : Class) (blocks slots : ℕ) → (counted_as c blocks slots).fill ≡ 0
    → HasNothing (counted_as c blocks slots)
nothing_as Free blocks slots e = record { mirrored = refl; parity = refl }
nothing_as Mirrored blocks slots e = absurd (omega arith)
nothing_as Parity blocks slots e = absurd (omega arith)

no_holes : (x : GroupState) → (count_of x).fill ≡ 0 → HasNothing (count_of x)
no_holes x e = nothing_as x.class (used x) (length x.slots) e

-- the holes of a class in one group
abbrev pub twos : GroupState → ℕ
twos x = (count_of x).mirrored

abbrev pub threes : GroupState → ℕ
threes x = (count_of x).parity

sum_within : (f : GroupState → ℕ) (m : ℕ) (gs : List GroupState) → ((g : ℕ) → g < length gs → f (group_in gs g) ≤ m)
    → sum_by f gs ≤ length gs * m
sum_within f m [] most = omega arith
sum_within f m (x ∷ gs) most =
    let head = sum_by-cons f x gs in
    let first : f x ≤ m = most 0 (omega arith) in
    let rest = sum_within f m gs (λ g lt. most (suc g) (omega arith)) in
    omega arith

module _ (gs : List GroupState) (chunks : List ChunkState) (holes : Holes)
    (old : IsCounted gs chunks holes.mirrored holes.parity) where
  -- more places change nothing
  pub counted_room : (new : List ChunkState) → ((g : ℕ) → fill_at new g ≡ fill_at chunks g) → length chunks ≤ length new
      → IsCounted gs new holes.mirrored holes.parity
  counted_room new same on = grind (arith)

  -- a free group more
  pub counted_push : (x : GroupState) → length gs < 33554432 → length gs < 64 * length chunks → length x.slots ≤ 48
      → (count_of x).fill ≡ 0 → IsCounted (gs ++ x ∷ []) chunks holes.mirrored holes.parity
  counted_push x few room short free =
      grind (
        arith,
        length-append,
        cases_lt,
        get_or_append_left,
        eqb_tells,
        get_or_past,
        sum_by-append,
        sum_by-cons,
        no_holes,
        get_or-append_right,
      )

  -- without the last group, which is free
  pub counted_pop : 0 < length gs → fill_in gs (length gs - 1) ≡ 0
      → IsCounted (take (length gs - 1) gs) chunks holes.mirrored holes.parity
  counted_pop some free = record {
    few = let size = length-take (length gs - 1) gs in let few = old.few in omega arith;
    short = λ g. elim (cases_lt g (length gs - 1)) [
      | inl before ↦
          let same = ap (λ (y : GroupState). length y.slots) (get_or-take (length gs - 1) gs g no_group before) in
          let most = old.short g in
          omega arith
      | inr past ↦
          let none : length (group_in (take (length gs - 1) gs) g).slots ≡ 0 =
          ap (λ (y : GroupState). length y.slots) (after g past) in
          omega arith
    ];
    covered = let size = length-take (length gs - 1) gs in let covered = old.covered in omega arith;
    each = λ g. old.each g ∙ elim (cases_lt g (length gs - 1)) [
      | inl before ↦
          sym (ap (λ (y : GroupState). (count_of y).fill) (get_or-take (length gs - 1) gs g no_group before))
      | inr past ↦
          none_at g past ∙ sym (ap (λ (y : GroupState). (count_of y).fill) (after g past))
    ];
    holes_mirrored =
        let all = all_but twos in
        let none = (no_holes (group_in gs (length gs - 1)) free).mirrored in
        let was = old.holes_mirrored in
        omega arith;
    holes_parity =
        let all = all_but threes in
        let none = (no_holes (group_in gs (length gs - 1)) free).parity in
        let was = old.holes_parity in
        omega arith;
  }
    where
      after : (g : ℕ) → length gs - 1 ≤ g → group_in (take (length gs - 1) gs) g ≡ no_group
      after g past =
          let size = length-take (length gs - 1) gs in
          get_or_past (take (length gs - 1) gs) g no_group (omega arith)

      none_at : (g : ℕ) → length gs - 1 ≤ g → fill_in gs g ≡ 0
      none_at g past = elim (eqb_tells g (length gs - 1)) [
        | inl last ↦ ap (fill_in gs) last.1 ∙ free
        | inr n ↦
            let ne = n.1 in
            ap (λ (y : GroupState). (count_of y).fill) (get_or_past gs g no_group (omega arith))
      ]

      all_but : (f : GroupState → ℕ)
          → sum_by f (take (length gs - 1) gs) + f (group_in gs (length gs - 1)) ≡ sum_by f gs
      all_but f =
          let more = sum_by_more f gs (length gs - 1) no_group (omega arith) in
          let whole : sum_by f (take (length gs - 1 + 1) gs) ≡ sum_by f gs =
          ap (sum_by f) (take_all (length gs - 1 + 1) gs (omega arith)) in
          omega arith

  module _ (i : ℕ) (inside : i < length gs) where
    pub holes_here : (twos (group_in gs i) ≤ holes.mirrored) × (threes (group_in gs i) ≤ holes.parity)
    holes_here = grind (arith, get_or-le-sum_by)

    pub holes_few : (x : GroupState) → length x.slots ≤ 48
        → (holes.mirrored + (count_of x).mirrored < 2 ^ 32) × (holes.parity + (count_of x).parity < 2 ^ 32)
    holes_few x short =
        let small = small_count x short in
        let one = small.mirrored in
        let other = small.parity in
        let few = old.few in
        let mirrored = old.holes_mirrored in
        let parity = old.holes_parity in
        let two : sum_by twos gs ≤ length gs * 48 =
        sum_within twos 48 gs (λ g lt. (small_count (group_in gs g) (old.short g)).mirrored) in
        let three : sum_by threes gs ≤ length gs * 48 =
        sum_within threes 48 gs (λ g lt. (small_count (group_in gs g) (old.short g)).parity) in
        (omega arith, omega arith)

    -- one group is another
    pub counted_set : (x : GroupState) (new : List ChunkState) (left : Holes) → length x.slots ≤ 48
        → IsRecounted chunks holes i (count_of (group_in gs i)) (count_of x) new left
        → IsCounted (set gs i x) new left.mirrored left.parity
    counted_set x new left short done = grind (arith, length-set, eqb_tells, put_same, put_other, sum_by-set)

    -- the same by the group that was read, and by the counts that were made
    module _ (x0 x : GroupState) (read : x0 ≡ get_or gs i x0) (same : length x.slots ≡ length x0.slots)
        (count : GroupCount) (is : count ≡ count_of x) where
      read_is : x0 ≡ group_in gs i
      read_is = get_or_read gs i x0 inside read no_group

      pub short_after : length x.slots ≤ 48
      short_after = grind (arith, read_is)

      pub fill_fits : count.fill < 192
      fill_fits = grind (arith, small_count, short_after)

      pub holes_fit : (holes.mirrored + count.mirrored < 2 ^ 32) × (holes.parity + count.parity < 2 ^ 32)
      holes_fit = grind (arith, holes_few, short_after)

      pub counted_again : (former : GroupCount) (new : List ChunkState) (left : Holes) → former ≡ count_of x0
          → IsRecounted chunks holes i former count new left → IsCounted (set gs i x) new left.mirrored left.parity
      counted_again former new left was done =
          counted_set x new left short_after
          (subst (λ (n : GroupCount). IsRecounted chunks holes i (count_of (group_in gs i)) n new left) is
          (subst (λ (n : GroupCount). IsRecounted chunks holes i n count new left) (was ∙ ap count_of read_is) done))

-- a group with a fill above 0 is there
pub has_group : (gs : List GroupState) (g : ℕ) → 0 < fill_in gs g → g < length gs
has_group gs g some = grind (arith, cases_lt, get_or_past)

-- a new group is free, and has few slots
pub free_short : (m : Members) (n : ℕ) → n ≤ 48 → length (free_group m n).slots ≤ 48
free_short m n few = let size = length-replicate {A = Option Key} n None in omega arith

pub free_fill : (m : Members) (n : ℕ) → (count_of (free_group m n)).fill ≡ 0
free_fill m n = count_none Key n

-- without the group that came last the groups are as before
pub popped : (gs : List GroupState) (x : GroupState) → take (length (gs ++ x ∷ []) - 1) (gs ++ x ∷ []) ≡ gs
popped gs x = grind (arith, length-append, take-append-le, take_all)

pub last_of : (gs : List GroupState) (x : GroupState) → (count_of x).fill ≡ 0
    → fill_in (gs ++ x ∷ []) (length (gs ++ x ∷ []) - 1) ≡ 0
last_of gs x free = grind (arith, length-append, get_or-append_right)
