-- The stripes of a squeeze: the blocks that are read for each, and what its write leaves.
use Rattle.std.proofs.Common.{◌≡◌, inl, inr, ℕ, zero, suc, ◌+◌, ◌*◌, ◌<◌, ◌≤◌, Bool, false, nat_lt}
use Rattle.std.proofs.Common.{if◌then◌else◌, List, sym, ap, subst, ◌∙◌, arith}
use Rattle.std.proofs.Math.Numerals.{suc-eq-add-one}
use Rattle.std.proofs.lemmas.Bool.{cases_lt}
use Rattle.std.proofs.lemmas.Bool.Decides.{eqb_tells, nat_tests}
use Rattle.ar_disks.specs.Block.{zeros}
use Rattle.ar_disks.specs.Endings.{OnDone}
use Rattle.ar_disks.specs.Geometry.{block_len_of}
use Rattle.ar_disks.specs.Members.{AreDisjoint}
use Rattle.ar_disks.specs.declared.address.Members.{Members}
use Rattle.ar_disks.specs.declared.completion.Completion.{Completion}
use Rattle.ar_disks.specs.declared.completion.Completion.TheVariants.{Done, Broken as NotDone}
use Rattle.ar_disks.specs.declared.geometry.Geometry.{Geometry}
use Rattle.ar_extents.specs.declared.health.Health.TheVariants.{Broken}
use Rattle.ar_extents.specs.Set.{SetState}
use Rattle.ar_extents.specs.Follows.{Follows, Keeps, Anywhere}
use Rattle.ar_extents.specs.Groups.{IsOutside}
use Rattle.ar_extents.specs.Plans.{Stop, stops, both_of, CarriesOut}
use Rattle.ar_extents.proofs.Plans.{both_carried, carries_broken}
use Rattle.ar_mirror.specs.Holds.{Holds as MirrorHolds}
use Rattle.ar_mirror.specs.Plans.{mirror_read}
use Rattle.ar_mirror.proofs.Frames.{read_holds as mirror_read_holds, disjoint_holds as mirror_disjoint}
use Rattle.ar_parity.specs.Group.{Holds as ParityHolds, HoldsStripe, KeepsButRow}
use Rattle.ar_parity.specs.Row.{row_of}
use Rattle.ar_parity.proofs.Reported.{StripeWritten, other_stripe_holds}
use Rattle.ar_book.specs.declared.class.Class.TheVariants.{Mirrored}
use Rattle.ar_book.specs.Tables.{slots_of}
use Rattle.ar_store.specs.Slots.{IsSource, AreSources, HoldsSource}
use Rattle.ar_store.specs.Plans.{source_read, sources_plan, copy_plan, copies_plan}

-- after the last mirrored slot nothing is read
none_by : (g : Geometry) (m : Members) (i : ℕ) (there : Bool) (s : SetState) → there ≡ false
    → CarriesOut (if there then mirror_read g m i else Stop) s s
none_by g m i there s is =
    subst (λ (b : Bool). CarriesOut (if b then mirror_read g m i else Stop) s s) (sym is) (stops s)

pub source_none : (g : Geometry) (m : Members) (i : ℕ) (s : SetState) → slots_of g Mirrored ≤ i
    → CarriesOut (source_read g m i) s s
source_none g m i s le = none_by g m i (nat_lt i (slots_of g Mirrored)) s (grind (arith, nat_tests))

-- the reads of a stripe are one plan: all three,
module _ (m : Members) (row : ℕ) (a b c : SetState) (ab : Follows a b)
    (one : CarriesOut (source_read a.geometry m (3 * row)) a b) where
  pub sources_one : b.health ≡ Broken → CarriesOut (sources_plan a.geometry m row) a b
  sources_one broken =
      let g = a.geometry in
      both_carried (source_read g m (3 * row))
      (both_of (source_read g m (3 * row + 1)) (source_read g m (3 * row + 2))) a b b one (carries_broken _ b broken)

  module _ (bc : Follows b c) (two : CarriesOut (source_read b.geometry m (3 * row + 1)) b c) where
    sources_then : (d : SetState) → CarriesOut (source_read a.geometry m (3 * row + 2)) c d
        → CarriesOut (sources_plan a.geometry m row) a d
    sources_then d three =
        let g = a.geometry in
        both_carried (source_read g m (3 * row))
        (both_of (source_read g m (3 * row + 1)) (source_read g m (3 * row + 2))) a b d one
        (both_carried (source_read g m (3 * row + 1)) (source_read g m (3 * row + 2)) b c d
        (subst (λ (x : Geometry). CarriesOut (source_read x m (3 * row + 1)) b c) ab.geometry two) three)

    -- or those up to the one at which the array failed
    pub sources_two : c.health ≡ Broken → CarriesOut (sources_plan a.geometry m row) a c
    sources_two broken = sources_then c (carries_broken (source_read a.geometry m (3 * row + 2)) c broken)

    pub sources_three : (d : SetState) → CarriesOut (source_read c.geometry m (3 * row + 2)) c d
        → CarriesOut (sources_plan a.geometry m row) a d
    sources_three d three =
        sources_then d (subst (λ (x : Geometry). CarriesOut (source_read x m (3 * row + 2)) c d)
        (bc.geometry ∙ ab.geometry) three)

-- a slot's block stays the same where the mirrored slot holds what it held: over reads, and writes of other extents
source_on : (m : Members) (i : ℕ) (a b : SetState) (block : List ℕ) → b.geometry ≡ a.geometry
    → (MirrorHolds a m i block → MirrorHolds b m i block) → IsSource m i a block → IsSource m i b block
source_on m i a b block same still source = record {
  held = λ lt. still (source.held (subst (λ (g : Geometry). i < slots_of g Mirrored) same lt));
  zero = λ le.
      source.zero (subst (λ (g : Geometry). slots_of g Mirrored ≤ i) same le)
      ∙ ap (λ (g : Geometry). zeros (block_len_of g)) (sym same);
}

source_read_on : (m : Members) (i : ℕ) (a b : SetState) (block : List ℕ) → Follows a b → Keeps Anywhere a b
    → IsSource m i a block → IsSource m i b block
source_read_on m i a b block ab keeps =
    source_on m i a b block ab.geometry (mirror_read_holds a b m i block ab keeps)

source_written_on : (m n : Members) (i : ℕ) (a b : SetState) (block : List ℕ) → Follows a b
    → Keeps (IsOutside n) a b → AreDisjoint m n → IsSource m i a block → IsSource m i b block
source_written_on m n i a b block ab keeps apart =
    source_on m i a b block ab.geometry (mirror_disjoint a b m n i block ab keeps apart)

-- what three reads give
pub sources_given : (o : Completion) (m : Members) (row : ℕ) (a b c : SetState) (x y z : List ℕ) → Follows a b
    → Keeps Anywhere a b → Follows b c → Keeps Anywhere b c
    → ((block : List ℕ) → IsSource m (3 * row) a block → x ≡ block)
    → ((block : List ℕ) → IsSource m (3 * row + 1) b block → y ≡ block)
    → OnDone o ((block : List ℕ) → IsSource m (3 * row + 2) c block → z ≡ block)
    → OnDone o (AreSources m row a x y z)
sources_given NotDone m row a b c x y z ab keeps_ab bc keeps_bc one two three = tt
sources_given Done m row a b c x y z ab keeps_ab bc keeps_bc one two three = record {
  first = one;
  second = λ block source. two block (source_read_on m (3 * row + 1) a b block ab keeps_ab source);
  third = λ block source.
      three block (source_read_on m (3 * row + 2) b c block bc keeps_bc
      (source_read_on m (3 * row + 2) a b block ab keeps_ab source));
}

-- a slot was written with the block that was read for it
copied_as : (from to : Members) (i : ℕ) (a c : SetState) (bytes x : List ℕ) → bytes ≡ x
    → ((block : List ℕ) → IsSource from i a block → x ≡ block) → ParityHolds c to i bytes → HoldsSource from to a c i
copied_as from to i a c bytes x is gives holds = record {
  holds = λ block source. subst (λ (y : List ℕ). ParityHolds c to i y) (is ∙ gives block source) holds;
}

-- and so the stripe
pub stripe_copied : (from to : Members) (row : ℕ) (a c : SetState) (x y z u v w : List ℕ)
    → AreSources from row a x y z → u ≡ x → v ≡ y → w ≡ z → HoldsStripe c to row u v w
    → (slot : ℕ) → row_of slot ≡ row → HoldsSource from to a c slot
stripe_copied from to row a c x y z u v w sources is_u is_v is_w holds slot here =
    let P : ℕ → Type 0 = λ i. HoldsSource from to a c i in
    elim (eqb_tells slot (3 * row)) [
      | inl same ↦ subst P (sym same.1) (copied_as from to (3 * row) a c u x is_u sources.first holds.first)
      | inr first ↦ elim (eqb_tells slot (3 * row + 1)) [
        | inl same ↦ subst P (sym same.1) (copied_as from to (3 * row + 1) a c v y is_v sources.second holds.second)
        | inr second ↦
            let not_first = first.1 in
            let not_second = second.1 in
            let last : slot ≡ 3 * row + 2 = omega arith in
            subst P (sym last) (copied_as from to (3 * row + 2) a c w z is_w sources.third holds.third)
      ]
    ]

pub done_always : (o : Completion) (P : Type 0) → P → OnDone o P
done_always Done P p = p
done_always NotDone P p = tt

-- nothing but the stripe was written
pub stripe_keeps : (m : Members) (row : ℕ) (a b c : SetState) → Keeps Anywhere a b → StripeWritten m row b c
    → KeepsButRow m row a c
stripe_keeps m row a b c keeps written = record {
  other_rows = λ p r ne. written.keeps.other_rows p r ne ∙ keeps.rows p tt r;
  other_places = record { rows = λ p out r. written.keeps.other_places.rows p out r ∙ keeps.rows p tt r };
}

-- One more stripe was written.
pub copied_then : (from to : Members) (row : ℕ) (a b c : SetState) → AreDisjoint from to → Follows a b
    → Keeps (IsOutside to) a b → Follows b c → KeepsButRow to row b c
    → ((i : ℕ) → i < 3 * row → HoldsSource from to a b i) → ((i : ℕ) → row_of i ≡ row → HoldsSource from to b c i)
    → (i : ℕ) → i < 3 * (row + 1) → HoldsSource from to a c i
copied_then from to row a b c apart ab keeps bc here before now i lt =
    elim (cases_lt i (3 * row)) [
      | inl under ↦ record {
        holds = λ block source. other_stripe_holds to row i block b c bc here (λ same. omega arith)
            ((before i under).holds block source);
      }
      | inr over ↦ record {
        holds = λ block source. (now i (omega arith)).holds block
            (source_written_on from to i a b block ab keeps apart source);
      }
    ]

pub plans_then : (from to : Members) (row : ℕ) (a b c : SetState) → Follows a b
    → CarriesOut (copies_plan a.geometry from to row) a b → CarriesOut (copy_plan b.geometry from to row) b c
    → CarriesOut (copies_plan a.geometry from to (row + 1)) a c
plans_then from to row a b c ab before now =
    let g = a.geometry in
    subst (λ (n : ℕ). CarriesOut (copies_plan g from to n) a c) (suc-eq-add-one row)
    (both_carried (copies_plan g from to row) (copy_plan g from to row) a b c before
    (subst (λ (x : Geometry). CarriesOut (copy_plan x from to row) b c) ab.geometry now))

-- on a failed array the other stripes access nothing
pub copies_broken : (g : Geometry) (from to : Members) (n m : ℕ) (a b : SetState) → n ≤ m → b.health ≡ Broken
    → CarriesOut (copies_plan g from to n) a b
    → CarriesOut (copies_plan g from to m) a b
copies_broken g from to n zero a b le broken carried =
    let same : n ≡ zero = omega arith in
    subst (λ k. CarriesOut (copies_plan g from to k) a b) same carried
copies_broken g from to n (suc m) a b le broken carried = elim (cases_lt m n) [
  | inl lt ↦
      let same : n ≡ suc m = omega arith in
      subst (λ k. CarriesOut (copies_plan g from to k) a b) same carried
  | inr ge ↦
      both_carried (copies_plan g from to m) (copy_plan g from to m) a b b
      (copies_broken g from to n m a b ge broken carried)
      (carries_broken (copy_plan g from to m) b broken)
]
