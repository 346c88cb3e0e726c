-- What a squeeze costs while all disks are present and none faults.
use Rattle.std.proofs.Common.{◌≡◌, inl, inr, ℕ, zero, suc, ◌+◌, ◌*◌, Bool, true, false, nat_lt, if◌then◌else◌}
use Rattle.std.proofs.Common.{List, [], ◌∷◌, ◌++◌, map, refl, sym, ◌∙◌, ap, subst, arith}
use Rattle.std.proofs.lemmas.List.{append-nil, map-append, append_assoc}
use Rattle.ar_disks.specs.declared.address.Members.{Members}
use Rattle.ar_disks.specs.declared.geometry.Geometry.{Geometry}
use Rattle.ar_disks.specs.declared.geometry.Geometry.TheVariants.{Paper, Small}
use Rattle.ar_disks.specs.Geometry.{rows_of}
use Rattle.ar_extents.specs.declared.health.Health.{Health}
use Rattle.ar_extents.specs.declared.health.Health.TheVariants.{Whole, Out, Rebuilding, Broken as AllBroken}
use Rattle.ar_extents.specs.Health.{IsDown}
use Rattle.ar_extents.specs.declared.log.AccessKind.{AccessKind}
use Rattle.ar_extents.specs.declared.log.AccessKind.TheVariants.{Read, Write}
use Rattle.ar_extents.specs.declared.log.RowAccess.{RowAccess}
use Rattle.ar_extents.specs.Set.{SetState}
use Rattle.ar_extents.specs.Follows.{Follows, IsHit}
use Rattle.ar_extents.specs.Plans.{NoneFaults, Stop, both_of, each_of}
use Rattle.ar_mirror.specs.Plans.{mirror_read}
use Rattle.ar_parity.specs.Plans.{stripe_writes, stripes_from}
use Rattle.ar_book.specs.declared.class.Class.TheVariants.{Mirrored}
use Rattle.ar_book.specs.Tables.{slots_of}
use Rattle.ar_store.specs.Store.{StoreState, members_of}
use Rattle.ar_store.specs.Plans.{source_read, sources_plan, copy_plan, copies_plan, squeeze_plan, Squeezes}
use Rattle.ar_store.specs.Plans.{MakesAccesses, fill_kinds, source_kinds, copy_kinds, copies_kinds}
use Rattle.ar_store.specs.Plans.{reads_in, writes_in}
use Rattle.ar_store.proofs.Costs.{kinds_of, makes, both_kinds}

-- where no disk has faulted in two runs, none has in the first, nor in the second
pub calm_first : (a b c : SetState) → Follows a b → Follows b c → NoneFaults a c → NoneFaults a b
calm_first a b c ab bc none =
    record { faults = λ d. let n = none.faults d in let x = ab.faults d in let y = bc.faults d in omega arith }

pub calm_second : (a b c : SetState) → Follows a b → Follows b c → NoneFaults a c → NoneFaults b c
calm_second a b c ab bc none =
    record { faults = λ d. let n = none.faults d in let x = ab.faults d in let y = bc.faults d in omega arith }

none_hit : (a b : SetState) (d : ℕ) → a.health ≡ Whole → NoneFaults a b → IsHit a b d → ⊥
none_hit a b d whole none (inl down) = let P : Health → Type 0 = λ h. IsDown h d in subst P whole down
none_hit a b d whole none (inr faulted) = (let n = none.faults d in omega arith)

still_by : (a b : SetState) (h : Health) → b.health ≡ h → a.health ≡ Whole → Follows a b → NoneFaults a b → h ≡ Whole
still_by a b Whole is whole ab none = refl
still_by a b (Out d) is whole ab none =
    elim (ab.out d is) [
      | inl was ↦ absurd (let k : Whole ≡ Out d = sym whole ∙ was in cc)
      | inr faulted ↦ absurd (none_hit a b d whole none (inr faulted))
    ]
still_by a b (Rebuilding d n) is whole ab none =
    absurd (let k : Whole ≡ Rebuilding d n = sym whole ∙ ab.rebuilding d n is in cc)
still_by a b AllBroken is whole ab none =
    elim (ab.broken is) [
      | inl was ↦ absurd (let k : Whole ≡ AllBroken = sym whole ∙ was in cc)
      | inr two ↦ absurd (none_hit a b two.one whole none two.one_hit)
    ]

-- and all disks are present still
pub still_whole : (a b : SetState) → a.health ≡ Whole → Follows a b → NoneFaults a b → b.health ≡ Whole
still_whole a b whole ab none = still_by a b b.health refl whole ab none

pub made_none : (s : SetState) → MakesAccesses [] s s
made_none s = record { made = []; log = sym (append-nil s.log); kinds_are = refl }

pub made_then : (ks ls : List AccessKind) (a b c : SetState) → MakesAccesses ks a b → MakesAccesses ls b c
    → MakesAccesses (ks ++ ls) a c
made_then ks ls a b c first last = record {
  made = first.made ++ last.made;
  log = last.log ∙ ap (λ l. l ++ last.made) first.log ∙ append_assoc a.log first.made last.made;
  kinds_are =
      map-append (λ (x : RowAccess). x.kind) first.made last.made
      ∙ ap (λ l. l ++ map (λ (x : RowAccess). x.kind) last.made) first.kinds_are
      ∙ ap (λ l. ks ++ l) last.kinds_are;
}

pub stripes_kinds : (m : Members) (row n : ℕ) → kinds_of (each_of (stripes_from m row n)) ≡ fill_kinds n
stripes_kinds m row zero = refl
stripes_kinds m row (suc n) = ap (λ l. Write ∷ Write ∷ Write ∷ Write ∷ l) (stripes_kinds m (row + 1) n)

-- the read for a slot, if there is one
source_by : (g : Geometry) (m : Members) (i : ℕ) (there : Bool)
    → kinds_of (if there then mirror_read g m i else Stop) ≡ (if there then Read ∷ [] else [])
source_by g m i true = refl
source_by g m i false = refl

source_are : (g : Geometry) (m : Members) (i : ℕ) → kinds_of (source_read g m i) ≡ source_kinds g i
source_are g m i = source_by g m i (nat_lt i (slots_of g Mirrored))

sources_are : (g : Geometry) (m : Members) (row : ℕ) → kinds_of (sources_plan g m row)
    ≡ source_kinds g (3 * row) ++ (source_kinds g (3 * row + 1) ++ source_kinds g (3 * row + 2))
sources_are g m row =
    let one = source_read g m (3 * row) in
    let two = source_read g m (3 * row + 1) in
    let three = source_read g m (3 * row + 2) in
    both_kinds one (both_of two three) Whole ∙ ap (λ l. l ++ kinds_of (both_of two three)) (source_are g m (3 * row))
    ∙ ap (λ l. source_kinds g (3 * row) ++ l)
    (both_kinds two three Whole ∙ ap (λ l. l ++ kinds_of three) (source_are g m (3 * row + 1))
    ∙ ap (λ l. source_kinds g (3 * row + 1) ++ l) (source_are g m (3 * row + 2)))

copy_are : (g : Geometry) (from to : Members) (row : ℕ) → kinds_of (copy_plan g from to row) ≡ copy_kinds g row
copy_are g from to row =
    both_kinds (sources_plan g from row) (each_of (stripe_writes to row)) Whole
    ∙ ap (λ l. l ++ Write ∷ Write ∷ Write ∷ Write ∷ []) (sources_are g from row)

-- the first n stripes
pub copies_are : (g : Geometry) (from to : Members) (n : ℕ) → kinds_of (copies_plan g from to n) ≡ copies_kinds g n
copies_are g from to zero = refl
copies_are g from to (suc n) =
    both_kinds (copies_plan g from to n) (copy_plan g from to n) Whole
    ∙ ap (λ l. l ++ kinds_of (copy_plan g from to n)) (copies_are g from to n)
    ∙ ap (λ l. copies_kinds g n ++ l) (copy_are g from to n)

-- a squeeze: a read of each slot of the mirrored group, and four writes a row
pub squeeze_made : (old new : StoreState) (from to : ℕ) → old.disks.health ≡ Whole → NoneFaults old.disks new.disks
    → Squeezes from to old new
    → MakesAccesses (copies_kinds old.disks.geometry (rows_of old.disks.geometry)) old.disks new.disks
squeeze_made old new from to whole none squeezes =
    let g = old.disks.geometry in
    let one = members_of old from in
    let two = members_of old to in
    makes (squeeze_plan g one two) (copies_kinds g (rows_of g)) old.disks new.disks whole none squeezes.plan
    (copies_are g one two (rows_of g))

-- as many reads as the mirrored group has slots, and four writes a row
pub squeeze_reads : (g : Geometry) → reads_in (copies_kinds g (rows_of g)) ≡ slots_of g Mirrored
squeeze_reads Paper = refl
squeeze_reads Small = refl

pub squeeze_writes : (g : Geometry) → writes_in (copies_kinds g (rows_of g)) ≡ 4 * rows_of g
squeeze_writes Paper = refl
squeeze_writes Small = refl
