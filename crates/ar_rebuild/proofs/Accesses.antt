-- What the contract of a step implies besides: what it returns and when, which rows stay, and which disks are accessed.
use Rattle.std.proofs.Common.{◌≡◌, ◌≢◌, ◌⊎◌, ◌↔◌, inl, inr, ℕ, zero, suc, ◌<◌, length, refl, sym, ◌∙◌, ap, subst, arith}
use Rattle.std.proofs.lemmas.Bool.Decides.{eqb_tells}
use Rattle.ar_disks.specs.declared.address.Place.{Place}
use Rattle.ar_disks.specs.declared.address.Members.{Members}
use Rattle.ar_disks.specs.Geometry.{rows_of}
use Rattle.ar_disks.specs.Members.{member}
use Rattle.ar_extents.specs.declared.health.Health.{Health}
use Rattle.ar_extents.specs.declared.health.Health.TheVariants.{Whole, Out, Rebuilding, Broken as AllBroken}
use Rattle.ar_extents.specs.Health.{IsRebuilding}
use Rattle.ar_extents.specs.Set.{SetState}
use Rattle.ar_extents.specs.Follows.{Keeps, LeavesDisks, HasNoneOf}
use Rattle.ar_extents.specs.Access.{next_place}
use Rattle.ar_extents.specs.Changes.{with_done}
use Rattle.ar_extents.specs.Groups.{IsOutside}
use Rattle.ar_extents.proofs.Follows.{keeps_refl, keeps_then, keeps_disks}
use Rattle.ar_extents.proofs.GroupLemmas.{same_place}
use Rattle.ar_store.specs.Store.{StoreState, members_of, class_in}
use Rattle.ar_store.specs.Kept.{IsSpace}
use Rattle.ar_store.proofs.Spaces.{slot_group}
use Rattle.ar_rebuild.specs.declared.step.Rebuild.{Rebuild}
use Rattle.ar_rebuild.specs.declared.step.Rebuild.TheVariants.{Rebuilt, Finished, Idle, GivenUp, Broken}
use Rattle.ar_rebuild.specs.Plans.{IsMemberNext, HasNothingNext, after_answer, CarriesOutRebuild}
use Rattle.ar_rebuild.specs.Rows.{IsBesideNext, HasNotFaulted, StopsWriting}
use Rattle.ar_rebuild.specs.Rebuild.{NothingToRebuild, RebuildsExtent}
use Rattle.ar_rebuild.proofs.StepLemmas.{was_rebuilding}
use Rattle.ar_rebuild.proofs.Reported.{NeedsNext, PlanEffect, plan_effect, StopReported, stop_reported}
use Rattle.ar_rebuild.proofs.Reported.{given_up_changes}
use Rattle.ar_rebuild.proofs.Reported.{broken_changes}

-- `Idle` is returned exactly where nothing is to be rebuilt,
pub answer_idle : (r : Rebuild) (a b : SetState) → RebuildsExtent a b r → (r ≡ Idle) ↔ NothingToRebuild a.health
answer_idle (Rebuilt extent left) a b reported =
    ((λ e. absurd (cc)), (λ quiet. absurd (subst (λ (h : Health). NothingToRebuild h) reported.was quiet)))
answer_idle Finished a b reported = ((λ e. absurd (cc)), (λ quiet. absurd (was_rebuilding a.health reported.was quiet)))
answer_idle Idle a b reported = ((λ e. reported.quiet), (λ quiet. refl))
answer_idle GivenUp a b reported = ((λ e. absurd (cc)), (λ quiet. absurd (was_rebuilding a.health reported.was quiet)))
answer_idle Broken a b reported = ((λ e. absurd (cc)), (λ quiet. absurd (reported.was quiet)))

-- `Broken` exactly where the array has failed,
pub answer_broken : (r : Rebuild) (a b : SetState) → RebuildsExtent a b r → (r ≡ Broken) ↔ (b.health ≡ AllBroken)
answer_broken (Rebuilt extent left) a b reported =
    ((λ e. absurd (cc)), (λ broken. absurd (let k = sym reported.health ∙ broken in cc)))
answer_broken Finished a b reported =
    ((λ e. absurd (cc)), (λ broken. absurd (let k = sym reported.health ∙ broken in cc)))
answer_broken Idle a b reported = (
  (λ e. absurd (cc)),
  (λ broken. absurd
      (subst (λ (h : Health). NothingToRebuild h)
      (sym (ap (λ (s : SetState). s.health) reported.same) ∙ broken) reported.quiet)),
)
answer_broken GivenUp a b reported =
    ((λ e. absurd (cc)), (λ broken. absurd (let k = sym reported.given_up.out ∙ broken in cc)))
answer_broken Broken a b reported = ((λ e. reported.failed.broken), (λ broken. refl))

-- and then the replaced disk hasn't faulted.
pub answer_spared : (r : Rebuild) (a b : SetState) → RebuildsExtent a b r → r ≡ Broken → HasNotFaulted a b
answer_spared (Rebuilt extent left) a b reported is = absurd (cc)
answer_spared Finished a b reported is = absurd (cc)
answer_spared Idle a b reported is = absurd (cc)
answer_spared GivenUp a b reported is = absurd (cc)
answer_spared Broken a b reported is = reported.failed.spared

-- a member of one of some groups is the extent, or none is
record Found (s : StoreState) (p : Place) (n : ℕ) : Type 0 where
  group : ℕ
  there : group < n
  position : ℕ
  below : position < 4
  is : member (members_of s group) position ≡ p

record Unfound (s : StoreState) (p : Place) (n : ℕ) : Type 0 where
  none : (g : ℕ) → g < n → IsOutside (members_of s g) p

record Within (m : Members) (p : Place) (n : ℕ) : Type 0 where
  position : ℕ
  there : position < n
  is : member m position ≡ p

record Without (m : Members) (p : Place) (n : ℕ) : Type 0 where
  none : (i : ℕ) → i < n → p ≢ member m i

find_member : (m : Members) (p : Place) (n : ℕ) → Within m p n ⊎ Without m p n
find_member m p zero = inr (record { none = λ i lt. absurd (omega arith) })
find_member m p (suc n) =
    elim (find_member m p n) [
      | inl found ↦
          inl (record { position = found.position; there = (let lt = found.there in omega arith); is = found.is })
      | inr before ↦
          elim (same_place p (member m n)) [
            | inl same ↦ inl (record { position = n; there = omega arith; is = sym same })
            | inr ne ↦
                inr (record {
                  none = λ i lt.
                      elim (eqb_tells i n) [
                        | inl same ↦ (let P : ℕ → Type 0 = λ k. p ≢ member m k in subst P (sym same.1) ne)
                        | inr apart ↦ before.none i (let k = apart.1 in omega arith)
                      ];
                })
          ]
    ]

find_group : (s : StoreState) (p : Place) (n : ℕ) → Found s p n ⊎ Unfound s p n
find_group s p zero = inr (record { none = λ g lt. absurd (omega arith) })
find_group s p (suc n) =
    elim (find_group s p n) [
      | inl found ↦
          inl (record {
            group = found.group;
            there = (let lt = found.there in omega arith);
            position = found.position;
            below = found.below;
            is = found.is;
          })
      | inr before ↦
          elim (find_member (members_of s n) p 4) [
            | inl here ↦
                inl (record {
                  group = n;
                  there = omega arith;
                  position = here.position;
                  below = here.there;
                  is = here.is;
                })
            | inr outside ↦
                inr (record {
                  none = λ g lt.
                      elim (eqb_tells g n) [
                        | inl same ↦
                            (let P : ℕ → Type 0 = λ k. IsOutside (members_of s k) p in
                            subst P (sym same.1) outside.none)
                        | inr apart ↦ before.none g (let k = apart.1 in omega arith)
                      ];
                })
          ]
    ]

-- whether the extent counts as done then changes no disk
answer_keeps : (these : Place → Type 0) (r : Rebuild) (s : SetState) → Keeps these s (after_answer r s)
answer_keeps these (Rebuilt extent left) s = keeps_disks these s (with_done s) refl
answer_keeps these Finished s = keeps_disks these s (with_done s) refl
answer_keeps these Idle s = keeps_refl these s
answer_keeps these GivenUp s = keeps_refl these s
answer_keeps these Broken s = keeps_refl these s

answer_leaves : (these : ℕ → Type 0) (r : Rebuild) (a b : SetState) → LeavesDisks these a b
    → LeavesDisks these a (after_answer r b)
answer_leaves these (Rebuilt extent left) a b leaves = record { disks = leaves.disks }
answer_leaves these Finished a b leaves = record { disks = leaves.disks }
answer_leaves these Idle a b leaves = leaves
answer_leaves these GivenUp a b leaves = leaves
answer_leaves these Broken a b leaves = leaves

module _ (old : StoreState) (r : Rebuild) (new : SetState) (space : IsSpace old) (carried : CarriesOutRebuild old r new)
  where
    effect : (g i : ℕ) → (next : IsMemberNext old g i)
        → PlanEffect (class_in old g) (members_of old g) i old.disks carried.written
    effect g i next =
        plan_effect (class_in old g) (members_of old g) i (rows_of old.disks.geometry) old.disks carried.written
        (slot_group old g space next.there) next.below next.rebuilding next.is (carried.accesses.plan g i next)

    unchanged : carried.written ≡ old.disks → Keeps (IsBesideNext old.disks) old.disks carried.written
    unchanged same =
        subst (λ (s : SetState). Keeps (IsBesideNext old.disks) old.disks s) (sym same)
        (keeps_refl (IsBesideNext old.disks) old.disks)

    rebuilding_keeps : IsRebuilding old.disks.health → Keeps (IsBesideNext old.disks) old.disks carried.written
    rebuilding_keeps is =
        elim (find_group old (next_place old.disks) (length old.book.groups)) [
          | inl found ↦
              (effect found.group found.position
              (record { rebuilding = is; there = found.there; below = found.below; is = found.is })).writes.keeps
          | inr outside ↦
              unchanged (carried.accesses.nothing (record { rebuilding = is; unused = λ g lt used. outside.none g lt }))
        ]

    keeps_by : (h : Health) → old.disks.health ≡ h → Keeps (IsBesideNext old.disks) old.disks carried.written
    keeps_by Whole was = unchanged (carried.accesses.idle (λ is. subst (λ (h : Health). IsRebuilding h) was is))
    keeps_by (Out x) was = unchanged (carried.accesses.idle (λ is. subst (λ (h : Health). IsRebuilding h) was is))
    keeps_by (Rebuilding x done) was = rebuilding_keeps (subst (λ (h : Health). IsRebuilding h) (sym was) tt)
    keeps_by AllBroken was = unchanged (carried.accesses.idle (λ is. subst (λ (h : Health). IsRebuilding h) was is))

    -- Only the rows of the rebuilt extent are written,
    pub rebuild_keeps : Keeps (IsBesideNext old.disks) old.disks new
    rebuild_keeps =
        subst (λ (s : SetState). Keeps (IsBesideNext old.disks) old.disks s) (sym carried.done)
        (keeps_then (IsBesideNext old.disks) old.disks carried.written (after_answer r carried.written)
        (keeps_by old.disks.health refl)
        (answer_keeps (IsBesideNext old.disks) r carried.written))

    -- only disks of that extent and of its sources are accessed,
    pub rebuild_asks : (g i : ℕ) → IsMemberNext old g i
        → LeavesDisks (HasNoneOf (NeedsNext (class_in old g) (members_of old g) i)) old.disks new
    rebuild_asks g i next =
        let these = HasNoneOf (NeedsNext (class_in old g) (members_of old g) i) in
        subst (λ (s : SetState). LeavesDisks these old.disks s) (sym carried.done)
        (answer_leaves these r old.disks carried.written (effect g i next).touches)

    -- where a step stopped in a member of a group
    pub rebuild_stopped : (g i : ℕ) (stop : StopsWriting old new) (next : IsMemberNext old g i)
        → StopReported old.disks new (stop.stops g i next).row
    rebuild_stopped g i stop next =
        stop_reported (class_in old g) (members_of old g) i old.disks new (slot_group old g space next.there) next.below
        next.rebuilding next.is
        (stop.stops g i next)

-- Where the extent needs no write, it counts as done at once.
pub rebuild_nothing : (r : Rebuild) (old : StoreState) (new : SetState) → HasNothingNext old
    → RebuildsExtent old.disks new r → CarriesOutRebuild old r new
    → new ≡ with_done old.disks
rebuild_nothing (Rebuilt extent left) old new nothing reported carried =
    carried.done ∙ ap with_done (carried.accesses.nothing nothing)
rebuild_nothing Finished old new nothing reported carried =
    carried.done ∙ ap with_done (carried.accesses.nothing nothing)
rebuild_nothing Idle old new nothing reported carried =
    absurd (was_rebuilding old.disks.health nothing.rebuilding reported.quiet)
rebuild_nothing GivenUp old new nothing reported carried =
    absurd
    (given_up_changes old.disks new nothing.rebuilding reported.given_up
    (ap (λ (s : SetState). s.health) (carried.done ∙ carried.accesses.nothing nothing)))
rebuild_nothing Broken old new nothing reported carried =
    absurd
    (broken_changes old.disks new nothing.rebuilding reported.failed.broken
    (ap (λ (s : SetState). s.health) (carried.done ∙ carried.accesses.nothing nothing)))
