-- How a step of a rebuild moves health, and what can be used after it.
use Rattle.std.proofs.Common.{◌≡◌, ◌≢◌, inl, inr, ℕ, ◌+◌, ◌-◌, ◌<◌, Bool, true, false, if◌then◌else◌, refl, sym, ap}
use Rattle.std.proofs.Common.{subst, ◌∙◌, true≢false, arith}
use Rattle.std.proofs.lemmas.Bool.Decides.{eqb_tells}
use Rattle.ar_disks.specs.declared.address.Place.{Place}
use Rattle.ar_extents.specs.declared.health.Health.{Health}
use Rattle.ar_extents.specs.declared.health.Health.TheVariants.{Whole, Out, Rebuilding, Broken}
use Rattle.ar_extents.specs.Health.{IsDown, IsRebuilding, rebuilt_disk, next_extent, after_done}
use Rattle.ar_extents.specs.Set.{SetState}
use Rattle.ar_extents.specs.Follows.{Faulted}
use Rattle.ar_extents.specs.Access.{next_place, IsGivenUp}
use Rattle.ar_extents.specs.Changes.{is_broken_set, with_done}
use Rattle.ar_extents.proofs.GroupLemmas.{same_place}
use Rattle.ar_extents.proofs.Losses.{sound_with_done}
use Rattle.ar_rebuild.specs.Rows.{WritesNext}
use Rattle.ar_rebuild.specs.Rebuild.{NothingToRebuild, IsLostAgain, Advances}
use Rattle.ar_rebuild.proofs.Writing.{next_same, calm}

-- what a kind of health isn't
is_rebuilding : Health → Bool
is_rebuilding Whole = false
is_rebuilding (Out x) = false
is_rebuilding (Rebuilding x done) = true
is_rebuilding Broken = false

is_whole : Health → Bool
is_whole Whole = true
is_whole (Out x) = false
is_whole (Rebuilding x done) = false
is_whole Broken = false

disk_of : Health → ℕ
disk_of Whole = 0
disk_of (Out x) = x
disk_of (Rebuilding x done) = x
disk_of Broken = 0

mark_of : Health → ℕ
mark_of Whole = 0
mark_of (Out x) = 0
mark_of (Rebuilding x done) = done
mark_of Broken = 0

pub rebuilding_not_broken : (x n : ℕ) → Rebuilding x n ≢ Broken
rebuilding_not_broken x n e = true≢false (sym (ap is_broken_set e))

pub whole_not_broken : Whole ≢ Broken
whole_not_broken e = true≢false (sym (ap is_broken_set e))

pub out_not_broken : (x : ℕ) → Out x ≢ Broken
out_not_broken x e = true≢false (sym (ap is_broken_set e))

quiet_not_rebuilding : (h : Health) (x n : ℕ) → NothingToRebuild h → h ≢ Rebuilding x n
unfolding is_rebuilding
quiet_not_rebuilding h x n quiet is = subst (λ (y : Health). NothingToRebuild y) is quiet

-- nothing was to be rebuilt, or the set was broken
pub advances_idle : (s : SetState) → ((x n : ℕ) → s.health ≢ Rebuilding x n) → Advances s s
advances_idle s none = record {
  geometry = refl;
  extents = refl;
  count = refl;
  loose = refl;
  faults = λ d. omega arith;
  noticed = λ d more. absurd (omega arith);
  usable = λ place lt used. inl used;
  whole = λ is. inl is;
  out = λ d is. inl is;
  rebuilding = λ d done is. absurd (none d done is);
  broken = λ is. inl is;
  stays_broken = λ is. refl;
}

pub advances_quiet : (s : SetState) → NothingToRebuild s.health → Advances s s
advances_quiet s quiet = advances_idle s (λ x n is. quiet_not_rebuilding s.health x n quiet is)

pub advances_broken : (s : SetState) → s.health ≡ Broken → Advances s s
advances_broken s broken = advances_idle s (λ x n is. rebuilding_not_broken x n (sym is ∙ broken))

-- reads and writes after which the disk isn't being rebuilt any more
stopped : (a b : SetState) (place : Place) → a.health ≡ Rebuilding place.disk place.extent → WritesNext a b
    → ((x n : ℕ) → b.health ≢ Rebuilding x n) → b.health ≢ Whole
    → ((d : ℕ) → b.health ≡ Out d → IsLostAgain a b d) → Advances a b
stopped a b place is writes none lost out = record {
  geometry = writes.follows.geometry;
  extents = writes.follows.extents;
  count = writes.follows.count;
  loose = writes.loose;
  faults = writes.follows.faults;
  noticed = writes.follows.noticed;
  usable = λ p lt used. inl (writes.follows.usable p used);
  whole = λ whole. absurd (lost whole);
  out = λ d gone. inr (out d gone);
  rebuilding = λ d done again. absurd (none d done again);
  broken = writes.follows.broken;
  stays_broken = λ broken. absurd (rebuilding_not_broken place.disk place.extent (sym is ∙ broken));
}

-- the replaced disk was lost
pub advances_given_up : (a b : SetState) (place : Place) → a.health ≡ Rebuilding place.disk place.extent
    → IsRebuilding a.health → WritesNext a b → IsGivenUp a b → Advances a b
unfolding is_rebuilding is_whole disk_of
advances_given_up a b place is rebuilding writes given_up =
    stopped a b place is writes (λ x n again. true≢false (ap is_rebuilding (sym again ∙ given_up.out)))
    (λ whole. true≢false (ap is_whole (sym whole ∙ given_up.out)))
    (λ d out.
    (let same : rebuilt_disk a.health ≡ d = ap disk_of (sym given_up.out ∙ out) in
    let mine : rebuilt_disk a.health ≡ place.disk = ap rebuilt_disk is in
    record {
      was = rebuilding;
      down = subst (λ (h : Health). IsDown h d) (sym is) (sym same ∙ mine);
      faulted = subst (λ n. Faulted a b n) same given_up.faulted;
    }))

-- two were
pub advances_lost : (a b : SetState) (place : Place) → a.health ≡ Rebuilding place.disk place.extent → WritesNext a b
    → b.health ≡ Broken → Advances a b
advances_lost a b place is writes broken =
    stopped a b place is writes (λ x n again. rebuilding_not_broken x n (sym again ∙ broken))
    (λ whole. whole_not_broken (sym whole ∙ broken))
    (λ d out. absurd (out_not_broken d (sym out ∙ broken)))

-- health once the extent counts as done
record Marks (old new : Health) (place : Place) (extents : ℕ) : Type 0 where
  whole : new ≡ Whole → place.extent + 1 ≡ extents
  out : (d : ℕ) → new ≢ Out d
  rebuilding : (d done : ℕ) → new ≡ Rebuilding d done → (0 < done) × (old ≡ Rebuilding d (done - 1))
  sound : new ≢ Broken

marks : (old : Health) (place : Place) (extents : ℕ) → old ≡ Rebuilding place.disk place.extent
    → Marks old (after_done old extents) place extents
unfolding is_rebuilding is_whole disk_of mark_of
marks old place extents is =
    let P : Health → Type 0 = λ h. Marks old h place extents in
    subst P (sym (ap (λ h. after_done h extents) is))
    (elim (eqb_tells (place.extent + 1) extents) [
      | inl last ↦
          subst (λ b. P (if b then Whole else Rebuilding place.disk (place.extent + 1))) (sym last.0) (record {
            whole = λ _. last.1;
            out = λ d e. true≢false (ap is_whole e);
            rebuilding = λ d done e. absurd (true≢false (ap is_whole e));
            sound = whole_not_broken;
          })
      | inr more ↦
          subst (λ b. P (if b then Whole else Rebuilding place.disk (place.extent + 1))) (sym more.0) (record {
            whole = λ e. absurd (true≢false (ap is_rebuilding e));
            out = λ d e. true≢false (ap is_rebuilding e);
            rebuilding = λ d done e.
                (let disk : place.disk ≡ d = ap disk_of e in
                let mark : place.extent + 1 ≡ done = ap mark_of e in
                let before : place.extent ≡ done - 1 = omega arith in
                (omega arith, is ∙ ap (λ x. Rebuilding x place.extent) disk ∙ ap (λ n. Rebuilding d n) before));
            sound = rebuilding_not_broken place.disk (place.extent + 1);
          })
    ])

-- the extent was written, and counts as done
pub advances_done : (a b : SetState) (place : Place) → a.health ≡ Rebuilding place.disk place.extent
    → IsRebuilding a.health → WritesNext a b → b.health ≡ a.health
    → Advances a (with_done b)
advances_done a b place is rebuilding writes health =
    let marked = marks b.health place b.extents (health ∙ is) in
    record {
      geometry = writes.follows.geometry;
      extents = writes.follows.extents;
      count = writes.follows.count;
      loose = writes.loose;
      faults = writes.follows.faults;
      noticed = λ d more. absurd
          (let same = calm a b writes.follows (subst (λ (h : Health). IsRebuilding h) (sym health) rebuilding) d in
          omega arith);
      usable = λ p lt used.
          elim (same_place p (next_place b)) [
            | inl same ↦ inr (record { rebuilding = rebuilding; is = same ∙ next_same a b health })
            | inr ne ↦ inl
                (writes.follows.usable p
                (sound_with_done b p (let same = writes.follows.extents in omega arith) ne used))
          ];
      whole = λ whole.
          inr (record {
            rebuilding = rebuilding;
            last = ap (λ h. next_extent h + 1) is ∙ marked.whole whole
                ∙ writes.follows.extents;
          });
      out = λ d gone. absurd (marked.out d gone);
      rebuilding = λ d done again.
          (let before = marked.rebuilding d done again in (before.0, sym health ∙ before.1));
      broken = λ broken. absurd (marked.sound broken);
      stays_broken = λ broken. absurd (rebuilding_not_broken place.disk place.extent (sym is ∙ broken));
    }
