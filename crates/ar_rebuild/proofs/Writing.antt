-- Writes of the extent that is rebuilt next: what one after another leaves.
use Rattle.std.proofs.Common.{◌≡◌, ◌≢◌, inl, inr, ℕ, ◌<◌, false, refl, sym, ap, subst, ◌∙◌, true≢false, arith}
use Rattle.std.proofs.lemmas.Bool.{cases_lt}
use Rattle.ar_disks.specs.declared.address.Place.{Place}
use Rattle.ar_extents.specs.declared.health.Health.{Health}
use Rattle.ar_extents.specs.declared.health.Health.TheVariants.{Whole, Out, Rebuilding, Broken}
use Rattle.ar_extents.specs.Health.{is_out, IsRebuilding, rebuilt_disk, next_extent}
use Rattle.ar_extents.specs.Set.{SetState, content, faults_of, IsSound}
use Rattle.ar_extents.specs.Follows.{Follows, KeepsBut, LeavesDisks}
use Rattle.ar_extents.specs.Access.{next_place, IsGivenUp}
use Rattle.ar_extents.proofs.Follows.{follows_refl, follows_then, keeps_refl}
use Rattle.ar_extents.proofs.Losses.{missing_lost, next_missing, lost_not_sound}
use Rattle.ar_store.proofs.Alike.{AreAlike}
use Rattle.ar_rebuild.specs.Rows.{IsBesideNext, HasNotFaulted, WritesNext}

-- the same extent is next where health is the same
pub next_same : (a b : SetState) → b.health ≡ a.health → next_place b ≡ next_place a
next_same a b same =
    ap (λ (h : Health). let there : Place = record { disk = rebuilt_disk h; extent = next_extent h } in there) same

-- disks that none of two runs accesses are as they were after both
pub spares_then : (these : ℕ → Type 0) (a b c : SetState) → LeavesDisks these a b → LeavesDisks these b c
    → LeavesDisks these a c
spares_then these a b c ab bc = record { disks = λ d is. bc.disks d is ∙ ab.disks d is }

-- no row yet
pub writes_refl : (s : SetState) → WritesNext s s
writes_refl s = record { follows = follows_refl s; keeps = keeps_refl (IsBesideNext s) s; loose = refl }

-- one row more
pub writes_then : (a b c : SetState) (row : ℕ) → WritesNext a b → b.health ≡ a.health → Follows b c
    → KeepsBut (next_place b) row b c → c.loose ≡ b.loose → WritesNext a c
writes_then a b c row ab health follows keeps loose = record {
  follows = follows_then a b c ab.follows follows;
  keeps = record {
    rows = λ p beside r.
        keeps.other_places.rows p (λ is. beside (is ∙ next_same a b health)) r ∙ ab.keeps.rows p beside r;
  };
  loose = loose ∙ ab.loose;
}

-- the extent isn't used while its rows are written, so every other is as it was
pub writes_alike : (a b : SetState) → IsRebuilding a.health → WritesNext a b → AreAlike a b
writes_alike a b is writes = record {
  geometry = writes.follows.geometry;
  sound = λ p used. writes.follows.usable p used;
  same = λ p row used.
      writes.keeps.rows p
      (λ same.
      (let P : Place → Type 0 = λ x. IsSound a x in
      lost_not_sound a (next_place a) (missing_lost a (next_place a) (next_missing a is))
      (subst P same (writes.follows.usable p used))))
      row;
}

-- the replaced disk faulted in one of the rows
pub stopped_then : (a b c : SetState) → Follows a b → b.health ≡ a.health → IsGivenUp b c → IsGivenUp a c
stopped_then a b c ab health given_up =
    let disk = ap rebuilt_disk health in
    let grew = subst (λ d. (faults_of b d) < (faults_of c d)) disk given_up.faulted in
    let before = ab.faults (rebuilt_disk a.health) in
    record { faulted = omega arith; out = given_up.out ∙ ap Out disk }

-- another row of the extent stays where one is written
pub row_kept : (a b c : SetState) (row r : ℕ) → b.health ≡ a.health → KeepsBut (next_place b) row b c → r ≢ row
    → content c (next_place a) r ≡ content b (next_place a) r
row_kept a b c row r health keeps ne =
    let next = next_same a b health in
    ap (λ (p : Place). content c p r) (sym next) ∙ keeps.other_rows r ne ∙ ap (λ (p : Place). content b p r) next

none_out : (h : Health) (d : ℕ) → IsRebuilding h → is_out h d ≡ false
none_out Whole d is = absurd is
none_out (Out x) d is = absurd is
none_out (Rebuilding x done) d is = refl
none_out Broken d is = absurd is

-- as long as a disk is being rebuilt none has faulted
pub calm : (a b : SetState) → Follows a b → IsRebuilding b.health → (d : ℕ) → faults_of b d ≡ faults_of a d
calm a b ab is d =
    elim (cases_lt (faults_of a d) (faults_of b d)) [
      | inl more ↦ absurd (true≢false (sym (ab.noticed d more) ∙ none_out b.health d is))
      | inr none ↦ (let grown = ab.faults d in omega arith)
    ]

-- the disk that is rebuilt has not faulted in what was done before
pub spared_then : (a b c : SetState) → Follows a b → b.health ≡ a.health → IsRebuilding a.health → HasNotFaulted b c
    → HasNotFaulted a c
spared_then a b c ab same rebuilding spared =
    subst (λ (h : Health). faults_of c (rebuilt_disk h) ≡ faults_of b (rebuilt_disk h)) same spared
    ∙ calm a b ab (subst (λ (h : Health). IsRebuilding h) (sym same) rebuilding) (rebuilt_disk a.health)
