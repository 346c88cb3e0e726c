-- What slots hold while an extent is rebuilt.
use Rattle.std.proofs.Common.{◌≡◌, ◌⊎◌, inl, inr, ℕ, zero, suc, ◌+◌, ◌*◌, ◌/◌, ◌<◌, List, refl, sym, ◌∙◌, ap, subst}
use Rattle.std.proofs.Common.{arith}
use Rattle.ar_disks.specs.declared.address.Place.{Place}
use Rattle.ar_disks.specs.declared.address.Members.{Members}
use Rattle.ar_extents.specs.Health.{IsRebuilding}
use Rattle.ar_extents.specs.Set.{SetState, content, IsSound, IsMissing}
use Rattle.ar_extents.specs.Follows.{Follows, KeepsBut}
use Rattle.ar_extents.specs.Access.{next_place}
use Rattle.ar_extents.proofs.Losses.{missing_lost, next_missing, lost_not_sound}
use Rattle.ar_mirror.specs.Slots.{one_of, other_of, row_of, mirror_slots_of, partner_of}
use Rattle.ar_disks.specs.Geometry.{rows_of}
use Rattle.ar_disks.specs.Members.{member}
use Rattle.ar_mirror.specs.Holds.{Holds}
use Rattle.ar_mirror.specs.Calls.{IsCopied}
use Rattle.ar_mirror.proofs.SlotLemmas.{pair_fits}
use Rattle.ar_mirror.proofs.Holding.{holds_at}

-- a row of an extent that is sound, when only a missing one was written
kept_when_sound : (a b : SetState) (p : Place) (written row : ℕ) → IsRebuilding a.health → Follows a b
    → KeepsBut (next_place a) written a b → IsSound b p → content b p row ≡ content a p row
kept_when_sound a b p written row is ab keeps sound =
    keeps.other_places.rows p
    (λ same. lost_not_sound a p (missing_lost a p (let P : Place
    → Type 0 = λ x. IsMissing a x in subst P (sym same) (next_missing a is))) (ab.usable p sound))
    row

-- writing the extent that is rebuilt takes no slot's block away
pub rebuild_holds : (a b : SetState) (written : ℕ) → IsRebuilding a.health → Follows a b
    → KeepsBut (next_place a) written a b
    → (m : Members) (slot : ℕ) (block : List ℕ) → Holds a m slot block → Holds b m slot block
rebuild_holds a b written is ab keeps m slot block has =
    holds_at b a.geometry m slot block ab.geometry
    (record {
      one_has = λ sound.
          kept_when_sound a b (one_of a.geometry m slot) written (row_of a.geometry slot) is ab keeps sound
          ∙ has.one_has (ab.usable (one_of a.geometry m slot) sound);
      other_has = λ sound.
          kept_when_sound a b (other_of a.geometry m slot) written (row_of a.geometry slot) is ab keeps sound
          ∙ has.other_has (ab.usable (other_of a.geometry m slot) sound);
    })

partner_of_one : (pair : ℕ) → pair < 2 → partner_of (2 * pair) ≡ 2 * pair + 1
partner_of_one zero lt = refl
partner_of_one (suc zero) lt = refl
partner_of_one (suc (suc n)) lt = absurd (omega arith)

partner_of_other : (pair : ℕ) → pair < 2 → partner_of (2 * pair + 1) ≡ 2 * pair
partner_of_other zero lt = refl
partner_of_other (suc zero) lt = refl
partner_of_other (suc (suc n)) lt = absurd (omega arith)

-- A rebuilt row has the block that the slot of that row holds.
pub rebuilt_has : (a b : SetState) (m : Members) (slot position : ℕ) (block : List ℕ)
    → slot < mirror_slots_of a.geometry
    → (position ≡ 2 * (slot / rows_of a.geometry)) ⊎ (position ≡ 2 * (slot / rows_of a.geometry) + 1)
    → IsCopied a b (member m (partner_of position)) (row_of a.geometry slot) → Holds a m slot block
    → content b (next_place a) (row_of a.geometry slot) ≡ block
rebuilt_has a b m slot position block lt (inl is) copied has =
    let partner =
    ap (λ n. member m (partner_of n)) is
    ∙ ap (λ n. member m n) (partner_of_one (slot / rows_of a.geometry) (pair_fits a.geometry slot lt)) in
    let P : Place → Type 0 = λ p. IsSound a p in
    copied.same ∙ ap (λ (p : Place). content a p (row_of a.geometry slot)) partner
    ∙ has.other_has (subst P partner copied.was_sound)
rebuilt_has a b m slot position block lt (inr is) copied has =
    let partner =
    ap (λ n. member m (partner_of n)) is
    ∙ ap (λ n. member m n) (partner_of_other (slot / rows_of a.geometry) (pair_fits a.geometry slot lt)) in
    let P : Place → Type 0 = λ p. IsSound a p in
    copied.same ∙ ap (λ (p : Place). content a p (row_of a.geometry slot)) partner
    ∙ has.one_has (subst P partner copied.was_sound)
