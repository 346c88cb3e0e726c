-- Loose extents: which groups they are not in, and how marks change.
use Rattle.std.proofs.Common.{◌≡◌, ◌≢◌, inl, inr, ℕ, ◌<◌, ◌||◌, ◌&&◌, Bool, true, false, eqb, [], length, set, Some}
use Rattle.std.proofs.Common.{sym, ap, subst, ◌∙◌, arith, true≢false}
use Rattle.std.proofs.lemmas.List.{get_or-set_other}
use Rattle.std.proofs.lemmas.Bool.Decides.{eqb_tells}
use Rattle.ar_disks.specs.declared.address.Place.{Place}
use Rattle.ar_disks.specs.Members.{member}
use Rattle.ar_extents.specs.Set.{SetState, HasExtent, IsValidSet, marks_of}
use Rattle.ar_extents.specs.Loose.{is_loose, lowest_loose, marked, taken}
use Rattle.ar_extents.proofs.GroupLemmas.{place_is, same_place as tell_place}
use Rattle.ar_extents.proofs.LooseLemmas.{is_loose-marked_other, is_loose-taken, lowest_loose-is}
use Rattle.ar_disks.specs.Addresses.{same_place}
use Rattle.ar_book.specs.Choices.{IsUnused}
use Rattle.ar_store.specs.Store.{StoreState, members_of}
use Rattle.ar_store.specs.Kept.{IsSpace}

-- the lowest loose extent of a disk is there, and is loose
pub record IsLooseThere (s : SetState) (p : Place) : Type 0 where
  pub there : HasExtent s p
  pub loose : is_loose s p ≡ true

pub lowest_there : (s : SetState) (p : Place) → IsValidSet s → p.disk < length s.disks
    → lowest_loose s p.disk ≡ Some p.extent → IsLooseThere s p
lowest_there s p kept inside lowest =
    let is = lowest_loose-is s p.disk p.extent lowest in
    let below : p.disk < length s.loose = subst (λ n. p.disk < n) (sym kept.tables) inside in
    record {
      there = record { disk = inside; extent = subst (λ n. p.extent < n) (kept.marks p.disk below) is.0 };
      loose = is.1;
    }

-- a member of a group isn't loose, so no loose extent is one
pub member_not_loose : (s : StoreState) (g i : ℕ) (p : Place) → IsSpace s → g < length s.book.groups → i < 4
    → is_loose s.disks p ≡ true
    → member (members_of s g) i ≢ p
member_not_loose s g i p space inside lt loose same =
    true≢false (sym loose ∙ ap (λ (x : Place). is_loose s.disks x) (sym same) ∙ (space.extents g i inside lt).used)

apart_tells : (p q : Place) → p ≢ q → same_place p q ≡ false
apart_tells p q ne = elim (eqb_tells p.disk q.disk) [
  | inr d ↦ ap (λ b. b && eqb p.extent q.extent) d.0
  | inl d ↦ ap (λ b. b && eqb p.extent q.extent) d.0 ∙ (elim (eqb_tells p.extent q.extent) [
    | inr e ↦ e.0
    | inl e ↦ absurd (ne (place_is p q d.1 e.1))
  ])
]

pub loose_unused : (s : StoreState) (p : Place) → IsSpace s → is_loose s.disks p ≡ true → IsUnused s.book p
loose_unused s p space loose g inside =
    let m = members_of s g in
    let apart : (i : ℕ) → i < 4 → same_place (member m i) p ≡ false =
    λ i lt. apart_tells (member m i) p (member_not_loose s g i p space inside lt loose) in
    ap (λ b. b || same_place m.second p || same_place m.third p || same_place m.fourth p) (apart 0 (omega arith))
    ∙ ap (λ b. b || same_place m.third p || same_place m.fourth p) (apart 1 (omega arith))
    ∙ ap (λ b. b || same_place m.fourth p) (apart 2 (omega arith))
    ∙ apart 3 (omega arith)

-- an extent that isn't loose isn't after another was taken
pub used_taken : (s : SetState) (q p : Place) → is_loose s p ≡ false
    → is_loose (taken s q.disk (Some q.extent)) p ≡ false
used_taken s q p used = elim (tell_place p q) [
  | inl same ↦ ap (λ x. is_loose (taken s q.disk (Some q.extent)) x) same ∙ is_loose-taken s q
  | inr ne ↦ is_loose-marked_other s q p false ne ∙ used
]

-- the marks of the other disks stay
pub marks_other : (s : SetState) (d e x : ℕ) (mark : Bool) → x ≢ d → marks_of (marked s d e mark) x ≡ marks_of s x
marks_other s d e x mark ne = get_or-set_other s.loose d x (set (marks_of s d) e mark) [] ne
