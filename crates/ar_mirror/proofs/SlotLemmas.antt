-- Places, and which slots share a row of them.
use Rattle.std.proofs.Common.{◌≡◌, ◌≢◌, inl, inr, ℕ, zero, suc, ◌+◌, ◌*◌, ◌/◌, ◌<◌, ◌≤◌, sym, ap, arith}
use Rattle.std.proofs.lemmas.Bool.Decides.{eqb_tells}
use Rattle.ar_disks.specs.declared.geometry.Geometry.{Geometry}
use Rattle.ar_disks.specs.declared.geometry.Geometry.TheVariants.{Paper, Small}
use Rattle.ar_disks.specs.declared.address.Place.{Place}
use Rattle.ar_disks.specs.declared.address.Members.{Members}
use Rattle.ar_disks.specs.Geometry.{rows_of}
use Rattle.ar_disks.specs.Members.{member, AreApart, AreDisjoint}
use Rattle.ar_mirror.specs.Slots.{mirror_slots_of, row_of, one_of, other_of, partner_of}

-- a group has two pairs
pub pair_fits : (g : Geometry) (slot : ℕ) → slot < mirror_slots_of g → slot / rows_of g < 2
pair_fits Paper slot lt = omega arith
pair_fits Small slot lt = omega arith

pub row_fits : (g : Geometry) (slot : ℕ) → row_of g slot < rows_of g
row_fits Paper slot = omega arith
row_fits Small slot = omega arith

pub rows_not_zero : (g : Geometry) → 0 < rows_of g
rows_not_zero Paper = omega arith
rows_not_zero Small = omega arith

pub slots_few : (g : Geometry) → rows_of g ≤ 16
slots_few Paper = omega arith
slots_few Small = omega arith

-- a pair and a row make one slot
pub same_slot : (g : Geometry) (s t : ℕ) → s / rows_of g ≡ t / rows_of g → row_of g s ≡ row_of g t → s ≡ t
same_slot Paper s t pair row = omega arith
same_slot Small s t pair row = omega arith

-- members of different positions are different extents
pub members_differ : (m : Members) (i j : ℕ) → AreApart m → i < 4 → j < 4 → member m i ≡ member m j → i ≡ j
members_differ m i j apart hi hj same =
    elim (eqb_tells i j) [
      | inl e ↦ e.1
      | inr e ↦ absurd (apart i j hi hj e.1 (ap (λ (x : Place). x.disk) same))
    ]

-- no extent is a member of two disjoint groups
pub members_disjoint : (m n : Members) (i j : ℕ) → AreDisjoint m n → i < 4 → j < 4 → member n j ≡ member m i → ⊥
members_disjoint m n i j disjoint hi hj same =
    disjoint i j hi hj (sym (ap (λ (x : Place). x.disk) same)) (sym (ap (λ (x : Place). x.extent) same))

-- the two members of a pair are on different disks
pub pair_apart : (g : Geometry) (m : Members) (slot : ℕ) → AreApart m → slot < mirror_slots_of g
    → (one_of g m slot).disk ≢ (other_of g m slot).disk
pair_apart g m slot apart lt =
    let fits = pair_fits g slot lt in
    apart (2 * (slot / rows_of g)) (2 * (slot / rows_of g) + 1) (omega arith) (omega arith) (omega arith)

-- and so are a member and its partner
pub partner_apart : (m : Members) (position : ℕ) → AreApart m → position < 4
    → (member m position).disk ≢ (member m (partner_of position)).disk
partner_apart m zero apart lt = apart 0 1 (omega arith) (omega arith) (omega arith)
partner_apart m (suc zero) apart lt = apart 1 0 (omega arith) (omega arith) (omega arith)
partner_apart m (suc (suc zero)) apart lt = apart 2 3 (omega arith) (omega arith) (omega arith)
partner_apart m (suc (suc (suc zero))) apart lt = apart 3 2 (omega arith) (omega arith) (omega arith)
partner_apart m (suc (suc (suc (suc n)))) apart lt = absurd (omega arith)
