-- Each rule names one block and one slot at most.
use Rattle.std.proofs.Common.{◌≡◌, ◌≢◌, ◌⊎◌, ℕ, ◌<◌, ◌≤◌, Option, Some, IsSome, slice_get, refl, sym, ap, subst, ◌∙◌}
use Rattle.std.proofs.Common.{inl, inr, arith}
use Rattle.std.proofs.lemmas.Option.{same_Some}
use Rattle.ar_disks.specs.declared.address.Addr.{Addr}
use Rattle.ar_disks.specs.declared.address.Key.{Key}
use Rattle.ar_book.specs.declared.class.Class.{Class}
use Rattle.ar_book.specs.declared.class.Class.TheVariants.{Mirrored, Parity}
use Rattle.ar_book.specs.declared.class.Slot.{Slot}
use Rattle.ar_book.specs.Tables.{Tables, UnitTableState, key_at, HasBlock}
use Rattle.ar_book.specs.Changes.{opened, slot_at}
use Rattle.ar_book.specs.Choices.{IsNoNewer, place_of}
use Rattle.ar_book.specs.Book.{TablesAgree}
use Rattle.ar_book.specs.Cleaning.{IsNoFuller, IsFirstBlock, IsLowestHoleBeside}
use Rattle.ar_disks.proofs.Addresses.{make_key}
use Rattle.ar_book.proofs.UnitLemmas.{has_by_block}
use Rattle.ar_book.proofs.UnitPlaces.{some_place}
use Rattle.ar_extents.specs.declared.health.Health.TheVariants.{Broken as AllBroken}
use Rattle.ar_store.specs.Store.{StoreState}
use Rattle.ar_store.specs.Placing.{HasNoHole}
use Rattle.ar_store.specs.Calls.{BreaksOpening}
use Rattle.ar_store.proofs.Gaps.{first_is}
use Rattle.ar_store.proofs.Squeezing.{same_free}
use Rattle.ar_moves.specs.Demotion.{IsOldestMirrored, IsSlotFor, LeavesReady}
use Rattle.ar_moves.specs.Cleaning.{NamesCleaningOf, NamesCleaning}

-- the orders of groups and stamps leave no two that are equal
group_single : (t : Tables) (g h : ℕ) → IsNoFuller t g h → IsNoFuller t h g → g ≡ h
group_single t g h (inl a) (inl b) = absurd (omega arith)
group_single t g h (inl a) (inr b) = absurd (omega (arith, b.0))
group_single t g h (inr a) (inl b) = absurd (omega (arith, a.0))
group_single t g h (inr a) (inr b) = omega (arith, a.1, b.1)

-- two units with one place are one
place_single : (t : Tables) (k j : Key) → TablesAgree t → HasBlock t k → HasBlock t j
    → place_of t k.addr ≡ place_of t j.addr → k.addr ≡ j.addr
place_single t k j ok here there same =
    let p = some_place t.units k.addr ok.units.distinct (has_by_block t.units k.addr k.rb here) in
    let q = some_place t.units j.addr ok.units.distinct (has_by_block t.units j.addr j.rb there) in
    let at = ap (λ n. slice_get t.units n) same in
    ap (λ (x : Addr × UnitTableState). x.0) (same_Some (k.addr, p.0) (j.addr, q.0) (sym p.1 ∙ at ∙ q.1))

block_single : (t : Tables) (k j : Key) → TablesAgree t → HasBlock t k → HasBlock t j → IsNoNewer t k j
    → IsNoNewer t j k → k ≡ j
block_single t k j ok here there (inl a) (inl b) = absurd (omega arith)
block_single t k j ok here there (inl a) (inr b) = absurd (omega (arith, b.0))
block_single t k j ok here there (inr a) (inl b) = absurd (omega (arith, a.0))
block_single t k j ok here there (inr a) (inr b) = by a.1 b.1
  where
    by : (place_of t k.addr < place_of t j.addr) ⊎ ((place_of t k.addr ≡ place_of t j.addr) × (k.rb ≤ j.rb))
        → (place_of t j.addr < place_of t k.addr) ⊎ ((place_of t j.addr ≡ place_of t k.addr) × (j.rb ≤ k.rb)) → k ≡ j
    by (inl x) (inl y) = absurd (omega arith)
    by (inl x) (inr y) = absurd (omega (arith, y.0))
    by (inr x) (inl y) = absurd (omega (arith, x.0))
    by (inr x) (inr y) = make_key k j (place_single t k j ok here there x.0) (omega (arith, x.1, y.1))

pub oldest_single : (t : Tables) (k j : Key) → TablesAgree t → IsOldestMirrored t k → IsOldestMirrored t j → k ≡ j
oldest_single t k j ok a b =
    block_single t k j ok a.mirrored.block b.mirrored.block (a.oldest j b.mirrored) (b.oldest k a.mirrored)

-- a slot and the tables in which it is ready
pub record AreOne (s r : Slot) (t u : Tables) : Type 0 where
  pub slots : s ≡ r
  pub tables : t ≡ u

pub demoted_single : (t ready tables : Tables) (s r : Slot) → IsSlotFor t s ready → IsSlotFor t r tables
    → AreOne s r ready tables
demoted_single t ready tables s r (inl a) (inl b) =
    record {
      slots = first_is s r (a.lowest.least r b.lowest.hole) (b.lowest.least s a.lowest.hole);
      tables = a.same
          ∙ sym b.same;
    }
demoted_single t ready tables s r (inl a) (inr b) = absurd (b.none.none s a.lowest.hole)
demoted_single t ready tables s r (inr a) (inl b) = absurd (a.none.none r b.lowest.hole)
demoted_single t ready tables s r (inr a) (inr b) =
    let group = same_free t a.group b.group a.opened.lowest b.opened.lowest in
    record {
      slots = a.first ∙ ap (λ n. slot_at n 0) group ∙ sym b.first;
      tables = a.opened.tables ∙ ap (λ n. opened t n Parity) group ∙ sym b.opened.tables;
    }

-- the tables in which some slot is ready are those in which the slot is that the rule names
pub leaves_ready : (t new ready : Tables) (s : Slot) → IsSlotFor t s ready → new ≡ ready → LeavesReady t new
leaves_ready t new ready s slot same =
    record { ready = λ key to tables names. same ∙ (demoted_single t ready tables s to slot names.slot).tables }

-- so they are where the disks broke while the group was opened
pub cut_ready : (old new : StoreState) → HasNoHole old.book Parity → old.disks.health ≢ AllBroken
    → BreaksOpening old new Parity → LeavesReady old.book new.book
cut_ready old new none sound cut = elim cut.tables [
  | inl was ↦ absurd (sound was.was)
  | inr opening ↦
      leaves_ready old.book new.book new.book (slot_at opening.0 0)
      (inr (record { none = none; group = opening.0; opened = opening.1; first = refl })) refl
]

some_of : (o : Option Key) (k : Key) → o ≡ Some k → IsSome o
some_of o k e = subst (λ x. IsSome x) (sym e) refl

first_single : (t : Tables) (g : ℕ) (k j : Key) → IsFirstBlock t g k → IsFirstBlock t g j → k ≡ j
first_single t g k j a b =
    let up = a.least b.slot (some_of (key_at t (slot_at g b.slot)) j b.names) in
    let down = b.least a.slot (some_of (key_at t (slot_at g a.slot)) k a.names) in
    let same : a.slot ≡ b.slot = omega arith in
    same_Some k j (sym a.names ∙ ap (λ n. key_at t (slot_at g n)) same ∙ b.names)

-- a block and a slot
pub record AreSame (k j : Key) (s r : Slot) : Type 0 where
  pub keys : k ≡ j
  pub slots : s ≡ r

class_single : (t : Tables) (c : Class) (k j : Key) (s r : Slot) → NamesCleaningOf t c k s → NamesCleaningOf t c j r
    → AreSame k j s r
class_single t c k j s r a b =
    let group = group_single t a.group b.group (a.emptiest.least b.group b.emptiest.can)
    (b.emptiest.least a.group a.emptiest.can) in
    let first = subst (λ n. IsFirstBlock t n j) (sym group) b.first in
    let hole = subst (λ n. IsLowestHoleBeside t c n r) (sym group) b.hole in
    record {
      keys = first_single t a.group k j a.first first;
      slots = first_is s r (a.hole.least r hole.found) (hole.least s a.hole.found);
    }

pub cleaned_single : (t : Tables) (k j : Key) (s r : Slot) → NamesCleaning t k s → NamesCleaning t j r → AreSame k j s r
cleaned_single t k j s r (inl a) (inl b) = class_single t Mirrored k j s r a b
cleaned_single t k j s r (inl a) (inr b) = absurd (b.none a.group a.emptiest.can)
cleaned_single t k j s r (inr a) (inl b) = absurd (a.none b.group b.emptiest.can)
cleaned_single t k j s r (inr a) (inr b) = class_single t Parity k j s r a.names b.names
