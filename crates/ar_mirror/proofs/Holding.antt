-- What slots go on holding, and what two writes make of them.
use Rattle.std.proofs.Common.{◌≡◌, ◌≢◌, ◌⊎◌, inl, inr, ℕ, ◌+◌, ◌*◌, ◌/◌, ◌<◌, List, refl, sym, ◌∙◌, ap, subst, arith}
use Rattle.ar_disks.specs.declared.geometry.Geometry.{Geometry}
use Rattle.ar_disks.specs.declared.address.Place.{Place}
use Rattle.ar_disks.specs.declared.address.Members.{Members}
use Rattle.ar_disks.specs.Geometry.{rows_of}
use Rattle.ar_disks.specs.Members.{member, AreApart, AreDisjoint}
use Rattle.ar_extents.specs.declared.health.Health.TheVariants.{Broken}
use Rattle.ar_extents.specs.Set.{SetState, content, IsSound}
use Rattle.ar_extents.specs.Follows.{Follows, Keeps, KeepsBut, IsPlace, WorksOn, WorksInTurn}
use Rattle.ar_extents.specs.Access.{PutsRow, is_written}
use Rattle.ar_extents.specs.Plans.{Attempts, write_at}
use Rattle.ar_extents.specs.declared.answers.Put.{Put}
use Rattle.ar_extents.specs.declared.answers.Put.TheVariants.{Written, Missing, Broken as PutBroken}
use Rattle.ar_extents.proofs.Follows.{works_in_turn}
use Rattle.ar_extents.proofs.Asking.{attempt_keeps, write_works}
use Rattle.ar_extents.proofs.Losses.{missing_lost, broken_lost, lost_not_sound}
use Rattle.ar_extents.specs.Groups.{IsGroup}
use Rattle.ar_extents.proofs.GroupLemmas.{same_place}
use Rattle.ar_mirror.specs.Slots.{mirror_slots_of, row_of, one_of, other_of}
use Rattle.ar_mirror.specs.Holds.{BothHave, Holds}
use Rattle.ar_mirror.specs.Calls.{IsInPair, KeepsButSlot, OtherMirrorSlotsHold, OtherGroupsHold}
use Rattle.ar_mirror.proofs.SlotLemmas.{pair_fits, same_slot, members_differ, members_disjoint, pair_apart}

-- a row of two extents that keep it
pub both_have_then : (a b : SetState) (one other : Place) (row : ℕ) (block : List ℕ) → Follows a b
    → content b one row ≡ content a one row
    → content b other row ≡ content a other row → BothHave a one other row block → BothHave b one other row block
both_have_then a b one other row block ab same_one same_other has = record {
  one_has = λ sound. same_one ∙ has.one_has (ab.usable one sound);
  other_has = λ sound. same_other ∙ has.other_has (ab.usable other sound);
}

-- where a slot lies goes by the geometry alone
pub holds_at : (s : SetState) (g : Geometry) (m : Members) (slot : ℕ) (block : List ℕ) → s.geometry ≡ g
    → BothHave s (one_of g m slot) (other_of g m slot) (row_of g slot) block → Holds s m slot block
holds_at s g m slot block same has =
    let P : Geometry → Type 0 =
    λ g. BothHave s (one_of g m slot) (other_of g m slot) (row_of g slot) block in subst P (sym same) has

-- a row that one write leaves
row_kept : (a b : SetState) (place p : Place) (written row : ℕ) → KeepsBut place written a b
    → (p ≡ place → row ≢ written) → content b p row ≡ content a p row
row_kept a b place p written row keeps apart =
    elim (same_place p place) [
      | inl same ↦ (let P : Place → Type 0 = λ x. content b x row
          ≡ content a x row in subst P (sym same) (keeps.other_rows row (apart same)))
      | inr ne ↦ keeps.other_places.rows p ne row
    ]

-- two writes to the row of a slot's pair
pub pair_kept : (m : Members) (slot : ℕ) (a b c : SetState)
    → KeepsBut (one_of a.geometry m slot) (row_of a.geometry slot) a b
    → KeepsBut (other_of a.geometry m slot) (row_of a.geometry slot) b c → KeepsButSlot m slot a c
pair_kept m slot a b c first second = record {
  rows = λ p row apart.
      row_kept b c (other_of a.geometry m slot) p (row_of a.geometry slot) row second (λ is. apart (inr is))
      ∙ row_kept a b (one_of a.geometry m slot) p (row_of a.geometry slot) row first (λ is. apart (inl is));
}

-- one write alone
pub pair_kept_first : (m : Members) (slot : ℕ) (a b : SetState)
    → KeepsBut (one_of a.geometry m slot) (row_of a.geometry slot) a b → KeepsButSlot m slot a b
pair_kept_first m slot a b first = record {
  rows = λ p row apart. row_kept a b (one_of a.geometry m slot) p (row_of a.geometry slot) row first
      (λ is. apart (inl is));
}

-- a member of a slot's pair, in the row of another slot, isn't written
row_apart : (g : Geometry) (m : Members) (slot t i : ℕ) → AreApart m → slot < mirror_slots_of g → t < mirror_slots_of g
    → t ≢ slot
    → (i ≡ 2 * (t / rows_of g)) ⊎ (i ≡ 2 * (t / rows_of g) + 1) → IsInPair g m slot (member m i)
    → row_of g t ≢ row_of g slot
row_apart g m slot t i apart hs ht ne at (inl same) row =
    let fits = pair_fits g t ht in
    let slot_fits = pair_fits g slot hs in
    let pairs = members_differ m i (2 * (slot / rows_of g)) apart
    (elim at [ inl e ↦ omega arith | inr e ↦ omega arith ]) (omega arith) same in
    ne (same_slot g t slot (elim at [ inl e ↦ omega arith | inr e ↦ omega arith ]) row)
row_apart g m slot t i apart hs ht ne at (inr same) row =
    let fits = pair_fits g t ht in
    let slot_fits = pair_fits g slot hs in
    let pairs = members_differ m i (2 * (slot / rows_of g) + 1) apart
    (elim at [ inl e ↦ omega arith | inr e ↦ omega arith ]) (omega arith) same in
    ne (same_slot g t slot (elim at [ inl e ↦ omega arith | inr e ↦ omega arith ]) row)

-- the group's other slots
pub slots_hold : (m : Members) (slot : ℕ) (a b : SetState) → AreApart m → slot < mirror_slots_of a.geometry
    → Follows a b → KeepsButSlot m slot a b → OtherMirrorSlotsHold m slot a b
slots_hold m slot a b apart hs ab keeps = record {
  slots = λ t ht ne block has.
      holds_at b a.geometry m t block ab.geometry
      (both_have_then a b (one_of a.geometry m t) (other_of a.geometry m t) (row_of a.geometry t) block ab
      (keeps.rows (one_of a.geometry m t) (row_of a.geometry t)
      (λ is. row_apart a.geometry m slot t (2 * (t / rows_of a.geometry)) apart hs ht ne (inl refl) is))
      (keeps.rows (other_of a.geometry m t) (row_of a.geometry t)
      (λ is. row_apart a.geometry m slot t (2 * (t / rows_of a.geometry) + 1) apart hs ht ne (inr refl) is))
      has);
}

-- an extent of a disjoint group isn't in the pair
not_in_pair : (g : Geometry) (m n : Members) (slot j : ℕ) → AreDisjoint m n → slot < mirror_slots_of g → j < 4
    → IsInPair g m slot (member n j) → ⊥
not_in_pair g m n slot j disjoint hs hj (inl same) =
    let fits = pair_fits g slot hs in members_disjoint m n (2 * (slot / rows_of g)) j disjoint (omega arith) hj same
not_in_pair g m n slot j disjoint hs hj (inr same) =
    let fits = pair_fits g slot hs in members_disjoint m n (2 * (slot / rows_of g) + 1) j disjoint (omega arith) hj same

-- the slots of other groups
pub groups_hold : (m : Members) (slot : ℕ) (a b : SetState) → slot < mirror_slots_of a.geometry → Follows a b
    → KeepsButSlot m slot a b → OtherGroupsHold m a b
groups_hold m slot a b hs ab keeps = record {
  groups = λ n disjoint t ht block has.
      let fits = pair_fits a.geometry t ht in
      holds_at b a.geometry n t block ab.geometry
      (both_have_then a b (one_of a.geometry n t) (other_of a.geometry n t) (row_of a.geometry t) block ab
      (keeps.rows (one_of a.geometry n t) (row_of a.geometry t)
      (λ is. absurd (not_in_pair a.geometry m n slot (2 * (t / rows_of a.geometry)) disjoint hs (omega arith) is)))
      (keeps.rows (other_of a.geometry n t) (row_of a.geometry t)
      (λ is. absurd
      (not_in_pair a.geometry m n slot (2 * (t / rows_of a.geometry) + 1) disjoint hs (omega arith) is)))
      has);
}

-- a member that is sound after a write has the block
put_content : (a b : SetState) (p : Place) (row : ℕ) (block : List ℕ) (answer : Put) → PutsRow a b p row block answer
    → IsSound b p → content b p row ≡ block
put_content a b p row block Written answers sound = answers.content_is
put_content a b p row block Missing answers sound = absurd (lost_not_sound b p (missing_lost b p answers) sound)
put_content a b p row block PutBroken answers sound = absurd (lost_not_sound b p (broken_lost b p answers) sound)

-- after both writes the pair has the block
pub puts_hold : (a b c : SetState) (one other : Place) (row : ℕ) (block : List ℕ) (first second : Put)
    → one.disk ≢ other.disk
    → PutsRow a b one row block first → PutsRow b c other row block second → Follows b c → KeepsBut other row b c
    → BothHave c one other row block
puts_hold a b c one other row block first second apart wrote_one wrote_other bc keeps = record {
  one_has = λ sound.
      keeps.other_places.rows one (λ same. apart (ap (λ (x : Place). x.disk) same)) row
      ∙ put_content a b one row block first wrote_one (bc.usable one sound);
  other_has = λ sound. put_content b c other row block second wrote_other sound;
}

-- on a broken set any row will do
pub broken_has : (s : SetState) (one other : Place) (row : ℕ) (block : List ℕ) → s.health ≡ Broken
    → BothHave s one other row block
broken_has s one other row block is = record {
  one_has = λ sound. absurd (lost_not_sound s one (broken_lost s one is) sound);
  other_has = λ sound. absurd (lost_not_sound s other (broken_lost s other is) sound);
}

-- what one write promised
record Wrote (a b : SetState) (p : Place) (row : ℕ) (block : List ℕ) (answered : Put) : Type 0 where
  answer : PutsRow a b p row block answered
  made : Attempts (write_at p row) (is_written answered) a b

wrote_works : (a b : SetState) (p : Place) (row : ℕ) (block : List ℕ) (answered : Put) → Wrote a b p row block answered
    → WorksOn (IsPlace p) a b
wrote_works a b p row block answered wrote = write_works p row (is_written answered) a b wrote.made

wrote_keeps : (a b : SetState) (p : Place) (row : ℕ) (block : List ℕ) (answered : Put) → Wrote a b p row block answered
    → KeepsBut p row a b
wrote_keeps a b p row block answered wrote = attempt_keeps (write_at p row) (is_written answered) a b wrote.made

-- what it promised of a place, under that place's other name
wrote_at : (a b : SetState) (p q : Place) (row r : ℕ) (block : List ℕ) (answered : Put) → p ≡ q → row ≡ r
    → Wrote a b p row block answered → Wrote a b q r block answered
wrote_at a b p q row r block answered place_is row_is wrote =
    let P : Place → Type 0 = λ x. Wrote a b x row block answered in
    let Q : ℕ → Type 0 = λ n. Wrote a b q n block answered in
    subst Q row_is (subst P place_is wrote)

-- what both writes to a slot come to
pub record SlotWritten (m : Members) (slot : ℕ) (a c : SetState) (block : List ℕ) : Type 0 where
  pub holds : Holds c m slot block
  pub slots : OtherMirrorSlotsHold m slot a c
  pub groups : OtherGroupsHold m a c
  pub keeps : KeepsButSlot m slot a c
  pub works : WorksOn (IsInPair a.geometry m slot) a c
  pub order : WorksInTurn (one_of a.geometry m slot) (other_of a.geometry m slot) a c

both_written : (m : Members) (slot : ℕ) (a b c : SetState) (block : List ℕ) (first second : Put) → IsGroup a m
    → slot < mirror_slots_of a.geometry
    → Wrote a b (one_of a.geometry m slot) (row_of a.geometry slot) block first
    → Wrote b c (other_of a.geometry m slot) (row_of a.geometry slot) block second
    → SlotWritten m slot a c block
both_written m slot a b c block first second group hs one other =
    let row = row_of a.geometry slot in
    let order : WorksInTurn (one_of a.geometry m slot) (other_of a.geometry m slot) a c = record {
      between = b;
      first = wrote_works a b (one_of a.geometry m slot) row block first one;
      second = wrote_works b c (other_of a.geometry m slot) row block second other;
    } in
    let other_keeps = wrote_keeps b c (other_of a.geometry m slot) row block second other in
    let works = works_in_turn (one_of a.geometry m slot) (other_of a.geometry m slot) a c order in
    let follows = works.follows in
    let keeps = pair_kept m slot a b c (wrote_keeps a b (one_of a.geometry m slot) row block first one) other_keeps in
    record {
      holds = holds_at c a.geometry m slot block follows.geometry
          (puts_hold a b c (one_of a.geometry m slot) (other_of a.geometry m slot) row block first second
          (pair_apart a.geometry m slot group.apart hs) one.answer other.answer order.second.follows other_keeps);
      slots = slots_hold m slot a c group.apart hs follows keeps;
      groups = groups_hold m slot a c hs follows keeps;
      keeps = keeps;
      works = works;
      order = order;
    }

-- the same, of extents and a row that are found to be the slot's
pub slot_written : (m : Members) (slot : ℕ) (a b c : SetState) (g : Geometry) (one other : Place) (row : ℕ)
    (block : List ℕ) (first second : Put) → IsGroup a m → slot < mirror_slots_of a.geometry
    → g ≡ a.geometry → one ≡ one_of g m slot → other ≡ other_of g m slot → row ≡ row_of g slot
    → PutsRow a b one row block first → Attempts (write_at one row) (is_written first) a b
    → PutsRow b c other row block second → Attempts (write_at other row) (is_written second) b c
    → SlotWritten m slot a c block
slot_written m slot a b c g one other row block first second group hs same is_one is_other is_row puts made puts_other
    made_other =
    let row_is = is_row ∙ ap (λ (x : Geometry). row_of x slot) same in
    both_written m slot a b c block first second group hs
    (wrote_at a b one (one_of a.geometry m slot) row (row_of a.geometry slot) block first (is_one
    ∙ ap (λ (x : Geometry). one_of x m slot) same) row_is
    (record { answer = puts; made = made }))
    (wrote_at b c other (other_of a.geometry m slot) row (row_of a.geometry slot) block second (is_other
    ∙ ap (λ (x : Geometry). other_of x m slot) same) row_is
    (record { answer = puts_other; made = made_other }))

-- no extent but the slot's pair is written
pub keeps_other_pairs : (m : Members) (slot : ℕ) (a b : SetState) → KeepsButSlot m slot a b
    → Keeps (λ p. IsInPair a.geometry m slot p → ⊥) a b
keeps_other_pairs m slot a b keeps = record { rows = λ p not_in row. keeps.rows p row (λ is. absurd (not_in is)) }
