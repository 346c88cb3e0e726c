-- An extent whose rows are written can count as done, whatever it is used for.
use Rattle.std.proofs.Common.{◌≡◌, ◌≢◌, inl, inr, ℕ, zero, suc, ◌<◌, true, false, List, [], length, refl, sym, ap}
use Rattle.std.proofs.Common.{subst, ◌∙◌}
use Rattle.std.proofs.lemmas.Bool.Decides.{eqb_tells}
use Rattle.ar_disks.specs.declared.address.Place.{Place}
use Rattle.ar_disks.specs.declared.address.Members.{Members}
use Rattle.ar_disks.specs.Members.{member, stands_on}
use Rattle.ar_extents.specs.declared.health.Health.{Health}
use Rattle.ar_extents.specs.declared.health.Health.TheVariants.{Rebuilding}
use Rattle.ar_extents.specs.declared.outcome.RowOutcome.{RowOutcome}
use Rattle.ar_extents.specs.declared.outcome.RowOutcome.TheVariants.{Done, GivenUp, Broken}
use Rattle.ar_extents.specs.Health.{IsRebuilding, rebuilt_disk, next_extent}
use Rattle.ar_extents.specs.Set.{SetState}
use Rattle.ar_extents.specs.Plans.{AttemptsAll, all_done, CarriesOut}
use Rattle.ar_extents.proofs.Plans.{all_more}
use Rattle.ar_extents.specs.Access.{next_place}
use Rattle.ar_extents.specs.Changes.{with_done}
use Rattle.ar_extents.specs.Groups.{IsGroup, IsOutside}
use Rattle.ar_extents.proofs.GroupLemmas.{group_then, member_not_outside}
use Rattle.ar_disks.specs.Geometry.{rows_of}
use Rattle.ar_mirror.proofs.SlotLemmas.{members_differ}
use Rattle.ar_mirror.proofs.Frames.{done_holds as mirror_done, pair_is_member}
use Rattle.ar_parity.proofs.Frames.{done_holds as parity_done}
use Rattle.ar_book.specs.declared.class.Class.{Class}
use Rattle.ar_book.specs.declared.class.Class.TheVariants.{Free, Mirrored, Parity}
use Rattle.ar_book.specs.Tables.{Tables, group_in, class_of, slots_of}
use Rattle.ar_book.specs.Choices.{IsUnused}
use Rattle.ar_book.proofs.GroupChanges.{not_member}
use Rattle.ar_store.specs.Store.{store_of}
use Rattle.ar_store.specs.Slots.{ClassHolds}
use Rattle.ar_store.specs.Kept.{IsSpace}
use Rattle.ar_store.proofs.Spaces.{slot_group, slot_inside, groups_apart}
use Rattle.ar_store.proofs.Alike.{class_alike}
use Rattle.ar_rebuild.specs.Plans.{rows_attempts, member_plan, HasNothingNext, AccessesNext}
use Rattle.ar_rebuild.specs.Rows.{WritesNext, GroupIsWhole, WritesRows, CanBeDone, WritesExtent, StopsAtRow}
use Rattle.ar_rebuild.specs.Rows.{StopsWriting}
use Rattle.ar_rebuild.proofs.Attempts.{rows_carried}
use Rattle.ar_rebuild.proofs.Writing.{next_same, writes_refl, writes_alike}

-- the extent at the mark is the next one
pub next_is : (s : SetState) (place : Place) → s.health ≡ Rebuilding place.disk place.extent → place ≡ next_place s
next_is s place is =
    ap (λ (h : Health). let there : Place = record { disk = rebuilt_disk h; extent = next_extent h } in there) (sym is)

pub rebuilding_is : (s : SetState) (place : Place) → s.health ≡ Rebuilding place.disk place.extent
    → IsRebuilding s.health
rebuilding_is s place is = subst (λ (h : Health). IsRebuilding h) (sym is) tt

-- a group beside the extent that counts as done
class_done : (c : Class) (s : SetState) (m : Members) (i : ℕ) (bytes : List ℕ) → IsGroup s m
    → IsOutside m (next_place s) → ClassHolds c s m i bytes
    → ClassHolds c (with_done s) m i bytes
class_done Free s m i bytes group outside has = has
class_done Mirrored s m i bytes group outside has =
    mirror_done s m i bytes group has
    (λ pair. absurd (member_not_outside m (next_place s) (pair_is_member s m i (next_place s) pair) outside))
class_done Parity s m i bytes group outside has =
    parity_done s m i bytes group has (λ j lt same. absurd (outside j lt (sym same)))

-- each slot of a group holds what it held, once the extent counts as done
pub record GroupHolds (a b : SetState) (t : Tables) (g : ℕ) : Type 0 where
  pub slots : (i : ℕ) (bytes : List ℕ) → i < slots_of a.geometry (class_of t g)
      → ClassHolds (class_of t g) a (group_in t.groups g).members i bytes
      → ClassHolds (class_of t g) (with_done b) (group_in t.groups g).members i bytes

module _ (a b : SetState) (t : Tables) (space : IsSpace (store_of a t)) (is : IsRebuilding a.health)
    (writes : WritesNext a b) (health : b.health ≡ a.health) where
  group_beside : (g : ℕ) → g < length t.groups → IsOutside (group_in t.groups g).members (next_place a)
      → GroupHolds a b t g
  group_beside g inside outside =
      let m = (group_in t.groups g).members in
      record {
        slots = λ i bytes below has.
            class_done (class_of t g) b m i bytes
            (group_then a b m writes.follows (slot_group (store_of a t) g space inside))
            (subst (λ (p : Place). IsOutside m p) (sym (next_same a b health)) outside)
            (class_alike (class_of t g) a b m i bytes (writes_alike a b is writes) has);
      }

  -- where each group does the extent can count as done
  by_groups : ((g : ℕ) → g < length t.groups → GroupHolds a b t g) → CanBeDone (store_of a t) (store_of b t)
  by_groups all = record {
    slots = record {
      slots = λ slot bytes has holds. (all slot.group has.0).slots slot.slot bytes
          (slot_inside (store_of a t) slot space has) holds;
    };
    health = health;
  }

  -- the extent is in no group
  pub unused_done : IsUnused t (next_place a) → CanBeDone (store_of a t) (store_of b t)
  unused_done unused = by_groups (λ g inside. group_beside g inside (outside g (unused g inside)))
    where
      outside : (g : ℕ) → stands_on (group_in t.groups g).members (next_place a) ≡ false
          → IsOutside (group_in t.groups g).members (next_place a)
      outside g apart i lt same =
          not_member (group_in t.groups g).members (next_place a) apart i (ap (λ (p : Place). p.disk) (sym same))
          (ap (λ (p : Place). p.extent) (sym same))

  -- it is a member of one, which holds what it held
  pub member_done : (g position : ℕ) → g < length t.groups → position < 4
      → member (group_in t.groups g).members position ≡ next_place a → GroupHolds a b t g
      → CanBeDone (store_of a t) (store_of b t)
  member_done g position inside below at own =
      by_groups
      (λ h there.
      elim (eqb_tells h g) [
        | inl same ↦ (let P : ℕ → Type 0 = λ n. GroupHolds a b t n in subst P (sym same.1) own)
        | inr apart ↦
            group_beside h there
            (λ i lt same.
            (let place = at ∙ same in
            groups_apart (store_of a t) g h space inside there (λ e. apart.1 (sym e)) position i below lt
            (ap (λ (p : Place). p.disk) place)
            (ap (λ (p : Place). p.extent) place)))
      ])

-- a free group holds nothing
free_holds : (a b : SetState) (t : Tables) (g : ℕ) → class_of t g ≡ Free → GroupHolds a b t g
free_holds a b t g free = record {
  slots = λ i bytes below has. absurd (subst (λ c. ClassHolds c a (group_in t.groups g).members i bytes) free has);
}

-- nothing is written of a loose extent,
pub loose_done : (a : SetState) (t : Tables) (place : Place) → IsSpace (store_of a t)
    → a.health ≡ Rebuilding place.disk place.extent → IsUnused t place
    → CanBeDone (store_of a t) (store_of a t)
loose_done a t place space is unused =
    unused_done a a t space (rebuilding_is a place is) (writes_refl a) refl
    (subst (λ (p : Place). IsUnused t p) (next_is a place is) unused)

-- nor of one whose group is free,
pub free_done : (a : SetState) (t : Tables) (place : Place) (m : Members) (g position : ℕ) → IsSpace (store_of a t)
    → a.health ≡ Rebuilding place.disk place.extent
    → g < length t.groups → class_of t g ≡ Free → m ≡ (group_in t.groups g).members → position < 4
    → member m position ≡ place → CanBeDone (store_of a t) (store_of a t)
free_done a t place m g position space is inside free m_is below at =
    member_done a a t space (rebuilding_is a place is) (writes_refl a) refl g position inside below
    (subst (λ (x : Members). member x position ≡ next_place a) m_is (at ∙ next_is a place is)) (free_holds a a t g free)

-- and of one whose group is in use every row is written.
pub rows_done : (r : RowOutcome) (c : Class) (a b : SetState) (t : Tables) (place : Place) (m : Members)
    (g position : ℕ) → IsSpace (store_of a t)
    → a.health ≡ Rebuilding place.disk place.extent → g < length t.groups → c ≡ class_of t g
    → m ≡ (group_in t.groups g).members → position < 4 → member m position ≡ place
    → WritesNext a b → WritesRows c a b m r → WritesExtent (store_of a t) (store_of b t) r
rows_done Done c a b t place m g position space is inside c_is m_is below at writes rows =
    member_done a b t space (rebuilding_is a place is) writes rows.health g position inside below
    (subst (λ (x : Members). member x position ≡ next_place a) m_is (at ∙ next_is a place is))
    (subst (λ (x : Class). GroupIsWhole x a b (group_in t.groups g).members → GroupHolds a b t g) (sym c_is)
    (λ whole. record { slots = whole.slots })
    (subst (λ (x : Members). GroupIsWhole c a b x) m_is rows))
rows_done GivenUp c a b t place m g position space is inside c_is m_is below at writes rows = rows
rows_done Broken c a b t place m g position space is inside c_is m_is below at writes rows = rows

-- What holds of the member that has the next extent holds wherever that extent is met: no other group has it, nor
-- another position.
member_alone : (Holds : Class → Members → ℕ → Type 0) (c : Class) (a : SetState) (t : Tables) (place : Place)
    (m : Members) (g position : ℕ)
    → IsSpace (store_of a t) → a.health ≡ Rebuilding place.disk place.extent → g < length t.groups → c ≡ class_of t g
    → m ≡ (group_in t.groups g).members → position < 4 → member m position ≡ place → Holds c m position → (h i : ℕ)
    → h < length t.groups → i < 4 → member (group_in t.groups h).members i ≡ next_place a
    → Holds (class_of t h) (group_in t.groups h).members i
member_alone Holds c a t place m g position space is inside c_is m_is below at holds h i there lt same =
    elim (eqb_tells h g) [
      | inl one ↦ (let P : ℕ → Type 0 = λ n. HoldsAt n i in
          subst P (sym one.1) (here (let Q : ℕ → Type 0 = λ n. Next n i in subst Q one.1 same)))
      | inr other ↦
          absurd
          (let place = own ∙ sym same in
          groups_apart (store_of a t) g h space inside there (λ e. other.1 (sym e)) position i below lt
          (ap (λ (p : Place). p.disk) place)
          (ap (λ (p : Place). p.extent) place))
    ]
  where
    Next : ℕ → ℕ → Type 0
    Next n k = member (group_in t.groups n).members k ≡ next_place a

    HoldsAt : ℕ → ℕ → Type 0
    HoldsAt n k = Holds (class_of t n) (group_in t.groups n).members k

    own : Next g position
    own = subst (λ (x : Members). member x position ≡ next_place a) m_is (at ∙ next_is a place is)

    here : Next g i → HoldsAt g i
    here met =
        let position_is : i ≡ position =
        members_differ (group_in t.groups g).members i position (slot_group (store_of a t) g space inside).apart lt
        below (met ∙ sym own) in
        let P : ℕ → Type 0 = λ n. HoldsAt g n in
        subst P (sym position_is)
        (subst (λ (x : Class). Holds x (group_in t.groups g).members position) c_is
        (subst (λ (x : Members). Holds c x position) m_is holds))

-- where the writing of a member of one group stopped, that of the next extent did
pub stops_member : (c : Class) (a b : SetState) (t : Tables) (place : Place) (m : Members) (g position : ℕ)
    → IsSpace (store_of a t)
    → a.health ≡ Rebuilding place.disk place.extent → g < length t.groups → c ≡ class_of t g
    → m ≡ (group_in t.groups g).members → position < 4 → member m position ≡ place
    → StopsAtRow c a b m position → StopsWriting (store_of a t) b
stops_member c a b t place m g position space is inside c_is m_is below at stopped = record {
  stops = λ h i next.
      member_alone (λ class members i. StopsAtRow class a b members i) c a t place m g position space is inside c_is
      m_is below at stopped h i
      next.there next.below next.is;
}

-- An extent whose group is in use isn't nothing to write.
pub used_next : (c : Class) (a : SetState) (t : Tables) (place : Place) (m : Members) (g position : ℕ)
    → a.health ≡ Rebuilding place.disk place.extent
    → g < length t.groups → c ≡ class_of t g → c ≢ Free → m ≡ (group_in t.groups g).members → position < 4
    → member m position ≡ place
    → HasNothingNext (store_of a t) → ⊥
used_next c a t place m g position is inside c_is used m_is below at nothing =
    nothing.unused g inside (λ free. used (c_is ∙ free)) position below
    (sym (next_is a place is) ∙ sym at ∙ ap (λ (x : Members). member x position) m_is)

-- of a free group no row is rebuilt
free_rows : (m : Members) (i n : ℕ) (s : SetState) → AttemptsAll (rows_attempts Free m i n) true s s
free_rows m i zero s = all_done s
free_rows m i (suc n) s = all_more (rows_attempts Free m i n) [] true s s s (free_rows m i n s) (all_done s)

-- An extent that is in no group was to be rebuilt, and nothing was accessed.
pub none_accessed : (s : SetState) (t : Tables) (place : Place) → s.health ≡ Rebuilding place.disk place.extent
    → IsUnused t place
    → AccessesNext (store_of s t) s
none_accessed s t place is unused = record {
  plan = λ g i next.
      absurd
      (let same = next_is s place is ∙ sym next.is in
      not_member (group_in t.groups g).members place (unused g next.there) i (ap (λ (p : Place). p.disk) (sym same))
      (ap (λ (p : Place). p.extent) (sym same)));
  nothing = λ none. refl;
  idle = λ no. refl;
}

-- The plan of the member that it is was carried out.
pub member_accessed : (c : Class) (a b : SetState) (t : Tables) (place : Place) (m : Members) (g position : ℕ)
    → IsSpace (store_of a t)
    → a.health ≡ Rebuilding place.disk place.extent → g < length t.groups → c ≡ class_of t g
    → m ≡ (group_in t.groups g).members → position < 4 → member m position ≡ place
    → CarriesOut (member_plan c m position (rows_of a.geometry)) a b → (HasNothingNext (store_of a t) → b ≡ a)
    → AccessesNext (store_of a t) b
member_accessed c a b t place m g position space is inside c_is m_is below at carried nothing = record {
  plan = λ h i next.
      member_alone (λ class members i. CarriesOut (member_plan class members i (rows_of a.geometry)) a b) c a t place m
      g position space is inside c_is
      m_is below at carried h i next.there next.below next.is;
  nothing = nothing;
  idle = λ no. absurd (no (rebuilding_is a place is));
}

-- that of a free group's makes no access
pub free_accessed : (a : SetState) (t : Tables) (place : Place) (m : Members) (g position : ℕ) → IsSpace (store_of a t)
    → a.health ≡ Rebuilding place.disk place.extent → g < length t.groups → class_of t g ≡ Free
    → m ≡ (group_in t.groups g).members → position < 4
    → member m position ≡ place → AccessesNext (store_of a t) a
free_accessed a t place m g position space is inside free m_is below at =
    member_accessed Free a a t place m g position space is inside (sym free) m_is below at
    (rows_carried Free m position (rows_of a.geometry) a a (free_rows m position (rows_of a.geometry) a)) (λ none. refl)
