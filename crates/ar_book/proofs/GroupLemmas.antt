-- What a change of one group leaves in the list of groups.
use Rattle.std.proofs.Common.{◌≡◌, ◌≢◌, ℕ, suc, ◌+◌, ◌-◌, ◌*◌, ◌^◌, ◌<◌, ◌≤◌, ◌⊎◌, cond, eqb, Option, None, Some}
use Rattle.std.proofs.Common.{is_some, List, [], ◌∷◌, length, get_or, set, map, All, sum_by, count_by, refl, sym, ap}
use Rattle.std.proofs.Common.{subst, ◌∙◌, inl, inr, arith, get_or-set_same, get_or-set_other, eq-eqb}
use Rattle.std.proofs.lemmas.List.{get_or_past, set_past}
use Rattle.std.proofs.lemmas.List.Sums.{sum_by-set, sum_by-cons, get_or-le-sum_by}
use Rattle.std.proofs.lemmas.Option.{none-some}
use Rattle.std.proofs.lemmas.Bool.{cases_lt, eqb-true}
use Rattle.std.proofs.lemmas.Bool.Decides.{eqb_tells}
use Rattle.std.proofs.Math.ListN.{length-set}
use Rattle.std.specs.List.{IsDistinct}
use Rattle.std.proofs.lemmas.List.{length-map, get_or-map}
use Rattle.std.proofs.lemmas.List.Elements.{All-contains}
use Rattle.std.proofs.lemmas.Map.Keys.{IsDistinct-from_apart}
use Rattle.std.proofs.lemmas.Map.Steps.{length-le_from_distinct_below}
use Rattle.std.proofs.lemmas.Map.Views.{Contains-from_any}
use Rattle.ar_disks.specs.Geometry.{rows_of}
use Rattle.ar_disks.specs.Members.{AreApart, AreDisjoint}
use Rattle.ar_disks.specs.declared.address.Key.{Key}
use Rattle.ar_disks.specs.declared.address.Members.{Members}
use Rattle.ar_disks.specs.declared.geometry.Geometry.{Geometry}
use Rattle.ar_book.specs.declared.class.Slot.{Slot}
use Rattle.ar_book.specs.declared.class.Class.{Class}
use Rattle.ar_book.specs.declared.class.Class.TheVariants.{Free, Mirrored, Parity}
use Rattle.ar_disks.specs.declared.geometry.Geometry.TheVariants.{Paper, Small}
use Rattle.ar_book.specs.Tables.{GroupState, no_group, group_in, key_in, level_of, level_in, used, slots_of, is_free}
use Rattle.ar_book.specs.Changes.{with_key, with_hole, freed, named, vacated}
use Rattle.ar_book.specs.Book.{GroupsStand}
use Rattle.ar_book.proofs.Keys.{make_slot}

-- a slot that names a block is there
pub there_group : (gs : List GroupState) (s : Slot) (k : Key) → key_in gs s ≡ Some k → s.group < length gs
there_group gs s k e = grind (arith, cases_lt, none-some, get_or_past)

pub there_slot : (gs : List GroupState) (s : Slot) (k : Key) → key_in gs s ≡ Some k
    → s.slot < length (group_in gs s.group).slots
there_slot gs s k e = grind (arith, cases_lt, none-some, get_or_past)

-- the group that was put
pub put_same : (gs : List GroupState) (g : ℕ) (x : GroupState) → g < length gs → group_in (set gs g x) g ≡ x
put_same gs g x h = get_or-set_same gs g x no_group h

-- the others stay
pub put_other : (gs : List GroupState) (g : ℕ) (x : GroupState) (i : ℕ) → i ≢ g
    → group_in (set gs g x) i ≡ group_in gs i
put_other gs g x i ne = get_or-set_other gs g i x no_group ne

-- what holds between a group and the one that is put in its place, and between each group and itself, holds for all
-- before and after
pub put_relates : (R : GroupState → GroupState → Type 0) → ((y : GroupState) → R y y)
    → (gs : List GroupState) (g : ℕ) (x : GroupState)
    → R (group_in gs g) x → (i : ℕ) → R (group_in gs i) (group_in (set gs g x) i)
put_relates R same gs g x h i = grind (arith, cases_lt, eqb_tells, put_same, put_other, set_past)

-- what the group that is put has as the former one stays in all
pub put_keeps : {A : Type 0} (f : GroupState → A) (gs : List GroupState) (g : ℕ) (x : GroupState)
    → f x ≡ f (group_in gs g)
    → (i : ℕ) → f (group_in (set gs g x) i) ≡ f (group_in gs i)
put_keeps f gs g x e i = put_relates (λ a b. f b ≡ f a) (λ y. refl) gs g x e i

-- one slot of one group is another, and no other slot
module _ (gs : List GroupState) (s : Slot) (x : GroupState) (o : Option Key) (inside : s.group < length gs)
    (is : x.slots ≡ set (group_in gs s.group).slots s.slot o) where
  pub slot_same : s.slot < length (group_in gs s.group).slots → key_in (set gs s.group x) s ≡ o
  slot_same h = grind (arith, put_same, get_or-set_same)

  pub slot_other : (r : Slot) → r ≢ s → key_in (set gs s.group x) r ≡ key_in gs r
  slot_other r ne = grind (arith, eqb_tells, make_slot, put_same, get_or-set_other, put_other)

  -- the slots that name a block are one more, or one fewer, as this one does and did
  pub slot_count : s.slot < length (group_in gs s.group).slots
      → sum_by used (set gs s.group x) + cond (is_some (key_in gs s)) 1 0 ≡ sum_by used gs + cond (is_some o) 1 0
  slot_count h = grind (arith, sum_by-set)

-- the groups stand where the one that was put does
pub disjoint_flips : (m n : Members) → AreDisjoint m n → AreDisjoint n m
disjoint_flips m n d i j hi hj e f = d j i hj hi (sym e) (sym f)

module _ (geo : Geometry) (gs : List GroupState) (ok : GroupsStand geo gs) (g : ℕ) (x : GroupState)
    (inside : g < length gs) where
  pub stand_put : length x.slots ≡ 3 * rows_of geo
      → ((i : ℕ) (k : Key) → get_or x.slots i None ≡ Some k → i < slots_of geo x.class)
      → AreApart x.members
      → ((i : ℕ) → i < length gs → i ≢ g → AreDisjoint (group_in gs i).members x.members)
      → (x.members.first.disk < 2 ^ 8) × (x.members.first.extent < 2 ^ 16)
      → GroupsStand geo (set gs g x)
  stand_put long within apart disjoint first = grind (arith, put_same, length-set, put_other, eqb_tells, disjoint_flips)

-- freeing a group changes its class alone
pub freed_members : (x : GroupState) → (freed x).members ≡ x.members
freed_members x = grind (arith)

pub freed_slots : (x : GroupState) → (freed x).slots ≡ x.slots
freed_slots x = grind (arith)

-- a group of which a slot names a block has a count above 0
pub named_used : (x : GroupState) (i : ℕ) (k : Key) → get_or x.slots i None ≡ Some k → used x ≢ 0
named_used x i k e z = grind (arith, cases_lt, get_or-le-sum_by, none-some, get_or_past)

-- where that count is 0 each slot is empty
pub unused_empty : (x : GroupState) → used x ≡ 0 → (i : ℕ) → get_or x.slots i None ≡ None
unused_empty x z i = grind (arith, named_used)

-- and it is 0 where each slot is
pub empty_unused : (ks : List (Option Key)) → ((i : ℕ) → get_or ks i None ≡ None) → count_by is_some ks ≡ 0
empty_unused [] empty = refl
empty_unused (x ∷ ks) empty =
    let head : count_by is_some (x ∷ ks) ≡ cond {A = ℕ} (is_some x) 1 0 + count_by is_some ks =
    sum_by-cons (λ (o : Option Key). cond {A = ℕ} (is_some o) 1 0) x ks in
    let none : cond {A = ℕ} (is_some x) 1 0 ≡ 0 = ap (λ (o : Option Key). cond {A = ℕ} (is_some o) 1 0) (empty 0) in
    let rest = empty_unused ks (λ i. empty (suc i)) in
    omega arith

-- the group has this class, or is free and none of its slots names a block
abbrev pub KeepsClass : Class → GroupState → Type 0
KeepsClass c x = (x.class ≡ c) ⊎ ((x.class ≡ Free) × ((i : ℕ) → get_or x.slots i None ≡ None))

-- so it has this class where a slot names a block
pub class_kept : (c : Class) (x : GroupState) (i : ℕ) (k : Key) → KeepsClass c x → get_or x.slots i None ≡ Some k
    → x.class ≡ c
class_kept c x i k h e = elim h [ inl same ↦ same | inr free ↦ absurd (none-some k (sym (free.1 i) ∙ e)) ]

-- freeing a group leaves its class where a slot names a block
pub freed_keeps : (x : GroupState) → KeepsClass x.class (freed x)
freed_keeps x = grind (arith, eqb_tells, freed_slots, unused_empty)

-- and makes it free where none does
pub freed_empty : (x : GroupState) → ((i : ℕ) → get_or x.slots i None ≡ None) → (freed x).class ≡ Free
freed_empty x empty = grind (arith, eq-eqb, empty_unused)

-- and only where no slot names a block
pub freed_class : (x : GroupState) (i : ℕ) (k : Key) → get_or x.slots i None ≡ Some k → (freed x).class ≡ x.class
freed_class x i k e = class_kept x.class (freed x) i k (freed_keeps x) (ap (λ l. get_or l i None) (freed_slots x) ∙ e)

-- as many groups stay, with the members that they had
pub named_size : (gs : List GroupState) (s : Slot) (k : Key) → length (named gs s k) ≡ length gs
named_size gs s k = length-set gs s.group (with_key (group_in gs s.group) s.slot k)

pub vacated_size : (gs : List GroupState) (o : Option Slot) → length (vacated gs o) ≡ length gs
vacated_size gs None = refl
vacated_size gs (Some s) = length-set gs s.group (with_hole (group_in gs s.group) s.slot)

pub named_members : (gs : List GroupState) (s : Slot) (k : Key) (i : ℕ)
    → (group_in (named gs s k) i).members ≡ (group_in gs i).members
named_members gs s k i = put_keeps (λ y. y.members) gs s.group (with_key (group_in gs s.group) s.slot k) refl i

pub vacated_members : (gs : List GroupState) (o : Option Slot) (i : ℕ)
    → (group_in (vacated gs o) i).members ≡ (group_in gs i).members
vacated_members gs None i = refl
vacated_members gs (Some s) i =
    put_keeps (λ y. y.members) gs s.group (with_hole (group_in gs s.group) s.slot)
    (freed_members (record (group_in gs s.group) { slots = set (group_in gs s.group).slots s.slot None })) i

-- naming a block changes no class
pub named_class : (gs : List GroupState) (s : Slot) (k : Key) (i : ℕ)
    → (group_in (named gs s k) i).class ≡ (group_in gs i).class
named_class gs s k i = put_keeps (λ y. y.class) gs s.group (with_key (group_in gs s.group) s.slot k) refl i

-- vacating a slot frees no group of which a slot still names a block
pub vacated_class : (gs : List GroupState) (o : Option Slot) (i : ℕ)
    → KeepsClass (group_in gs i).class (group_in (vacated gs o) i)
vacated_class gs None i = inl refl
vacated_class gs (Some s) i =
    put_relates (λ a b. KeepsClass a.class b) (λ y. inl refl) gs s.group (with_hole (group_in gs s.group) s.slot)
    (freed_keeps (record (group_in gs s.group) { slots = set (group_in gs s.group).slots s.slot None })) i

-- a slot that names another block
module _ (gs : List GroupState) (s : Slot) (k : Key) (inside : s.group < length gs) where
  pub named_same : s.slot < length (group_in gs s.group).slots → key_in (named gs s k) s ≡ Some k
  named_same h = slot_same gs s (with_key (group_in gs s.group) s.slot k) (Some k) inside refl h

  pub named_other : (r : Slot) → r ≢ s → key_in (named gs s k) r ≡ key_in gs r
  named_other r ne = slot_other gs s (with_key (group_in gs s.group) s.slot k) (Some k) inside refl r ne

  pub named_count : s.slot < length (group_in gs s.group).slots → key_in gs s ≡ None
      → sum_by used (named gs s k) ≡ sum_by used gs + 1
  named_count h e = grind (arith, slot_count)

  pub named_shape : (i : ℕ) → length (group_in (named gs s k) i).slots ≡ length (group_in gs i).slots
  named_shape i = grind (arith, eqb_tells, put_same, length-set, put_other)

  pub named_stand : (geo : Geometry) → GroupsStand geo gs → s.slot < slots_of geo (group_in gs s.group).class
      → GroupsStand geo (named gs s k)
  named_stand geo ok h =
      let old = group_in gs s.group in
      stand_put geo gs ok s.group (with_key old s.slot k) inside
      (length-set old.slots s.slot (Some k) ∙ ok.long s.group inside)
      (λ i j e. elim (eqb_tells i s.slot) [
        | inl q ↦ subst (λ n. n < slots_of geo old.class) (sym q.1) h
        | inr n ↦ ok.within (record { group = s.group; slot = i }) j
            (sym (get_or-set_other old.slots s.slot i (Some k) None n.1) ∙ e)
      ])
      (ok.apart s.group inside)
      (λ i hi ne. ok.disjoint i s.group hi inside ne)
      (ok.first s.group inside)

-- a slot that names nothing
module _ (gs : List GroupState) (s : Slot) (inside : s.group < length gs) where
  is : (with_hole (group_in gs s.group) s.slot).slots ≡ set (group_in gs s.group).slots s.slot None
  is = freed_slots (record (group_in gs s.group) { slots = set (group_in gs s.group).slots s.slot None })

  pub vacated_same : s.slot < length (group_in gs s.group).slots → key_in (vacated gs (Some s)) s ≡ None
  vacated_same h = slot_same gs s (with_hole (group_in gs s.group) s.slot) None inside is h

  pub vacated_other : (r : Slot) → r ≢ s → key_in (vacated gs (Some s)) r ≡ key_in gs r
  vacated_other r ne = slot_other gs s (with_hole (group_in gs s.group) s.slot) None inside is r ne

  pub vacated_count : s.slot < length (group_in gs s.group).slots → (k : Key) → key_in gs s ≡ Some k
      → sum_by used (vacated gs (Some s)) + 1 ≡ sum_by used gs
  vacated_count h k e = grind (arith, slot_count, is)

  -- the group is free where none of its slots names a block any more
  pub vacated_emptied : ((i : ℕ) → key_in (vacated gs (Some s)) (record { group = s.group; slot = i }) ≡ None)
      → (group_in (vacated gs (Some s)) s.group).class ≡ Free
  vacated_emptied empty = grind (arith, put_same, freed_empty, is)

  pub vacated_shape : (i : ℕ) → length (group_in (vacated gs (Some s)) i).slots ≡ length (group_in gs i).slots
  vacated_shape i = grind (arith, eqb_tells, put_same, is, length-set, put_other)

  pub vacated_stand : (geo : Geometry) → GroupsStand geo gs → GroupsStand geo (vacated gs (Some s))
  vacated_stand geo ok =
      let old = group_in gs s.group in
      let cleared : GroupState = record old { slots = set old.slots s.slot None } in
      let new : GroupState = with_hole old s.slot in
      let members : new.members ≡ old.members = freed_members cleared in
      stand_put geo gs ok s.group new inside
      (ap length is ∙ length-set old.slots s.slot None ∙ ok.long s.group inside)
      (λ i j e.
      let f : get_or cleared.slots i None ≡ Some j = sym (ap (λ l. get_or l i None) is) ∙ e in
      elim (eqb_tells i s.slot) [
        | inl q ↦ absurd (still i j q.1 f)
        | inr n ↦ subst (λ c. i < slots_of geo c) (sym (freed_class cleared i j f))
            (ok.within (record { group = s.group; slot = i }) j (sym (get_or-set_other old.slots s.slot i None None n.1)
            ∙ f))
      ])
      (subst (λ m. AreApart m) (sym members) (ok.apart s.group inside))
      (λ i hi ne. subst (λ m. AreDisjoint (group_in gs i).members m) (sym members) (ok.disjoint i s.group hi inside ne))
      (subst (λ m. (m.first.disk < 2 ^ 8) × (m.first.extent < 2 ^ 16)) (sym members) (ok.first s.group inside))
    where
      still : (i : ℕ) (j : Key) → i ≡ s.slot → get_or (set (group_in gs s.group).slots s.slot None) i None ≡ Some j → ⊥
      still i j q f = elim (cases_lt s.slot (length (group_in gs s.group).slots)) [
        | inl h ↦ none-some j
            (sym (ap (λ n. get_or (set (group_in gs s.group).slots s.slot None) n None) q
            ∙ get_or-set_same (group_in gs s.group).slots s.slot None None h) ∙ f)
        | inr h ↦ none-some j
            (sym (get_or_past (set (group_in gs s.group).slots s.slot None) i None
            (omega (arith, length-set (group_in gs s.group).slots s.slot None, q))) ∙ f)
      ]

-- a home stands at the level that it had where its group has its class
pub level_stays : (gs new : List GroupState) (o : Option Slot)
    → ((s : Slot) → o ≡ Some s → (group_in new s.group).class ≡ (group_in gs s.group).class)
    → level_in new o ≡ level_in gs o
level_stays gs new None class = refl
level_stays gs new (Some s) class = ap level_of (class s refl)

-- there are no more groups than places for their first members
code_of : GroupState → ℕ
code_of g = g.members.first.disk * 65536 + g.members.first.extent

pub few_groups : (geo : Geometry) (gs : List GroupState) → GroupsStand geo gs → length gs ≤ 16777216
unfolding code_of
few_groups geo gs ok =
    let size : length (map code_of gs) ≡ length gs = length-map gs code_of in
    let at : (i d : ℕ) → i < length gs → get_or (map code_of gs) i d ≡ code_of (group_in gs i) =
    λ i d h. get_or-map code_of gs i no_group d h in
    let below : All (λ x. x < 16777216) (map code_of gs) = λ i d h.
    let f = ok.first i (omega arith) in
    let e = at i d (omega arith) in
    omega arith in
    let distinct : IsDistinct eqb (map code_of gs) = IsDistinct-from_apart eqb (map code_of gs) (λ i j d lt h.
    elim (eqb_tells (get_or (map code_of gs) i d) (get_or (map code_of gs) j d)) [
      | inl same ↦
          let a = at i d (omega arith) in
          let b = at j d (omega arith) in
          let f = ok.first i (omega arith) in
          let g = ok.first j (omega arith) in
          let disk : (group_in gs i).members.first.disk ≡ (group_in gs j).members.first.disk = omega arith in
          let extent : (group_in gs i).members.first.extent ≡ (group_in gs j).members.first.extent = omega arith in
          absurd (ok.disjoint i j (omega arith) (omega arith) (omega arith) 0 0 (omega arith) (omega arith) disk extent)
      | inr other ↦ other.0
    ]) in
    let all = length-le_from_distinct_below (map code_of gs) 16777216 distinct
    (λ q h. All-contains (λ x. x < 16777216) (map code_of gs) q below
    (Contains-from_any {eq = eqb} (λ x y e. eqb-true x y e) q (map code_of gs) h)) in
    omega arith

-- where no group is free the count is 0
pub no_free : (gs : List GroupState) → ((h : ℕ) → h < length gs → (group_in gs h).class ≡ Free → ⊥)
    → count_by (λ (g : GroupState). is_free g.class) gs ≡ 0
no_free [] never = refl
no_free (x ∷ gs) never =
    let head : count_by (λ (g : GroupState). is_free g.class) (x ∷ gs)
    ≡ cond {A = ℕ} (is_free x.class) 1 0 + count_by (λ (g : GroupState). is_free g.class) gs =
    sum_by-cons (λ (g : GroupState). cond {A = ℕ} (is_free g.class) 1 0) x gs in
    let rest = no_free gs (λ h l e. never (suc h) (omega arith) e) in
    let none : cond {A = ℕ} (is_free x.class) 1 0 ≡ 0 = by x.class (λ e. never 0 (omega arith) e) in
    omega arith
  where
    by : (c : Class) → (c ≡ Free → ⊥) → cond {A = ℕ} (is_free c) 1 0 ≡ 0
    by Free f = absurd (f refl)
    by Mirrored f = refl
    by Parity f = refl

-- a group's worth of slots for each but one fits 32 bits
pub room_fits : (g : Geometry) (n : ℕ) → n ≤ 16777216 → 3 * rows_of g * (n - 1) < 2 ^ 32
room_fits Paper n h = omega arith
room_fits Small n h = omega arith

-- a group has few slots
pub slots_few : (g : Geometry) → 3 * rows_of g ≤ 48
slots_few Paper = omega arith
slots_few Small = omega arith
