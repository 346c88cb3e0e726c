-- A put: its slot was found, by its case, and then written.
use Rattle.std.proofs.Common.{◌≡◌, ◌≢◌, inl, inr, ℕ, ◌<◌, List, length, Option, None, Some, refl, sym, ap, subst, ◌∙◌}
use Rattle.std.proofs.lemmas.Bool.Decides.{Decides-ltb}
use Rattle.ar_disks.specs.declared.address.Key.{Key}
use Rattle.ar_disks.specs.declared.address.Members.{Members}
use Rattle.ar_disks.specs.declared.completion.Completion.{Completion}
use Rattle.ar_disks.specs.declared.completion.Completion.TheVariants.{Done, Broken as BrokenOff}
use Rattle.ar_extents.specs.declared.health.Health.TheVariants.{Broken as AllBroken}
use Rattle.ar_extents.specs.Groups.{outcome_of}
use Rattle.ar_extents.specs.Plans.{CarriesOut}
use Rattle.ar_extents.specs.Set.{SetState}
use Rattle.ar_extents.proofs.Outcomes.{done_sound}
use Rattle.ar_extents.proofs.Plans.{both_carried, carries_broken}
use Rattle.ar_book.specs.declared.class.Class.{Class}
use Rattle.ar_book.specs.declared.class.Class.TheVariants.{Free, Mirrored, Parity}
use Rattle.ar_book.specs.declared.class.Slot.{Slot}
use Rattle.ar_book.specs.Tables.{Tables, group_in, class_of, home, slots_of}
use Rattle.ar_book.specs.Changes.{opened, slot_at, stamped}
use Rattle.ar_book.proofs.AfterOpen.{opened_class, opened_group_count, opened_members}
use Rattle.ar_store.specs.declared.way.Way.{Way}
use Rattle.ar_store.specs.declared.way.Way.TheVariants.{Home, Hole, Broken}
use Rattle.ar_store.specs.declared.space.Space.{Space}
use Rattle.ar_store.specs.Spaces.{store_in, FindsSlot, PutsOn, PutDone}
use Rattle.ar_store.specs.Store.{StoreState, members_of, class_in}
use Rattle.ar_store.specs.Placing.{PutCase, InPlace, ToHole, ToNewGroup, BySqueeze, put_case, prepared, case_way}
use Rattle.ar_store.specs.Placing.{home_way, hole_group, lowest_hole, lowest_group, placed_by}
use Rattle.ar_store.specs.Placing.{MayHavePrepared, IsReadyFor}
use Rattle.ar_store.specs.Plans.{squeeze_plan, write_as, home_write, case_plan, put_plan, WritesSlot, WritesSlotOf}
use Rattle.ar_store.specs.Plans.{WritesWay, AccessesByCase, CarriesOutSearch}
use Rattle.ar_store.specs.Calls.{IsZerosOnWay, BesideWay}
use Rattle.ar_store.proofs.Changes.{units_refl}
use Rattle.ar_store.proofs.Fields.{way_sound}
use Rattle.ar_store.proofs.Fills.{accessed_refl, done_not_broken}
use Rattle.ar_store.proofs.Gaps.{hole_is}
use Rattle.ar_store.proofs.Planned.{squeezed_members, broken_slot}
use Rattle.ar_store.proofs.Stays.{stays_then}
use Rattle.ar_store.proofs.Zeros.{zeros_later}

-- A slot was found for a block, and then it was written.
module _ {X : Type 0} (start before after : Space X) (k : Key) (way : Way) (block : List ℕ) (answer : Completion)
    (sound : start.disks.health ≢ AllBroken) (found : FindsSlot start before k way)
    (wrote : PutsOn before after k way block answer) where
  abbrev a : StoreState
  a = store_in start

  abbrev b : StoreState
  b = store_in before

  abbrev d : StoreState
  d = store_in after

  -- the way, where no squeeze is needed
  goes : (c : PutCase) → put_case a.book k ≡ c → c ≢ BySqueeze
      → (way ≡ case_way a.book k c) × (b.book ≡ prepared a.book c)
  goes c is direct = elim found.finds [
    | inl by ↦ (by.0 ∙ ap (case_way a.book k) is, by.1 ∙ ap (prepared a.book) is)
    | inr fails ↦ absurd (direct (sym is ∙ fails.1))
  ]

  written : (w : Way) → way ≡ w → WritesWay w b d
  written w is = subst (λ x. WritesWay x b d) is wrote.writes

  ready_for : (w : Way) → way ≡ w → IsReadyFor b k w
  ready_for w is = subst (λ x. IsReadyFor b k x) is found.ready

  -- a slot was written, and no disk was accessed before
  at_slot : (class : Class) (s : Slot) → b.disks ≡ a.disks → WritesSlotOf (class_in b s.group) s b d
      → class_in b s.group ≡ class → members_of b s.group ≡ members_of a s.group → WritesSlotOf class s a d
  at_slot class s disks writes is members =
      let P : Class → Type 0 = λ x. WritesSlot x b.disks d.disks (members_of b s.group) s.slot in
      let Q : Members → Type 0 = λ m. WritesSlot class b.disks d.disks m s.slot in
      let R : SetState → Type 0 = λ x. WritesSlot class x d.disks (members_of a s.group) s.slot in
      subst R disks (subst Q members (subst P is writes))

  class_same : (u : Tables) → b.book ≡ u → (g : ℕ) → class_in b g ≡ class_of u g
  class_same u is g = ap (λ (x : Tables). class_of x g) is

  members_same : (u : Tables) → b.book ≡ u → (g : ℕ) → members_of b g ≡ (group_in u.groups g).members
  members_same u is g = ap (λ (x : Tables). (group_in x.groups g).members) is

  by_case : (c : PutCase) → put_case a.book k ≡ c → CarriesOutSearch c a b → AccessesByCase c a k d
  by_case InPlace is disks = λ s at.
      let went = goes InPlace is (λ e. cc) in
      at_slot (class_in a s.group) s disks (written (Home s) (went.0 ∙ ap home_way at))
      (class_same a.book went.1 s.group) (members_same a.book went.1 s.group)
  by_case (ToHole c) is disks =
      let went = goes (ToHole c) is (λ e. cc) in
      let s = lowest_hole a.book c in
      let there : hole_group a.book c < length a.book.groups =
      subst (λ (x : Tables). hole_group a.book c < length x.groups) went.1 (ready_for (Hole s) went.0).there.0 in
      let class = (hole_is a.book c ((Decides-ltb (hole_group a.book c) (length a.book.groups)).1 there)).hole.class in
      at_slot c s disks (written (Hole s) went.0) (class_same a.book went.1 s.group ∙ class)
      (members_same a.book went.1 s.group)
  by_case ToNewGroup is disks =
      let went = goes ToNewGroup is (λ e. cc) in
      let g = lowest_group a.book Free in
      let s = slot_at g 0 in
      let u = opened a.book g Mirrored in
      let there : g < length u.groups =
      subst (λ (x : Tables). g < length x.groups) went.1 (ready_for (Hole s) went.0).there.0 in
      at_slot Mirrored s disks (written (Hole s) went.0)
      (class_same u went.1 g
      ∙ opened_class a.book g Mirrored (subst (λ n. g < n) (opened_group_count a.book g Mirrored) there))
      (members_same u went.1 g ∙ opened_members a.book g Mirrored g)
  by_case BySqueeze is squeezes =
      let from = lowest_group a.book Mirrored in
      let to = lowest_group a.book Free in
      let n = slots_of a.book.geometry Mirrored in
      inr (record {
        between = b;
        squeezes = squeezes;
        writes = elim found.finds [
          | inl by ↦ (
              let here = by.0 ∙ ap (case_way a.book k) is in
              let tables = by.1 ∙ ap (prepared a.book) is in
              let zeros = subst (λ w. IsZerosOnWay b w) here (found.zeros is) in
              let members : members_of b to ≡ members_of a to =
              members_same (prepared a.book BySqueeze) tables to ∙ squeezed_members a.book from to to in
              let P : Class → Type 0 = λ x. WritesSlot x b.disks d.disks (members_of b to) n in
              let Q : Members → Type 0 = λ m. WritesSlot Parity b.disks d.disks m n in
              subst Q members (subst P zeros.parity (written (case_way a.book k BySqueeze) here)))
          | inr fails ↦
              broken_slot Parity b.disks d.disks (members_of a to) n (ready_for Broken fails.0) (written Broken fails.0)
        ];
        unwritten = λ broken. wrote.puts.unwritten (wrote.puts.outcome ∙ ap outcome_of broken);
      })

  plan_by : (c : PutCase) → put_case a.book k ≡ c → CarriesOutSearch c a b → AccessesByCase c a k d
      → CarriesOut (case_plan a k c) a.disks d.disks
  plan_by InPlace is disks writes = at (home a.book k) refl
    where
      at : (o : Option Slot) → home a.book k ≡ o → CarriesOut (home_write a o) a.disks d.disks
      at (Some s) there = (writes s there).plan
      at None none = absurd
          (sound (ap (λ (x : SetState). x.health) (sym disks)
          ∙ ready_for Broken ((goes InPlace is (λ e. cc)).0 ∙ ap home_way none)))
  plan_by (ToHole c) is disks writes = writes.plan
  plan_by ToNewGroup is disks writes = writes.plan
  plan_by BySqueeze is squeezes writes = elim writes [
    | inl was ↦ absurd (sound was.was)
    | inr steps ↦ (
        let from = lowest_group a.book Mirrored in
        let to = lowest_group a.book Free in
        both_carried (squeeze_plan a.disks.geometry (members_of a from) (members_of a to))
        (write_as Parity a (slot_at to (slots_of a.book.geometry Mirrored))) a.disks steps.between.disks d.disks
        steps.squeezes.plan steps.writes.plan)
  ]

  way_is : answer ≡ Done → way ≢ Broken
  way_is done =
      way_sound b d.disks k way found.ready wrote.puts.stays.accessed.follows
      (done_sound d.disks.health (sym done ∙ wrote.puts.outcome))

  -- What the two come to.
  pub put_is : (s : StoreState) → store_in start ≡ s → PutDone s k answer (store_in after)
  put_is s view = subst (λ (x : StoreState). PutDone x k answer d) view (record {
    outcome = wrote.puts.outcome;
    tables = λ done. elim found.finds [
      | inl by ↦ wrote.puts.tables done ∙ ap (λ w. stamped (placed_by b.book k w) k) by.0
          ∙ ap (λ (x : Tables). stamped (placed_by x k (case_way a.book k (put_case a.book k))) k) by.1
      | inr fails ↦ absurd (way_is done fails.0)
    ];
    zeros = λ done. record {
      after = λ is. elim found.finds [
        | inl by ↦ (
            let here = by.0 ∙ ap (case_way a.book k) is in
            let zeros = subst (λ w. IsZerosOnWay b w) here (found.zeros is) in
            let s = slot_at (lowest_group a.book Free) (slots_of a.book.geometry Mirrored) in
            zeros_later b d s found.stays.ready.space (ready_for (case_way a.book k BySqueeze) here).there.0
            zeros.parity wrote.puts.stays.accessed.follows (subst (λ w. BesideWay w b d) here wrote.beside) zeros.zeros)
        | inr fails ↦ absurd (way_is done fails.0)
      ];
    };
    breaks = λ broke. record {
      unmoved = ap (λ (x : Tables). home x k) (wrote.puts.unwritten broke) ∙ found.home_same;
      tables = λ _. subst (λ (x : Tables). MayHavePrepared a.book k x) (sym (wrote.puts.unwritten broke))
          (elim found.finds [ inl by ↦ inl by.1 | inr fails ↦ inr (fails.1, fails.2) ]);
      lost = λ broken. absurd (sound broken);
    };
    plan =
        let writes = by_case (put_case a.book k) refl found.search in
        record { plan = plan_by (put_case a.book k) refl found.search writes; by_case = writes };
    follows =
        let both = stays_then start before after found.stays wrote.puts.stays in
        record { units = both.units; accessed = both.accessed };
  })

-- the array had failed before: nothing was accessed
pub put_none : (s : StoreState) (k : Key) → s.disks.health ≡ AllBroken → PutDone s k BrokenOff s
put_none s k broken = record {
  outcome = sym (ap outcome_of broken);
  tables = λ done. absurd (done_not_broken (sym done));
  zeros = λ done. absurd (done_not_broken (sym done));
  breaks = λ _. record { unmoved = refl; tables = λ sound. absurd (sound broken); lost = λ _. refl };
  plan = record { plan = carries_broken (put_plan s k) s.disks broken; by_case = by (put_case s.book k) };
  follows = record { units = units_refl s.book; accessed = accessed_refl s.disks };
}
  where
    by : (c : PutCase) → AccessesByCase c s k s
    by InPlace = λ r at. broken_slot (class_in s r.group) s.disks s.disks _ _ broken refl
    by (ToHole c) = broken_slot c s.disks s.disks _ _ broken refl
    by ToNewGroup = broken_slot Mirrored s.disks s.disks _ _ broken refl
    by BySqueeze = inl (record { was = broken; same = refl })
