-- A group is formed of four loose extents.
use Rattle.std.proofs.Common.{◌≡◌, ◌≢◌, ◌⊎◌, inl, inr, ℕ, ◌<◌, ◌≤◌, List, false, length, Some, refl, sym, ap, subst}
use Rattle.std.proofs.Common.{◌∙◌, arith, true≢false}
use Rattle.std.specs.Prelude.{slice_index}
use Rattle.std.proofs.lemmas.Bool.{cases_lt}
use Rattle.std.proofs.lemmas.List.{get_or_past}
use Rattle.ar_disks.specs.declared.address.Members.{Members}
use Rattle.ar_disks.specs.declared.address.Place.{Place}
use Rattle.ar_disks.specs.Members.{member, AreApart}
use Rattle.ar_extents.specs.Set.{SetState, HasExtent, IsValidSet, IsSound, content}
use Rattle.ar_extents.specs.Loose.{is_loose, loose_count, lowest_loose, taken}
use Rattle.ar_extents.specs.Follows.{Anywhere}
use Rattle.ar_extents.proofs.Follows.{keeps_disks, follows_loose}
use Rattle.ar_extents.proofs.LooseLemmas.{is_loose-taken}
use Rattle.ar_book.specs.declared.class.Class.TheVariants.{Free, Parity}
use Rattle.ar_book.specs.Tables.{Tables, is_free, group_in, class_of}
use Rattle.ar_book.specs.Changes.{formed}
use Rattle.ar_book.specs.Choices.{AreUnused}
use Rattle.ar_book.proofs.GroupChanges.{formed_group_count, formed_keys}
use Rattle.ar_book.proofs.AfterForm.{formed_members, formed_class, formed_members_other, formed_class_other}
use Rattle.ar_book.proofs.AfterForm.{formed_agrees}
use Rattle.ar_store.specs.declared.form.FourDisks.{FourDisks}
use Rattle.ar_store.specs.Store.{store_of}
use Rattle.ar_store.specs.Kept.{IsSpace}
use Rattle.ar_store.specs.Fullest.{AreFourFullest, Precedes}
use Rattle.ar_store.specs.Forming.{AreFullest, without, with_group}
use Rattle.ar_store.proofs.Lined.{four_cases}
use Rattle.ar_balance.specs.Balance.{LeavesAll}
use Rattle.ar_balance.proofs.Loose.{lowest_there, loose_unused, used_taken}
use Rattle.ar_balance.proofs.Carrying.{IsCarried, space_carried, all_carried}

-- the members stand on different disks, in ascending order
climb : (s : SetState) (m : Members) → AreFullest s m → (i j : ℕ) → i < 4 → j < 4 → i < j
    → (member m i).disk < (member m j).disk
climb s m fullest i j hi hj =
    let ab = fullest.ascending.0 in
    let bc = fullest.ascending.1 in
    let cd = fullest.ascending.2 in
    four_cases (λ x. x < j → (member m x).disk < (member m j).disk)
    (four_cases (λ y. 0 < y → m.first.disk < (member m y).disk) (λ lt. absurd (omega arith)) (λ lt. omega arith)
    (λ lt. omega arith) (λ lt. omega arith) j hj)
    (four_cases (λ y. 1 < y → m.second.disk < (member m y).disk) (λ lt. absurd (omega arith))
    (λ lt. absurd (omega arith)) (λ lt. omega arith) (λ lt. omega arith) j hj)
    (four_cases (λ y. 2 < y → m.third.disk < (member m y).disk) (λ lt. absurd (omega arith))
    (λ lt. absurd (omega arith)) (λ lt. absurd (omega arith)) (λ lt. omega arith) j hj)
    (λ lt. absurd (omega arith))
    i hi

pub fullest_apart : (s : SetState) (m : Members) → AreFullest s m → AreApart m
fullest_apart s m fullest i j hi hj ne same = elim (cases_lt i j) [
  | inl lt ↦ (let up = climb s m fullest i j hi hj lt in omega arith)
  | inr le ↦ (let down = climb s m fullest j i hj hi (omega arith) in omega arith)
]

pub fullest_below : (s : SetState) (m : Members) → AreFullest s m → (i : ℕ) → i < 4 → (member m i).disk < length s.disks
fullest_below s m fullest =
    let ab = fullest.ascending.0 in
    let bc = fullest.ascending.1 in
    let cd = fullest.ascending.2 in
    let there = fullest.there in
    four_cases (λ i. (member m i).disk < length s.disks) (omega arith) (omega arith) (omega arith) (omega arith)

-- they are in no group
pub fullest_unused : (s : SetState) (t : Tables) (m : Members) → IsValidSet s → IsSpace (store_of s t) → AreFullest s m
    → AreUnused t m
fullest_unused s t m kept space fullest j lt =
    let p = member m j in
    loose_unused (store_of s t) p space
    (lowest_there s p kept (fullest_below s m fullest j lt) (fullest.lowest j lt)).loose

-- an extent that is there and not loose
record IsUsed (s : SetState) (p : Place) : Type 0 where
  there : HasExtent s p
  used : is_loose s p ≡ false

module _ (s : SetState) (t : Tables) (m : Members) (kept : IsValidSet s) (space : IsSpace (store_of s t))
    (fullest : AreFullest s m) where
  one : SetState
  one = taken s m.first.disk (Some m.first.extent)

  two : SetState
  two = taken (taken s m.first.disk (Some m.first.extent)) m.second.disk (Some m.second.extent)

  three : SetState
  three = taken (taken (taken s m.first.disk (Some m.first.extent)) m.second.disk (Some m.second.extent)) m.third.disk
      (Some m.third.extent)

  used_before : (p : Place) → is_loose s p ≡ false → is_loose (without s m) p ≡ false
  unfolding one two three
  used_before p used =
      used_taken three m.fourth p (used_taken two m.third p (used_taken one m.second p (used_taken s m.first p used)))

  used_here : (i : ℕ) → i < 4 → is_loose (without s m) (member m i) ≡ false
  unfolding one two three
  used_here =
      four_cases (λ i. is_loose (without s m) (member m i) ≡ false)
      (used_taken three m.fourth m.first
      (used_taken two m.third m.first (used_taken one m.second m.first (is_loose-taken s m.first))))
      (used_taken three m.fourth m.second (used_taken two m.third m.second (is_loose-taken one m.second)))
      (used_taken three m.fourth m.third (is_loose-taken two m.third))
      (is_loose-taken three m.fourth)

  last : (g : ℕ) → g < length (formed t m).groups → length t.groups ≤ g → g ≡ length t.groups
  last g lt past = omega (arith, formed_group_count t m)

  in_group : (g i : ℕ) → g < length (formed t m).groups → i < 4
      → IsUsed (without s m) (member (group_in (formed t m).groups g).members i)
  in_group g i lt range = elim (cases_lt g (length t.groups)) [
    | inl old ↦
        let was = space.extents g i old range in
        subst (λ (x : Members). IsUsed (without s m) (member x i)) (sym (formed_members_other t m g old))
        (record {
          there = record { disk = was.there.disk; extent = was.there.extent };
          used = used_before (member (group_in t.groups g).members i) was.used;
        })
    | inr new ↦
        let there = (lowest_there s (member m i) kept (fullest_below s m fullest i range)
        (fullest.lowest i range)).there in
        subst (λ (x : Members). IsUsed (without s m) (member x i))
        (sym (ap (λ k. (group_in (formed t m).groups k).members) (last g lt new) ∙ formed_members t m))
        (record { there = record { disk = there.disk; extent = there.extent }; used = used_here i range })
  ]

  free_not_parity : Free ≢ Parity
  free_not_parity e = true≢false (ap is_free e)

  carried : IsCarried s (without s m) t (formed t m)
  carried =
      let first = (lowest_there s m.first kept (fullest_below s m fullest 0 (omega arith))
      (fullest.lowest 0 (omega arith))).there in
      let few_disks = kept.at_most in
      let few_extents = kept.few_extents in
      let disk = first.disk in
      let extent = first.extent in
      record {
        geometry = refl;
        sound = λ sound. sound;
        agree = formed_agrees t m space.tables (fullest_apart s m fullest) (fullest_unused s t m kept space fullest)
            (omega arith) (omega arith);
        rows = refl;
        homes = λ k. refl;
        keys = formed_keys t m;
        classes = λ g lt. formed_class_other t m g lt;
        parity = λ g lt is. elim (cases_lt g (length t.groups)) [
          | inl old ↦ old
          | inr new ↦ absurd
              (free_not_parity (sym (ap (λ k. class_of (formed t m) k) (last g lt new) ∙ formed_class t m) ∙ is))
        ];
        copies = λ g lt taken_up. record {
          geometry = refl;
          usable = λ j range sound. subst (λ (x : Members). IsSound s (member x j)) (formed_members_other t m g lt)
              sound;
          rows = λ j row range fits.
              (keeps_disks Anywhere s (without s m) refl).rows (member (group_in (formed t m).groups g).members j) tt
              row
              ∙ ap (λ (x : Members). content s (member x j) row) (formed_members_other t m g lt);
        };
        extents = λ g i lt range. let now = in_group g i lt range in record { there = now.there; used = now.used };
      }

  pub space_formed : IsSpace (store_of (without s m) (formed t m))
  space_formed = space_carried s (without s m) t (formed t m) space carried

  pub leaves_formed : LeavesAll (store_of s t) (with_group (store_of s t) m)
  leaves_formed = record {
    stands = all_carried s (without s m) t (formed t m) space carried;
    units = record { geometry = refl; units = refl; puts = refl };
    follows = follows_loose s (without s m).loose;
  }

-- the four disks that were found, with the lowest loose extent of each
pub record AreLowest (s : SetState) (f : FourDisks) (m : Members) : Type 0 where
  pub disks : (m.first.disk ≡ f.first) × (m.second.disk ≡ f.second) × (m.third.disk ≡ f.third)
      × (m.fourth.disk ≡ f.fourth)
  pub lowest : (i : ℕ) → i < 4 → lowest_loose s (member m i).disk ≡ Some (member m i).extent

pub found_fullest : (s : SetState) (counts : List ℕ) (f : FourDisks) (m : Members)
    → ((d : ℕ) → d < length s.disks → slice_index counts d ≡ loose_count s d)
    → ((d : ℕ) → length s.disks ≤ d → slice_index counts d ≡ 0) → AreFourFullest counts f → AreLowest s f m
    → AreFullest s m
found_fullest s counts f m here past four are =
    let a = are.disks.0 in
    let b = are.disks.1 in
    let c = are.disks.2 in
    let d = are.disks.3 in
    let ab = four.ascending.second in
    let bc = four.ascending.third in
    let cd = four.ascending.fourth in
    record {
      ascending = (omega arith, omega arith, omega arith);
      there = omega (arith, inside f.fourth four.picked.some.3);
      lowest = are.lowest;
      fullest = λ x i lt range other.
          four_cases (λ k. (loose_count s x < loose_count s (member m k).disk)
          ⊎ ((loose_count s x ≡ loose_count s (member m k).disk) × ((member m k).disk < x)))
          (before x m.first.disk f.first lt a four.picked.some.0 (λ fits. (first x fits other).0))
          (before x m.second.disk f.second lt b four.picked.some.1 (λ fits. (first x fits other).1))
          (before x m.third.disk f.third lt c four.picked.some.2 (λ fits. (first x fits other).2))
          (before x m.fourth.disk f.fourth lt d four.picked.some.3 (λ fits. (first x fits other).3))
          i range;
    }
  where
    inside : (d : ℕ) → 0 < slice_index counts d → d < length s.disks
    inside d some =
        elim (cases_lt d (length s.disks)) [ inl lt ↦ lt | inr le ↦ absurd (let none = past d le in omega arith) ]

    first : (x : ℕ) → x < length counts → ((j : ℕ) → j < 4 → x ≢ (member m j).disk)
        → Precedes counts f.first x × Precedes counts f.second x × Precedes counts f.third x
        × Precedes counts f.fourth x
    first x fits other =
        four.picked.first x fits (λ e. other 0 (omega arith) (e ∙ sym are.disks.0))
        (λ e. other 1 (omega arith) (e ∙ sym are.disks.1))
        (λ e. other 2 (omega arith) (e ∙ sym are.disks.2)) (λ e. other 3 (omega arith) (e ∙ sym are.disks.3))

    before : (x d e : ℕ) → x < length s.disks → d ≡ e → 0 < slice_index counts e
        → (x < length counts → Precedes counts e x)
        → (loose_count s x < loose_count s d) ⊎ ((loose_count s x ≡ loose_count s d) × (d < x))
    before x d e lt same some first =
        let at_x = here x lt in
        let at_e = here e (inside e some) in
        let at_d : loose_count s d ≡ loose_count s e = ap (λ n. loose_count s n) same in
        elim (cases_lt x (length counts)) [
          | inl fits ↦ elim (first fits) [
            | inl fewer ↦ inl (omega arith)
            | inr tie ↦ (let p = tie.0 in let q = tie.1 in inr (omega arith, omega arith))
          ]
          | inr out ↦ (let none : slice_index counts x ≡ 0 = get_or_past counts x 0 out in inl (omega arith))
        ]
