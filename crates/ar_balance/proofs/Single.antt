-- The rule names one action.
use Rattle.std.proofs.Common.{◌≡◌, ◌≢◌, ◌⊎◌, inl, inr, ℕ, ◌<◌, length, sym, ap, subst, ◌∙◌, arith}
use Rattle.std.proofs.lemmas.Option.{same_Some}
use Rattle.std.proofs.lemmas.Bool.{cases_lt}
use Rattle.std.proofs.lemmas.Bool.Decides.{eqb_tells}
use Rattle.ar_disks.specs.declared.address.Members.{Members}
use Rattle.ar_disks.specs.declared.address.Place.{Place}
use Rattle.ar_disks.specs.Members.{member}
use Rattle.ar_extents.specs.Set.{SetState}
use Rattle.ar_extents.specs.Loose.{loose_count, lowest_loose}
use Rattle.ar_extents.proofs.GroupLemmas.{place_is}
use Rattle.ar_book.specs.Tables.{Tables}
use Rattle.ar_book.specs.Book.{TablesAgree}
use Rattle.ar_store.specs.Store.{StoreState, members_of}
use Rattle.ar_store.specs.Forming.{AreFullest}
use Rattle.ar_store.proofs.Lined.{four_cases}
use Rattle.ar_balance.proofs.Forming.{fullest_below}
use Rattle.ar_balance.specs.Rule.{HasFewest, HasMost, CanShift, NamesShift, IsOneShift}

-- of two disks with fewest loose extents, or with most, each is the other
pub fewest_single : (s : SetState) (a b : ℕ) → HasFewest s a → HasFewest s b → a ≡ b
fewest_single s a b one other = elim (eqb_tells a b) [
  | inl same ↦ same.1
  | inr ne ↦ absurd (by (one.fewest b other.below (λ e. ne.1 (sym e))) (other.fewest a one.below ne.1))
]
  where
    by : (loose_count s a < loose_count s b) ⊎ ((loose_count s a ≡ loose_count s b) × (a < b))
        → (loose_count s b < loose_count s a) ⊎ ((loose_count s b ≡ loose_count s a) × (b < a)) → ⊥
    by (inl x) (inl y) = omega arith
    by (inl x) (inr y) = (let p = y.0 in omega arith)
    by (inr x) (inl y) = (let p = x.0 in omega arith)
    by (inr x) (inr y) = (let p = x.1 in let q = y.1 in omega arith)

pub most_single : (s : SetState) (a b : ℕ) → HasMost s a → HasMost s b → a ≡ b
most_single s a b one other = elim (eqb_tells a b) [
  | inl same ↦ same.1
  | inr ne ↦ absurd (by (one.most b other.below (λ e. ne.1 (sym e))) (other.most a one.below ne.1))
]
  where
    by : (loose_count s b < loose_count s a) ⊎ ((loose_count s b ≡ loose_count s a) × (a < b))
        → (loose_count s a < loose_count s b) ⊎ ((loose_count s a ≡ loose_count s b) × (b < a)) → ⊥
    by (inl x) (inl y) = omega arith
    by (inl x) (inr y) = (let p = y.0 in omega arith)
    by (inr x) (inl y) = (let p = x.0 in omega arith)
    by (inr x) (inr y) = (let p = x.1 in let q = y.1 in omega arith)

-- of two lowest groups each is the other
group_single : (t : Tables) (a b c d g h p q : ℕ) → a ≡ c → b ≡ d → CanShift t a b g p
    → ((k r : ℕ) → k < g → CanShift t a b k r → ⊥)
    → CanShift t c d h q → ((k r : ℕ) → k < h → CanShift t c d k r → ⊥) → g ≡ h
group_single t a b c d g h p q on off can least other lowest = elim (cases_lt g h) [
  | inl lower ↦
      absurd (lowest g p lower (subst (λ n. CanShift t n d g p) on (subst (λ n. CanShift t a n g p) off can)))
  | inr le ↦ elim (cases_lt h g) [
    | inl lower ↦
        absurd (least h q lower
        (subst (λ n. CanShift t n b h q) (sym on) (subst (λ n. CanShift t c n h q) (sym off) other)))
    | inr fewer ↦ omega arith
  ]
]

pub shift_single : (s : StoreState) (g h p q : ℕ) (from leaves to goes : Place) → TablesAgree s.book
    → NamesShift s g p from to
    → NamesShift s h q leaves goes → IsOneShift g h p q from leaves to goes
shift_single s g h p q from leaves to goes agree one other =
    let on = fewest_single s.disks from.disk leaves.disk one.fewest other.fewest in
    let off = most_single s.disks to.disk goes.disk one.most other.most in
    let groups =
    group_single s.book from.disk to.disk leaves.disk goes.disk g h p q on off one.can one.least other.can
    other.least in
    let m = members_of s g in
    let there : (member m q).disk ≡ leaves.disk =
    ap (λ k. (member (members_of s k) q).disk) groups ∙ other.can.stands.disk in
    let positions : p ≡ q = elim (eqb_tells p q) [
      | inl same ↦ same.1
      | inr ne ↦
          absurd (agree.groups.apart g one.can.there p q one.can.stands.range other.can.stands.range ne.1
          (one.can.stands.disk ∙ on ∙ sym there))
    ] in
    record {
      groups = groups;
      positions = positions;
      sources = sym one.from_is ∙ ap (λ k. member (members_of s k) p) groups
          ∙ ap (λ k. member (members_of s h) k) positions ∙ other.from_is;
      targets = place_is to goes off
          (same_Some to.extent goes.extent (sym one.to_is ∙ ap (λ d. lowest_loose s.disks d) off ∙ other.to_is));
    }

-- Four numbers in ascending order are four others in ascending order, where each of the ones is among the others.
same_four : (a b c d w x y z : ℕ) → a < b → b < c → c < d → w < x → x < y → y < z
    → (a ≡ w) ⊎ (a ≡ x) ⊎ (a ≡ y) ⊎ (a ≡ z) → (b ≡ w) ⊎ (b ≡ x) ⊎ (b ≡ y) ⊎ (b ≡ z)
    → (c ≡ w) ⊎ (c ≡ x) ⊎ (c ≡ y) ⊎ (c ≡ z) → (d ≡ w) ⊎ (d ≡ x) ⊎ (d ≡ y) ⊎ (d ≡ z)
    → (a ≡ w) × (b ≡ x) × (c ≡ y) × (d ≡ z)
same_four a b c d w x y z ab bc cd wx xy yz ia ib ic id = (omega arith, omega arith, omega arith, omega arith)

-- one of the four disks is this one
abbrev IsAmong : Members → ℕ → Type 0
IsAmong m d = (d ≡ m.first.disk) ⊎ (d ≡ m.second.disk) ⊎ (d ≡ m.third.disk) ⊎ (d ≡ m.fourth.disk)

-- or none is
abbrev IsNotAmong : Members → ℕ → Type 0
IsNotAmong m d = (j : ℕ) → j < 4 → d ≢ (member m j).disk

among_tells : (m : Members) (d : ℕ) → IsAmong m d ⊎ IsNotAmong m d
among_tells m d = elim (eqb_tells d m.first.disk) [
  | inl a ↦ inl (inl a.1)
  | inr a ↦ elim (eqb_tells d m.second.disk) [
    | inl b ↦ inl (inr (inl b.1))
    | inr b ↦ elim (eqb_tells d m.third.disk) [
      | inl c ↦ inl (inr (inr (inl c.1)))
      | inr c ↦ elim (eqb_tells d m.fourth.disk) [
        | inl e ↦ inl (inr (inr (inr e.1)))
        | inr e ↦ inr (four_cases (λ j. d ≢ (member m j).disk) a.1 b.1 c.1 e.1)
      ]
    ]
  ]
]

-- A disk of the one four that is none of the other comes before all of those, and so no disk of the other is none of
-- the one.
not_apart : (s : SetState) (m n : Members) (i j : ℕ) → AreFullest s m → AreFullest s n → i < 4 → j < 4
    → (member m i).disk < length s.disks → (member n j).disk < length s.disks
    → IsNotAmong n (member m i).disk → IsNotAmong m (member n j).disk → ⊥
not_apart s m n i j one other hi hj below_m below_n out_m out_n =
    by (one.fullest (member n j).disk i below_n hi out_n) (other.fullest (member m i).disk j below_m hj out_m)
  where
    by : (loose_count s (member n j).disk < loose_count s (member m i).disk)
        ⊎ ((loose_count s (member n j).disk ≡ loose_count s (member m i).disk)
        × ((member m i).disk < (member n j).disk))
        → (loose_count s (member m i).disk < loose_count s (member n j).disk)
        ⊎ ((loose_count s (member m i).disk ≡ loose_count s (member n j).disk)
        × ((member n j).disk < (member m i).disk)) → ⊥
    by (inl x) (inl y) = omega arith
    by (inl x) (inr y) = (let p = y.0 in omega arith)
    by (inr x) (inl y) = (let p = x.0 in omega arith)
    by (inr x) (inr y) = (let p = x.1 in let q = y.1 in omega arith)

-- all disks of the one four are of the other
abbrev AreAmong : Members → Members → Type 0
AreAmong m n = (i : ℕ) → i < 4 → IsAmong n (member m i).disk

-- either they are, or one is not
all_or_one : (m n : Members) → AreAmong m n ⊎ ((i : ℕ) × (i < 4) × IsNotAmong n (member m i).disk)
all_or_one m n = elim (among_tells n m.first.disk) [
  | inr a ↦ inr (0, omega arith, a)
  | inl a ↦ elim (among_tells n m.second.disk) [
    | inr b ↦ inr (1, omega arith, b)
    | inl b ↦ elim (among_tells n m.third.disk) [
      | inr c ↦ inr (2, omega arith, c)
      | inl c ↦ elim (among_tells n m.fourth.disk) [
        | inr d ↦ inr (3, omega arith, d)
        | inl d ↦ inl (four_cases (λ i. IsAmong n (member m i).disk) a b c d)
      ]
    ]
  ]
]

-- where one four has a disk that the other hasn't, all disks of the other are of the one
among_back : (s : SetState) (m n : Members) (i : ℕ) → AreFullest s m → AreFullest s n → i < 4
    → IsNotAmong n (member m i).disk → AreAmong n m
among_back s m n i one other hi out j hj = elim (among_tells m (member n j).disk) [
  | inl is ↦ is
  | inr ne ↦ absurd
      (not_apart s m n i j one other hi hj (fullest_below s m one i hi) (fullest_below s n other j hj) out ne)
]

-- the same disks in the same order
record AreSameDisks (m n : Members) : Type 0 where
  disks : (i : ℕ) → i < 4 → (member m i).disk ≡ (member n i).disk

among_same : (s : SetState) (m n : Members) → AreFullest s m → AreFullest s n → AreAmong m n → AreSameDisks m n
among_same s m n one other all =
    let same = same_four m.first.disk m.second.disk m.third.disk m.fourth.disk n.first.disk n.second.disk n.third.disk
    n.fourth.disk
    one.ascending.0 one.ascending.1 one.ascending.2 other.ascending.0 other.ascending.1 other.ascending.2
    (all 0 (omega arith)) (all 1 (omega arith)) (all 2 (omega arith)) (all 3 (omega arith)) in
    record { disks = four_cases (λ i. (member m i).disk ≡ (member n i).disk) same.0 same.1 same.2 same.3 }

same_disks : (s : SetState) (m n : Members) → AreFullest s m → AreFullest s n → AreSameDisks m n
same_disks s m n one other = elim (all_or_one m n) [
  | inl all ↦ among_same s m n one other all
  | inr out ↦
      let back = among_same s n m other one (among_back s m n out.0 one other out.1 out.2) in
      record { disks = λ i lt. sym (back.disks i lt) }
]

same_member : (s : SetState) (m n : Members) → AreFullest s m → AreFullest s n → (i : ℕ) → i < 4
    → member m i ≡ member n i
same_member s m n one other i lt =
    let disk = (same_disks s m n one other).disks i lt in
    place_is (member m i) (member n i) disk
    (same_Some (member m i).extent (member n i).extent (sym (one.lowest i lt) ∙ ap (λ d. lowest_loose s d) disk
    ∙ other.lowest i lt))

-- two groups of the fullest four are one
pub forming_single : (s : SetState) (m n : Members) → AreFullest s m → AreFullest s n → m ≡ n
forming_single s m n one other =
    let a : m.first ≡ n.first = same_member s m n one other 0 (omega arith) in
    let b : m.second ≡ n.second = same_member s m n one other 1 (omega arith) in
    let c : m.third ≡ n.third = same_member s m n one other 2 (omega arith) in
    let d : m.fourth ≡ n.fourth = same_member s m n one other 3 (omega arith) in
    ap (λ (x : Place). let all : Members = record m { first = x } in all) a
    ∙ ap (λ (x : Place). let all : Members = record m { first = n.first; second = x } in all) b
    ∙ ap (λ (x : Place). let all : Members = record m { first = n.first; second = n.second; third = x } in all) c
    ∙ ap (λ (x : Place). let all : Members = record n { fourth = x } in all) d
