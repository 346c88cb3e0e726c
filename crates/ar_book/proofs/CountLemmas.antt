-- Where a block waits for a home and no group has a hole, and one group is free, some group is mirrored.
use Rattle.std.proofs.Common.{◌≡◌, ℕ, zero, suc, ◌<◌, ◌≤◌, ◌+◌, ◌-◌, ◌*◌, Bool, true, false, cond, Option, None, Some}
use Rattle.std.proofs.Common.{is_some, IsSome, List, [], ◌∷◌, length, get_or, set, sum_by, count_by, refl, sym, ap}
use Rattle.std.proofs.Common.{subst, ◌∙◌, arith}
use Rattle.std.specs.Map.{lookup, values_of}
use Rattle.std.proofs.Math.ListN.{length-set}
use Rattle.std.proofs.lemmas.Option.{none-some, same_Some}
use Rattle.std.proofs.lemmas.List.Sums.{sum_by-cons, sum_by-set, count_by-le-length}
use Rattle.ar_disks.specs.Geometry.{rows_of}
use Rattle.ar_disks.specs.declared.address.Addr.{Addr}
use Rattle.ar_disks.specs.declared.address.Key.{Key}
use Rattle.ar_book.specs.declared.class.Class.{Class}
use Rattle.ar_book.specs.declared.class.Class.TheVariants.{Free, Mirrored, Parity}
use Rattle.ar_book.specs.declared.class.Slot.{Slot}
use Rattle.ar_disks.specs.Addresses.{same_addr}
use Rattle.ar_book.specs.Tables.{GroupState, UnitTableState, Tables, group_in, unit_in, class_of, is_free, free_groups}
use Rattle.ar_book.specs.Tables.{used, placed, reserved, slots_of}
use Rattle.ar_book.specs.Choices.{IsHole, HasUnplacedBlock}
use Rattle.ar_book.specs.Book.{TablesAgree}
use Rattle.ar_book.proofs.UnitLemmas.{has_by_block, found_in}

-- a place without a home makes fewer homes than blocks
some_left : (hs : List (Option Slot)) (i : ℕ) → i < length hs → get_or hs i None ≡ None
    → count_by is_some hs < length hs
some_left hs i h e =
    let one_if : Option Slot → ℕ = λ o. cond {A = ℕ} (is_some o) 1 0 in
    let s : Slot = record { group = 0; slot = 0 } in
    let all : count_by is_some (set hs i (Some s)) + one_if (get_or hs i None) ≡ count_by is_some hs + 1 =
    sum_by-set one_if hs i (Some s) None h in
    let none : one_if (get_or hs i None) ≡ 0 = ap one_if e in
    let le : count_by is_some (set hs i (Some s)) ≤ length (set hs i (Some s)) =
    count_by-le-length is_some (set hs i (Some s)) in
    let len : length (set hs i (Some s)) ≡ length hs = length-set hs i (Some s) in
    omega arith

-- no more blocks have a home than there are
all_placed : (us : List (Addr × UnitTableState))
    → sum_by placed (values_of us) ≤ sum_by (λ u. length u.homes) (values_of us)
all_placed [] = omega arith
all_placed (x ∷ us) =
    let a : sum_by placed (x.1 ∷ values_of us) ≡ placed x.1 + sum_by placed (values_of us) =
    sum_by-cons placed x.1 (values_of us) in
    let b : sum_by (λ u. length u.homes) (x.1 ∷ values_of us)
    ≡ length x.1.homes + sum_by (λ u. length u.homes) (values_of us) =
    sum_by-cons (λ u. length u.homes) x.1 (values_of us) in
    let c : placed x.1 ≤ length x.1.homes = count_by-le-length is_some x.1.homes in
    let d = all_placed us in
    omega arith

-- and fewer where a unit has fewer
fewer_placed : (test : Addr → Bool) (us : List (Addr × UnitTableState)) (u : UnitTableState) → lookup test us ≡ Some u
    → placed u < length u.homes → sum_by placed (values_of us) < sum_by (λ u. length u.homes) (values_of us)
fewer_placed test [] u e h = absurd (none-some u e)
fewer_placed test (x ∷ us) u e h = by (fewer_placed test us u) (test x.0) refl
  where
    by : (lookup test us ≡ Some u → placed u < length u.homes
        → sum_by placed (values_of us) < sum_by (λ u. length u.homes) (values_of us)) → (b : Bool) → test x.0 ≡ b
        → sum_by placed (x.1 ∷ values_of us) < sum_by (λ u. length u.homes) (x.1 ∷ values_of us)
    by rest true t =
        let a : sum_by placed (x.1 ∷ values_of us) ≡ placed x.1 + sum_by placed (values_of us) =
        sum_by-cons placed x.1 (values_of us) in
        let b : sum_by (λ u. length u.homes) (x.1 ∷ values_of us)
        ≡ length x.1.homes + sum_by (λ u. length u.homes) (values_of us) =
        sum_by-cons (λ u. length u.homes) x.1 (values_of us) in
        let same : x.1 ≡ u = same_Some x.1 u (sym (ap (λ c. cond c (Some x.1) (lookup test us)) t) ∙ e) in
        let c : placed x.1 < length x.1.homes =
        subst (λ (v : UnitTableState). placed v < length v.homes) (sym same) h in
        let d = all_placed us in
        omega arith
    by rest false t =
        let a : sum_by placed (x.1 ∷ values_of us) ≡ placed x.1 + sum_by placed (values_of us) =
        sum_by-cons placed x.1 (values_of us) in
        let b : sum_by (λ u. length u.homes) (x.1 ∷ values_of us)
        ≡ length x.1.homes + sum_by (λ u. length u.homes) (values_of us) =
        sum_by-cons (λ u. length u.homes) x.1 (values_of us) in
        let c : placed x.1 ≤ length x.1.homes = count_by-le-length is_some x.1.homes in
        let d = rest (sym (ap (λ c. cond c (Some x.1) (lookup test us)) t) ∙ e) h in
        omega arith

-- a list of slots that all name a block, and one of slots that name none
pub all_used : (ks : List (Option Key)) → ((i : ℕ) → i < length ks → IsSome (get_or ks i None))
    → count_by is_some ks ≡ length ks
all_used [] all = refl
all_used (x ∷ ks) all =
    let a : count_by is_some (x ∷ ks) ≡ cond {A = ℕ} (is_some x) 1 0 + count_by is_some ks =
    sum_by-cons (λ (o : Option Key). cond {A = ℕ} (is_some o) 1 0) x ks in
    let b : cond {A = ℕ} (is_some x) 1 0 ≡ 1 = ap (λ c. cond {A = ℕ} c 1 0) (all 0 (omega arith)) in
    let d = all_used ks (λ i h. all (suc i) (omega arith)) in
    omega arith

pub none_used : (ks : List (Option Key)) → ((i : ℕ) (k : Key) → get_or ks i None ≡ Some k → ⊥) → count_by is_some ks ≡ 0
none_used [] never = refl
none_used (x ∷ ks) never =
    let a : count_by is_some (x ∷ ks) ≡ cond {A = ℕ} (is_some x) 1 0 + count_by is_some ks =
    sum_by-cons (λ (o : Option Key). cond {A = ℕ} (is_some o) 1 0) x ks in
    let b : cond {A = ℕ} (is_some x) 1 0 ≡ 0 = by x (λ k e. never 0 k e) in
    let d = none_used ks (λ i k e. never (suc i) k e) in
    omega arith
  where
    by : (o : Option Key) → ((k : Key) → o ≡ Some k → ⊥) → cond {A = ℕ} (is_some o) 1 0 ≡ 0
    by None f = refl
    by (Some k) f = absurd (f k refl)

-- with no mirrored group, all groups but the free ones have n blocks each
none_mirrored : (gs : List GroupState) (n : ℕ)
    → ((h : ℕ) → h < length gs → (group_in gs h).class ≡ Mirrored → ⊥)
    → ((h : ℕ) → h < length gs → (group_in gs h).class ≡ Parity → used (group_in gs h) ≡ n)
    → ((h : ℕ) → h < length gs → (group_in gs h).class ≡ Free → used (group_in gs h) ≡ 0)
    → sum_by used gs + n * count_by (λ (g : GroupState). is_free g.class) gs ≡ n * length gs
none_mirrored [] n a b c = omega arith
none_mirrored (x ∷ gs) n a b c =
    let head : sum_by used (x ∷ gs) ≡ used x + sum_by used gs = sum_by-cons used x gs in
    let free : count_by (λ (g : GroupState). is_free g.class) (x ∷ gs)
    ≡ cond {A = ℕ} (is_free x.class) 1 0 + count_by (λ (g : GroupState). is_free g.class) gs =
    sum_by-cons (λ (g : GroupState). cond {A = ℕ} (is_free g.class) 1 0) x gs in
    let rest = none_mirrored gs n (λ h l e. a (suc h) (omega arith) e) (λ h l e. b (suc h) (omega arith) e)
    (λ h l e. c (suc h) (omega arith) e) in
    let one : used x + n * cond {A = ℕ} (is_free x.class) 1 0 ≡ n =
    by x.class (λ e. a 0 (omega arith) e) (λ e. b 0 (omega arith) e) (λ e. c 0 (omega arith) e) in
    let times : n * count_by (λ (g : GroupState). is_free g.class) (x ∷ gs)
    ≡ n * cond {A = ℕ} (is_free x.class) 1 0 + n * count_by (λ (g : GroupState). is_free g.class) gs =
    ap (λ m. n * m) free
    ∙ distribute n (cond {A = ℕ} (is_free x.class) 1 0) (count_by (λ (g : GroupState). is_free g.class) gs) in
    omega arith
  where
    distribute : (a b c : ℕ) → a * (b + c) ≡ a * b + a * c
    distribute a b c = omega arith

    by : (c : Class) → (c ≡ Mirrored → ⊥) → (c ≡ Parity → used x ≡ n) → (c ≡ Free → used x ≡ 0)
        → used x + n * cond {A = ℕ} (is_free c) 1 0 ≡ n
    by Free f g h = let z = h refl in omega arith
    by Mirrored f g h = absurd (f refl)
    by Parity f g h = let z = g refl in omega arith

one_less : (x n : ℕ) → 0 < n → x * (n - 1) + x ≡ x * n
one_less x zero h = absurd (omega arith)
one_less x (suc n) h = grind (arith)

none_then_some : (o : Option Key) → (o ≡ None → ⊥) → IsSome o
none_then_some None f = absurd (f refl)
none_then_some (Some k) f = refl

module _ (t : Tables) (ok : TablesAgree t) where
  -- a group of a class without a hole is full
  pub full_group : (c : Class) (h : ℕ) → h < length t.groups → class_of t h ≡ c → ((s : Slot) → IsHole t c s → ⊥)
      → (i : ℕ) → i < slots_of t.geometry c → IsSome (get_or (group_in t.groups h).slots i None)
  full_group c h l e never i li =
      none_then_some (get_or (group_in t.groups h).slots i None)
      (λ n. never (record { group = h; slot = i }) (record { group = l; class = e; slot = li; empty = n }))

  -- some group is mirrored
  pub some_mirrored : HasUnplacedBlock t → ((s : Slot) → IsHole t Parity s → ⊥) → free_groups t ≡ 1
      → ((h : ℕ) → h < length t.groups → class_of t h ≡ Mirrored → ⊥) → ⊥
  some_mirrored waiting parity one none =
      let rows : ℕ = 3 * rows_of t.geometry in
      let count : sum_by used t.groups + rows * free_groups t ≡ rows * length t.groups =
      none_mirrored t.groups rows none
      (λ h l e. all_used (group_in t.groups h).slots
      (λ i li. full_group Parity h l e parity i (omega (arith, ok.groups.long h l, li))) ∙ ok.groups.long h l)
      (λ h l e. none_used (group_in t.groups h).slots (λ i k f.
      let within : i < slots_of t.geometry (class_of t h) = ok.groups.within (record { group = h; slot = i }) k f in
      let zero_slots : slots_of t.geometry (class_of t h) ≡ 0 = ap (λ c. slots_of t.geometry c) e in
      omega arith)) in
      let times : rows * free_groups t ≡ rows * 1 = ap (λ m. rows * m) one in
      let few : sum_by placed (values_of t.units) < reserved t =
      fewer_placed (same_addr waiting.key.addr) t.units (unit_in t.units waiting.key.addr)
      (found_in t.units waiting.key.addr (has_by_block t.units waiting.key.addr waiting.key.rb waiting.block))
      (some_left (unit_in t.units waiting.key.addr).homes waiting.key.rb waiting.block waiting.unplaced) in
      let some : 0 < length t.groups =
      at_least (length t.groups) (free_groups t) (count_by-le-length (λ (g : GroupState). is_free g.class) t.groups)
      one in
      let less : rows * (length t.groups - 1) + rows ≡ rows * length t.groups = one_less rows (length t.groups) some in
      let same = ok.agree.counted in
      let room = ok.room in
      omega arith
    where
      at_least : (a b : ℕ) → b ≤ a → b ≡ 1 → 0 < a
      at_least a b h e = omega arith
