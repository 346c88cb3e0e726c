-- How marks change, what the lowest loose extent is, and how many there are.
use Rattle.std.proofs.Common.{◌≡◌, ◌≢◌, inl, inr, ℕ, zero, suc, ◌<◌, ◌≤◌, Bool, true, false, List, [], ◌∷◌, ◌++◌}
use Rattle.std.proofs.Common.{length, get_or, set, replicate, Some, None, position, count_by, refl, sym, ◌∙◌, ap, subst}
use Rattle.std.proofs.Common.{◌+◌, cond, arith}
use Rattle.std.specs.List.{position_or_len}
use Rattle.std.proofs.lemmas.Bool.{cases_lt}
use Rattle.std.proofs.lemmas.Bool.Decides.{eqb_tells, leb_tells}
use Rattle.std.proofs.lemmas.List.Sums.{sum_by-cons, position_or_len_is}
use Rattle.std.proofs.lemmas.List.{get_or-set_same, get_or-set_other, get_or-replicate, set_past, get_or_append_left}
use Rattle.std.proofs.Math.Seq.{get_or-append_seam}
use Rattle.ar_disks.specs.declared.address.Place.{Place}
use Rattle.ar_disks.specs.Disk.{DiskState}
use Rattle.ar_extents.specs.Set.{SetState, HasExtent, marks_of}
use Rattle.ar_extents.specs.Loose.{is_loose, loose_count, lowest_loose, marked}
use Rattle.ar_extents.specs.Changes.{started, added}

mark_other : (table : List (List Bool)) (d e : ℕ) (m : Bool) (x f : ℕ) → (x ≡ d → f ≡ e → ⊥)
    → get_or (get_or (set table d (set (get_or table d []) e m)) x []) f false ≡ get_or (get_or table x []) f false
mark_other table d e m x f ne =
    elim (eqb_tells x d) [
      | inr q ↦ ap (λ (row : List Bool). get_or row f false)
          (get_or-set_other table d x (set (get_or table d []) e m) [] q.1)
      | inl q ↦
          (let P : ℕ → Type 0 = λ y. get_or (get_or (set table d (set (get_or table d []) e m)) y []) f false
          ≡ get_or (get_or table y []) f false in
          subst P (sym q.1)
          (elim (cases_lt d (length table)) [
            | inl lt ↦ ap (λ (row : List Bool). get_or row f false)
                (get_or-set_same table d (set (get_or table d []) e m) [] lt)
                ∙ get_or-set_other (get_or table d []) e f m false (ne q.1)
            | inr le ↦ ap (λ (rows : List (List Bool)). get_or (get_or rows d []) f false)
                (set_past table d (set (get_or table d []) e m) le)
          ]))
    ]

-- a mark changes no other
pub is_loose-marked_other : (s : SetState) (p q : Place) (mark : Bool) → q ≢ p
    → is_loose (marked s p.disk p.extent mark) q ≡ is_loose s q
is_loose-marked_other s p q mark ne =
    mark_other s.loose p.disk p.extent mark q.disk q.extent
    (λ disk extent. ne (ap (λ (d : ℕ). let there : Place = record { disk = d; extent = q.extent } in there) disk
    ∙ ap (λ (e : ℕ). let there : Place = record { disk = p.disk; extent = e } in there) extent))

unmarked : (marks : List Bool) (e : ℕ) → get_or (set marks e false) e false ≡ false
unmarked [] e = refl
unmarked (m ∷ ms) zero = refl
unmarked (m ∷ ms) (suc e) = unmarked ms e

-- an extent that was taken isn't loose
pub is_loose-taken : (s : SetState) (p : Place) → is_loose (marked s p.disk p.extent false) p ≡ false
is_loose-taken s p =
    elim (cases_lt p.disk (length s.loose)) [
      | inl lt ↦ ap (λ (row : List Bool). get_or row p.extent false)
          (get_or-set_same s.loose p.disk (set (marks_of s p.disk) p.extent false) [] lt)
          ∙ unmarked (marks_of s p.disk) p.extent
      | inr le ↦ ap (λ (row : List Bool). get_or row p.extent false)
          (ap (λ (rows : List (List Bool)). get_or rows p.disk [])
          (set_past s.loose p.disk (set (marks_of s p.disk) p.extent false) le) ∙ none_past s.loose p.disk le)
    ]
  where
    none_past : (rows : List (List Bool)) (d : ℕ) → length rows ≤ d → get_or rows d [] ≡ []
    none_past [] d le = refl
    none_past (r ∷ rs) zero le = absurd (omega arith)
    none_past (r ∷ rs) (suc d) le = none_past rs d (omega arith)

-- where the first true mark stands, or past the end
abbrev first : List Bool → ℕ
first marks = position_or_len (λ mark. mark) marks

further : (m : Bool) (marks : List Bool) (k n : ℕ) → k ≡ suc n → get_or (m ∷ marks) k false ≡ get_or marks n false
further m marks k n is = ap (λ (i : ℕ). get_or (m ∷ marks) i false) is

first_is : (marks : List Bool) → first marks < length marks → get_or marks (first marks) false ≡ true
first_is [] lt = absurd (omega arith)
first_is (true ∷ marks) lt = refl
first_is (false ∷ marks) lt =
    further false marks (first (false ∷ marks)) (first marks) (omega arith) ∙ first_is marks (omega arith)

before_first : (marks : List Bool) (e : ℕ) → e < first marks → get_or marks e false ≡ false
before_first [] e lt = refl
before_first (true ∷ marks) e lt = absurd (omega arith)
before_first (false ∷ marks) zero lt = refl
before_first (false ∷ marks) (suc e) lt = before_first marks e (omega arith)

none_counted : (marks : List Bool) → length marks ≤ first marks → count_by (λ mark. mark) marks ≡ 0
none_counted [] le = refl
none_counted (true ∷ marks) le = absurd (omega arith)
none_counted (false ∷ marks) le = let rest = none_counted marks (omega arith) in omega arith

pub position_is : (marks : List Bool) (e : ℕ) → position (λ mark. mark) marks ≡ Some e
    → (e ≡ first marks) × (e < length marks)
position_is marks e is = elim (leb_tells (suc (first marks)) (length marks)) [
  | inl t ↦ (let k : Some (first marks) ≡ Some e = rw t.0 at is in let same : e
      ≡ first marks = cc in let lt = t.1 in (same, omega arith))
  | inr t ↦ absurd (let k : None ≡ Some e = rw t.0 at is in cc)
]

-- the first true mark, found by a walk
pub first_found : (marks : List Bool) (e : ℕ) → e < length marks → ((k : ℕ) → k < e → get_or marks k false ≡ false)
    → get_or marks e false ≡ true → Some e ≡ position (λ mark. mark) marks
first_found marks e lt below here =
    let at : first marks ≡ e = position_or_len_is (λ mark. mark) marks e false (omega arith) below (λ h. here) in
    elim (leb_tells (suc (first marks)) (length marks)) [
      | inl t ↦ rw t.0 (ap Some (sym at))
      | inr t ↦ absurd (let past = t.1 in omega arith)
    ]

-- no mark, after a walk to the end
pub none_found : (marks : List Bool) (n : ℕ) → length marks ≤ n → ((k : ℕ) → k < n → get_or marks k false ≡ false)
    → None ≡ position (λ mark. mark) marks
none_found marks n past below =
    let at : first marks ≡ length marks =
    position_or_len_is (λ mark. mark) marks (length marks) false (omega arith) (λ k h. below k (omega arith))
    (λ h. absurd (omega arith)) in
    elim (leb_tells (suc (first marks)) (length marks)) [
      | inl t ↦ absurd (let lt = t.1 in omega arith)
      | inr t ↦ rw t.0 refl
    ]

count_first : (m : Bool) (marks : List Bool)
    → count_by (λ mark. mark) (m ∷ marks) ≡ cond {A = ℕ} m 1 0 + count_by (λ mark. mark) marks
count_first m marks = sum_by-cons (λ (mark : Bool). cond {A = ℕ} mark 1 0) m marks

marked_counts : (marks : List Bool) (e : ℕ) → e < length marks → get_or marks e false ≡ true
    → count_by (λ mark. mark) marks ≡ count_by (λ mark. mark) (set marks e false) + 1
marked_counts [] e lt here = absurd (omega arith)
marked_counts (true ∷ marks) zero lt here =
    let before = count_first true marks in
    let after : count_by (λ mark. mark) (set (true ∷ marks) 0 false) ≡ 0 + count_by (λ mark. mark) marks =
    count_first false marks in
    omega arith
marked_counts (false ∷ marks) zero lt here = absurd (let no : false ≡ true = here in cc)
marked_counts (m ∷ marks) (suc e) lt here =
    let before = count_first m marks in
    let after : count_by (λ mark. mark) (set (m ∷ marks) (suc e) false)
    ≡ cond {A = ℕ} m 1 0 + count_by (λ mark. mark) (set marks e false) =
    count_first m (set marks e false) in
    let rest = marked_counts marks e (omega arith) here in
    omega arith

-- the lowest mark is cleared: one fewer is marked
pub one_fewer : (marks : List Bool) (e : ℕ) → position (λ mark. mark) marks ≡ Some e
    → count_by (λ mark. mark) marks ≡ count_by (λ mark. mark) (set marks e false) + 1
one_fewer marks e is =
    let at = position_is marks e is in
    marked_counts marks e at.1
    (ap (λ (i : ℕ). get_or marks i false) at.0
    ∙ first_is marks (let same = at.0 in let lt = at.1 in omega arith))

-- and none up to it
pub none_up_to : (marks : List Bool) (e : ℕ) → position (λ mark. mark) marks ≡ Some e
    → (i : ℕ) → i < e + 1 → get_or (set marks e false) i false ≡ false
none_up_to marks e is i lt =
    let at = position_is marks e is in
    elim (eqb_tells i e) [
      | inl q ↦ subst (λ (k : ℕ). get_or (set marks e false) k false ≡ false) (sym q.1) (unmarked marks e)
      | inr q ↦ get_or-set_other marks e i false false q.1
          ∙ before_first marks i (let same = at.0 in let other = q.1 in omega arith)
    ]

-- the lowest loose extent exists and is loose
pub lowest_loose-is : (s : SetState) (d e : ℕ) → lowest_loose s d ≡ Some e
    → (e < length (marks_of s d)) × (get_or (marks_of s d) e false ≡ true)
lowest_loose-is s d e is =
    let at = position_is (marks_of s d) e is in (
      at.1,
      ap (λ (i : ℕ). get_or (marks_of s d) i false) at.0
          ∙ first_is (marks_of s d) (let same = at.0 in let lt = at.1 in omega arith),
    )

-- none below it is loose
pub lowest_loose-least : (s : SetState) (d e f : ℕ) → lowest_loose s d ≡ Some e → f < e
    → get_or (marks_of s d) f false ≡ false
lowest_loose-least s d e f is lt =
    let at = position_is (marks_of s d) e is in
    before_first (marks_of s d) f (let same = at.0 in omega arith)

-- where there is no lowest loose extent, none is loose
pub lowest_loose-none : (s : SetState) (d : ℕ) → lowest_loose s d ≡ None → loose_count s d ≡ 0
lowest_loose-none s d is =
    elim (leb_tells (suc (first (marks_of s d))) (length (marks_of s d))) [
      | inl t ↦ absurd (let k : Some (first (marks_of s d)) ≡ None = rw t.0 at is in cc)
      | inr t ↦ none_counted (marks_of s d) (let le = t.1 in omega arith)
    ]

-- every extent of a new set is loose
pub is_loose-started : (disks : List DiskState) (p : Place) → HasExtent (started disks) p
    → is_loose (started disks) p ≡ true
is_loose-started disks p exists =
    let extents : ℕ = (started disks).extents in
    ap (λ (row : List Bool). get_or row p.extent false)
    (get_or-replicate (length disks) p.disk (replicate extents true) [] exists.disk)
    ∙ get_or-replicate extents p.extent true false exists.extent

-- every extent of an added disk is loose, and the marks of the others stay
pub is_loose-added : (s : SetState) (disk : DiskState) (p : Place) → p.disk ≡ length s.loose → p.extent < s.extents
    → is_loose (added s disk) p ≡ true
is_loose-added s disk p last lt =
    ap (λ (d : ℕ). get_or (get_or (s.loose ++ replicate s.extents true ∷ []) d []) p.extent false) last
    ∙ ap (λ (row : List Bool). get_or row p.extent false) (get_or-append_seam s.loose (replicate s.extents true) [] [])
    ∙ get_or-replicate s.extents p.extent true false lt

pub is_loose-added_other : (s : SetState) (disk : DiskState) (p : Place) → p.disk < length s.loose
    → is_loose (added s disk) p ≡ is_loose s p
is_loose-added_other s disk p lt =
    ap (λ (row : List Bool). get_or row p.extent false)
    (get_or_append_left s.loose (replicate s.extents true ∷ []) [] p.disk lt)

-- an extent that was given is loose
pub is_loose-given : (s : SetState) (p : Place) → p.disk < length s.loose → p.extent < length (marks_of s p.disk)
    → is_loose (marked s p.disk p.extent true) p ≡ true
is_loose-given s p disk extent =
    ap (λ (row : List Bool). get_or row p.extent false)
    (get_or-set_same s.loose p.disk (set (marks_of s p.disk) p.extent true) [] disk)
    ∙ get_or-set_same (marks_of s p.disk) p.extent true false extent
