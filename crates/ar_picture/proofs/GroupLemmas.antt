-- The lowest group of an extent, found by a walk over the groups.
use Rattle.std.proofs.Common.{◌≡◌, ◌≢◌, ◌∙◌, ℕ, ◌+◌, ◌≤◌, Bool, true, false, not, cond, eqb, nat_lt, List, [], ◌∷◌}
use Rattle.std.proofs.Common.{◌++◌, length, length-append, Option, None, Some, get_or, length-take, slice_get, subst}
use Rattle.std.proofs.Common.{suc, take, ◌<◌, refl, sym, ap, arith}
use Rattle.std.proofs.Math.Seq.{take-suc}
use Rattle.std.specs.Option.{option_map}
use Rattle.std.specs.List.{position_or_len}
use Rattle.std.proofs.lemmas.Bool.{false≢true, le-ltb, lt-ltb, ltb-false}
use Rattle.std.proofs.lemmas.Bool.Decides.{nat_tests}
use Rattle.std.proofs.lemmas.List.Folds.{find_at, position_or_len_push}
use Rattle.std.proofs.lemmas.List.Sums.{prefix_len-le-length}
use Rattle.std.proofs.lemmas.Option.{slice_get_past}
use Rattle.ar_disks.specs.Members.{stands_on}
use Rattle.ar_disks.specs.declared.address.Place.{Place}
use Rattle.ar_picture.specs.Cells.{content_at, content_numbered, content_within, group_at, listed}
use Rattle.ar_picture.specs.declared.picture.Group.{Group}

-- the use of the group that a walk stopped at, or of none
stopped_at : (groups : List Group) (place : ℕ) (b : Bool) → nat_lt place (length groups) ≡ b
    → content_numbered groups (cond b (Some place) None) ≡ content_within (slice_get groups place)
stopped_at groups place true there = refl
stopped_at groups place false past =
    ap content_within (sym (slice_get_past groups place (ltb-false place (length groups) past)))

-- an extent has the use of its lowest group
pub numbered_at : (groups : List Group) (p : Place) → content_numbered groups (group_at groups p) ≡ content_at groups p
numbered_at groups p =
    let test = λ (g : Group). stands_on g.members p in
    let place = position_or_len test groups in
    stopped_at groups place (nat_lt place (length groups)) refl ∙ ap content_within (sym (find_at test groups))

-- a place among n, or none, and then one more
one_more : (a n : ℕ) (belongs below equal : Bool) → nat_lt a n ≡ below → eqb a n ≡ equal → a ≤ n
    → listed belongs n (cond below (Some a) None)
    ≡ cond (nat_lt (cond equal (n + cond belongs 0 1) a) (n + 1)) (Some (cond equal (n + cond belongs 0 1) a)) None
one_more a n belongs true true less same few =
    absurd (false≢true (sym (le-ltb a n (let is : a ≡ n = grind (arith, nat_tests) in omega (arith, is))) ∙ less))
one_more a n belongs true false less same few =
    let within : nat_lt a (n + 1) ≡ true = lt-ltb a (n + 1) (omega arith) in rw within
one_more a n true false true less same few =
    let last : n + 0 ≡ n = omega arith in
    let within : nat_lt n (n + 1) ≡ true = lt-ltb n (n + 1) (omega arith) in rw (last, within)
one_more a n false false true less same few =
    let past : nat_lt (n + 1) (n + 1) ≡ false = le-ltb (n + 1) (n + 1) (omega arith) in rw past
one_more a n belongs false false less same few =
    let apart : a ≢ n = grind (arith, nat_tests) in
    let past : n ≤ a = ltb-false a n less in
    absurd (apart (omega arith))

-- the lowest group of an extent, after one more group
pub listed_more : (groups : List Group) (g : Group) (p : Place)
    → listed (stands_on g.members p) (length groups) (group_at groups p) ≡ group_at (groups ++ g ∷ []) p
listed_more groups g p =
    let test = λ (x : Group). stands_on x.members p in
    let place = position_or_len test groups in
    let more = position_or_len test (groups ++ g ∷ []) in
    let n = length groups in
    let longer : length (groups ++ g ∷ []) ≡ n + 1 = simp length-append (omega arith) in
    one_more place n (test g) (nat_lt place n) (eqb place n) refl refl (prefix_len-le-length (λ x. not (test x)) groups)
    ∙ ap (λ m. cond (nat_lt m (n + 1)) (Some m) None) (sym (position_or_len_push test groups g))
    ∙ ap (λ m. cond (nat_lt more m) (Some more) None) (sym longer)

-- the same of a list of groups, one group further
pub listed_next : (groups : List Group) (i : ℕ) (d : Group) (p : Place) → i < length groups
    → listed (stands_on (get_or groups i d).members p) i (group_at (take i groups) p) ≡ group_at (take (i + 1) groups) p
listed_next groups i d p there =
    let g = get_or groups i d in
    let before = take i groups in
    let many : length before ≡ i = simp length-take (omega arith) in
    let next : i + 1 ≡ suc i = omega arith in
    subst (λ n. listed (stands_on g.members p) n (group_at before p) ≡ group_at (take (i + 1) groups) p) many
    (listed_more before g p
    ∙ ap (λ (xs : List Group). group_at xs p) (sym (take-suc groups i d there) ∙ ap (λ n. take n groups) (sym next)))

-- the entry of an extent, one group further
pub entry_next : (groups : List Group) (i : ℕ) (d : Group) (p : Place) (old new : Option (Option ℕ))
    → i < length groups
    → new ≡ option_map (listed (stands_on (get_or groups i d).members p) i) old
    → old ≡ Some (group_at (take i groups) p)
    → new ≡ Some (group_at (take (i + 1) groups) p)
entry_next groups i d p old new there made before =
    made ∙ ap (option_map (listed (stands_on (get_or groups i d).members p) i)) before
    ∙ ap (λ entry. Some entry) (listed_next groups i d p there)
