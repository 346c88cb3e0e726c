-- The book's invariant after a change of one group's use, of one extent, or of how many groups there are.
use Rattle.std.proofs.Common.{◌≡◌, ◌≢◌, ℕ, zero, suc, ◌<◌, ◌+◌, ◌*◌, ◌^◌, true, false, ◌||◌, None, List, [], ◌∷◌, ◌++◌}
use Rattle.std.proofs.Common.{length, get_or, set, sum_by, refl, ap, arith, length-append, eq-eqb}
use Rattle.std.proofs.Math.ListN.{length-set, length-replicate}
use Rattle.std.proofs.Math.Nat.{mul-le-mul_left}
use Rattle.std.proofs.lemmas.Option.{none-some}
use Rattle.std.proofs.lemmas.List.{get_or_append_left, get_or_push, get_or_past}
use Rattle.std.proofs.lemmas.List.Sums.{sum_by_push, sum_by-set}
use Rattle.std.proofs.lemmas.Bool.{cases_lt, or_left, or_right, and_from}
use Rattle.std.proofs.lemmas.Bool.Decides.{eqb_tells}
use Rattle.ar_disks.specs.Geometry.{rows_of}
use Rattle.ar_disks.specs.Members.{member, with_member, AreApart, AreDisjoint, stands_on}
use Rattle.ar_disks.specs.declared.address.Place.{Place}
use Rattle.ar_disks.specs.declared.address.Members.{Members}
use Rattle.ar_book.specs.declared.class.Class.{Class}
use Rattle.ar_book.specs.declared.class.Class.TheVariants.{Free}
use Rattle.ar_book.specs.declared.class.Slot.{Slot}
use Rattle.ar_book.specs.Tables.{GroupState, Tables, no_group, group_in, key_in, key_at, class_of, used, slots_of}
use Rattle.ar_book.specs.Changes.{opened, free_group, formed, shifted}
use Rattle.ar_disks.specs.Addresses.{same_place}
use Rattle.ar_book.specs.Choices.{IsUnused, AreUnused}
use Rattle.ar_book.specs.Book.{GroupsStand, BookAgrees}
use Rattle.ar_book.proofs.Padding.{get_replicate, count_none}
use Rattle.ar_book.proofs.GroupLemmas.{put_keeps, stand_put, disjoint_flips}
use Rattle.ar_book.proofs.AgreeLemmas.{agree_same}

-- a group is put whose slots are those of the one that stood there: each slot names what it did
pub put_keys : (gs : List GroupState) (g : ℕ) (x : GroupState) → x.slots ≡ (group_in gs g).slots → (s : Slot)
    → key_in (set gs g x) s ≡ key_in gs s
put_keys gs g x same s = ap (λ l. get_or l s.slot None) (put_keeps (λ y. y.slots) gs g x same s.group)

module _ (t : Tables) (n g : ℕ) (x : GroupState) (ok : BookAgrees t n) (inside : g < length t.groups) (same : x.slots
    ≡ (group_in t.groups g).slots) where
  count : sum_by used (set t.groups g x) ≡ sum_by used t.groups
  count = grind (arith, sum_by-set)

  pub group_kept : GroupsStand t.geometry (set t.groups g x) → BookAgrees (record t { groups = set t.groups g x }) n
  group_kept stand = grind (arith, agree_same, put_keys, count, length-set)

-- a free group is opened
pub opened_kept : (t : Tables) (n g : ℕ) (c : Class) → BookAgrees t n → g < length t.groups → class_of t g ≡ Free
    → BookAgrees (opened t g c) n
opened_kept t n g c ok inside free =
    let old = group_in t.groups g in
    let x : GroupState = record old { class = c } in
    let gs = ok.tables.groups in
    group_kept t n g x ok inside refl
    (stand_put t.geometry t.groups gs g x inside (gs.long g inside)
    (λ i k e.
    let within : i < slots_of t.geometry old.class = gs.within (record { group = g; slot = i }) k e in
    let none : slots_of t.geometry old.class ≡ 0 = ap (λ b. slots_of t.geometry b) free in
    absurd (omega arith))
    (gs.apart g inside)
    (λ i hi ne. gs.disjoint i g hi inside ne)
    (gs.first g inside))

-- a member that is put, and the others
pub member_same : (m : Members) (p : ℕ) (x : Place) → member (with_member m p x) p ≡ x
member_same m zero x = refl
member_same m (suc zero) x = refl
member_same m (suc (suc zero)) x = refl
member_same m (suc (suc (suc p))) x = refl

pub member_other : (m : Members) (p j : ℕ) (x : Place) → p < 4 → j < 4 → j ≢ p
    → member (with_member m p x) j ≡ member m j
member_other m zero zero x hp hj ne = absurd (ne refl)
member_other m zero (suc zero) x hp hj ne = refl
member_other m zero (suc (suc zero)) x hp hj ne = refl
member_other m zero (suc (suc (suc j))) x hp hj ne = refl
member_other m (suc zero) zero x hp hj ne = refl
member_other m (suc zero) (suc zero) x hp hj ne = absurd (ne refl)
member_other m (suc zero) (suc (suc zero)) x hp hj ne = refl
member_other m (suc zero) (suc (suc (suc j))) x hp hj ne = refl
member_other m (suc (suc zero)) zero x hp hj ne = refl
member_other m (suc (suc zero)) (suc zero) x hp hj ne = refl
member_other m (suc (suc zero)) (suc (suc zero)) x hp hj ne = absurd (ne refl)
member_other m (suc (suc zero)) (suc (suc (suc j))) x hp hj ne = refl
member_other m (suc (suc (suc p))) zero x hp hj ne = refl
member_other m (suc (suc (suc p))) (suc zero) x hp hj ne = refl
member_other m (suc (suc (suc p))) (suc (suc zero)) x hp hj ne = refl
member_other m (suc (suc (suc p))) (suc (suc (suc j))) x hp hj ne = absurd (ne (omega arith))

-- an extent that is no member is none of them
pub stands_on_member : (m : Members) (x : Place) (j : ℕ) → same_place (member m j) x ≡ true → stands_on m x ≡ true
stands_on_member m x zero e = or_left _ _ (or_left _ _ (or_left _ _ e))
stands_on_member m x (suc zero) e = or_left _ _ (or_left _ _ (or_right (same_place m.first x) _ e))
stands_on_member m x (suc (suc zero)) e = or_left _ _ (or_right (same_place m.first x || same_place m.second x) _ e)
stands_on_member m x (suc (suc (suc j))) e =
    or_right (same_place m.first x || same_place m.second x || same_place m.third x) _ e

pub not_member : (m : Members) (x : Place) → stands_on m x ≡ false → (j : ℕ) → (member m j).disk ≡ x.disk
    → (member m j).extent ≢ x.extent
not_member m x unused j d e = grind (arith, stands_on_member, and_from, eq-eqb)

-- a group with another extent
module _ (t : Tables) (n g p : ℕ) (x : Place) (ok : BookAgrees t n) (inside : g < length t.groups) (range : p < 4)
    (unused : (i : ℕ) → i < length t.groups → stands_on (group_in t.groups i).members x ≡ false)
    (apart : (i : ℕ) → i < 4 → i ≢ p → (member (group_in t.groups g).members i).disk ≢ x.disk)
    (disk : x.disk < 2 ^ 8) (extent : x.extent < 2 ^ 16) where
  still_apart : AreApart (with_member (group_in t.groups g).members p x)
  still_apart i j hi hj ne = grind (arith, eqb_tells, member_other, member_same)

  still_disjoint : (i : ℕ) → i < length t.groups → i ≢ g
      → AreDisjoint (group_in t.groups i).members (with_member (group_in t.groups g).members p x)
  still_disjoint i hi ne a b ha hb = grind (arith, eqb_tells, member_same, not_member, member_other)

  still_first : (q : ℕ) → ((with_member (group_in t.groups g).members q x).first.disk < 2 ^ 8)
      × ((with_member (group_in t.groups g).members q x).first.extent < 2 ^ 16)
  still_first zero = (disk, extent)
  still_first (suc zero) = ok.tables.groups.first g inside
  still_first (suc (suc zero)) = ok.tables.groups.first g inside
  still_first (suc (suc (suc q))) = ok.tables.groups.first g inside

  pub shifted_kept : BookAgrees (shifted t g p x) n
  shifted_kept =
      let old = group_in t.groups g in
      let new : GroupState = record old { members = with_member old.members p x } in
      let gs = ok.tables.groups in
      group_kept t n g new ok inside refl
      (stand_put t.geometry t.groups gs g new inside (gs.long g inside)
      (λ i k e. gs.within (record { group = g; slot = i }) k e)
      still_apart still_disjoint (still_first p))

-- the groups with one more: those that were there, and the new one
pub formed_group_below : (t : Tables) (m : Members) (i : ℕ) → i < length t.groups
    → group_in (formed t m).groups i ≡ group_in t.groups i
formed_group_below t m i h = get_or_append_left t.groups (free_group m (3 * rows_of t.geometry) ∷ []) no_group i h

pub formed_group_last : (t : Tables) (m : Members) (i : ℕ) → length t.groups ≡ i
    → group_in (formed t m).groups i ≡ free_group m (3 * rows_of t.geometry)
formed_group_last t m i e = get_or_push t.groups (free_group m (3 * rows_of t.geometry)) no_group i e

pub formed_group_count : (t : Tables) (m : Members) → length (formed t m).groups ≡ length t.groups + 1
formed_group_count t m = length-append t.groups (free_group m (3 * rows_of t.geometry) ∷ [])

-- each slot names what it did
pub formed_keys : (t : Tables) (m : Members) (s : Slot) → key_at (formed t m) s ≡ key_at t s
formed_keys t m s =
    grind (
      arith,
      cases_lt,
      formed_group_below,
      get_or_past,
      eqb_tells,
      formed_group_last,
      get_replicate,
      formed_group_count,
    )

-- one group more
module _ (t : Tables) (n : ℕ) (m : Members) (ok : BookAgrees t n) (apart : AreApart m)
    (fresh : (i : ℕ) → i < length t.groups → AreDisjoint (group_in t.groups i).members m)
    (disk : m.first.disk < 2 ^ 8) (extent : m.first.extent < 2 ^ 16) where
  low : (i : ℕ) → i < length t.groups → group_in (t.groups ++ free_group m (3 * rows_of t.geometry) ∷ []) i
      ≡ group_in t.groups i
  low = formed_group_below t m

  top : (i : ℕ) → length t.groups ≡ i → group_in (t.groups ++ free_group m (3 * rows_of t.geometry) ∷ []) i
      ≡ free_group m (3 * rows_of t.geometry)
  top = formed_group_last t m

  size : length (t.groups ++ free_group m (3 * rows_of t.geometry) ∷ []) ≡ length t.groups + 1
  size = formed_group_count t m

  -- whatever holds of each group and of the new one holds of all
  each : (P : GroupState → Type 0) → ((i : ℕ) → i < length t.groups → P (group_in t.groups i))
      → P (free_group m (3 * rows_of t.geometry)) → (i : ℕ) → i < length t.groups + 1
      → P (group_in (t.groups ++ free_group m (3 * rows_of t.geometry) ∷ []) i)
  each P old last i h = grind (arith, cases_lt, low, top)

  formed_stand : GroupsStand t.geometry (t.groups ++ free_group m (3 * rows_of t.geometry) ∷ [])
  formed_stand =
      grind (
        arith,
        each,
        length-replicate,
        size,
        formed_keys,
        cases_lt,
        low,
        none-some,
        get_or_past,
        top,
        disjoint_flips,
      )

  pub formed_kept : BookAgrees (formed t m) n
  formed_kept =
      grind (arith, count_none, count, sum_by_push, formed_stand, agree_same, formed_keys, size, mul-le-mul_left)

-- four extents that are in no group are members of none
pub unused_disjoint : (t : Tables) (m : Members) → AreUnused t m → (i : ℕ) → i < length t.groups
    → AreDisjoint (group_in t.groups i).members m
unused_disjoint t m unused i h j k hj hk e = not_member (group_in t.groups i).members (member m k) (unused k hk i h) j e

-- four extents are in no group where none of them is
pub four_unused : (t : Tables) (m : Members) → IsUnused t m.first → IsUnused t m.second → IsUnused t m.third
    → IsUnused t m.fourth → AreUnused t m
four_unused t m a b c d zero h = a
four_unused t m a b c d (suc zero) h = b
four_unused t m a b c d (suc (suc zero)) h = c
four_unused t m a b c d (suc (suc (suc k))) h = d
