-- The ways that need no squeeze: each is that of the put's case.
use Rattle.std.proofs.Common.{◌≡◌, ◌≢◌, ◌⊎◌, inl, inr, ℕ, ◌<◌, ◌≤◌, Bool, true, false, if◌then◌else◌, Option, None}
use Rattle.std.proofs.Common.{Some}
use Rattle.std.proofs.Common.{refl, sym, ap, subst, ◌∙◌, true≢false, arith}
use Rattle.ar_disks.specs.declared.address.Key.{Key}
use Rattle.ar_book.specs.declared.class.Class.{Class}
use Rattle.ar_book.specs.declared.class.Class.TheVariants.{Free, Mirrored, Parity}
use Rattle.ar_book.specs.declared.class.Level.{Level}
use Rattle.ar_book.specs.declared.class.Level.TheVariants.{Unplaced, Mirrored as MirroredLevel, Parity as ParityLevel}
use Rattle.ar_book.specs.declared.class.Slot.{Slot}
use Rattle.ar_book.specs.Tables.{Tables, home, level, level_in, level_of, class_of, slots_of, free_groups, HasBlock}
use Rattle.ar_book.specs.Tables.{HasSlot}
use Rattle.ar_book.specs.Book.{TablesAgree}
use Rattle.ar_book.proofs.Homes.{home_key, home_level, key_class}
use Rattle.ar_book.specs.Changes.{stamped, opened, slot_at}
use Rattle.ar_book.specs.Choices.{HasUnplacedBlock, IsUpTo, IsHole, IsLowestFree, IsEmpty}
use Rattle.ar_book.proofs.AfterOpen.{opened_group_count, opened_class}
use Rattle.ar_book.proofs.GroupMoves.{mirrored_some}
use Rattle.ar_extents.specs.Set.{SetState}
use Rattle.ar_store.specs.Store.{StoreState, store_of}
use Rattle.ar_store.specs.declared.way.Way.{Way}
use Rattle.ar_store.specs.declared.way.Way.TheVariants.{Home, Hole, Broken}
use Rattle.ar_store.specs.Placing.{PutCase, InPlace, ToHole, ToNewGroup, BySqueeze, put_case, mirrored_case}
use Rattle.ar_store.specs.Placing.{parity_case}
use Rattle.ar_store.specs.Placing.{has_hole, lacks_mirrored_slot, is_in_place_at}
use Rattle.ar_store.specs.Placing.{is_put_in_place, prepared, home_way, case_way, placed_by, after_put, HasNoHole}
use Rattle.ar_store.specs.Placing.{IsVacant, IsMirroredHole, HasNoMirroredHole, HasNoWay, IsThere, IsWayIn, IsReadyFor}
use Rattle.ar_store.specs.Plans.{CarriesOutSearch}
use Rattle.ar_store.proofs.Gaps.{found, not_found, hole_offers, many_offer, lacks_of, free_is}

-- the level, as a number
rank : Level → ℕ
rank Unplaced = 0
rank MirroredLevel = 1
rank ParityLevel = 2

pub parity_not_mirrored : ParityLevel ≢ MirroredLevel
unfolding rank
parity_not_mirrored e = let ranks : rank ParityLevel ≡ rank MirroredLevel = ap rank e in absurd (omega arith)

pub unplaced_not_mirrored : Unplaced ≢ MirroredLevel
unfolding rank
unplaced_not_mirrored e = let ranks : rank Unplaced ≡ rank MirroredLevel = ap rank e in absurd (omega arith)

pub unplaced_not_parity : Unplaced ≢ ParityLevel
unfolding rank
unplaced_not_parity e = let ranks : rank Unplaced ≡ rank ParityLevel = ap rank e in absurd (omega arith)

-- a block without a home is at no level
pub nowhere : (t : Tables) (k : Key) → home t k ≡ None → level t k ≡ Unplaced
nowhere t k is = ap (λ (o : Option Slot). level_in t.groups o) is

-- a way that is there is one that a block can be written by
pub ready_there : (a : SetState) (t : Tables) (k : Key) (way : Way) → IsThere t k way → IsReadyFor (store_of a t) k way
ready_there a t k (Home s) there = there
ready_there a t k (Hole s) there = there
ready_there a t k Broken there = absurd there

-- a block waits for a home
pub waits : (t u : Tables) (k : Key) → u ≡ t → HasBlock t k → home t k ≡ None → HasUnplacedBlock u
waits t u k same block none =
    subst (λ (x : Tables). HasUnplacedBlock x) (sym same) (record { key = k; block = block; unplaced = none })

-- a block with a home stands at a level
placed : (t : Tables) (k : Key) (s : Slot) → TablesAgree t → home t k ≡ Some s → level t k ≢ Unplaced
placed t k s ok is nowhere_k =
    by (class_of t s.group) (key_class t ok s k (home_key t ok k s is)) (sym (home_level t k s is) ∙ nowhere_k)
  where
    by : (c : Class) → c ≢ Free → level_of c ≢ Unplaced
    by Free not e = not refl
    by Mirrored not e = unplaced_not_mirrored (sym e)
    by Parity not e = unplaced_not_parity (sym e)

-- a hole of a class is a slot that names none
hole_vacant : (t : Tables) (c : Class) (s : Slot) → IsHole t c s → IsVacant t s
hole_vacant t c s hole = record {
  there = (hole.group, subst (λ (x : Class). s.slot < slots_of t.geometry x) (sym hole.class) hole.slot);
  empty = hole.empty;
}

-- the lowest mirrored hole was found
pub hole_found : (t : Tables) (s : Slot) → IsHole t Mirrored s → ((r : Slot) → IsHole t Mirrored r → IsUpTo s r)
    → IsMirroredHole t t s
hole_found t s hole least =
    let has = found t Mirrored s (record { hole = hole; least = least }) in
    let is : mirrored_case t ≡ ToHole Mirrored = ap (λ b. if b then ToHole Mirrored else ToNewGroup) has.0 in
    record {
      some = hole_offers t has.0;
      way = λ k. ap Hole has.1 ∙ ap (case_way t k) (sym is);
      tables = ap (prepared t) (sym is);
      empty = hole_vacant t Mirrored s hole;
    }

-- or a group was opened for it
pub hole_made : (t u : Tables) (g : ℕ) → ((s : Slot) → IsHole t Mirrored s → ⊥) → 2 ≤ free_groups t
    → IsLowestFree t g → u ≡ opened t g Mirrored → IsEmpty u g
    → IsMirroredHole t u (slot_at g 0)
hole_made t u g none many lowest is_u empty =
    let group = free_is t g lowest in
    let is : mirrored_case t ≡ ToNewGroup =
    ap (λ b. if b then ToHole Mirrored else ToNewGroup) (not_found t Mirrored (record { none = none })) in
    record {
      some = many_offer t many;
      way = λ k. ap (λ n. Hole (slot_at n 0)) (sym group) ∙ ap (case_way t k) (sym is);
      tables = is_u ∙ ap (λ n. opened t n Mirrored) (sym group) ∙ ap (prepared t) (sym is);
      empty = record {
        there = subst (λ (x : Tables). HasSlot x (slot_at g 0)) (sym is_u) (
          subst (λ n. g < n) (sym (opened_group_count t g Mirrored)) lowest.there,
          subst (λ (c : Class). 0 < slots_of t.geometry c) (sym (opened_class t g Mirrored lowest.there))
              (mirrored_some t.geometry),
        );
        empty = empty 0;
      };
    }

module _ (t : Tables) (k : Key) where
  pub in_place_case : is_put_in_place t k ≡ true → put_case t k ≡ InPlace
  in_place_case is =
      ap (λ b. if b then InPlace else if lacks_mirrored_slot t then parity_case t else mirrored_case t) is

  -- it isn't in place
  elsewhere : is_put_in_place t k ≡ false → (b : Bool) → lacks_mirrored_slot t ≡ b
      → put_case t k ≡ (if b then parity_case t else mirrored_case t)
  elsewhere not b lacks =
      ap (λ p. if p then InPlace else if lacks_mirrored_slot t then parity_case t else mirrored_case t) not
      ∙ ap (λ p. if p then parity_case t else mirrored_case t) lacks

  no_place : home t k ≡ None → is_put_in_place t k ≡ false
  no_place none = ap (λ (l : Level). is_in_place_at l t) (nowhere t k none)

  -- a way of the case that applies
  way_by : (c : PutCase) → put_case t k ≡ c → c ≢ BySqueeze → (u : Tables) (way : Way) → u ≡ prepared t c
      → way ≡ case_way t k c → IsThere u k way → IsWayIn t k u way
  way_by c is direct u way tables goes there = record {
    direct = λ squeeze. direct (sym is ∙ squeeze);
    goes = goes ∙ ap (case_way t k) (sym is);
    tables = tables ∙ ap (prepared t) (sym is);
    there = there;
  }

  mirrored_direct : mirrored_case t ≢ BySqueeze
  mirrored_direct e = by (has_hole t Mirrored) e
    where
      by : (b : Bool) → (if b then ToHole Mirrored else ToNewGroup) ≢ BySqueeze
      by true e = cc
      by false e = cc

  to_mirrored : (u : Tables) (s : Slot) → is_put_in_place t k ≡ false → IsMirroredHole t u s → IsWayIn t k u (Hole s)
  to_mirrored u s not hole =
      way_by (mirrored_case t) (elsewhere not false hole.some) mirrored_direct u (Hole s) hole.tables (hole.way k)
      hole.empty

  -- a block without a home goes to a mirrored hole
  pub way_to_mirrored : (u : Tables) (s : Slot) → home t k ≡ None → IsMirroredHole t u s → IsWayIn t k u (Hole s)
  way_to_mirrored u s none hole = to_mirrored u s (no_place none) hole

  -- or to one with parity
  pub way_to_parity : (u : Tables) (s : Slot) → home t k ≡ None → HasNoMirroredHole t u → IsHole u Parity s
      → ((r : Slot) → IsHole u Parity r → IsUpTo s r)
      → IsWayIn t k u (Hole s)
  way_to_parity u s none without hole least =
      let P : Tables → Type 0 = λ x. IsWayIn t k x (Hole s) in
      let P_hole : Tables → Type 0 = λ x. IsHole x Parity s in
      let P_least : Tables → Type 0 = λ x. (r : Slot) → IsHole x Parity r → IsUpTo s r in
      let here = subst P_hole without.same hole in
      let has = found t Parity s (record { hole = here; least = subst P_least without.same least }) in
      subst P (sym without.same)
      (way_by (ToHole Parity)
      (elsewhere (no_place none) true (lacks_of t without.none without.few)
      ∙ ap (λ b. if b then ToHole Parity else BySqueeze) has.0)
      (λ e. cc) t (Hole s) refl (ap Hole has.1) (hole_vacant t Parity s here))

  -- or it needs a squeeze
  pub no_way : (u : Tables) → home t k ≡ None → HasNoMirroredHole t u → HasNoHole u Parity → HasNoWay t k u
  no_way u none without full = record {
    needs = elsewhere (no_place none) true (lacks_of t without.none without.few)
        ∙ ap (λ b. if b then ToHole Parity else BySqueeze)
        (not_found t Parity (subst (λ (x : Tables). HasNoHole x Parity) without.same full));
    unplaced = none;
    mirrored = without;
    parity = full;
  }

  -- a block at the parity level goes to a mirrored hole
  pub way_up : (u : Tables) (s : Slot) → level t k ≡ ParityLevel → IsMirroredHole t u s → IsWayIn t k u (Hole s)
  way_up u s at hole = to_mirrored u s (ap (λ (l : Level). is_in_place_at l t) at ∙ hole.some) hole

  -- a block that is overwritten in place goes to its home
  pub way_home : (s : Slot) → home t k ≡ Some s → is_put_in_place t k ≡ true → IsWayIn t k t (Home s)
  way_home s is here = way_by InPlace (in_place_case here) (λ e. cc) t (Home s) refl (ap home_way (sym is)) is

  -- or stays where it is
  pub way_low : (u : Tables) (s : Slot) → level t k ≡ ParityLevel → home t k ≡ Some s → HasNoMirroredHole t u
      → IsWayIn t k u (Home s)
  way_low u s at is without =
      subst (λ (x : Tables). IsWayIn t k x (Home s)) (sym without.same)
      (way_home s is (ap (λ (l : Level). is_in_place_at l t) at ∙ lacks_of t without.none without.few))

  -- as does one at the mirrored level
  pub way_high : (s : Slot) (l : Level) → TablesAgree t → home t k ≡ Some s → l ≡ level t k
      → (l ≡ MirroredLevel) ⊎ (l ≡ Unplaced) → IsWayIn t k t (Home s)
  way_high s l ok is same at = way_home s is (ap (λ (x : Level). is_in_place_at x t) (elim at [
    | inl high ↦ sym same ∙ high
    | inr nowhere_k ↦ absurd (placed t k s ok is (sym same ∙ nowhere_k))
  ]))

  -- a block that is overwritten in place gets a stamp, and nothing else changes
  pub stamped_in_place : is_put_in_place t k ≡ true → after_put t k ≡ stamped t k
  stamped_in_place is =
      ap (λ c. stamped (placed_by (prepared t c) k (case_way t k c)) k) (in_place_case is)
      ∙ ap (λ x. stamped x k) (at_home (home t k))
    where
      at_home : (o : Option Slot) → placed_by t k (home_way o) ≡ t
      at_home None = refl
      at_home (Some s) = refl

  -- such a block has a home
  pub somewhere : is_put_in_place t k ≡ true → home t k ≡ None → ⊥
  somewhere is none = true≢false (sym is ∙ no_place none)

-- on such a way nothing is accessed before the block is written
pub direct_search : (c : PutCase) (a b : StoreState) → c ≢ BySqueeze → b.disks ≡ a.disks → CarriesOutSearch c a b
direct_search InPlace a b direct same = same
direct_search (ToHole c) a b direct same = same
direct_search ToNewGroup a b direct same = same
direct_search BySqueeze a b direct same = absurd (direct refl)
