-- The tree after each change of the book.
use Rattle.std.proofs.Common.{◌≡◌, ◌≢◌, ℕ, ◌+◌, ◌*◌, ◌<◌, ◌≤◌, Option, None, Some, List, [], ◌∷◌, ◌++◌, length, get_or}
use Rattle.std.proofs.Common.{set, fold, refl, sym, ap, subst, ◌∙◌, inl, inr, arith, get_or-set_same, get_or-set_other}
use Rattle.std.specs.Prelude.{IfSome, IfNone}
use Rattle.std.specs.Option.{ForSome, MatchOption}
use Rattle.std.proofs.lemmas.Bool.{cases_eq}
use Rattle.std.proofs.lemmas.Option.{none-some, same_Some}
use Rattle.std.proofs.lemmas.List.{length-set, ext_get_or, set-get_or}
use Rattle.std.proofs.lemmas.Map.{keys-set_value}
use Rattle.ar_disks.specs.Geometry.{rows_of}
use Rattle.ar_disks.specs.declared.address.Addr.{Addr}
use Rattle.ar_disks.specs.declared.address.Key.{Key}
use Rattle.ar_disks.specs.declared.address.Place.{Place}
use Rattle.ar_disks.specs.declared.address.Members.{Members}
use Rattle.ar_disks.specs.declared.geometry.Geometry.{Geometry}
use Rattle.ar_index.specs.declared.choices.Choices.{Choices}
use Rattle.ar_index.specs.Choices.{place_in, nothing, with_oldest}
use Rattle.ar_index.specs.Tree.{TreeState, leaves}
use Rattle.ar_book.specs.declared.class.Class.{Class}
use Rattle.ar_book.specs.declared.class.Class.TheVariants.{Mirrored}
use Rattle.ar_book.specs.declared.class.Level.TheVariants.{Mirrored as MirroredLevel}
use Rattle.ar_book.specs.declared.class.Slot.{Slot}
use Rattle.ar_book.specs.Tables.{GroupState, UnitTableState, Tables, group_in, unit_in, key_at, home, level, level_in}
use Rattle.ar_book.specs.Tables.{level_of, HasBlock, HasSlot}
use Rattle.ar_book.specs.Changes.{with_key, with_hole, named, vacated, homed, restamped, grown, unmarked, opened}
use Rattle.ar_book.specs.Changes.{formed, shifted}
use Rattle.ar_book.specs.Book.{TablesAgree}
use Rattle.ar_book.specs.Index.{age_of, choices_in, choices_of, leaves_from, leaves_of, free_leaf, oldest_in, oldest_of}
use Rattle.ar_book.specs.Index.{KeepsOldest, HasNoOldest}
use Rattle.ar_disks.proofs.Addresses.{addr_tells, make_key}
use Rattle.ar_book.proofs.UnitLemmas.{has_by_block, unit_same, unit_other}
use Rattle.ar_book.proofs.GroupLemmas.{there_group, named_shape, vacated_size, vacated_shape}
use Rattle.ar_book.proofs.KeptLemmas.{former_group}
use Rattle.ar_book.proofs.AfterAssign.{assigned_stamp, assigned_order}
use Rattle.ar_book.proofs.AfterRelease.{released_stamp, released_order}
use Rattle.ar_book.proofs.AfterMake.{grown_stamp, grown_order, unmarked_stamp, unmarked_order}
use Rattle.ar_book.proofs.UnitChanges.{stamps_long}
use Rattle.ar_book.proofs.Stays.{later_stamp, stay_chosen}
use Rattle.ar_book.proofs.IndexLemmas.{leaves_length, leaf_of, refreshed, same_ages, same_choices, same_leaves}
use Rattle.ar_book.proofs.IndexLemmas.{same_leaf, leaves_push}

same_age : (us new : List (Addr × UnitTableState)) (k : Key)
    → get_or (unit_in new k.addr).stamps k.rb 0 ≡ get_or (unit_in us k.addr).stamps k.rb 0 → age_of new k ≡ age_of us k
same_age us new k stamp = λ i. record { stamp = stamp i; key = k }

module _ (t : Tables) where
  pub unmarked_leaves : (a : Addr) → leaves_of t.geometry (unmarked t a).units t.groups
      ≡ leaves_of t.geometry t.units t.groups
  unmarked_leaves a =
      same_ages t.geometry t.units (unmarked t a).units t.groups (unmarked_stamp t a) (unmarked_order t a)

  pub grown_leaves : (a : Addr) (n : ℕ) → leaves_of t.geometry (grown t a n).units t.groups
      ≡ leaves_of t.geometry t.units t.groups
  grown_leaves a n = same_ages t.geometry t.units (grown t a n).units t.groups (grown_stamp t a n) (grown_order t a n)

  pub shifted_leaves : (g p : ℕ) (x : Place) → leaves_of t.geometry t.units (shifted t g p x).groups
      ≡ leaves_of t.geometry t.units t.groups
  shifted_leaves g p x = grind (arith, same_leaf)

  pub formed_leaves : (m : Members) → leaves_of t.geometry t.units (formed t m).groups
      ≡ leaves_of t.geometry t.units t.groups ++ free_leaf (length t.groups) ∷ []
  formed_leaves m = grind (arith, leaves_push)

-- a slot is vacated, where there is one
pub vacated_leaves : (g : Geometry) (units : List (Addr × UnitTableState)) (gs new : List GroupState)
    (index now : List Choices) (o : Option Slot) → ForSome o (λ q. q.group < length gs)
    → index ≡ leaves_of g units gs → new ≡ vacated gs o
    → MatchOption o (now ≡ index) (λ q. now ≡ set index q.group (choices_of g units q.group (group_in new q.group)))
    → now ≡ leaves_of g units new
vacated_leaves g units gs new index now None there before put e = e ∙ before ∙ sym (ap (leaves_of g units) put)
vacated_leaves g units gs new index now (Some q) there before put e =
    refreshed g units gs new index now q.group (with_hole (group_in gs q.group) q.slot) (there q refl) before put e

-- a home that may have changed is the home, and its group is there
changed_home : (o changed : Option Slot) → IfSome changed (λ q. o ≡ Some q) → (q : Slot) → changed ≡ Some q → o ≡ Some q
changed_home o None same q e = absurd (none-some q e)
changed_home o (Some r) same q e = same ∙ e

pub changed_group : (t : Tables) (k : Key) (ok : TablesAgree t) (o changed : Option Slot) → o ≡ home t k
    → IfSome changed (λ q. o ≡ Some q) → (q : Slot) → changed ≡ Some q → q.group < length t.groups
changed_group t k ok o changed former same q e =
    there_group t.groups q k (ok.agree.to_slot k q (sym former ∙ changed_home o changed same q e))

-- a block moves
module _ (t : Tables) (k : Key) (s : Slot) (ok : TablesAgree t) (slot : HasSlot t s) (empty : key_at t s ≡ None) where
  pub assigned_leaves : (gs new : List GroupState) (index mid now : List Choices) (o : Option Slot) → o ≡ home t k
      → gs ≡ named t.groups s k → new ≡ vacated gs o
      → index ≡ leaves_of t.geometry t.units t.groups
      → mid ≡ set index s.group (choices_of t.geometry t.units s.group (group_in gs s.group))
      → MatchOption o (now ≡ mid) (λ q. now
      ≡ set mid q.group (choices_of t.geometry t.units q.group (group_in new q.group)))
      → now ≡ leaves_of t.geometry (homed t.units k (Some s)) new
  assigned_leaves gs new index mid now o former first second before one two =
      let a : mid ≡ leaves_of t.geometry t.units gs =
      refreshed t.geometry t.units t.groups gs index mid s.group (with_key (group_in t.groups s.group) s.slot k)
      slot.0 before first one in
      let b : now ≡ leaves_of t.geometry t.units new = vacated_leaves t.geometry t.units gs new mid now o
      (λ q e. subst (λ l. q.group < length l) (sym first) (former_group t k s ok slot empty q (sym former ∙ e))) a
      second two in
      b ∙ sym (same_ages t.geometry t.units (homed t.units k (Some s)) new (assigned_stamp t k s)
      (assigned_order t k s))

pub released_leaves : (t : Tables) (k : Key) (ok : TablesAgree t) (new : List GroupState) (index now : List Choices)
    (o : Option Slot) → o ≡ home t k → new ≡ vacated t.groups o
    → index ≡ leaves_of t.geometry t.units t.groups
    → MatchOption o (now ≡ index) (λ q. now
    ≡ set index q.group (choices_of t.geometry t.units q.group (group_in new q.group)))
    → now ≡ leaves_of t.geometry (homed t.units k None) new
released_leaves t k ok new index now o former put before two =
    vacated_leaves t.geometry t.units t.groups new index now o
    (λ q e. there_group t.groups q k (ok.agree.to_slot k q (sym former ∙ e))) before put two
    ∙ sym (same_ages t.geometry t.units (homed t.units k None) new (released_stamp t k) (released_order t k))

-- the oldest block among a group's choices is that of the group
oldest_chosen : (t : Tables) (i n : ℕ) → (choices_of t.geometry t.units n (group_in t.groups i)).oldest ≡ oldest_in t i
oldest_chosen t i n = grind (arith)

-- where the group of its home keeps its oldest block, or it has none, nothing is refreshed
pub kept_still : (t : Tables) (k : Key) (n : ℕ) (ok : TablesAgree t) (index : List Choices) (o changed : Option Slot)
    → o ≡ home t k → IfSome changed (λ q. o ≡ Some q)
    → IfSome changed (λ q. KeepsOldest (get_or index q.group nothing).oldest k n → ⊥)
    → index ≡ leaves_of t.geometry t.units t.groups
    → ForSome (home t k) (λ q. KeepsOldest (oldest_in t q.group) k n) → changed ≡ None
kept_still t k n ok index o None former same needed before keeps = refl
kept_still t k n ok index o (Some q) former same needed before keeps =
    let at : home t k ≡ Some q = sym former ∙ same in
    let inside : q.group < length t.groups = there_group t.groups q k (ok.agree.to_slot k q at) in
    let leaf : get_or index q.group nothing ≡ choices_of t.geometry t.units q.group (group_in t.groups q.group) =
    ap (λ l. get_or l q.group nothing) before ∙ leaf_of t.geometry t.units t.groups q.group inside in
    absurd (needed
    (subst (λ x. KeepsOldest x k n) (sym (ap (λ c. c.oldest) leaf ∙ oldest_chosen t q.group q.group)) (keeps q at)))

-- a group that isn't mirrored has no oldest block among its choices
no_oldest : (g : Geometry) (units : List (Addr × UnitTableState)) (n : ℕ) (x : GroupState)
    → x.class ≢ Mirrored → (choices_of g units n x).oldest ≡ None
no_oldest g units n x other = grind (arith)

-- of a group's choices no other than the oldest block has to do with the units
oldest_alone : (g : Geometry) (units new : List (Addr × UnitTableState)) (n : ℕ) (x : GroupState)
    → with_oldest (choices_of g units n x) (oldest_of new x) ≡ choices_of g new n x
oldest_alone g units new n x = grind (arith)

-- a block that isn't at the mirrored level gets a stamp: no slot of the group of its home is looked at for that
pub unlooked_still : (t : Tables) (k : Key) (ok : TablesAgree t)
    (index : TreeState) (o changed : Option Slot) → o ≡ home t k → IfSome changed (λ q. o ≡ Some q)
    → leaves index ≡ leaves_of t.geometry t.units t.groups → level t k ≢ MirroredLevel
    → ForSome changed (λ q. HasNoOldest t.groups index q.group)
unlooked_still t k ok index o changed former same before low q e =
    let at : home t k ≡ Some q = sym former ∙ changed_home o changed same q e in
    let inside : q.group < length t.groups = there_group t.groups q k (ok.agree.to_slot k q at) in
    let other : (group_in t.groups q.group).class ≢ Mirrored = λ is. low (ap (level_in t.groups) at ∙ ap level_of is) in
    record {
      class = other;
      none = ap (λ l. (get_or l q.group nothing).oldest) before
          ∙ ap (λ c. c.oldest) (leaf_of t.geometry t.units t.groups q.group inside)
          ∙ no_oldest t.geometry t.units q.group (group_in t.groups q.group) other;
    }

-- a block has another stamp
module _ (t : Tables) (k : Key) (n : ℕ) (ok : TablesAgree t) (block : HasBlock t k) where
  abbrev units : List (Addr × UnitTableState)
  units = restamped t.units k n

  other_age : (j : Key) → j ≢ k → age_of units j ≡ age_of t.units j
  other_age j ne =
      let u = unit_in t.units k.addr in
      let new : UnitTableState = record u { stamps = set u.stamps k.rb n } in
      let there = has_by_block t.units k.addr k.rb block in
      same_age t.units units j
      (elim (addr_tells k.addr j.addr) [
        | inl e ↦
            ap (λ a. get_or (unit_in units a).stamps j.rb 0) (sym e.1)
            ∙ ap (λ x. get_or x.stamps j.rb 0) (unit_same t.units k.addr new there)
            ∙ get_or-set_other u.stamps k.rb j.rb n 0 (λ q. ne (make_key j k (sym e.1) q))
            ∙ ap (λ a. get_or (unit_in t.units a).stamps j.rb 0) e.1
        | inr d ↦ ap (λ x. get_or x.stamps j.rb 0) (unit_other t.units k.addr new there j.addr d.1)
      ])

  same_places : place_in units ≡ place_in t.units
  same_places = grind (arith, keys-set_value)

  -- a group that is not its home's has the choices that it had
  elsewhere : (i : ℕ) → ((q : Slot) → home t k ≡ Some q → i ≢ q.group)
      → choices_of t.geometry units i (group_in t.groups i) ≡ choices_of t.geometry t.units i (group_in t.groups i)
  elsewhere i apart =
      ap (λ (p : Addr → ℕ). choices_in t.geometry p (age_of units) i (group_in t.groups i)) same_places
      ∙ same_choices t.geometry (place_in t.units) (age_of units) (age_of t.units) i (group_in t.groups i)
      (λ j x e. other_age x
      (λ same. apart (record { group = i; slot = j })
      (ok.agree.to_home k (record { group = i; slot = j }) (e ∙ ap Some same)) refl))

  pub stamped_leaves : (index now : List Choices) (o : Option Slot) → o ≡ home t k
      → index ≡ leaves_of t.geometry t.units t.groups
      → MatchOption o (now ≡ index) (λ q. now
      ≡ set index q.group (choices_of t.geometry units q.group (group_in t.groups q.group)))
      → now ≡ leaves_of t.geometry units t.groups
  stamped_leaves index now None former before e =
      e ∙ before
      ∙ sym (ap (λ (p : Addr → ℕ). leaves_from t.geometry p (age_of units) 0 t.groups) same_places
      ∙ same_leaves t.geometry (place_in t.units) (age_of units) (age_of t.units) 0 t.groups
      (λ i j x at. other_age x
      (λ same. none-some (record { group = i; slot = j }) (former
      ∙ ok.agree.to_home k (record { group = i; slot = j }) (at ∙ ap Some same)))))
  stamped_leaves index now (Some q) former before e =
      let inside : q.group < length t.groups = there_group t.groups q k (ok.agree.to_slot k q (sym former)) in
      let old : List Choices = leaves_of t.geometry t.units t.groups in
      let new : List Choices = leaves_of t.geometry units t.groups in
      let c : Choices = choices_of t.geometry units q.group (group_in t.groups q.group) in
      let size : length (set old q.group c) ≡ length t.groups =
      length-set old q.group c ∙ leaves_length t.geometry (place_in t.units) (age_of t.units) 0 t.groups in
      let only : (i : ℕ) → i ≢ q.group → (r : Slot) → home t k ≡ Some r → i ≢ r.group =
      λ i ne r at same. ne (same ∙ ap (λ x. x.group) (same_Some r q (sym at ∙ sym former))) in
      e ∙ ap (λ l. set l q.group c) before
      ∙ ext_get_or nothing (set old q.group c) new (size
      ∙ sym (leaves_length t.geometry (place_in units) (age_of units) 0 t.groups))
      (λ i h. elim (cases_eq i q.group) [
        | inl same ↦
            ap (λ x. get_or (set old q.group c) x nothing) same
            ∙ get_or-set_same old q.group c nothing
            (omega (arith, leaves_length t.geometry (place_in t.units) (age_of t.units) 0 t.groups))
            ∙ sym (leaf_of t.geometry units t.groups q.group inside) ∙ ap (λ x. get_or new x nothing) (sym same)
        | inr ne ↦
            get_or-set_other old q.group i c nothing ne ∙ leaf_of t.geometry t.units t.groups i (omega arith)
            ∙ sym (elsewhere i (only i ne)) ∙ sym (leaf_of t.geometry units t.groups i (omega arith))
      ])

  stamps : TablesAgree t → (age_of units k).stamp ≡ n
  stamps agree = grind (arith, unit_same, has_by_block, get_or-set_same, stamps_long)

  -- a group keeps its choices where another of its blocks is the oldest and stays so
  kept_choices : (i : ℕ) → KeepsOldest (choices_of t.geometry t.units i (group_in t.groups i)).oldest k n
      → choices_of t.geometry units i (group_in t.groups i) ≡ choices_of t.geometry t.units i (group_in t.groups i)
  kept_choices i keeps =
      ap (λ (p : Addr → ℕ). choices_in t.geometry p (age_of units) i (group_in t.groups i)) same_places
      ∙ stay_chosen (place_in t.units) (age_of t.units) (age_of units) k keeps.oldest keeps.other
      (later_stamp (place_in t.units) keeps.oldest (age_of units k)
      (subst (λ m. keeps.oldest.stamp < m) (sym (stamps ok)) keeps.older)) other_age (λ j. refl) t.geometry i
      (group_in t.groups i) keeps.is

  -- the tree, where it was refreshed for a home that may have changed
  pub restamped_leaves : (index now : List Choices) (o changed : Option Slot) → o ≡ home t k
      → IfSome changed (λ q. o ≡ Some q)
      → IfNone changed (ForSome o (λ q. KeepsOldest (get_or index q.group nothing).oldest k n))
      → index ≡ leaves_of t.geometry t.units t.groups
      → MatchOption changed (now ≡ index) (λ q. now
      ≡ set index q.group (with_oldest (get_or index q.group nothing) (oldest_of units (group_in t.groups q.group))))
      → now ≡ leaves_of t.geometry units t.groups
  restamped_leaves index now o (Some q) former same stays before e =
      let inside : q.group < length t.groups = there_group t.groups q k (ok.agree.to_slot k q (sym former ∙ same)) in
      let leaf : get_or index q.group nothing ≡ choices_of t.geometry t.units q.group (group_in t.groups q.group) =
      ap (λ l. get_or l q.group nothing) before ∙ leaf_of t.geometry t.units t.groups q.group inside in
      stamped_leaves index now (Some q) (sym same ∙ former) before
      (e ∙ ap (λ c. set index q.group (with_oldest c (oldest_of units (group_in t.groups q.group)))) leaf
      ∙ ap (set index q.group) (oldest_alone t.geometry t.units units q.group (group_in t.groups q.group)))
  restamped_leaves index now None None former same stays before e = stamped_leaves index now None former before e
  restamped_leaves index now (Some q) None former same stays before e =
      let inside : q.group < length t.groups = there_group t.groups q k (ok.agree.to_slot k q (sym former)) in
      let leaf : get_or index q.group nothing ≡ choices_of t.geometry t.units q.group (group_in t.groups q.group) =
      ap (λ l. get_or l q.group nothing) before ∙ leaf_of t.geometry t.units t.groups q.group inside in
      let kept = kept_choices q.group (subst (λ c. KeepsOldest c.oldest k n) leaf (stays q refl)) in
      stamped_leaves index now (Some q) former before (e
      ∙ sym (ap (set index q.group) (kept ∙ sym leaf) ∙ set-get_or index q.group nothing))

-- a group gets a class
pub opened_leaves : (t : Tables) (g : ℕ) (c : Class) (new : List GroupState) (index now : List Choices)
    → g < length t.groups → new ≡ (opened t g c).groups
    → index ≡ leaves_of t.geometry t.units t.groups
    → now ≡ set index g (choices_of t.geometry t.units g (group_in new g)) → now ≡ leaves_of t.geometry t.units new
opened_leaves t g c new index now inside put before e =
    refreshed t.geometry t.units t.groups new index now g (record (group_in t.groups g) { class = c }) inside before put
    e

-- the steps of a refresh of a home's group
pub few_home : (g : Geometry) (gs : List GroupState) (before after : ℕ) (o : Option Slot)
    → (ForSome o (λ q. length (group_in gs q.group).slots ≡ 3 * rows_of g))
    → MatchOption o (after ≡ before) (λ q. after ≤ before + (length (group_in gs q.group).slots + 12))
    → after ≤ before + (3 * rows_of g + 12)
few_home g gs before after None long e = omega arith
few_home g gs before after (Some q) long e = let l = long q refl in omega arith

-- each group has the slots that it had
pub vacated_long : (g : Geometry) (gs : List GroupState) (o : Option Slot) → ForSome o (λ q. q.group < length gs)
    → ((i : ℕ) → i < length gs → length (group_in gs i).slots ≡ 3 * rows_of g)
    → (i : ℕ) → i < length gs → length (group_in (vacated gs o) i).slots ≡ 3 * rows_of g
vacated_long g gs None there long i h = long i h
vacated_long g gs (Some q) there long i h = vacated_shape gs q (there q refl) i ∙ long i h

pub named_long : (g : Geometry) (gs : List GroupState) (s : Slot) (k : Key) → s.group < length gs
    → ((i : ℕ) → i < length gs → length (group_in gs i).slots ≡ 3 * rows_of g)
    → (i : ℕ) → i < length gs → length (group_in (named gs s k) i).slots ≡ 3 * rows_of g
named_long g gs s k inside long i h = named_shape gs s k inside i ∙ long i h

-- as many groups stay where slots are vacated
pub vacated_all_size : (homes : List (Option Slot)) (gs : List GroupState) → length (fold vacated gs homes) ≡ length gs
vacated_all_size [] gs = refl
vacated_all_size (o ∷ homes) gs = vacated_all_size homes (vacated gs o) ∙ vacated_size gs o
