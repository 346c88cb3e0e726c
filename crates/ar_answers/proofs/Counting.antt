-- Blocks that are counted at the groups of their homes, and the units that are listed.
use Rattle.std.proofs.Common.{◌≡◌, ◌≢◌, inl, inr, ◌∙◌, refl, sym, ap, subst, ℕ, ◌+◌, ◌*◌, ◌/◌, ◌%◌, ◌<◌, ◌≤◌, Bool}
use Rattle.std.proofs.Common.{true, false, not, if◌then◌else◌, leb, eqb, List, [], ◌∷◌, ◌++◌, length, get_or, set, take}
use Rattle.std.proofs.Common.{map, replicate, Option, Some, None, is_some, unwrap_or, count_by, arith, eq-eqb}
use Rattle.std.proofs.Common.{length-set, length-take-le, take_all, true≢false, leb-true}
use Rattle.std.specs.List.{range_with_len, filter_map, cons_option}
use Rattle.std.specs.Option.{option_to_list}
use Rattle.std.specs.Map.{lookup}
use Rattle.std.proofs.Math.ListN.{get_or-eq_default}
use Rattle.std.proofs.lemmas.Bool.{cases_lt, cases_eq, leb-false}
use Rattle.std.proofs.lemmas.Grind.{common_steps}
use Rattle.std.proofs.lemmas.List.{get_or-set_same, get_or-set_other, get_or-replicate, length-replicate}
use Rattle.std.proofs.lemmas.List.Elements.{filter_map-append}
use Rattle.std.proofs.lemmas.List.FromFn.{map-range_with_len_more}
use Rattle.std.proofs.lemmas.List.Sums.{count_by_more_yes, count_by_more_no, count_by-le-length}
use Rattle.ar_disks.specs.declared.address.Addr.{Addr}
use Rattle.ar_disks.specs.Addresses.{same_addr}
use Rattle.ar_disks.proofs.Addresses.{same_host, make_addr}
use Rattle.ar_book.specs.declared.class.Slot.{Slot}
use Rattle.ar_disks.specs.declared.geometry.Geometry.{Geometry}
use Rattle.ar_disks.specs.declared.geometry.Geometry.TheVariants.{Paper, Small}
use Rattle.ar_book.specs.Book.{TablesAgree}
use Rattle.ar_book.specs.Tables.{Tables, UnitTableState, no_unit, has_unit, home, placed, unit_in, blocks_of}
use Rattle.ar_book.proofs.Padding.{get_replicate}
use Rattle.ar_book.proofs.PlaceLemmas.{unit_whole}
use Rattle.ar_core.specs.declared.views.HomeOf.{HomeOf}
use Rattle.ar_core.specs.declared.views.HomeOf.TheVariants.{Absent, Outside, Unplaced, At}
use Rattle.ar_core.specs.Views.{home_of, home_shown}
use Rattle.ar_volume.specs.Sectors.{key_of}
use Rattle.ar_picture.specs.declared.picture.Held.{Held}
use Rattle.ar_picture.specs.declared.picture.Unit.{Unit as PictureUnit}
use Rattle.ar_answers.specs.Pictures.{unit_at, units_below, addr_at, is_in, blocks_in, address_index, held_at, AddsOne}
use Rattle.ar_answers.specs.Pictures.{AddsHomes, HoldsBlocks}

abbrev pub no_held : Held
no_held = record { blocks = [] }

-- one more at one place of one group
pub added : (held : List Held) (group place : ℕ) (now : Held) → group < length held
    → get_or now.blocks place 0 ≡ held_at held group place + 1
    → ((other : ℕ) → other ≢ place → get_or now.blocks other 0 ≡ held_at held group other)
    → AddsOne group place held (set held group now)
added held group place now there one others = record {
  groups = length-set held group now;
  one = λ _. ap (λ (h : Held). get_or h.blocks place 0) (get_or-set_same held group now (record { blocks = [] }) there)
      ∙ one;
  other_groups =
      λ other at ne. ap (λ (h : Held). get_or h.blocks at 0)
      (get_or-set_other held group other now (record { blocks = [] }) ne);
  other_places =
      λ at ne. ap (λ (h : Held). get_or h.blocks at 0) (get_or-set_same held group now (record { blocks = [] }) there)
      ∙ others at ne;
}

-- a block without a home is counted nowhere
pub counted_none : (homes : List (Option Slot)) (rb place : ℕ) (old new : List Held)
    → AddsHomes (take rb homes) place old new → rb < length homes
    → get_or homes rb None ≡ None → AddsHomes (take (rb + 1) homes) place old new
counted_none homes rb place old new adds there none = record {
  groups = adds.groups;
  counted = λ group in_groups.
      adds.counted group in_groups
      ∙ ap (λ n. held_at old group place + n)
      (sym (count_by_more_no (is_in group) homes rb None there (ap (is_in group) none)));
  other_places = adds.other_places;
}

-- a block with a home is counted at its group
pub counted_one : (homes : List (Option Slot)) (rb place : ℕ) (slot : Slot) (old mid new : List Held)
    → AddsHomes (take rb homes) place old mid → rb < length homes
    → get_or homes rb None ≡ Some slot → AddsOne slot.group place mid new
    → AddsHomes (take (rb + 1) homes) place old new
counted_one homes rb place slot old mid new adds there some one = record {
  groups = one.groups ∙ adds.groups;
  counted = counted;
  other_places = other_places;
}
  where
    counted : (group : ℕ) → group < length old → held_at new group place
        ≡ held_at old group place + count_by (is_in group) (take (rb + 1) homes)
    counted group in_groups =
        let before = adds.counted group in_groups in
        elim (cases_eq group slot.group) [
          | inl e ↦
              let more = count_by_more_yes (is_in group) homes rb None there (ap (is_in group) some
              ∙ eq-eqb slot.group group (sym e)) in
              let in_mid : slot.group < length mid = (let same = adds.groups in omega arith) in
              let now : held_at new group place ≡ held_at mid group place + 1 =
              subst (λ g. held_at new g place ≡ held_at mid g place + 1) (sym e) (one.one in_mid) in
              omega arith
          | inr ne ↦
              let more = count_by_more_no (is_in group) homes rb None there (ap (is_in group) some
              ∙ apart slot.group group (λ e. ne (sym e))) in
              let now = one.other_groups group place ne in
              omega arith
        ]
      where
        apart : (a b : ℕ) → a ≢ b → eqb a b ≡ false
        apart a b ne = grind (arith, common_steps)

    other_places : (group at : ℕ) → at ≢ place → held_at new group at ≡ held_at old group at
    other_places group at ne =
        elim (cases_eq group slot.group) [
          | inl e ↦ subst (λ g. held_at new g at ≡ held_at mid g at) (sym e) (one.other_places at ne)
              ∙ adds.other_places group at ne
          | inr other ↦ one.other_groups group at other ∙ adds.other_places group at ne
        ]

-- the units at one more place
pub listed_more : (t : Tables) (place : ℕ) → units_below t (place + 1)
    ≡ units_below t place ++ option_to_list (unit_at t (addr_at place))
unfolding units_below
listed_more t place =
    ap (λ l. filter_map (unit_at t) l) (map-range_with_len_more addr_at 0 place place (omega arith))
    ∙ filter_map-append (unit_at t) (map addr_at (range_with_len 0 place)) (addr_at place ∷ [])
    ∙ ap (λ l. units_below t place ++ l) (single (unit_at t (addr_at place)))
  where
    single : (o : Option PictureUnit) → cons_option o [] ≡ option_to_list o
    single None = refl
    single (Some u) = refl

-- The first blocks of a unit were counted, with those of them that have a home.
pub record Counts (homes : List (Option Slot)) (place rb placed : ℕ) (old new : List Held) : Type 0 where
  pub within : rb ≤ length homes
  pub homed : placed ≡ count_by is_some (take rb homes)
  pub adds : AddsHomes (take rb homes) place old new

pub counts_none : (homes : List (Option Slot)) (place : ℕ) (held : List Held) → Counts homes place 0 0 held held
counts_none homes place held = record {
  within = omega arith;
  homed = refl;
  adds = record { groups = refl; counted = λ group there. omega arith; other_places = λ group at ne. refl };
}

pub counts_unplaced : (homes : List (Option Slot)) (place rb placed : ℕ) (old new : List Held)
    → Counts homes place rb placed old new → rb < length homes
    → get_or homes rb None ≡ None → Counts homes place (rb + 1) placed old new
counts_unplaced homes place rb placed old new counts there none = record {
  within = omega arith;
  homed = counts.homed ∙ sym (count_by_more_no is_some homes rb None there (ap is_some none));
  adds = counted_none homes rb place old new counts.adds there none;
}

pub counts_placed : (homes : List (Option Slot)) (place rb placed : ℕ) (slot : Slot) (old mid new : List Held)
    → Counts homes place rb placed old mid → rb < length homes
    → get_or homes rb None ≡ Some slot → AddsOne slot.group place mid new
    → Counts homes place (rb + 1) (placed + 1) old new
counts_placed homes place rb placed slot old mid new counts there some one = record {
  within = omega arith;
  homed = ap (λ (n : ℕ). n + 1) counts.homed ∙ sym (count_by_more_yes is_some homes rb None there (ap is_some some));
  adds = counted_one homes rb place slot old mid new counts.adds there some one;
}

-- no more blocks are counted than there are
pub counts_few : (homes : List (Option Slot)) (place rb placed group : ℕ) (old new : List Held)
    → Counts homes place rb placed old new
    → ((group : ℕ) → held_at old group place ≡ 0) → group < length old → held_at new group place ≤ rb
counts_few homes place rb placed group old new counts fresh there =
    let all = counts.adds.counted group there in
    let none = fresh group in
    let few = count_by-le-length (is_in group) (take rb homes) in
    let many = length-take-le rb homes counts.within in
    omega arith

-- all blocks were counted
pub counts_all : (homes : List (Option Slot)) (place rb placed : ℕ) (old new : List Held)
    → Counts homes place rb placed old new → length homes ≤ rb
    → (rb ≡ length homes) × (placed ≡ count_by is_some homes) × AddsHomes homes place old new
counts_all homes place rb placed old new counts over =
    let all : take rb homes ≡ homes = take_all rb homes over in
    let within = counts.within in (
      omega arith,
      counts.homed ∙ ap (λ l. count_by is_some l) all,
      subst (λ l. AddsHomes l place old new) all counts.adds,
    )

-- which answer it is, and the slot of one that has a home
abbrev pub kind : HomeOf → ℕ
kind Absent = 0
kind Outside = 1
kind Unplaced = 2
kind (At slot) = 3

abbrev pub slot_in : HomeOf → Option Slot
slot_in Absent = None
slot_in Outside = None
slot_in Unplaced = None
slot_in (At slot) = Some slot

abbrev pub shown_by : Bool → Bool → Option Slot → HomeOf
shown_by has past at = if not has then Absent else if past then Outside else home_shown at

kind_shown : (at : Option Slot) → 2 ≤ kind (home_shown at)
kind_shown None = omega arith
kind_shown (Some slot) = omega arith

slot_shown : (at : Option Slot) → slot_in (home_shown at) ≡ at
slot_shown None = refl
slot_shown (Some slot) = refl

reported_absent : (has past : Bool) (at : Option Slot) → kind (shown_by has past at) ≡ 0 → has ≡ false
reported_absent false past at e = refl
reported_absent true true at e = absurd (let k : 1 ≡ 0 = e in omega arith)
reported_absent true false at e = absurd (let k = kind_shown at in let n : kind (home_shown at) ≡ 0 = e in omega arith)

reported_outside : (has past : Bool) (at : Option Slot) → kind (shown_by has past at) ≡ 1 → (has ≡ true) × (past ≡ true)
reported_outside false past at e = absurd (let k : 0 ≡ 1 = e in omega arith)
reported_outside true true at e = (refl, refl)
reported_outside true false at e = absurd (let k = kind_shown at in let n : kind (home_shown at) ≡ 1 = e in omega arith)

reported_inside : (has past : Bool) (at : Option Slot) → 2 ≤ kind (shown_by has past at)
    → (past ≡ false) × (slot_in (shown_by has past at) ≡ at)
reported_inside false past at e = absurd (let k : 2 ≤ 0 = e in omega arith)
reported_inside true true at e = absurd (let k : 2 ≤ 1 = e in omega arith)
reported_inside true false at e = (refl, slot_shown at)

no_homes : (o : Option UnitTableState) → is_some o ≡ false → length (unwrap_or o no_unit).homes ≡ 0
no_homes None e = refl
no_homes (Some u) e = absurd (true≢false e)

-- where there is no unit there is no block
pub absent_empty : (t : Tables) (a : Addr) (rb : ℕ) → Absent ≡ home_of t a rb
    → (has_unit t a ≡ false) × (length (unit_in t.units a).homes ≡ 0)
absent_empty t a rb e =
    let none = reported_absent (has_unit t a) (leb (length (unit_in t.units a).homes) rb) (home t (key_of a rb))
    (sym (ap kind e)) in
    (none, no_homes (lookup (same_addr a) t.units) none)

pub outside_over : (t : Tables) (a : Addr) (rb : ℕ) → Outside ≡ home_of t a rb
    → (has_unit t a ≡ true) × (length (unit_in t.units a).homes ≤ rb)
outside_over t a rb e =
    let reported = reported_outside (has_unit t a) (leb (length (unit_in t.units a).homes) rb) (home t (key_of a rb))
    (sym (ap kind e)) in
    (reported.0, leb-true (length (unit_in t.units a).homes) rb reported.1)

pub unplaced_inside : (t : Tables) (a : Addr) (rb : ℕ) → Unplaced ≡ home_of t a rb
    → (rb < length (unit_in t.units a).homes) × (get_or (unit_in t.units a).homes rb None ≡ None)
unplaced_inside t a rb e =
    let reported = reported_inside (has_unit t a) (leb (length (unit_in t.units a).homes) rb) (home t (key_of a rb))
    (subst (λ x. 2 ≤ kind x) e (omega arith)) in
    (leb-false (length (unit_in t.units a).homes) rb reported.0, sym reported.1 ∙ sym (ap slot_in e))

pub placed_inside : (t : Tables) (a : Addr) (rb : ℕ) (slot : Slot) → At slot ≡ home_of t a rb
    → (rb < length (unit_in t.units a).homes) × (get_or (unit_in t.units a).homes rb None ≡ Some slot)
placed_inside t a rb slot e =
    let reported = reported_inside (has_unit t a) (leb (length (unit_in t.units a).homes) rb) (home t (key_of a rb))
    (subst (λ x. 2 ≤ kind x) e (omega arith)) in
    (leb-false (length (unit_in t.units a).homes) rb reported.0, sym reported.1 ∙ sym (ap slot_in e))

picked : {X : Type 0} (b : Bool) → b ≡ true → (x : Option X) → (if b then x else None) ≡ x
picked true e x = refl
picked false e x = absurd (true≢false (sym e))

pub shown_is : (t : Tables) (a : Addr) (rb n : ℕ) → has_unit t a ≡ true → rb ≡ length (unit_in t.units a).homes
    → n ≡ count_by is_some (unit_in t.units a).homes
    → Some (record { host = a.host.number; lun = a.lun; blocks = rb; placed = n }) ≡ unit_at t a
shown_is t a rb n has all homed =
    (λ j. Some (record { host = a.host.number; lun = a.lun; blocks = all j; placed = homed j }))
    ∙ sym (picked (has_unit t a) has _)

few_blocks : (g : Geometry) (n : ℕ) → n ≤ 1048576 → blocks_of g n ≤ 1048576
few_blocks Paper n h = omega arith
few_blocks Small n h = omega arith

-- a unit has no more blocks than sectors may be
pub homes_few : (t : Tables) (a : Addr) → TablesAgree t → length (unit_in t.units a).homes ≤ 1048576
homes_few t a ok = by (has_unit t a) refl
  where
    by : (b : Bool) → has_unit t a ≡ b → length (unit_in t.units a).homes ≤ 1048576
    by false none = let all = no_homes (lookup (same_addr a) t.units) none in omega arith
    by true there =
        let whole = unit_whole t.geometry t.units a ok.units there in
        let few = few_blocks t.geometry (unit_in t.units a).sectors whole.few in
        let many = whole.homes in
        omega arith

-- no more blocks with a home than blocks
pub homed_few : (homes : List (Option Slot)) (place rb placed : ℕ) (old new : List Held)
    → Counts homes place rb placed old new → placed ≤ rb
homed_few homes place rb placed old new counts =
    let homed = counts.homed in
    let few = count_by-le-length is_some (take rb homes) in
    let many = length-take-le rb homes counts.within in
    omega arith

pub held_few : (homes : List (Option Slot)) (place rb placed group : ℕ) (old new : List Held)
    → Counts homes place rb placed old new
    → ((group : ℕ) → held_at old group place ≡ 0) → held_at new group place ≤ rb
held_few homes place rb placed group old new counts fresh =
    elim (cases_lt group (length old)) [
      | inl there ↦ counts_few homes place rb placed group old new counts fresh there
      | inr past ↦
          let same = counts.adds.groups in
          let gone : held_at new group place ≡ 0 =
          ap (λ (h : Held). get_or h.blocks place 0) (get_or-eq_default new no_held (omega arith)) in
          omega arith
    ]

-- The units at the first places are listed, and their blocks counted; no others are.
pub record Listed (t : Tables) (place : ℕ) (units : List PictureUnit) (held : List Held) : Type 0 where
  pub units_are : units ≡ units_below t place
  pub groups_are : length held ≡ length t.groups
  pub before : (group at : ℕ) → at < place → group < length t.groups
      → held_at held group at ≡ blocks_in t group (addr_at at)
  pub after : (group at : ℕ) → place ≤ at → held_at held group at ≡ 0

pub listed_none : (t : Tables) (units : List PictureUnit) (held : List Held) → units ≡ []
    → length held ≡ length t.groups
    → ((group place : ℕ) → held_at held group place ≡ 0) → Listed t 0 units held
unfolding units_below
listed_none t units held none groups fresh = record {
  units_are = none;
  groups_are = groups;
  before = λ group at less there. absurd (let below : at < 0 = less in omega arith);
  after = λ group at past. fresh group at;
}

pub listed_next : (t : Tables) (place : ℕ) (units now : List PictureUnit) (unit : Option PictureUnit)
    (held new : List Held) → Listed t place units held
    → unit ≡ unit_at t (addr_at place) → now ≡ units ++ option_to_list unit
    → AddsHomes (unit_in t.units (addr_at place)).homes place held new → Listed t (place + 1) now new
listed_next t place units now unit held new listed is more adds = record {
  units_are = more ∙ ap (λ l. l ++ option_to_list unit) listed.units_are
      ∙ ap (λ u. units_below t place ++ option_to_list u) is ∙ sym (listed_more t place);
  groups_are = adds.groups ∙ listed.groups_are;
  before = before;
  after = λ group at past. adds.other_places group at (λ e. let same : at ≡ place = e in absurd (omega arith))
      ∙ listed.after group at (omega arith);
}
  where
    before : (group at : ℕ) → at < place + 1 → group < length t.groups
        → held_at new group at ≡ blocks_in t group (addr_at at)
    before group at less there =
        elim (cases_eq at place) [
          | inl e ↦ subst (λ p. held_at new group p ≡ blocks_in t group (addr_at p)) (sym e) here
          | inr ne ↦ adds.other_places group at ne ∙ listed.before group at (below ne) there
        ]
      where
        here : held_at new group place ≡ blocks_in t group (addr_at place)
        here =
            let same = listed.groups_are in
            let none = listed.after group place (omega arith) in
            let counted = adds.counted group (omega arith) in
            omega arith

        below : at ≢ place → at < place
        below ne = grind (arith, common_steps)

-- all places are those of the units that there can be
pub listed_all : (t : Tables) (place : ℕ) (units : List PictureUnit) (held : List Held) → Listed t place units held
    → place ≡ 32
    → (units ≡ units_below t 32) × HoldsBlocks t held
listed_all t place units held listed all =
    (listed.units_are ∙ ap (units_below t) all, record { groups = listed.groups_are; blocks = blocks })
  where
    blocks : (group : ℕ) (addr : Addr) → group < length t.groups → addr.lun < 8
        → held_at held group (address_index addr) ≡ blocks_in t group addr
    blocks group addr there small =
        let host = addr.host.in_range in
        let below : address_index addr < place = omega arith in
        listed.before group (address_index addr) below there ∙ ap (blocks_in t group) (back addr small)
      where
        back : (addr : Addr) → addr.lun < 8 → addr_at (address_index addr) ≡ addr
        back addr small =
            let host = addr.host.in_range in
            let number : (8 * addr.host.number + addr.lun) / 8 % 4 ≡ addr.host.number = omega arith in
            let lun : (8 * addr.host.number + addr.lun) % 8 ≡ addr.lun = omega arith in
            make_addr (addr_at (address_index addr)) addr
            (same_host (addr_at (address_index addr)).host addr.host number) lun

abbrev pub nothing : Held
nothing = record { blocks = replicate 32 0 }

-- before anything is counted every count is zero
pub fresh_of : (n group place : ℕ) → held_at (replicate n nothing) group place ≡ 0
fresh_of n group place =
    elim (cases_lt group n) [
      | inl there ↦ ap (λ (h : Held). get_or h.blocks place 0) (get_or-replicate n group nothing no_held there)
          ∙ get_replicate 32 place 0
      | inr past ↦
          let many = length-replicate n nothing in
          ap (λ (h : Held). get_or h.blocks place 0) (get_or-eq_default (replicate n nothing) no_held (omega arith))
    ]
