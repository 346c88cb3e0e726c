-- Cleaning leaves less to be cleaned.
use Rattle.std.proofs.Common.{◌≡◌, ◌≢◌, ◌⊎◌, ℕ, ◌<◌, ◌≤◌, ◌+◌, ◌*◌, cond, if◌then◌else◌, Option, None, Some, is_some}
use Rattle.std.proofs.Common.{List, length, get_or, set, get_or-set_other, sum_by, count_by, sym, ap, subst, ◌∙◌, inl}
use Rattle.std.proofs.Common.{inr, arith, true≢false}
use Rattle.std.proofs.lemmas.Bool.{cases_lt}
use Rattle.std.proofs.lemmas.Bool.Decides.{eqb_tells}
use Rattle.std.proofs.lemmas.List.Sums.{sum_by-set}
use Rattle.ar_disks.specs.Geometry.{rows_of}
use Rattle.ar_disks.specs.declared.address.Key.{Key}
use Rattle.ar_book.specs.declared.class.Class.{Class}
use Rattle.ar_book.specs.declared.class.Class.TheVariants.{Free, Mirrored, Parity}
use Rattle.ar_book.specs.declared.class.Slot.{Slot}
use Rattle.ar_book.specs.Tables.{GroupState, Tables, is_free, no_group, group_in, class_of, home, slots_of, used}
use Rattle.ar_book.specs.Changes.{with_key, with_hole, freed, named, vacated, assigned}
use Rattle.ar_book.specs.Book.{TablesAgree}
use Rattle.ar_book.specs.Cleaning.{IsInUse}
use Rattle.ar_book.proofs.GroupLemmas.{put_other, named_size}
use Rattle.ar_book.proofs.PlaceLemmas.{slots_within}
use Rattle.ar_book.proofs.Homes.{key_home, key_slot}
use Rattle.ar_book.proofs.CleaningLemmas.{count_at_most, slots_few, used_within, can_be_emptied, holes_enough}
use Rattle.ar_moves.specs.Cleaning.{NamesCleaningOf, NamesCleaning, Cleans, work_in, work_of, cleaning_left}
use Rattle.ar_moves.proofs.Work.{work_open, work_after, work_falls}

-- a group's part
part : GroupState → ℕ
part g = work_of g.class (used g)

one_if : Option Key → ℕ
one_if o = cond (is_some o) 1 0

-- a slot that named nothing names a block
used_more : (x : GroupState) (i : ℕ) (k : Key) → i < length x.slots → get_or x.slots i None ≡ None
    → used (with_key x i k) ≡ used x + 1
unfolding one_if
used_more x i k inside empty =
    let all : count_by is_some (set x.slots i (Some k)) + one_if (get_or x.slots i None)
    ≡ count_by is_some x.slots + 1 = sum_by-set one_if x.slots i (Some k) None inside in
    let none : one_if (get_or x.slots i None) ≡ 0 = ap one_if empty in
    omega arith

-- one that named a block names nothing
used_less : (x : GroupState) (i : ℕ) (k : Key) → i < length x.slots → get_or x.slots i None ≡ Some k
    → used (record x { slots = set x.slots i None }) + 1 ≡ used x
unfolding one_if
used_less x i k inside names =
    let all : count_by is_some (set x.slots i None) + one_if (get_or x.slots i None) ≡ count_by is_some x.slots + 0 =
    sum_by-set one_if x.slots i None None inside in
    let one : one_if (get_or x.slots i None) ≡ 1 = ap one_if names in
    omega arith

-- and the group is free where no slot is left
part_freed : (x : GroupState) → x.class ≢ Free → part (freed x) ≡ work_after (used x)
unfolding part work_after
part_freed x taken_up = elim (eqb_tells (used x) 0) [
  | inl none ↦
      let is : freed x ≡ record x { class = Free } = ap (λ b. if b then record x { class = Free } else x) none.0 in
      ap (λ (y : GroupState). work_of y.class (used y)) is ∙ sym (ap (λ b. if b then 0 else work_in (used x)) none.0)
  | inr some ↦
      let is : freed x ≡ x = ap (λ b. if b then record x { class = Free } else x) some.0 in
      ap (λ (y : GroupState). work_of y.class (used y)) is ∙ work_open x.class (used x) taken_up
      ∙ sym (ap (λ b. if b then 0 else work_in (used x)) some.0)
]

module _ (t : Tables) (ok : TablesAgree t) (c : Class) (taken_up : c ≢ Free) (key : Key) (to : Slot)
    (names : NamesCleaningOf t c key to) where
  from : Slot
  from = record { group = names.group; slot = names.first.slot }

  source : GroupState
  source = group_in t.groups names.group

  target : GroupState
  target = group_in t.groups to.group

  -- the block's slot, and how many the groups have
  from_inside : (names.group < length t.groups) × (names.first.slot < length source.slots)
  unfolding from source
  from_inside =
      let there = key_slot t ok from key names.first.names in
      let long : length (group_in t.groups names.group).slots ≡ 3 * rows_of t.geometry =
      ok.groups.long names.group there.0 in
      let most : slots_of t.geometry (class_of t names.group) ≤ 3 * rows_of t.geometry =
      slots_within t.geometry (class_of t names.group) in
      (there.0, omega (arith, there.1))

  to_inside : to.slot < length target.slots
  unfolding target
  to_inside =
      let hole = names.hole.found.hole in
      let long : length (group_in t.groups to.group).slots ≡ 3 * rows_of t.geometry =
      ok.groups.long to.group hole.group in
      let most : slots_of t.geometry c ≤ 3 * rows_of t.geometry = slots_within t.geometry c in
      omega (arith, hole.slot)

  -- the other group has no block yet, or no fewer
  order : (used target ≡ 0) ⊎ (used source ≤ used target)
  unfolding target source
  order = elim (cases_lt 0 (used target)) [
    | inl some ↦
        let hole = names.hole.found.hole in
        let in_use : IsInUse t c to.group = record { there = hole.group; class = hole.class; some = some } in
        let can = can_be_emptied t ok c to.group in_use (holes_enough t ok c names.group names.emptiest.can) in
        elim (names.emptiest.least to.group can) [
          | inl fewer ↦ inr (omega arith)
          | inr same ↦
              inr (let is = same.0 in omega arith)
        ]
    | inr none ↦ inl (omega arith)
  ]

  left_over : GroupState
  left_over = record source { slots = set source.slots names.first.slot None }

  sums : cleaning_left (assigned t key to) + part source + part target
      ≡ cleaning_left t + part (with_key target to.slot key) + part (freed left_over)
  unfolding from source target part left_over
  sums =
      let put : GroupState = with_key target to.slot key in
      let gs : List GroupState = named t.groups to key in
      let other : group_in gs names.group ≡ source =
      put_other t.groups to.group put names.group (λ e. names.hole.found.beside (sym e)) in
      let had : home t key ≡ Some from = key_home t ok from key names.first.names in
      let first : sum_by part gs + part target ≡ sum_by part t.groups + part put =
      sum_by-set part t.groups to.group put no_group names.hole.found.hole.group in
      let size : length gs ≡ length t.groups = named_size t.groups to key in
      let inside : names.group < length gs = omega (arith, from_inside.0) in
      let taken : GroupState = with_hole (group_in gs names.group) names.first.slot in
      let second : sum_by part (set gs names.group taken) + part (group_in gs names.group)
      ≡ sum_by part gs + part taken = sum_by-set part gs names.group taken no_group inside in
      let same : part (group_in gs names.group) ≡ part source = ap part other in
      let freed_is : part taken ≡ part (freed left_over) =
      ap (λ (x : GroupState). part (with_hole x names.first.slot)) other in
      let whole : cleaning_left (assigned t key to) ≡ sum_by part (set gs names.group taken) =
      ap (λ o. sum_by part (vacated gs o)) had in
      omega arith

  put_few : used (with_key target to.slot key) ≤ 48
  unfolding target
  put_few =
      let hole = names.hole.found.hole in
      let most = count_at_most (set target.slots to.slot (Some key)) (slots_of t.geometry c) (λ i k e. within i k e) in
      let few = slots_few t.geometry c in
      omega arith
    where
      within : (i : ℕ) (k : Key) → get_or (set target.slots to.slot (Some key)) i None ≡ Some k
          → i < slots_of t.geometry c
      within i k e = elim (eqb_tells i to.slot) [
        | inl same ↦ (let hole = names.hole.found.hole in let inside = hole.slot in let is = same.1 in omega arith)
        | inr ne ↦
            let before : get_or target.slots i None ≡ Some k =
            sym (get_or-set_other target.slots to.slot i (Some key) None ne.1) ∙ e in
            let inside = ok.groups.within (record { group = to.group; slot = i }) k before in
            let class = names.hole.found.hole.class in
            subst (λ d. i < slots_of t.geometry d) class inside
      ]

  pub class_falls : cleaning_left (assigned t key to) < cleaning_left t
  unfolding from source target part left_over
  class_falls =
      let hole = names.hole.found.hole in
      let sum = sums in
      let class_source : source.class ≡ c = names.emptiest.can.has.class in
      let class_target : target.class ≡ c = hole.class in
      let open_source : source.class ≢ Free = λ e. taken_up (sym class_source ∙ e) in
      let open_target : target.class ≢ Free = λ e. taken_up (sym class_target ∙ e) in
      let more : used (with_key target to.slot key) ≡ used target + 1 =
      used_more target to.slot key to_inside hole.empty in
      let less : used left_over + 1 ≡ used source =
      used_less source names.first.slot key from_inside.1 names.first.names in
      let part_source : part source ≡ work_in (used left_over + 1) =
      work_open source.class (used source) open_source ∙ ap work_in (sym less) in
      let part_target : part target ≡ work_in (used target) = work_open target.class (used target) open_target in
      let part_put : part (with_key target to.slot key) ≡ work_in (used target + 1) =
      work_open target.class (used (with_key target to.slot key)) open_target ∙ ap work_in more in
      let part_left : part (freed left_over) ≡ work_after (used left_over) = part_freed left_over open_source in
      let most : used source ≤ slots_of t.geometry (class_of t names.group) = used_within t ok names.group in
      let few = slots_few t.geometry (class_of t names.group) in
      let most_put : used (with_key target to.slot key) ≤ 48 = put_few in
      let falls = work_falls (used left_over) (used target) (omega arith) (omega arith)
      (elim order [ inl none ↦ inl none | inr full ↦ inr (omega arith) ]) in
      omega arith

mirrored_taken_up : Mirrored ≢ Free
mirrored_taken_up e = true≢false (ap is_free (sym e))

parity_taken_up : Parity ≢ Free
parity_taken_up e = true≢false (ap is_free (sym e))

-- whichever class is cleaned
pub names_fall : (t : Tables) (key : Key) (to : Slot) → TablesAgree t → NamesCleaning t key to
    → cleaning_left (assigned t key to) < cleaning_left t
names_fall t key to ok (inl mirrored) = class_falls t ok Mirrored mirrored_taken_up key to mirrored
names_fall t key to ok (inr parity) = class_falls t ok Parity parity_taken_up key to parity.names

pub cleans_fall : (t new : Tables) (key : Key) (to : Slot) → TablesAgree t → Cleans t key to new
    → cleaning_left new < cleaning_left t
cleans_fall t new key to ok cleans =
    subst (λ (x : Tables). cleaning_left x < cleaning_left t) (sym cleans.moved.tables)
    (names_fall t key to ok cleans.names)
