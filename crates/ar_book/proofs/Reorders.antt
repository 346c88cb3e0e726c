-- The tree where a unit comes or goes: the others keep their order, and it has no block in a group.
use Rattle.std.proofs.Common.{◌≡◌, ◌≢◌, ℕ, suc, ◌+◌, ◌*◌, ◌<◌, ◌≤◌, cond, count_by, true, false, Option, None, Some}
use Rattle.std.proofs.Common.{is_some, List, [], ◌∷◌, ◌++◌, length, get_or, map, set, fold, refl, sym, ap, subst, ◌∙◌}
use Rattle.std.proofs.Common.{inl, inr, arith, true≢false, get_or-set_same, get_or-set_other}
use Rattle.std.specs.Prelude.{Bool}
use Rattle.std.specs.List.{position_or_len}
use Rattle.std.specs.Map.{lookup, keys_of, remove_entry}
use Rattle.std.specs.Option.{option_map}
use Rattle.std.proofs.lemmas.Bool.{cases_lt, cases_eq, and_parts}
use Rattle.std.proofs.lemmas.Option.{none-some, same_Some}
use Rattle.std.proofs.lemmas.List.{get_or_past}
use Rattle.ar_disks.specs.Addresses.{same_addr}
use Rattle.ar_disks.specs.declared.address.Addr.{Addr}
use Rattle.ar_disks.specs.declared.address.Key.{Key}
use Rattle.ar_disks.specs.declared.geometry.Geometry.{Geometry}
use Rattle.ar_index.specs.declared.choices.Age.{Age}
use Rattle.ar_index.specs.declared.choices.Choices.{Choices}
use Rattle.ar_index.specs.Choices.{place_in, nothing, is_nothing}
use Rattle.ar_index.specs.Tree.{TreeState, leaves, IsRight}
use Rattle.ar_index.proofs.Orders.{Alike, Names, removed_alike, pushed_alike, same_oldest, oldest_names, reordered}
use Rattle.ar_book.specs.declared.class.Class.{Class}
use Rattle.ar_book.specs.declared.class.Class.TheVariants.{Free, Mirrored, Parity}
use Rattle.ar_book.specs.declared.class.Slot.{Slot}
use Rattle.ar_book.specs.Tables.{GroupState, UnitTableState, Tables, no_group, group_in, unit_in, home_in, HasBlock}
use Rattle.ar_book.specs.Changes.{vacated, made, with_hole}
use Rattle.ar_book.specs.Book.{TablesAgree}
use Rattle.ar_book.specs.Index.{age_of, choices_by, choices_in, choices_of, leaves_from, leaves_of, leaf, AreOutside}
use Rattle.ar_book.specs.Index.{IsAmong, IsBlanked, IsLeafOrBlank, HaveChoices, blanks}
use Rattle.std.proofs.lemmas.List.Sums.{sum_by-set}
use Rattle.ar_disks.proofs.Addresses.{addr_same, addr_apart}
use Rattle.ar_book.proofs.UnitLemmas.{has_by_block}
use Rattle.ar_book.proofs.Homes.{key_block}
use Rattle.ar_book.proofs.Ages.{slot_age, named_key}
use Rattle.ar_book.proofs.AfterMake.{made_stamp, made_order}
use Rattle.ar_book.proofs.DropLemmas.{removed_keys, dropped_stamp_other}
use Rattle.ar_book.proofs.IndexLemmas.{leaf_of, leaves_length, same_choices}

-- the slots name blocks of units other than this one
abbrev pub NameOthers : Addr → List (Option Key) → Type 0
NameOthers a slots = (i : ℕ) (k : Key) → get_or slots i None ≡ Some k → k.addr ≢ a

-- the unit is another
abbrev pub IsOther : Addr → Addr → Type 0
IsOther a b = b ≢ a

-- the order of the others, before and after a unit is there
pub made_alike : (us : List (Addr × UnitTableState)) (new : List (Addr × UnitTableState)) (a b c : Addr)
    → keys_of new ≡ keys_of us ++ a ∷ [] → IsOther a b → IsOther a c
    → Alike (place_in us b) (place_in us c) (place_in new b) (place_in new c)
made_alike us new a b c order p q =
    subst (λ ks. Alike (place_in us b) (place_in us c) (position_or_len (same_addr b) ks)
    (position_or_len (same_addr c) ks)) (sym order)
    (pushed_alike (same_addr b) (same_addr c) a (addr_apart b a p) (addr_apart c a q) (keys_of us))

-- and before and after it goes
pub gone_alike : (us : List (Addr × UnitTableState)) (a b c : Addr) → IsOther a b → IsOther a c
    → Alike (place_in us b) (place_in us c) (place_in (remove_entry (same_addr a) us) b)
    (place_in (remove_entry (same_addr a) us) c)
gone_alike us a b c p q =
    subst (λ ks. Alike (place_in us b) (place_in us c) (position_or_len (same_addr b) ks)
    (position_or_len (same_addr c) ks)) (sym (removed_keys (same_addr a) us))
    (removed_alike (same_addr b) (same_addr c) (same_addr a)
    (λ k e. let same : a
    ≡ k = addr_same a k e in (addr_apart b k (λ f. p (f ∙ sym same)), addr_apart c k (λ f. q (f ∙ sym same))))
    (keys_of us))

-- two orders that tell the same of the units other than one
module _ (f g : Addr → ℕ) (a : Addr) (alike : (b c : Addr) → IsOther a b → IsOther a c
    → Alike (f b) (f c) (g b) (g c)) (us : List (Addr × UnitTableState)) where
  each_other : (slots : List (Option Key)) → NameOthers a slots → (i : ℕ)
      → Names (IsOther a) (get_or (map (option_map (age_of us)) slots) i None)
  each_other slots others i b e =
      let k = named_key (age_of us) (get_or slots i None) b (sym (slot_age (age_of us) slots i) ∙ e) in
      subst (λ (x : Age). IsOther a x.key.addr) k.2 (others i k.0 k.1)

  -- a group that names blocks of the others alone has the same choices by both
  pub same_by_places : (geo : Geometry) (n : ℕ) (x : GroupState) → NameOthers a x.slots
      → choices_in geo f (age_of us) n x ≡ choices_in geo g (age_of us) n x
  same_by_places geo n x others = by x.class
    where
      by : (c : Class) → choices_by c geo f (age_of us) n x ≡ choices_by c geo g (age_of us) n x
      by Free = refl
      by Mirrored =
          ap (λ o. record (choices_by Mirrored geo f (age_of us) n x) { oldest = o })
          (same_oldest f g (IsOther a) alike (map (option_map (age_of us)) x.slots) (each_other x.slots others))
      by Parity = refl

  -- and its choices name such a block
  pub choices_name : (geo : Geometry) (n : ℕ) (x : GroupState) → NameOthers a x.slots
      → Names (IsOther a) (choices_in geo f (age_of us) n x).oldest
  choices_name geo n x others = by x.class
    where
      by : (c : Class) → Names (IsOther a) (choices_by c geo f (age_of us) n x).oldest
      by Free = λ b e. absurd (none-some b e)
      by Mirrored =
          oldest_names f g (IsOther a) alike (map (option_map (age_of us)) x.slots) (each_other x.slots others)
      by Parity = λ b e. absurd (none-some b e)

-- past the last leaf there is nothing
leaf_past : (index : TreeState) (i : ℕ) (P : Addr → Type 0) → length (leaves index) ≤ i → Names P (leaf index i).oldest
leaf_past index i P past b e = grind (arith, none-some, get_or_past)

-- where a unit is made that wasn't there
module _ (t : Tables) (ok : TablesAgree t) (a : Addr) (n : ℕ) (new : lookup (same_addr a) t.units ≡ None) where
  named_others : (i : ℕ) → NameOthers a (group_in t.groups i).slots
  named_others i j k e same =
      let block : HasBlock t k = key_block t ok (record { group = i; slot = j }) k e in
      let there = has_by_block t.units k.addr k.rb block in
      true≢false (sym there ∙ ap (λ b. is_some (lookup (same_addr b) t.units)) same ∙ ap is_some new)

  alike : (b c : Addr) → IsOther a b → IsOther a c
      → Alike (place_in t.units b) (place_in t.units c) (place_in (made t a n).units b) (place_in (made t a n).units c)
  alike b c p q = made_alike t.units (made t a n).units a b c (made_order t a n) p q

  pub made_leaves : leaves_of t.geometry (made t a n).units t.groups ≡ leaves_of t.geometry t.units t.groups
  made_leaves =
      let ages : age_of (made t a n).units ≡ age_of t.units =
      λ i. λ k. record { stamp = made_stamp t a n k i; key = k } in
      ap (λ (f : Key → Age). leaves_from t.geometry (place_in (made t a n).units) f 0 t.groups) ages
      ∙ sym (each 0 t.groups named_others)
    where
      each : (m : ℕ) (gs : List GroupState) → ((i : ℕ) → NameOthers a (group_in gs i).slots)
          → leaves_from t.geometry (place_in t.units) (age_of t.units) m gs
          ≡ leaves_from t.geometry (place_in (made t a n).units) (age_of t.units) m gs
      each m [] named = refl
      each m (x ∷ gs) named =
          ap (λ c. c ∷ leaves_from t.geometry (place_in t.units) (age_of t.units) (suc m) gs)
          (same_by_places (place_in t.units) (place_in (made t a n).units) a alike t.units t.geometry m x (named 0))
          ∙ ap (λ l. choices_in t.geometry (place_in (made t a n).units) (age_of t.units) m x ∷ l)
          (each (suc m) gs (λ i. named (suc i)))

  pub made_right : (index : TreeState) → leaves index ≡ leaves_of t.geometry t.units t.groups
      → IsRight (place_in t.units) index → IsRight (place_in (made t a n).units) index
  made_right index same right =
      reordered (place_in t.units) (place_in (made t a n).units) (IsOther a) alike index right named
    where
      named : (i : ℕ) → Names (IsOther a) (leaf index i).oldest
      named i = elim (cases_lt i (length t.groups)) [
        | inl inside ↦
            subst (λ (c : Choices). Names (IsOther a) c.oldest)
            (sym (ap (λ l. get_or l i nothing) same ∙ leaf_of t.geometry t.units t.groups i inside))
            (choices_name (place_in t.units) (place_in (made t a n).units) a alike t.units t.geometry i
            (group_in t.groups i) (named_others i))
        | inr past ↦
            leaf_past index i (IsOther a)
            (omega (arith, ap length same, leaves_length t.geometry (place_in t.units) (age_of t.units) 0 t.groups))
      ]

-- a blank leaf names no block
blank_names : (c : Choices) (P : Addr → Type 0) → is_nothing c ≡ true → Names P c.oldest
blank_names c P e b f = grind (arith, and_parts)

-- where a unit goes, whose blocks' groups are blank
module _ (t : Tables) (ok : TablesAgree t) (a : Addr) (old index : TreeState) (before : leaves old
    ≡ leaves_of t.geometry t.units t.groups) (size : length (leaves index) ≡ length (leaves old)) where
  abbrev homes : List (Option Slot)
  homes = (unit_in t.units a).homes

  abbrev others : List (Addr × UnitTableState)
  others = remove_entry (same_addr a) t.units

  -- a group without one of its homes names blocks of other units alone
  outside_others : (i n : ℕ) → length homes ≤ n → AreOutside homes n i → NameOthers a (group_in t.groups i).slots
  outside_others i n all outside j k e own =
      let at : home_in t.units k ≡ Some (record { group = i; slot = j }) =
      ok.agree.to_home k (record { group = i; slot = j }) e in
      let is : get_or homes k.rb None ≡ Some (record { group = i; slot = j }) =
      ap (λ b. get_or (unit_in t.units b).homes k.rb None) (sym own) ∙ at in
      elim (cases_lt k.rb n) [
        | inl inside ↦ outside k.rb (record { group = i; slot = j }) inside is refl
        | inr past ↦ none-some (record { group = i; slot = j }) (sym (get_or_past homes k.rb None (omega arith)) ∙ is)
      ]

  gone : (b c : Addr) → IsOther a b → IsOther a c
      → Alike (place_in t.units b) (place_in t.units c) (place_in others b) (place_in others c)
  gone b c p q = gone_alike t.units a b c p q

  module _ (blank : (i : ℕ) → IsBlanked homes (length homes) old index i) where
    pub gone_right : IsRight (place_in t.units) index → IsRight (place_in others) index
    gone_right right = reordered (place_in t.units) (place_in others) (IsOther a) gone index right named
      where
        named : (i : ℕ) → Names (IsOther a) (leaf index i).oldest
        named i = elim (cases_lt i (length t.groups)) [
          | inl inside ↦ elim (blank i) [
            | inl same ↦
                subst (λ (c : Choices). Names (IsOther a) c.oldest)
                (sym (same.0 ∙ ap (λ l. get_or l i nothing) before ∙ leaf_of t.geometry t.units t.groups i inside))
                (choices_name (place_in t.units) (place_in others) a gone t.units t.geometry i (group_in t.groups i)
                (outside_others i (length homes) (omega arith) same.1))
            | inr none ↦ blank_names (leaf index i) (IsOther a) none.0
          ]
          | inr past ↦
              leaf_past index i (IsOther a)
              (omega (arith, ap length before, leaves_length t.geometry (place_in t.units) (age_of t.units) 0 t.groups))
        ]

    -- a leaf that isn't blank is right with the other units, as its group stays
    pub gone_leaves : (i : ℕ) → i < length t.groups
        → IsLeafOrBlank t.geometry others (fold vacated t.groups homes) homes 0 index i
    gone_leaves i inside = elim (blank i) [
      | inl same ↦
          let names : NameOthers a (group_in t.groups i).slots = outside_others i (length homes) (omega arith) same.1 in
          inl (same.0 ∙ ap (λ l. get_or l i nothing) before ∙ leaf_of t.geometry t.units t.groups i inside
          ∙ same_by_places (place_in t.units) (place_in others) a gone t.units t.geometry i (group_in t.groups i) names
          ∙ same_choices t.geometry (place_in others) (age_of t.units) (age_of others) i (group_in t.groups i)
          (λ j k e. λ z. record { stamp = sym (dropped_stamp_other t a ok k (names j k e)) z; key = k })
          ∙ ap (choices_of t.geometry others i) (sym (untouched homes t.groups same.1)))
      | inr none ↦ inr none
    ]
      where
        untouched : (hs : List (Option Slot)) (gs : List GroupState) → AreOutside hs (length hs) i
            → group_in (fold vacated gs hs) i ≡ group_in gs i
        untouched [] gs outside = refl
        untouched (None ∷ hs) gs outside = untouched hs gs (λ j s h e. outside (suc j) s (omega arith) e)
        untouched (Some q ∷ hs) gs outside =
            untouched hs (vacated gs (Some q)) (λ j s h e. outside (suc j) s (omega arith) e)
            ∙ get_or-set_other gs q.group i (with_hole (group_in gs q.group) q.slot) no_group
            (λ e. outside 0 q (omega arith) refl (sym e))

-- the homes from the next place on
pub further_on : (homes : List (Option Slot)) (n i : ℕ) → ((s : Slot) → get_or homes n None ≡ Some s → s.group ≢ i)
    → IsAmong homes n i → IsAmong homes (n + 1) i
further_on homes n i not_here m = grind (arith, cases_lt)

-- the groups of the first homes are blank, and nothing else has changed
pub record AreBlanked (us : List (Addr × UnitTableState)) (homes : List (Option Slot)) (n : ℕ) (old index : TreeState)
    : Type 0 where
  pub size : length (leaves index) ≡ length (leaves old)
  pub right : IsRight (place_in us) index
  pub each : (i : ℕ) → IsBlanked homes n old index i

-- the groups of the first homes have their choices
pub record AreRefreshed (g : Geometry) (us : List (Addr × UnitTableState)) (gs : List GroupState)
    (homes : List (Option Slot)) (n : ℕ) (index : TreeState) : Type 0 where
  pub size : length (leaves index) ≡ length gs
  pub right : IsRight (place_in us) index
  pub each : (i : ℕ) → i < length gs → IsLeafOrBlank g us gs homes n index i

-- one home more, of which the group is another
later_outside : (homes : List (Option Slot)) (n i : ℕ) → ((s : Slot) → get_or homes n None ≡ Some s → s.group ≢ i)
    → AreOutside homes n i → AreOutside homes (n + 1) i
later_outside homes n i not_here outside j s h e = grind (arith, cases_lt)

module _ (homes : List (Option Slot)) (n : ℕ) (old index : TreeState) (each : (i : ℕ)
    → IsBlanked homes n old index i) where
  blanked_beside : (now : TreeState) (i : ℕ) → leaf now i ≡ leaf index i
      → ((s : Slot) → get_or homes n None ≡ Some s → s.group ≢ i) → IsBlanked homes (n + 1) old now i
  blanked_beside now i same not_here = grind (arith, later_outside)

  blanked_here : (now : TreeState) (q : Slot) → get_or homes n None ≡ Some q → is_nothing (leaf now q.group) ≡ true
      → IsBlanked homes (n + 1) old now q.group
  blanked_here now q at none = inr (none, record { place = n; slot = q; behind = omega arith; is = at; here = refl })

  -- a block without a home
  pub blanked_none : get_or homes n None ≡ None → (i : ℕ) → IsBlanked homes (n + 1) old index i
  blanked_none at i = blanked_beside index i refl (λ s e. absurd (none-some s (sym at ∙ e)))

  -- a home whose group is blank
  pub blanked_skip : (q : Slot) → get_or homes n None ≡ Some q → is_nothing (leaf index q.group) ≡ true → (i : ℕ)
      → IsBlanked homes (n + 1) old index i
  blanked_skip q at none i = elim (cases_eq i q.group) [
    | inl same ↦ subst (IsBlanked homes (n + 1) old index) (sym same) (blanked_here index q at none)
    | inr other ↦
        blanked_beside index i refl
        (λ s e here. other (sym here ∙ ap (λ (r : Slot). r.group) (same_Some s q (sym e ∙ at))))
  ]

  -- and one whose group becomes blank
  pub blanked_set : (now : TreeState) (q : Slot) → get_or homes n None ≡ Some q → q.group < length (leaves index)
      → leaves now ≡ set (leaves index) q.group nothing
      → (i : ℕ) → IsBlanked homes (n + 1) old now i
  blanked_set now q at inside put i =
      grind (arith, cases_eq, blanked_here, get_or-set_same, blanked_beside, get_or-set_other, same_Some)

module _ (g : Geometry) (us : List (Addr × UnitTableState)) (gs : List GroupState) (homes : List (Option Slot)) (n : ℕ)
    (index : TreeState)
    (each : (i : ℕ) → i < length gs → IsLeafOrBlank g us gs homes n index i) where
  right_beside : (now : TreeState) (i : ℕ) → i < length gs → leaf now i ≡ leaf index i
      → ((s : Slot) → get_or homes n None ≡ Some s → s.group ≢ i) → IsLeafOrBlank g us gs homes (n + 1) now i
  right_beside now i inside same not_here = grind (arith, further_on)

  pub right_none : get_or homes n None ≡ None → (i : ℕ) → i < length gs → IsLeafOrBlank g us gs homes (n + 1) index i
  right_none at i inside = right_beside index i inside refl (λ s e. absurd (none-some s (sym at ∙ e)))

  -- a home whose group isn't blank any more
  pub right_skip : (q : Slot) → get_or homes n None ≡ Some q → is_nothing (leaf index q.group) ≡ false → (i : ℕ)
      → i < length gs → IsLeafOrBlank g us gs homes (n + 1) index i
  right_skip q at some i inside = grind (arith, cases_eq, right_beside, same_Some)

  -- and one whose group is refreshed
  pub right_set : (now : TreeState) (q : Slot) → get_or homes n None ≡ Some q → q.group < length (leaves index)
      → leaves now ≡ set (leaves index) q.group (choices_of g us q.group (group_in gs q.group)) → (i : ℕ)
      → i < length gs → IsLeafOrBlank g us gs homes (n + 1) now i
  right_set now q at there put i inside = elim (cases_eq i q.group) [
    | inl same ↦
        subst (IsLeafOrBlank g us gs homes (n + 1) now) (sym same)
        (inl (ap (λ l. get_or l q.group nothing) put ∙ get_or-set_same (leaves index) q.group _ nothing there))
    | inr other ↦
        right_beside now i inside (ap (λ l. get_or l i nothing) put
        ∙ get_or-set_other (leaves index) q.group i _ nothing other)
        (λ s e here. other (sym here ∙ ap (λ (r : Slot). r.group) (same_Some s q (sym e ∙ at))))
  ]

  -- once no home is left each leaf is right
  pub right_leaf : length homes ≤ n → (i : ℕ) → i < length gs → leaf index i ≡ choices_of g us i (group_in gs i)
  right_leaf all i inside = grind (arith, none-some, get_or_past)

-- 1 where it is so
abbrev one_if : Bool → ℕ
one_if b = cond b 1 0

-- a leaf that is put counts in place of the former one
put_blanks : (cs : List Choices) (i : ℕ) (c : Choices) → i < length cs
    → count_by is_nothing (set cs i c) + one_if (is_nothing (get_or cs i nothing))
    ≡ count_by is_nothing cs + one_if (is_nothing c)
put_blanks cs i c inside = sum_by-set (λ (y : Choices). one_if (is_nothing y)) cs i c nothing inside

-- one blank leaf less
pub blanks_less : (index now : TreeState) (i : ℕ) (c : Choices) → i < length (leaves index)
    → leaves now ≡ set (leaves index) i c
    → is_nothing (leaf index i) ≡ true → is_nothing c ≡ false → blanks now + 1 ≡ blanks index
blanks_less index now i c inside put was is = grind (arith, put_blanks)

-- each blank leaf less took 60 steps at most
pub record CountsBlanks (g : Geometry) (us : List (Addr × UnitTableState)) (gs : List GroupState)
    (homes : List (Option Slot)) (old : TreeState) (before : ℕ)
    (index : TreeState) (steps : ℕ) : Type 0 where
  pub few : length gs ≤ 4096 → HaveChoices g us gs homes → steps + 60 * blanks index ≤ before + 60 * blanks old
