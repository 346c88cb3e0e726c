-- The directory of units has the place of each.
use Rattle.std.proofs.Common.{◌≡◌, if◌then◌else◌, ℕ, zero, suc, ◌+◌, ◌*◌, ◌<◌, ◌≤◌, Bool, true, false, not, cond}
use Rattle.std.proofs.Common.{Option, None, Some, IsSome, is_some, List, [], ◌∷◌, ◌++◌, length, get_or, set, take}
use Rattle.std.proofs.Common.{slice_get, position, replicate, refl, sym, ap, subst, ◌∙◌, inl, inr, arith, true≢false}
use Rattle.std.proofs.Common.{get_or-set_same, get_or-set_other, lt-ltb, le-ltb, length-append, append_assoc, drop}
use Rattle.std.specs.List.{position_or_len, IsDistinct}
use Rattle.std.specs.Map.{lookup, keys_of, values_of, set_value, remove_entry}
use Rattle.indexmap.specs.Layout.{set_value_at}
use Rattle.std.proofs.lemmas.List.{get_or_past, get_or-replicate, length-set, length-take, take_more, take-append-drop}
use Rattle.std.proofs.lemmas.List.Folds.{position_or_len_push}
use Rattle.std.proofs.lemmas.List.Sums.{prefix_len-le-length}
use Rattle.std.proofs.lemmas.Bool.{cases_lt, le-leb}
use Rattle.std.proofs.lemmas.Bool.Decides.{eqb_tells, leb_tells}
use Rattle.std.specs.Option.{option_map, unwrap_or}
use Rattle.std.proofs.lemmas.Option.{slice_get-map, slice_get_within, get_or_from_slice_get}
use Rattle.std.proofs.lemmas.Map.Entries.{length-keys_of}
use Rattle.indexmap.proofs.MapLemmas.{some_index, absent_before, Found-position, Missing-position}
use Rattle.ar_disks.specs.declared.address.Addr.{Addr}
use Rattle.ar_disks.specs.Addresses.{same_addr}
use Rattle.ar_disks.proofs.Addresses.{make_addr, same_host, addr_tells, same_addr_self, addr_apart, addr_laws}
use Rattle.ar_index.proofs.Orders.{no_place}
use Rattle.ar_book.specs.Tables.{UnitTableState, unit_in, no_unit}
use Rattle.ar_book.specs.Listing.{spot_of, AreListed, HaveSpots}

spot_low : (a : Addr) → a.lun ≤ 7 → spot_of a ≡ 8 * a.host.number + a.lun
spot_low a h = ap (λ b. if b then 8 * a.host.number + a.lun else 32) (le-leb a.lun 7 h)

spot_high : (a : Addr) → 7 < a.lun → spot_of a ≡ 32
spot_high a h = grind (arith, leb_tells)

-- a LUN up to 7 has a spot
pub spot_fits : (a : Addr) → a.lun ≤ 7 → spot_of a < 32
spot_fits a h = let low = spot_low a h in let range = a.host.in_range in omega arith

-- addresses with one spot are equal
pub spot_apart : (a b : Addr) → spot_of a ≡ spot_of b → spot_of a < 32 → a ≡ b
spot_apart a b e lt = grind (arith, cases_lt, spot_high, spot_low, make_addr, same_host)

-- the first place of a list that is one longer
module _ (test : Addr → Bool) (ks : List Addr) (k : Addr) where
  long : length (ks ++ k ∷ []) ≡ length ks + 1
  long = length-append ks (k ∷ [])

  some_at : (xs : List Addr) (i : ℕ) → position_or_len test xs ≡ i → i < length xs → position test xs ≡ Some i
  some_at xs i e lt = grind (arith, lt-ltb)

  none_at : (xs : List Addr) → position_or_len test xs ≡ length xs → position test xs ≡ None
  none_at xs e = grind (arith, le-ltb)

  at_end : position_or_len test ks ≡ length ks → position_or_len test (ks ++ k ∷ [])
      ≡ length ks + cond {A = ℕ} (test k) 0 1
  at_end e = grind (arith, eqb_tells, position_or_len_push)

  before : position_or_len test ks < length ks → position_or_len test (ks ++ k ∷ []) ≡ position_or_len test ks
  before lt = grind (arith, eqb_tells, position_or_len_push)

  position_new : position test ks ≡ None → test k ≡ true → position test (ks ++ k ∷ []) ≡ Some (length ks)
  position_new none passes = grind (arith, at_end, no_place, some_at, long)

  position_other : test k ≡ false → position test (ks ++ k ∷ []) ≡ position test ks
  position_other fails = grind (arith, cases_lt, some_at, before, long, prefix_len-le-length, at_end, none_at)

keys_push : (es : List (Addr × UnitTableState)) (e : Addr × UnitTableState)
    → keys_of (es ++ e ∷ []) ≡ keys_of es ++ e.0 ∷ []
keys_push [] e = refl
keys_push (x ∷ es) e = ap (λ l. x.0 ∷ l) (keys_push es e)

-- no unit is listed
pub none_listed : AreListed (replicate 32 None) []
none_listed = record { len = refl; each = λ a. none (spot_of a) }
  where
    none : (i : ℕ) → get_or {A = Option ℕ} (replicate 32 None) i None ≡ None
    none i = elim (cases_lt i 32) [
      | inl lt ↦ get_or-replicate 32 i None None lt
      | inr le ↦ get_or_past (replicate 32 None) i None le
    ]

-- one unit more is listed
pub more_listed : (places : List (Option ℕ)) (es : List (Addr × UnitTableState)) (a : Addr) (u : UnitTableState)
    → AreListed places es
    → spot_of a < 32 → lookup (same_addr a) es ≡ None
    → AreListed (set places (spot_of a) (Some (length es))) (es ++ (a, u) ∷ [])
more_listed places es a u listed fits fresh = record {
  len = length-set places (spot_of a) _ ∙ listed.len;
  each = λ b. elim (addr_tells a b) [
    | inl same ↦ subst (λ x. get_or (set places (spot_of a) (Some (length es))) (spot_of x) None
        ≡ position (same_addr x) (keys_of (es ++ (a, u) ∷ []))) same.1 here
    | inr other ↦
        get_or-set_other places (spot_of a) (spot_of b) _ None (λ e. other.1 (spot_apart a b (sym e) fits))
        ∙ listed.each b
        ∙ sym (position_other (same_addr b) (keys_of es) a (addr_apart b a (λ e. other.1 (sym e))))
        ∙ ap (position (same_addr b)) (sym (keys_push es (a, u)))
  ];
}
  where
    absent : (o : Option ℕ) → is_some o ≡ false → o ≡ None
    absent None e = refl
    absent (Some i) e = absurd (true≢false e)

    here : get_or (set places (spot_of a) (Some (length es))) (spot_of a) None
        ≡ position (same_addr a) (keys_of (es ++ (a, u) ∷ []))
    here =
        get_or-set_same places (spot_of a) _ None (omega (arith, listed.len))
        ∙ ap Some (sym (length-keys_of es))
        ∙ sym (position_new (same_addr a) (keys_of es) a (absent _ (some_index (same_addr a) es ∙ ap is_some fresh))
        (same_addr_self a))
        ∙ ap (position (same_addr a)) (sym (keys_push es (a, u)))

-- where units are listed their addresses have spots
pub listed_spots : (places : List (Option ℕ)) (es : List (Addr × UnitTableState)) → AreListed places es → HaveSpots es
listed_spots places es listed = grind (arith, cases_lt, get_or_past, some_index)

-- the next unit is listed
pub next_listed : (places : List (Option ℕ)) (es : List (Addr × UnitTableState)) (place : ℕ) (a : Addr)
    (u : UnitTableState)
    → IsDistinct same_addr (keys_of es) → slice_get es place ≡ Some (a, u) → AreListed places (take place es)
    → spot_of a < 32
    → AreListed (set places (spot_of a) (Some place)) (take (place + 1) es)
next_listed places es place a u distinct at listed fits =
    let inside : place < length es = slice_get_within es place (a, u) at in
    let long : length (take place es) ≡ place = length-take place es ∙ omega arith in
    let here : get_or es place (a, u) ≡ (a, u) = get_or_from_slice_get es place (a, u) (a, u) at in
    let more : take (place + 1) es ≡ take place es ++ (a, u) ∷ [] =
    take_more es place (a, u) inside ∙ ap (λ e. take place es ++ e ∷ []) here in
    let split : es ≡ take place es ++ (a, u) ∷ drop (place + 1) es =
    sym (take-append-drop (place + 1) es) ∙ ap (λ l. l ++ drop (place + 1) es) more
    ∙ append_assoc (take place es) ((a, u) ∷ []) (drop (place + 1) es) in
    let fresh : lookup (same_addr a) (take place es) ≡ None =
    absent_before addr_laws (take place es) (drop (place + 1) es) (a, u)
    (subst (λ l. IsDistinct same_addr (keys_of l)) split distinct) in
    subst (λ l. AreListed (set places (spot_of a) (Some place)) l) (sym more)
    (subst (λ n. AreListed (set places (spot_of a) (Some n)) (take place es ++ (a, u) ∷ [])) long
    (more_listed places (take place es) a u listed fits fresh))

-- units are listed as those with the same keys
pub same_listed : (places : List (Option ℕ)) (es fs : List (Addr × UnitTableState)) → keys_of fs ≡ keys_of es
    → AreListed places es → AreListed places fs
same_listed places es fs same listed = grind (arith)

-- the unit at the place of an address
pub at_place : (es : List (Addr × UnitTableState)) (a : Addr) (place : ℕ)
    → position (same_addr a) (keys_of es) ≡ Some place → lookup (same_addr a) es ≡ slice_get (values_of es) place
at_place es a place found = (Found-position (same_addr a) es place found).value

-- a value written at the first place at which a test passes is that of its first entry
put_first : {K X : Type 0} (test : K → Bool) (es : List (K × X)) (place : ℕ) (w : X)
    → position_or_len test (keys_of es) ≡ place
    → set_value_at es place w ≡ set_value test es w
put_first test [] place w first = refl
put_first test (e ∷ es) place w first = by (test e.0) refl place first (λ i. put_first test es i w)
  where
    next : (b : Bool) → test e.0 ≡ b → position_or_len test (keys_of (e ∷ es))
        ≡ cond (not b) (1 + position_or_len test (keys_of es)) 0
    next b is = ap (λ b. cond (not b) (1 + position_or_len test (keys_of es)) 0) is

    set : (b : Bool) → test e.0 ≡ b → cond b ((e.0, w) ∷ es) (e ∷ set_value test es w) ≡ set_value test (e ∷ es) w
    set b is = sym (ap (λ b. cond b ((e.0, w) ∷ es) (e ∷ set_value test es w)) is)

    by : (b : Bool) → test e.0 ≡ b → (i : ℕ) → position_or_len test (keys_of (e ∷ es)) ≡ i
        → ((j : ℕ) → position_or_len test (keys_of es) ≡ j → set_value_at es j w ≡ set_value test es w)
        → set_value_at (e ∷ es) i w ≡ set_value test (e ∷ es) w
    by true is zero at rest = set true is
    by true is (suc i) at rest = absurd (let here = next true is in omega arith)
    by false is zero at rest = absurd (let more = next false is in omega arith)
    by false is (suc i) at rest = ap (λ l. e ∷ l) (rest i (let more = next false is in omega arith)) ∙ set false is

-- a value written at the place of an address is that of its unit
pub put_at_place : (es : List (Addr × UnitTableState)) (a : Addr) (place : ℕ) (u : UnitTableState)
    → position (same_addr a) (keys_of es) ≡ Some place → set_value_at es place u ≡ set_value (same_addr a) es u
put_at_place es a place u found = grind (arith, put_first, Found-position)

-- the unit read at the place of an address
pub unit_at_place : (es : List (Addr × UnitTableState)) (a : Addr) (place : ℕ) (u : UnitTableState)
    → position (same_addr a) (keys_of es) ≡ Some place → Some u ≡ slice_get (values_of es) place → unit_in es a ≡ u
unit_at_place es a place u found at = ap (λ o. unwrap_or o no_unit) (at_place es a place found ∙ sym at)

pub no_unit_there : (es : List (Addr × UnitTableState)) (a : Addr) → position (same_addr a) (keys_of es) ≡ None
    → lookup (same_addr a) es ≡ None
no_unit_there es a none = (Missing-position (same_addr a) es none).value

-- no unit is listed before the first
pub none_taken : (es : List (Addr × UnitTableState)) → AreListed (replicate 32 None) (take 0 es)
none_taken [] = none_listed
none_taken (e ∷ es) = none_listed

-- no unit is listed where there is none
pub none_in : (es : List (Addr × UnitTableState)) → length es ≡ 0 → AreListed (replicate 32 None) es
none_in [] e = none_listed
none_in (x ∷ es) e = absurd (omega arith)

-- what is found at the place of an address is its unit
pub got_unit : (es fs : List (Addr × UnitTableState)) (a : Addr) (place : ℕ) (k : Addr) (u : UnitTableState) → fs ≡ es
    → position (same_addr a) (keys_of es) ≡ Some place → Some (k, u) ≡ slice_get fs place
    → Some u ≡ lookup (same_addr a) es
got_unit es fs a place k u same found at =
    ap (option_map (λ (e : Addr × UnitTableState). e.1)) (at ∙ ap (λ l. slice_get l place) same)
    ∙ sym (slice_get-map (λ (e : Addr × UnitTableState). e.1) es place)
    ∙ sym (at_place es a place found)

-- a unit that is left was there
left_there : (test query : Addr → Bool) (es : List (Addr × UnitTableState))
    → IsSome (lookup query (remove_entry test es)) → IsSome (lookup query es)
left_there test query [] h = h
left_there test query (e ∷ es) h = grind (arith, left_there test query es)

-- the units that are left keep their spots
pub spots_left : (es : List (Addr × UnitTableState)) (test : Addr → Bool) → HaveSpots es
    → HaveSpots (remove_entry test es)
spots_left es test spots = record { each = λ a there. spots.each a (left_there test (same_addr a) es there) }
