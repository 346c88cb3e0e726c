-- What a change of one unit leaves in the list of units.
use Rattle.std.proofs.Common.{◌≡◌, ◌≢◌, ℕ, ◌<◌, ◌+◌, Bool, cond, Option, None, Some, IsSome, is_some, List, [], ◌∷◌}
use Rattle.std.proofs.Common.{length, get_or, set, sum_by, count_by, refl, sym, ap, subst, ◌∙◌, inl, inr, arith}
use Rattle.std.proofs.Common.{get_or-set_same, get_or-set_other}
use Rattle.std.specs.List.{IsDistinct}
use Rattle.std.specs.Map.{lookup, set_value, values_of}
use Rattle.std.specs.Prelude.{IfNone}
use Rattle.std.specs.Option.{ForSome, MatchOption}
use Rattle.std.proofs.lemmas.List.{get_or_past}
use Rattle.std.proofs.Math.ListN.{length-set}
use Rattle.std.proofs.lemmas.Option.{none-some}
use Rattle.std.proofs.lemmas.List.Sums.{sum_by-set}
use Rattle.std.proofs.lemmas.Map.{lookup-set_value, keys-set_value}
use Rattle.std.proofs.lemmas.Map.Entries.{sum_by-set_value}
use Rattle.std.proofs.lemmas.Map.Views.{All-values-set_value}
use Rattle.ar_disks.specs.declared.address.Addr.{Addr}
use Rattle.ar_disks.specs.declared.address.Key.{Key}
use Rattle.ar_disks.specs.declared.geometry.Geometry.{Geometry}
use Rattle.ar_book.specs.declared.class.Slot.{Slot}
use Rattle.ar_disks.specs.Addresses.{same_addr}
use Rattle.ar_book.specs.Tables.{UnitTableState, unit_in, home_in, placed}
use Rattle.ar_book.specs.Changes.{homed}
use Rattle.ar_book.specs.Book.{UnitsStand, IsValidUnit}
use Rattle.ar_disks.proofs.Addresses.{addr_laws, addr_tells, same_addr_self, addr_apart, make_key}

-- the look-up found this unit
pub found_in : (us : List (Addr × UnitTableState)) (a : Addr) → IsSome (lookup (same_addr a) us)
    → lookup (same_addr a) us ≡ Some (unit_in us a)
found_in us a h = grind (arith)

-- a unit with a block is there
pub has_by_block : (us : List (Addr × UnitTableState)) (a : Addr) (i : ℕ) → i < length (unit_in us a).homes
    → IsSome (lookup (same_addr a) us)
has_by_block us a i h = grind (arith)

-- where there is no such unit nothing is put
pub put_absent : (test : Addr → Bool) (us : List (Addr × UnitTableState)) (u : UnitTableState) → lookup test us ≡ None
    → set_value test us u ≡ us
put_absent test [] u e = refl
put_absent test (x ∷ us) u e = grind (arith, none-some, put_absent test us u)

module _ (us : List (Addr × UnitTableState)) (a : Addr) (u : UnitTableState) (there : IsSome (lookup (same_addr a) us))
  where
    lookup_put : (b : Addr) → lookup (same_addr b) (set_value (same_addr a) us u)
        ≡ cond (same_addr a b) (Some u) (lookup (same_addr b) us)
    lookup_put b = lookup-set_value addr_laws (same_addr a) (addr_laws.congr a) b u us there

    -- the unit that was put
    pub unit_same : unit_in (set_value (same_addr a) us u) a ≡ u
    unit_same = grind (arith, lookup_put, same_addr_self)

    -- the others stay
    pub unit_other : (b : Addr) → a ≢ b → unit_in (set_value (same_addr a) us u) b ≡ unit_in us b
    unit_other b ne = grind (arith, lookup_put, addr_apart)

    -- a sum over the units
    pub unit_sum : (f : UnitTableState → ℕ) → sum_by f (values_of (set_value (same_addr a) us u)) + f (unit_in us a)
        ≡ sum_by f (values_of us) + f u
    unit_sum f = sum_by-set_value f (same_addr a) us (unit_in us a) u (found_in us a there)

-- what the unit that is put has as the former one stays in all
pub unit_keeps : {A : Type 0} (f : UnitTableState
    → A) (us : List (Addr × UnitTableState)) (a : Addr) (u : UnitTableState) → f u ≡ f (unit_in us a)
    → (b : Addr) → f (unit_in (set_value (same_addr a) us u) b) ≡ f (unit_in us b)
unit_keeps f us a u e b = by (lookup (same_addr a) us) refl
  where
    by : (o : Option UnitTableState) → lookup (same_addr a) us ≡ o
        → f (unit_in (set_value (same_addr a) us u) b) ≡ f (unit_in us b)
    by None none = ap (λ l. f (unit_in l b)) (put_absent (same_addr a) us u none)
    by (Some v) found =
        let there : IsSome (lookup (same_addr a) us) = ap is_some found in
        elim (addr_tells a b) [
          | inl same ↦
              ap (λ x. f (unit_in (set_value (same_addr a) us u) x)) (sym same.1)
              ∙ ap f (unit_same us a u there)
              ∙ e
              ∙ ap (λ x. f (unit_in us x)) same.1
          | inr other ↦ ap f (unit_other us a u there b other.1)
        ]

-- the units stand where the one that was put does
pub units_put : (geo : Geometry) (us : List (Addr × UnitTableState)) (a : Addr) (u : UnitTableState) → UnitsStand geo us
    → IsValidUnit geo u → UnitsStand geo (set_value (same_addr a) us u)
units_put geo us a u ok new = record {
  distinct = subst (λ ks. IsDistinct same_addr ks) (sym (keys-set_value (same_addr a) us u)) ok.distinct;
  whole = All-values-set_value (same_addr a) (IsValidUnit geo) us u ok.whole new;
}

-- a block has another home
module _ (us : List (Addr × UnitTableState)) (k : Key) (o : Option Slot)
    (inside : k.rb < length (unit_in us k.addr).homes) where
  here : IsSome (lookup (same_addr k.addr) us)
  here = has_by_block us k.addr k.rb inside

  pub homed_same : home_in (homed us k o) k ≡ o
  homed_same =
      ap (λ u. get_or u.homes k.rb None)
      (unit_same us k.addr (record (unit_in us k.addr) { homes = set (unit_in us k.addr).homes k.rb o }) here)
      ∙ get_or-set_same (unit_in us k.addr).homes k.rb o None inside

  pub homed_other : (j : Key) → j ≢ k → home_in (homed us k o) j ≡ home_in us j
  homed_other j ne =
      let u : UnitTableState = record (unit_in us k.addr) { homes = set (unit_in us k.addr).homes k.rb o } in
      elim (addr_tells k.addr j.addr) [
        | inl e ↦
            let n : j.rb ≢ k.rb = λ q. ne (make_key j k (sym e.1) q) in
            ap (λ a. get_or (unit_in (homed us k o) a).homes j.rb None) (sym e.1)
            ∙ ap (λ x. get_or x.homes j.rb None) (unit_same us k.addr u here)
            ∙ get_or-set_other (unit_in us k.addr).homes k.rb j.rb o None n
            ∙ ap (λ a. get_or (unit_in us a).homes j.rb None) e.1
        | inr n ↦ ap (λ x. get_or x.homes j.rb None) (unit_other us k.addr u here j.addr n.1)
      ]

  -- the placed blocks are one more, or one fewer, as this one is and was
  pub homed_count : sum_by placed (values_of (homed us k o)) + cond {A = ℕ} (is_some (home_in us k)) 1 0
      ≡ sum_by placed (values_of us) + cond {A = ℕ} (is_some o) 1 0
  homed_count =
      let old = unit_in us k.addr in
      let u : UnitTableState = record old { homes = set old.homes k.rb o } in
      let one : count_by is_some (set old.homes k.rb o) + cond {A = ℕ} (is_some (home_in us k)) 1 0
      ≡ placed old + cond {A = ℕ} (is_some o) 1 0 =
      sum_by-set (λ h. cond {A = ℕ} (is_some h) 1 0) old.homes k.rb o None inside in
      let all : sum_by placed (values_of (homed us k o)) + placed old
      ≡ sum_by placed (values_of us) + count_by is_some (set old.homes k.rb o) = unit_sum us k.addr u here placed in
      omega arith

  pub homed_reserved : sum_by (λ u. length u.homes) (values_of (homed us k o))
      ≡ sum_by (λ u. length u.homes) (values_of us)
  homed_reserved =
      let old = unit_in us k.addr in
      let u : UnitTableState = record old { homes = set old.homes k.rb o } in
      let len : length (set old.homes k.rb o) ≡ length old.homes = length-set old.homes k.rb o in
      let all : sum_by (λ x. length x.homes) (values_of (homed us k o)) + length old.homes
      ≡ sum_by (λ x. length x.homes) (values_of us) + length (set old.homes k.rb o) =
      unit_sum us k.addr u here (λ x. length x.homes) in
      omega arith

-- the stamp of a block whose unit was looked up
pub found_stamp : {A : Type 0} (f : A → UnitTableState) (units : List (Addr × UnitTableState)) (a : Addr) (rb stamp : ℕ)
    (o : Option A) → ForSome o (λ x. lookup (same_addr a) units ≡ Some (f x))
    → IfNone o (lookup (same_addr a) units ≡ None)
    → MatchOption o (stamp ≡ 0) (λ x. stamp ≡ get_or (f x).stamps rb 0) → stamp ≡ get_or (unit_in units a).stamps rb 0
found_stamp f units a rb stamp None found none e = grind (arith, get_or_past)
found_stamp f units a rb stamp (Some x) found none e = grind (arith)
