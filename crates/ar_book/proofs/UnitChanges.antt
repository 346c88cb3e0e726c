-- The book's invariant after a change of one unit, or of which units there are.
use Rattle.std.proofs.Common.{◌≡◌, ℕ, ◌<◌, ◌≤◌, ◌+◌, ◌-◌, ◌*◌, Bool, true, false, cond, Option, None, Some, is_some}
use Rattle.std.proofs.Common.{IsSome, List, [], ◌∷◌, ◌++◌, length, get_or, set, replicate, sum_by, All, refl, sym, ap}
use Rattle.std.proofs.Common.{subst, ◌∙◌, arith, true≢false, length-append}
use Rattle.std.specs.List.{IsDistinct}
use Rattle.std.specs.Map.{lookup, set_value, keys_of, values_of}
use Rattle.std.specs.Option.{unwrap_or}
use Rattle.std.proofs.Math.ListN.{length-set, length-replicate}
use Rattle.std.proofs.lemmas.Option.{none-some}
use Rattle.std.proofs.lemmas.List.Sums.{sum_by_push}
use Rattle.std.proofs.lemmas.List.Elements.{All-push}
use Rattle.ar_disks.specs.Geometry.{rows_of}
use Rattle.ar_disks.specs.declared.address.Addr.{Addr}
use Rattle.ar_disks.specs.declared.address.Key.{Key}
use Rattle.ar_book.specs.declared.class.Slot.{Slot}
use Rattle.ar_disks.specs.Addresses.{same_addr}
use Rattle.ar_book.specs.Tables.{UnitTableState, Tables, no_unit, unit_in, home_in, placed, blocks_of, reserved}
use Rattle.ar_book.specs.Tables.{HasBlock}
use Rattle.ar_book.specs.Changes.{new_unit, longer, made, grown, unmarked, restamped}
use Rattle.ar_book.specs.Book.{IsValidUnit, BookAgrees}
use Rattle.ar_book.proofs.Padding.{nothing, get_replicate, get_padded, count_none, count_padded}
use Rattle.ar_book.proofs.UnitLemmas.{has_by_block, put_absent, unit_keeps, unit_sum, units_put}
use Rattle.ar_book.proofs.AgreeLemmas.{agree_same}
use Rattle.ar_book.proofs.PlaceLemmas.{unit_whole}

-- a unit is put whose blocks have the homes that they had, and m more blocks without one
module _ (t : Tables) (n m puts : ℕ) (a : Addr) (u : UnitTableState) (ok : BookAgrees t n)
    (there : IsSome (lookup (same_addr a) t.units)) (whole : IsValidUnit t.geometry u)
    (homes : (i : ℕ) → get_or u.homes i None ≡ get_or (unit_in t.units a).homes i None) (count : placed u
    ≡ placed (unit_in t.units a))
    (more : length u.homes ≡ length (unit_in t.units a).homes + m)
    (room : reserved t + m ≤ 3 * rows_of t.geometry * (length t.groups - 1)) where
  -- each block has the home that it had
  pub put_homes : (k : Key) → home_in (set_value (same_addr a) t.units u) k ≡ home_in t.units k
  put_homes k = unit_keeps (λ x. get_or x.homes k.rb None) t.units a u (homes k.rb) k.addr

  total : reserved (record t { units = set_value (same_addr a) t.units u; puts = puts }) ≡ reserved t + m
  total = grind (arith, unit_sum)

  pub put_kept : (p : ℕ) → p ≡ n + m
      → BookAgrees (record t { units = set_value (same_addr a) t.units u; puts = puts }) p
  put_kept p e = record {
    tables = record {
      groups = ok.tables.groups;
      units = units_put t.geometry t.units a u ok.tables.units whole;
      agree = agree_same t.groups t.groups t.units (set_value (same_addr a) t.units u) ok.tables.agree (λ s. refl)
          put_homes refl
          (let all = unit_sum t.units a u there placed in omega arith);
      room = subst (λ x. x ≤ 3 * rows_of t.geometry * (length t.groups - 1)) (sym total) room;
    };
    total = e ∙ ap (λ x. x + m) ok.total ∙ sym total;
  }

-- a block with another stamp
pub restamped_kept : (t : Tables) (n puts stamp : ℕ) (k : Key) → BookAgrees t n → HasBlock t k
    → BookAgrees (record t { units = restamped t.units k stamp; puts = puts }) n
restamped_kept t n puts stamp k ok block =
    let there = has_by_block t.units k.addr k.rb block in
    let old = unit_in t.units k.addr in
    let w : IsValidUnit t.geometry old = unit_whole t.geometry t.units k.addr ok.tables.units there in
    put_kept t n 0 puts k.addr (record old { stamps = set old.stamps k.rb stamp }) ok there
    (record { some = w.some; few = w.few; homes = w.homes; stamps = length-set old.stamps k.rb stamp ∙ w.stamps })
    (λ i. refl) refl (omega arith) (omega (arith, ok.tables.room)) n (omega arith)

pub stamps_long : (t : Tables) (n : ℕ) (k : Key) → BookAgrees t n → HasBlock t k
    → k.rb < length (unit_in t.units k.addr).stamps
stamps_long t n k ok block =
    let w : IsValidUnit t.geometry (unit_in t.units k.addr) =
    unit_whole t.geometry t.units k.addr ok.tables.units (has_by_block t.units k.addr k.rb block) in
    omega (arith, w.homes, w.stamps, block)

-- a unit without its mark
pub unmarked_kept : (t : Tables) (n : ℕ) (a : Addr) → BookAgrees t n → BookAgrees (unmarked t a) n
unmarked_kept t n a ok = by (is_some (lookup (same_addr a) t.units)) refl
  where
    by : (b : Bool) → is_some (lookup (same_addr a) t.units) ≡ b → BookAgrees (unmarked t a) n
    by true there =
        let old = unit_in t.units a in
        let w : IsValidUnit t.geometry old = unit_whole t.geometry t.units a ok.tables.units there in
        put_kept t n 0 t.puts a (record old { attention = false }) ok there
        (record { some = w.some; few = w.few; homes = w.homes; stamps = w.stamps })
        (λ i. refl) refl (omega arith) (omega (arith, ok.tables.room)) n (omega arith)
    by false gone =
        subst (λ us. BookAgrees (record t { units = us }) n)
        (sym (put_absent (same_addr a) t.units (record (unit_in t.units a) { attention = false })
        (none_of (lookup (same_addr a) t.units) gone))) ok
      where
        none_of : (o : Option UnitTableState) → is_some o ≡ false → o ≡ None
        none_of None e = refl
        none_of (Some u) e = absurd (true≢false e)

-- a longer unit
pub grown_kept : (t : Tables) (n : ℕ) (a : Addr) (sectors : ℕ) → BookAgrees t n → IsSome (lookup (same_addr a) t.units)
    → length (unit_in t.units a).homes ≤ blocks_of t.geometry sectors → 0 < sectors → sectors ≤ 1048576
    → reserved t + (blocks_of t.geometry sectors - length (unit_in t.units a).homes)
    ≤ 3 * rows_of t.geometry * (length t.groups - 1)
    → BookAgrees (grown t a sectors) (n + (blocks_of t.geometry sectors - length (unit_in t.units a).homes))
grown_kept t n a sectors ok there le some few room =
    let old = unit_in t.units a in
    let more : ℕ = blocks_of t.geometry sectors - length old.homes in
    let w : IsValidUnit t.geometry old = unit_whole t.geometry t.units a ok.tables.units there in
    let homes : length (old.homes ++ replicate more (nothing Slot)) ≡ length old.homes + more =
    length-append old.homes (replicate more (nothing Slot))
    ∙ ap (λ x. length old.homes + x) (length-replicate more (nothing Slot)) in
    let stamps : length (old.stamps ++ replicate more 0) ≡ length old.stamps + more =
    length-append old.stamps (replicate more 0) ∙ ap (λ x. length old.stamps + x) (length-replicate more 0) in
    put_kept t n more t.puts a (longer t.geometry old sectors) ok there
    (record { some = some; few = few; homes = omega arith; stamps = omega (arith, w.homes, w.stamps) })
    (λ i. get_padded old.homes more i None) (count_padded old.homes more) homes room (n + more) refl

-- the units with one more
values_push : (us : List (Addr × UnitTableState)) (a : Addr) (u : UnitTableState)
    → values_of (us ++ (a, u) ∷ []) ≡ values_of us ++ u ∷ []
values_push [] a u = refl
values_push (x ∷ us) a u = ap (λ l. x.1 ∷ l) (values_push us a u)

pub keys_push : (us : List (Addr × UnitTableState)) (a : Addr) (u : UnitTableState)
    → keys_of (us ++ (a, u) ∷ []) ≡ keys_of us ++ a ∷ []
keys_push [] a u = refl
keys_push (x ∷ us) a u = ap (λ l. x.0 ∷ l) (keys_push us a u)

-- it is found where no other is
pub push_found : (test : Addr → Bool) (us : List (Addr × UnitTableState)) (a : Addr) (u : UnitTableState)
    → lookup test us ≡ None → lookup test (us ++ (a, u) ∷ []) ≡ cond (test a) (Some u) None
push_found test [] a u e = refl
push_found test (x ∷ us) a u e = grind (arith, none-some, push_found test us a u)

-- and not at another address
pub push_other : (test : Addr → Bool) (us : List (Addr × UnitTableState)) (a : Addr) (u : UnitTableState)
    → test a ≡ false → lookup test (us ++ (a, u) ∷ []) ≡ lookup test us
push_other test [] a u e = ap (λ c. cond c (Some u) None) e
push_other test (x ∷ us) a u e = ap (λ o. cond (test x.0) (Some x.1) o) (push_other test us a u e)

-- what it has as where there is no unit stays in all
pub push_keeps : {A : Type 0} (f : UnitTableState → A) (test : Addr
    → Bool) (us : List (Addr × UnitTableState)) (a : Addr) (u : UnitTableState) → f u ≡ f no_unit
    → f (unwrap_or (lookup test (us ++ (a, u) ∷ [])) no_unit) ≡ f (unwrap_or (lookup test us) no_unit)
push_keeps f test [] a u e = grind (arith)
push_keeps f test (x ∷ us) a u e = grind (arith, push_keeps f test us a u e)

-- its blocks are reserved
pub made_reserved : (t : Tables) (a : Addr) (sectors : ℕ)
    → reserved (made t a sectors) ≡ reserved t + blocks_of t.geometry sectors
made_reserved t a sectors = grind (arith, values_push, sum_by_push, length-replicate)

module _ (t : Tables) (n : ℕ) (a : Addr) (sectors : ℕ) (ok : BookAgrees t n) (some : 0 < sectors)
    (few : sectors ≤ 1048576)
    (room : reserved t + blocks_of t.geometry sectors ≤ 3 * rows_of t.geometry * (length t.groups - 1)) where
  whole : IsValidUnit t.geometry (new_unit t.geometry sectors)
  whole = grind (arith, length-replicate)

  made_placed : sum_by placed (values_of (t.units ++ (a, new_unit t.geometry sectors) ∷ []))
      ≡ sum_by placed (values_of t.units)
  made_placed = grind (arith, values_push, sum_by_push, count_none)

  pub made_kept : IsDistinct same_addr (keys_of (t.units ++ (a, new_unit t.geometry sectors) ∷ []))
      → BookAgrees (made t a sectors) (n + blocks_of t.geometry sectors)
  made_kept distinct = record {
    tables = record {
      groups = ok.tables.groups;
      units = record {
        distinct = distinct;
        whole = subst (λ l. All (IsValidUnit t.geometry) l) (sym (values_push t.units a (new_unit t.geometry sectors)))
            (All-push (IsValidUnit t.geometry) (values_of t.units) (new_unit t.geometry sectors) ok.tables.units.whole
            whole);
      };
      agree = agree_same t.groups t.groups t.units (t.units ++ (a, new_unit t.geometry sectors) ∷ []) ok.tables.agree
          (λ s. refl)
          (λ k. push_keeps (λ x. get_or x.homes k.rb None) (same_addr k.addr) t.units a (new_unit t.geometry sectors)
          (get_replicate (blocks_of t.geometry sectors) k.rb (nothing Slot)))
          refl made_placed;
      room = subst (λ x. x ≤ 3 * rows_of t.geometry * (length t.groups - 1)) (sym (made_reserved t a sectors)) room;
    };
    total = ap (λ x. x + blocks_of t.geometry sectors) ok.total ∙ sym (made_reserved t a sectors);
  }
