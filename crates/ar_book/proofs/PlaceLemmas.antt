-- The tables agree after a block moves or leaves its home.
use Rattle.std.proofs.Common.{◌≡◌, ◌≢◌, ℕ, ◌<◌, ◌≤◌, ◌-◌, ◌*◌, Bool, cond, Option, None, Some, is_some, ◌+◌, IsSome}
use Rattle.std.proofs.Common.{sum_by, List, [], ◌∷◌, length, set, All, refl, sym, ap, subst, ◌∙◌, arith}
use Rattle.std.specs.Map.{lookup, values_of}
use Rattle.std.proofs.lemmas.Option.{none-some, same_Some}
use Rattle.std.proofs.lemmas.List.Elements.{All-head, All-tail}
use Rattle.std.proofs.Math.ListN.{length-set}
use Rattle.ar_disks.specs.Geometry.{rows_of}
use Rattle.ar_disks.specs.declared.address.Addr.{Addr}
use Rattle.ar_disks.specs.declared.address.Key.{Key}
use Rattle.ar_disks.specs.declared.geometry.Geometry.{Geometry}
use Rattle.ar_book.specs.declared.class.Class.{Class}
use Rattle.ar_book.specs.declared.class.Class.TheVariants.{Free, Mirrored, Parity}
use Rattle.ar_book.specs.declared.class.Slot.{Slot}
use Rattle.ar_disks.specs.Addresses.{same_addr}
use Rattle.ar_book.specs.Tables.{GroupState, UnitTableState, Tables, group_in, key_in, unit_in, key_at, home, slots_of}
use Rattle.ar_book.specs.Tables.{class_of, used, HasBlock, HasSlot}
use Rattle.ar_book.specs.Changes.{with_key, named, vacated, homed, assigned, released}
use Rattle.ar_book.specs.Book.{GroupsStand, UnitsStand, IsValidUnit, Agree, TablesAgree}
use Rattle.ar_book.proofs.GroupLemmas.{there_group, there_slot, named_same, named_other, named_count, named_stand}
use Rattle.ar_book.proofs.GroupLemmas.{vacated_size, vacated_same, vacated_other, vacated_count, vacated_stand}
use Rattle.ar_book.proofs.UnitLemmas.{found_in, has_by_block, units_put, homed_same, homed_other, homed_count}
use Rattle.ar_book.proofs.UnitLemmas.{homed_reserved}
use Rattle.ar_book.proofs.AgreeLemmas.{agree_move}

-- the room stays
pub room_same : (e n m r q : ℕ) → r ≤ 3 * e * (n - 1) → m ≡ n → q ≡ r → q ≤ 3 * e * (m - 1)
room_same e n m r q h i j = subst (λ x. x ≤ 3 * e * (m - 1)) (sym j) (subst (λ x. r ≤ 3 * e * (x - 1)) (sym i) h)

-- each class has slots enough
pub slots_within : (g : Geometry) (c : Class) → slots_of g c ≤ 3 * rows_of g
slots_within g Free = omega arith
slots_within g Mirrored = omega arith
slots_within g Parity = omega arith

-- what holds of each unit holds of the one that is found
pub value_found : (P : UnitTableState → Type 0) (test : Addr
    → Bool) (us : List (Addr × UnitTableState)) (u : UnitTableState) → All P (values_of us) → lookup test us ≡ Some u
    → P u
value_found P test [] u all e = absurd (none-some u e)
value_found P test (x ∷ us) u all e =
    grind (arith, All-tail, same_Some, All-head, value_found P test us u (All-tail P x.1 (values_of us) all))

-- each unit that is found stands
pub unit_whole : (geo : Geometry) (us : List (Addr × UnitTableState)) (a : Addr) → UnitsStand geo us
    → IsSome (lookup (same_addr a) us) → IsValidUnit geo (unit_in us a)
unit_whole geo us a ok h = value_found (IsValidUnit geo) (same_addr a) us (unit_in us a) ok.whole (found_in us a h)

-- a unit with other homes stands, where they are as many
pub unit_homes : (geo : Geometry) (u : UnitTableState) (hs : List (Option Slot)) → IsValidUnit geo u
    → length hs ≡ length u.homes → IsValidUnit geo (record u { homes = hs })
unit_homes geo u hs ok e = record { some = ok.some; few = ok.few; homes = e ∙ ok.homes; stamps = ok.stamps }

pub units_homed : (geo : Geometry) (us : List (Addr × UnitTableState)) (k : Key) (o : Option Slot) → UnitsStand geo us
    → k.rb < length (unit_in us k.addr).homes → UnitsStand geo (homed us k o)
units_homed geo us k o ok h =
    let u = unit_in us k.addr in
    units_put geo us k.addr (record u { homes = set u.homes k.rb o }) ok
    (unit_homes geo u (set u.homes k.rb o) (unit_whole geo us k.addr ok (has_by_block us k.addr k.rb h))
    (length-set u.homes k.rb o))

-- a block gets another home, or none: its new slot names it already, and then its former one is emptied
module _ (t : Tables) (k : Key) (to : Option Slot) (mid : List GroupState) (ok : TablesAgree t) (block : HasBlock t k)
    (stand : GroupsStand t.geometry mid) (free : (r : Slot) → to ≡ Some r → key_in t.groups r ≡ None)
    (here : (r : Slot) → to ≡ Some r → key_in mid r ≡ Some k)
    (others : (r : Slot) → to ≢ Some r → key_in mid r ≡ key_in t.groups r)
    (count : sum_by used mid ≡ sum_by used t.groups + cond {A = ℕ} (is_some to) 1 0) where
  moves : (o : Option Slot) → home t k ≡ o
      → (GroupsStand t.geometry (vacated mid o)) × Agree (vacated mid o) (homed t.units k to)
  moves None had = (
    stand,
    agree_move t.groups mid t.units (homed t.units k to) k to ok.agree free (homed_same t.units k to block)
        (homed_other t.units k to block) here (λ r e. absurd (none-some r (sym had ∙ e))) (λ r n m. others r n)
        (let b = homed_count t.units k to block in
        let c : cond {A = ℕ} (is_some (home t k)) 1 0 ≡ 0 =
        ap (λ (o : Option Slot). cond {A = ℕ} (is_some o) 1 0) had in
        let d = ok.agree.counted in
        omega arith),
  )
  moves (Some q) had =
      let before : key_in t.groups q ≡ Some k = ok.agree.to_slot k q had in
      let apart : (r : Slot) → to ≡ Some r → r ≢ q =
      λ r e f. none-some k (sym (free r e) ∙ ap (λ x. key_in t.groups x) f ∙ before) in
      let still : key_in mid q ≡ Some k = others q (λ e. apart q e refl) ∙ before in
      let group : q.group < length mid = there_group mid q k still in
      let slot : q.slot < length (group_in mid q.group).slots = there_slot mid q k still in (
        vacated_stand mid q group t.geometry stand,
        agree_move t.groups (vacated mid (Some q)) t.units (homed t.units k to) k to ok.agree free
            (homed_same t.units k to block) (homed_other t.units k to block)
            (λ r e. vacated_other mid q group r (apart r e) ∙ here r e)
            (λ r e n. subst (λ x. key_in (vacated mid (Some q)) x ≡ None) (same_Some q r (sym had ∙ e))
            (vacated_same mid q group slot))
            (λ r n m. vacated_other mid q group r (λ f. m (had ∙ ap Some (sym f))) ∙ others r n)
            (let b = homed_count t.units k to block in
            let c : cond {A = ℕ} (is_some (home t k)) 1 0 ≡ 1 =
            ap (λ (o : Option Slot). cond {A = ℕ} (is_some o) 1 0) had in
            let d = ok.agree.counted in
            let e = vacated_count mid q group slot k still in
            omega arith),
      )

  rehomed : length mid ≡ length t.groups
      → TablesAgree (record t { groups = vacated mid (home t k); units = homed t.units k to })
  rehomed size =
      let p = moves (home t k) refl in
      record {
        groups = p.0;
        units = units_homed t.geometry t.units k to ok.units block;
        agree = p.1;
        room = room_same (rows_of t.geometry) _ _ _ _ ok.room (vacated_size mid (home t k) ∙ size)
            (homed_reserved t.units k to block);
      }

pub assigned_agrees : (t : Tables) (k : Key) (s : Slot) → TablesAgree t → HasBlock t k → HasSlot t s
    → key_at t s ≡ None → TablesAgree (assigned t k s)
assigned_agrees t k s ok block slot empty =
    let inside : s.slot < length (group_in t.groups s.group).slots =
    omega (arith, ok.groups.long s.group slot.0, slots_within t.geometry (class_of t s.group), slot.1) in
    rehomed t k (Some s) (named t.groups s k) ok block (named_stand t.groups s k slot.0 t.geometry ok.groups slot.1)
    (λ r e. subst (λ x. key_in t.groups x ≡ None) (same_Some s r e) empty)
    (λ r e. subst (λ x. key_in (named t.groups s k) x ≡ Some k) (same_Some s r e)
    (named_same t.groups s k slot.0 inside))
    (λ r n. named_other t.groups s k slot.0 r (λ q. n (ap Some (sym q))))
    (named_count t.groups s k slot.0 inside empty)
    (length-set t.groups s.group (with_key (group_in t.groups s.group) s.slot k))

-- after a block leaves its home
pub released_agrees : (t : Tables) (k : Key) → TablesAgree t → HasBlock t k → TablesAgree (released t k)
released_agrees t k ok block =
    rehomed t k None t.groups ok block ok.groups (λ r e. absurd (none-some r e)) (λ r e. absurd (none-some r e))
    (λ r n. refl) (omega arith) refl
