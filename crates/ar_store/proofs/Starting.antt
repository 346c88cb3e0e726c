-- What a store keeps whose groups were just formed.
use Rattle.std.proofs.Common.{◌≡◌, ◌≢◌, inl, inr, ℕ, ◌+◌, ◌<◌, ◌≤◌, Bool, true, false, cond, leb, ltb, ◌||◌, ◌&&◌, List}
use Rattle.std.proofs.Common.{[], ◌∷◌, length, get_or, set, replicate, None, Some, refl, sym, ap, subst, ◌∙◌}
use Rattle.std.proofs.Common.{true≢false, arith}
use Rattle.std.proofs.lemmas.Option.{none-some}
use Rattle.std.proofs.lemmas.Bool.{cases_lt}
use Rattle.std.proofs.lemmas.Bool.Decides.{eqb_tells, nat_tests}
use Rattle.std.proofs.lemmas.List.{get_or-set_same, get_or-set_other, get_or-replicate, set_past}
use Rattle.std.proofs.Math.ListN.{length-set, length-replicate}
use Rattle.ar_disks.specs.Disk.{DiskState}
use Rattle.ar_disks.specs.Geometry.{block_len_of}
use Rattle.ar_disks.specs.Members.{member}
use Rattle.ar_disks.specs.declared.address.Place.{Place}
use Rattle.ar_disks.specs.declared.address.Members.{Members}
use Rattle.ar_disks.specs.declared.geometry.Geometry.{Geometry}
use Rattle.ar_extents.specs.declared.health.Health.TheVariants.{Whole}
use Rattle.ar_extents.specs.declared.refusal.StartFault.{StartFault}
use Rattle.ar_extents.specs.declared.refusal.StartFault.TheVariants.{BadCount, WrongSize}
use Rattle.ar_extents.specs.Set.{SetState, HasExtent, disk_in, marks_of}
use Rattle.ar_extents.specs.Loose.{is_loose, loose_count, taken}
use Rattle.ar_extents.specs.Changes.{start_fault, started}
use Rattle.ar_extents.proofs.LooseLemmas.{is_loose-marked_other, is_loose-taken, lowest_loose-is}
use Rattle.ar_book.specs.declared.class.Class.TheVariants.{Free, Parity}
use Rattle.ar_book.specs.declared.class.Slot.{Slot}
use Rattle.ar_book.specs.Tables.{Tables, is_free, group_in, key_at, class_of, free_groups}
use Rattle.ar_book.specs.Changes.{formed}
use Rattle.ar_book.specs.Book.{TablesAgree}
use Rattle.ar_book.proofs.GroupChanges.{formed_group_count, formed_keys}
use Rattle.ar_book.proofs.AfterForm.{formed_members, formed_class, formed_members_other, formed_class_other}
use Rattle.ar_book.proofs.AfterForm.{formed_free_groups}
use Rattle.ar_store.specs.Store.{StoreState, store_of}
use Rattle.ar_store.specs.Kept.{IsTaken, FieldsAgree}
use Rattle.ar_store.specs.Forming.{AreFullest, HasFewLoose, IsFormed, IsSetStarted, IsStoreStarted, IsAllLoose}
use Rattle.ar_store.specs.Forming.{with_group, without, empty_book, members_list}
use Rattle.ar_store.proofs.Lined.{lined_start, lined_count, four_cases}

-- disks that aren't refused are at least four, with extents
pub start_some : (disks : List DiskState) → start_fault disks ≡ None
    → (4 ≤ length disks) × (1 ≤ (disk_in disks 0).extents)
start_some disks taken =
    let why = tests (ltb (length disks) 4) (ltb 12 (length disks)) (leb 1 (disk_in disks 0).extents)
    (leb (disk_in disks 0).extents 1024) _ BadCount WrongSize taken in
    let a = why.0 in
    let b = why.1 in
    (grind (arith, nat_tests), grind (arith, nat_tests))
  where
    tests : (a b c d e : Bool) (p q : StartFault) → cond (a || b) (Some p) (cond (c && (d && e)) None (Some q)) ≡ None
        → (a ≡ false) × (c ≡ true)
    tests true b c d e p q is = absurd cc
    tests false true c d e p q is = absurd cc
    tests false false false d e p q is = absurd cc
    tests false false true d e p q is = (refl, refl)

-- and all of their extents are loose at first
pub loose_started : (disks : List DiskState) (g : Geometry) (n e : ℕ) → (disk_in disks 0).geometry ≡ g
    → length disks ≡ n
    → (disk_in disks 0).extents ≡ e
    → IsAllLoose g n e (started disks)
loose_started disks g n e geometry_is count_is extents_is = record {
  same_geometry = geometry_is;
  disks = count_is;
  loose = ap (λ k. replicate k (replicate (disk_in disks 0).extents true)) count_is
      ∙ ap (λ k. replicate n (replicate k true)) extents_is;
}

-- what the forming of groups leaves
pub record IsAsBefore (s new : StoreState) : Type 0 where
  pub geometry : new.disks.geometry ≡ s.disks.geometry
  pub extents : new.disks.extents ≡ s.disks.extents
  pub disks : new.disks.disks ≡ s.disks.disks
  pub health : new.disks.health ≡ s.disks.health
  pub units : new.book.units ≡ s.book.units
  pub puts : new.book.puts ≡ s.book.puts

pub formed_same : (s : StoreState) (ms : List Members) (new : StoreState) → IsFormed s ms new → IsAsBefore s new
formed_same s [] new end = record {
  geometry = ap (λ (x : StoreState). x.disks.geometry) end.1;
  extents = ap (λ (x : StoreState). x.disks.extents) end.1;
  disks = ap (λ (x : StoreState). x.disks.disks) end.1;
  health = ap (λ (x : StoreState). x.disks.health) end.1;
  units = ap (λ (x : StoreState). x.book.units) end.1;
  puts = ap (λ (x : StoreState). x.book.puts) end.1;
}
formed_same s (m ∷ ms) new is =
    let rest = formed_same (with_group s m) ms new is.1 in
    record {
      geometry = rest.geometry;
      extents = rest.extents;
      disks = rest.disks;
      health = rest.health;
      units = rest.units;
      puts = rest.puts;
    }

-- a started store is whole, has these disks, no unit, and counted no put
pub record IsNew (disks : List DiskState) (s : StoreState) : Type 0 where
  pub geometry : s.disks.geometry ≡ (disk_in disks 0).geometry
  pub extents : s.disks.extents ≡ (disk_in disks 0).extents
  pub disks_same : s.disks.disks ≡ disks
  pub health : s.disks.health ≡ Whole
  pub units : s.book.units ≡ []
  pub puts : s.book.puts ≡ 0

pub started_new : (disks : List DiskState) (s : StoreState) → IsStoreStarted disks s → IsNew disks s
started_new disks s is =
    let same = formed_same (store_of (started disks) (empty_book (started disks).geometry)) (members_list s.book) s
    is.formed in
    record {
      geometry = same.geometry;
      extents = same.extents;
      disks_same = same.disks;
      health = same.health;
      units = same.units;
      puts = same.puts;
    }

-- as many groups are free as were formed
pub formed_free : (s : StoreState) (ms : List Members) (new : StoreState) → IsFormed s ms new
    → free_groups new.book ≡ free_groups s.book + length ms
formed_free s [] new end = ap (λ (x : StoreState). free_groups x.book) end.1 ∙ omega arith
formed_free s (m ∷ ms) new is =
    let rest : free_groups new.book ≡ free_groups (formed s.book m) + length ms =
    formed_free (with_group s m) ms new is.1 in
    let one = formed_free_groups s.book m in
    omega arith

-- at least one was
pub formed_some : (s : StoreState) (ms : List Members) (new : StoreState) → IsFormed s ms new
    → (HasFewLoose s.disks → ⊥)
    → 0 < length ms
formed_some s [] new end many = absurd (many end.0)
formed_some s (m ∷ ms) new is many = omega arith

-- one extent is taken: what was in a group is still, the extent is, and there are marks as before
make_place : (p q : Place) → p.disk ≡ q.disk → p.extent ≡ q.extent → p ≡ q
make_place p q d e =
    ap (λ (x : ℕ). let there : Place = record { disk = x; extent = p.extent } in there) d
    ∙ ap (λ (x : ℕ). let there : Place = record { disk = q.disk; extent = x } in there) e

used_taken : (s : SetState) (q p : Place) → is_loose s p ≡ false → is_loose (taken s q.disk (Some q.extent)) p ≡ false
used_taken s q p used = elim (eqb_tells p.disk q.disk) [
  | inl d ↦ elim (eqb_tells p.extent q.extent) [
    | inl e ↦
        let same : p ≡ q = make_place p q d.1 e.1 in
        ap (λ x. is_loose (taken s q.disk (Some q.extent)) x) same ∙ is_loose-taken s q
    | inr n ↦ is_loose-marked_other s q p false (λ same. n.1 (ap (λ (x : Place). x.extent) same)) ∙ used
  ]
  | inr n ↦ is_loose-marked_other s q p false (λ same. n.1 (ap (λ (x : Place). x.disk) same)) ∙ used
]

marks_taken : (s : SetState) (d e x : ℕ) → length (marks_of (taken s d (Some e)) x) ≡ length (marks_of s x)
marks_taken s d e x = elim (eqb_tells x d) [
  | inr n ↦ ap (λ (row : List Bool). length row) (get_or-set_other s.loose d x (set (marks_of s d) e false) [] n.1)
  | inl q ↦ subst (λ y. length (marks_of (taken s d (Some e)) y) ≡ length (marks_of s y)) (sym q.1)
      (elim (cases_lt d (length s.loose)) [
        | inl h ↦
            ap (λ (row : List Bool). length row) (get_or-set_same s.loose d (set (marks_of s d) e false) [] h)
            ∙ length-set (marks_of s d) e false
        | inr h ↦ ap (λ (rows : List (List Bool)). length (get_or rows d []))
            (set_past s.loose d (set (marks_of s d) e false) h)
      ])
]

-- a group's four extents are taken
module _ (s : SetState) (m : Members) where
  one : SetState
  one = taken s m.first.disk (Some m.first.extent)

  two : SetState
  two = taken (taken s m.first.disk (Some m.first.extent)) m.second.disk (Some m.second.extent)

  three : SetState
  three = taken (taken (taken s m.first.disk (Some m.first.extent)) m.second.disk (Some m.second.extent)) m.third.disk
      (Some m.third.extent)

  used_without : (p : Place) → is_loose s p ≡ false → is_loose (without s m) p ≡ false
  unfolding one two three
  used_without p used =
      used_taken three m.fourth p (used_taken two m.third p (used_taken one m.second p (used_taken s m.first p used)))

  members_used : (i : ℕ) → i < 4 → is_loose (without s m) (member m i) ≡ false
  unfolding one two three
  members_used =
      four_cases (λ i. is_loose (without s m) (member m i) ≡ false)
      (used_taken three m.fourth m.first
      (used_taken two m.third m.first (used_taken one m.second m.first (is_loose-taken s m.first))))
      (used_taken three m.fourth m.second (used_taken two m.third m.second (is_loose-taken one m.second)))
      (used_taken three m.fourth m.third (is_loose-taken two m.third))
      (is_loose-taken three m.fourth)

  marks_without : (x : ℕ) → length (marks_of (without s m) x) ≡ length (marks_of s x)
  unfolding one two three
  marks_without x =
      marks_taken three m.fourth.disk m.fourth.extent x ∙ marks_taken two m.third.disk m.third.extent x
      ∙ marks_taken one m.second.disk m.second.extent x ∙ marks_taken s m.first.disk m.first.extent x

-- a store all of whose groups are free, with its extents taken
pub record IsBare (s : StoreState) : Type 0 where
  pub geometry : s.book.geometry ≡ s.disks.geometry
  pub marks : (d : ℕ) → d < length s.disks.disks → length (marks_of s.disks d) ≡ s.disks.extents
  pub free : (g : ℕ) → g < length s.book.groups → class_of s.book g ≡ Free
  pub empty : (slot : Slot) → key_at s.book slot ≡ None
  pub extents : (g i : ℕ) → g < length s.book.groups → i < 4 → IsTaken s g i

pub bare_start : (disks : List DiskState) → IsBare (store_of (started disks) (empty_book (started disks).geometry))
bare_start disks =
    let e = (disk_in disks 0).extents in
    record {
      geometry = refl;
      marks = λ d lt.
          ap (λ (row : List Bool). length row) (get_or-replicate (length disks) d (replicate e true) [] lt)
          ∙ length-replicate e true;
      free = λ g lt. absurd (omega arith);
      empty = λ slot. refl;
      extents = λ g i lt range. absurd (omega arith);
    }

-- the extent is there, and in a group
record IsTakenFrom (s : SetState) (p : Place) : Type 0 where
  there : HasExtent s p
  used : is_loose s p ≡ false

module _ (s : StoreState) (m : Members) (bare : IsBare s) (fullest : AreFullest s.disks m) where
  below : (i : ℕ) → i < 4 → (member m i).disk < length s.disks.disks
  below =
      let ab = fullest.ascending.0 in
      let bc = fullest.ascending.1 in
      let cd = fullest.ascending.2 in
      let there = fullest.there in
      four_cases (λ i. (member m i).disk < length s.disks.disks) (omega arith) (omega arith) (omega arith) (omega arith)

  here : (i : ℕ) → i < 4 → IsTakenFrom (without s.disks m) (member m i)
  here i range =
      let low = lowest_loose-is s.disks (member m i).disk (member m i).extent (fullest.lowest i range) in
      let all = bare.marks (member m i).disk (below i range) in
      let inside = low.0 in
      record { there = record { disk = below i range; extent = omega arith }; used = members_used s.disks m i range }

  before : (p : Place) → HasExtent s.disks p → is_loose s.disks p ≡ false → IsTakenFrom (without s.disks m) p
  before p there used =
      record { there = record { disk = there.disk; extent = there.extent }; used = used_without s.disks m p used }

  last : (g : ℕ) → g < length (formed s.book m).groups → length s.book.groups ≤ g → g ≡ length s.book.groups
  last g lt past = omega (arith, formed_group_count s.book m)

  in_group : (g i : ℕ) → g < length (formed s.book m).groups → i < 4
      → IsTakenFrom (without s.disks m) (member (group_in (formed s.book m).groups g).members i)
  in_group g i lt range = elim (cases_lt g (length s.book.groups)) [
    | inl old ↦
        let was = bare.extents g i old range in
        subst (λ (x : Members). IsTakenFrom (without s.disks m) (member x i))
        (sym (formed_members_other s.book m g old))
        (before (member (group_in s.book.groups g).members i) was.there was.used)
    | inr new ↦
        subst (λ (x : Members). IsTakenFrom (without s.disks m) (member x i))
        (sym (ap (λ k. (group_in (formed s.book m).groups k).members) (last g lt new) ∙ formed_members s.book m))
        (here i range)
  ]

  bare_next : IsBare (with_group s m)
  bare_next = record {
    geometry = bare.geometry;
    marks = λ d lt. marks_without s.disks m d ∙ bare.marks d lt;
    free = λ g lt. elim (cases_lt g (length s.book.groups)) [
      | inl old ↦ formed_class_other s.book m g old ∙ bare.free g old
      | inr new ↦ ap (λ k. class_of (formed s.book m) k) (last g lt new) ∙ formed_class s.book m
    ];
    empty = λ slot. formed_keys s.book m slot ∙ bare.empty slot;
    extents = λ g i lt range. let now = in_group g i lt range in record { there = now.there; used = now.used };
  }

bare_formed : (s : StoreState) (ms : List Members) (new : StoreState) → IsBare s → IsFormed s ms new → IsBare new
bare_formed s [] new bare end = subst (λ (x : StoreState). IsBare x) (sym end.1) bare
bare_formed s (m ∷ ms) new bare is = bare_formed (with_group s m) ms new (bare_next s m bare is.0) is.1

-- four disks have loose extents at first
many_loose : (disks : List DiskState) → 4 ≤ length disks → 1 ≤ (disk_in disks 0).extents → HasFewLoose (started disks)
    → ⊥
many_loose disks four some few =
    few.few 0 1 2 3 (omega arith) (omega arith) (omega arith) (omega arith) (loose 0 (omega arith))
    (loose 1 (omega arith)) (loose 2 (omega arith)) (loose 3 (omega arith))
  where
    e : ℕ
    e = (disk_in disks 0).extents

    n : ℕ
    n = length disks

    loose : (d : ℕ) → d < length disks → 0 < loose_count (started disks) d
    loose d lt =
        let size : length (replicate n e) ≡ n = length-replicate n e in
        let count = lined_count (started disks) (replicate n e) e d
        (lined_start (disk_in disks 0).geometry n e (started disks)
        (loose_started disks (disk_in disks 0).geometry n e refl refl refl)) (omega arith) in
        let here : get_or (replicate n e) d 0 ≡ e = get_or-replicate n d e 0 lt in
        omega arith

free_not_parity : Free ≢ Parity
free_not_parity e = true≢false (ap is_free e)

-- what a store keeps true holds once its groups are formed
pub started_fields : (s new : SetState) (t : Tables) (block : List ℕ) (g : Geometry) → IsSetStarted s
    → IsFormed (store_of s (empty_book s.geometry)) (members_list t) (store_of new t) → TablesAgree t
    → length block ≡ block_len_of s.geometry → g ≡ s.geometry → FieldsAgree (store_of new t) block g
started_fields s new t block g fresh is agree len scratch =
    let start = store_of s (empty_book s.geometry) in
    let first = subst (λ (x : SetState). IsBare (store_of x (empty_book x.geometry))) (sym fresh.set)
    (bare_start fresh.disks) in
    let some = start_some fresh.disks fresh.taken in
    let many = subst (λ (x : SetState). HasFewLoose x → ⊥) (sym fresh.set) (many_loose fresh.disks some.0 some.1) in
    let bare = bare_formed start (members_list t) (store_of new t) first is in
    let same = formed_same start (members_list t) (store_of new t) is in
    let count = formed_free start (members_list t) (store_of new t) is in
    let one = formed_some start (members_list t) (store_of new t) is many in
    record {
      kept = record {
        space = record {
          geometry = bare.geometry;
          tables = agree;
          extents = bare.extents;
          named = λ slot k names. absurd (none-some k (sym (bare.empty slot) ∙ names));
          parity = λ slot inside class lt. absurd (free_not_parity (sym (bare.free slot.group inside) ∙ class));
        };
        free = λ sound. omega arith;
      };
      block_len = len ∙ ap block_len_of (sym same.geometry);
      scratch_same = scratch ∙ sym same.geometry;
    }
