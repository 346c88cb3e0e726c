-- The cached blocks of a part of one unit are given to the disks.
use Rattle.std.proofs.Common.{◌≡◌, ℕ, ◌+◌, ◌-◌, ◌/◌, ◌<◌, ◌≤◌, min, nat_lt, Bool, true, false, cond, IsTrue, is_some}
use Rattle.std.proofs.Common.{List, length, Option, None, Some, refl, sym, ap, subst, ◌∙◌, inl, inr, true≢false, arith}
use Rattle.std.proofs.lemmas.Bool.{cases_lt, ltb-true, ltb-false}
use Rattle.ar_disks.specs.declared.address.Addr.{Addr}
use Rattle.ar_disks.specs.declared.address.Key.{Key}
use Rattle.ar_disks.specs.declared.geometry.Geometry.{Geometry}
use Rattle.ar_disks.specs.declared.geometry.Geometry.TheVariants.{Paper, Small}
use Rattle.ar_disks.specs.Geometry.{sectors_of}
use Rattle.ar_book.specs.Tables.{blocks_of, has_unit, unit_in}
use Rattle.ar_store.proofs.Changes.{units_refl}
use Rattle.ar_store.proofs.Fills.{accessed_refl}
use Rattle.ar_cache.specs.Backing.{InTurn, StopsInTurn}
use Rattle.ar_cache.specs.Cache.{CacheState, cached}
use Rattle.ar_volume.specs.declared.flush.PartFlush.TheVariants.{Done, More, Absent, Broken}
use Rattle.ar_volume.specs.Flush.{EmptiesPart, FlushesPart, after_part, blocks_at, part_keys}
use Rattle.ar_volume.specs.Following.{ArrayFollows}
use Rattle.ar_volume.specs.Image.{ArrayState, CacheAgrees, geometry_of, is_broken}
use Rattle.ar_volume.specs.Sectors.{key_of, keys_from}
use Rattle.ar_volume.specs.Seen.{IsUnit, KeepsCachedBut}
use Rattle.ar_volume.specs.Storing.{BreaksForced, ForcesBlock}
use Rattle.ar_volume.proofs.Seeing.{seen_absent}

-- a unit's blocks are those up to the one that its last sector lies in
last_block : (g : Geometry) (n : ℕ) → 1 ≤ n → (n - 1) / sectors_of g + 1 ≡ blocks_of g n
last_block Paper n some = omega arith
last_block Small n some = omega arith

-- the number of a unit's last block
abbrev IsLast : ArrayState → ℕ → ℕ → Type 0
IsLast s sectors last = last ≡ (sectors - 1) / sectors_of (geometry_of s)

blocks_are : (s : ArrayState) (addr : Addr) (sectors last : ℕ) → IsUnit s addr sectors → IsLast s sectors last
    → last + 1 ≡ length (unit_in s.store.book.units addr).homes
blocks_are s addr sectors last unit is =
    ap (λ n. n + 1) is ∙ last_block (geometry_of s) sectors unit.some ∙ sym unit.blocks

-- no unit has more blocks than this
few_blocks : (g : Geometry) (n : ℕ) → n ≤ 1048576 → (n - 1) / sectors_of g < 1048575
few_blocks Paper n few = omega arith
few_blocks Small n few = omega arith

-- the last block of a part, in a unit whose last block is `end`
abbrev IsPartLast : ℕ → ℕ → ℕ → Type 0
IsPartLast first end last = last ≡ min end (min (first + 63) 4294967295)

keys_are : (old : ArrayState) (addr : Addr) (first sectors last end : ℕ) → IsUnit old addr sectors
    → IsLast old sectors end → IsPartLast first end last
    → keys_from addr first (last + 1 - first) ≡ part_keys old addr first
keys_are old addr first sectors last end unit is part =
    let blocks : end + 1 ≡ blocks_at old addr = blocks_are old addr sectors end unit is in
    let few : end < 1048575 =
    subst (λ n. n < 1048575) (sym is) (few_blocks (geometry_of old) sectors unit.few) in
    let many : last + 1 - first ≡ min 64 (blocks_at old addr - first) = omega (arith, blocks, few, part) in
    ap (keys_from addr first) many

-- a block that no unit has isn't cached
not_known : (s : ArrayState) (k : Key) → CacheAgrees s → length (unit_in s.store.book.units k.addr).homes ≤ k.rb
    → cached s.cache k ≡ None
not_known s k agrees past = by (cached s.cache k) refl
  where
    by : (o : Option (List ℕ)) → cached s.cache k ≡ o → cached s.cache k ≡ None
    by None is = is
    by (Some block) is = absurd (
        let there : k.rb < length (unit_in s.store.book.units k.addr).homes =
        ltb-true k.rb (length (unit_in s.store.book.units k.addr).homes)
        (agrees.known.known k (ap (λ (o : Option (List ℕ)). is_some o) is)) in
        omega arith)

-- what a part leaves cached
others_kept : (old new : CacheState) (addr : Addr) (first last end : ℕ) → last + 1 ≤ end
    → KeepsCachedBut old new addr first (last + 1) → KeepsCachedBut old new addr first end
others_kept old new addr first last end within kept = record {
  others = λ k out. kept.others k (elim out [
    | inl other ↦ inl other
    | inr place ↦ inr (elim place [
      | inl low ↦ inl low
      | inr high ↦ inr (omega arith)
    ])
  ]);
}

-- all of the part's blocks were given to the disks
pub part_flushed : (old new : ArrayState) (addr : Addr) (first sectors last end : ℕ) → CacheAgrees old
    → IsUnit old addr sectors → IsLast old sectors end → IsPartLast first end last → is_broken old ≡ false
    → is_broken new ≡ false
    → ((rb : ℕ) → first ≤ rb → rb ≤ last → cached new.cache (key_of addr rb) ≡ None)
    → KeepsCachedBut old.cache new.cache addr first (last + 1)
    → InTurn ForcesBlock (keys_from addr first (last + 1 - first)) old new
    → ArrayFollows old new → FlushesPart old addr first (after_part last end) new
part_flushed old new addr first sectors last end agrees unit is part was now forced kept turn follows =
    by (nat_lt last end) refl
  where
    blocks : end + 1 ≡ blocks_at old addr
    blocks = blocks_are old addr sectors end unit is

    few : end < 1048575
    few = subst (λ n. n < 1048575) (sym is) (few_blocks (geometry_of old) sectors unit.few)

    none : (rb : ℕ) → first ≤ rb → rb < first + 64 → cached new.cache (key_of addr rb) ≡ None
    none rb from below = elim (cases_lt rb (last + 1)) [
      | inl inside ↦ forced rb from (omega arith)
      | inr past ↦
          kept.others (key_of addr rb) (inr (inr past))
          ∙ not_known old (key_of addr rb) agrees (omega (arith, blocks, few, part))
    ]

    keys : keys_from addr first (last + 1 - first) ≡ part_keys old addr first
    keys = keys_are old addr first sectors last end unit is part

    emptied : EmptiesPart old addr first new
    emptied = record {
      in_turn = subst (λ ks. InTurn ForcesBlock ks old new) keys turn;
      uncached = none;
      on_disks = record { same = λ rb from below. seen_absent new (key_of addr rb) (none rb from below) };
      spared = others_kept old.cache new.cache addr first last (first + 64) (omega (arith, part)) kept;
    }

    by : (left : Bool) → nat_lt last end ≡ left → FlushesPart old addr first (cond left (More (last + 1)) Done) new
    by true more = record {
      ends = record {
        there = λ _. unit.there;
        done = λ e. absurd (cc);
        goes_on = λ next e. (let same : next ≡ last + 1 = cc in let below = ltb-true last end more in
            (omega (arith, same, below, blocks, few, part), omega (arith, same, below, blocks)));
        few = λ next e. (let same : next ≡ last + 1 = cc in let below = ltb-true last end more in
            omega (arith, same, below, few));
        absent = λ e. absurd (cc);
      };
      empties = λ _. emptied;
      stopped = λ e _. absurd (cc);
      idle = λ e. absurd (cc);
      units = follows.store.units;
      accessed = follows.store.accessed;
      broken = (λ e. absurd (cc), λ e. absurd (true≢false (sym e ∙ now)));
      unchanged = λ e. absurd (true≢false (sym e ∙ was));
    }
    by false none_left = record {
      ends = record {
        there = λ _. unit.there;
        done = λ _. (let past = ltb-false last end none_left in omega (arith, past, blocks, few, part));
        goes_on = λ next e. absurd (cc);
        few = λ next e. absurd (cc);
        absent = λ e. absurd (cc);
      };
      empties = λ _. emptied;
      stopped = λ e _. absurd (cc);
      idle = λ e. absurd (cc);
      units = follows.store.units;
      accessed = follows.store.accessed;
      broken = (λ e. absurd (cc), λ e. absurd (true≢false (sym e ∙ now)));
      unchanged = λ e. absurd (true≢false (sym e ∙ was));
    }

-- the array failed at one of them
pub part_stopped : (old new : ArrayState) (addr : Addr) (first sectors last end : ℕ) → IsUnit old addr sectors
    → IsLast old sectors end → IsPartLast first end last → is_broken old ≡ false → IsTrue (is_broken new)
    → StopsInTurn ForcesBlock BreaksForced (keys_from addr first (last + 1 - first)) old new → ArrayFollows old new
    → FlushesPart old addr first Broken new
part_stopped old new addr first sectors last end unit is part was now stops follows = record {
  ends = record {
    there = λ e. absurd (cc);
    done = λ e. absurd (cc);
    goes_on = λ next e. absurd (cc);
    few = λ next e. absurd (cc);
    absent = λ e. absurd (cc);
  };
  empties = λ e. absurd (cc);
  stopped = λ _ _.
      subst (λ ks. StopsInTurn ForcesBlock BreaksForced ks old new)
      (keys_are old addr first sectors last end unit is part) stops;
  idle = λ e. absurd (cc);
  units = follows.store.units;
  accessed = follows.store.accessed;
  broken = (λ _. now, λ _. refl);
  unchanged = λ e. absurd (true≢false (sym e ∙ was));
}

-- there is no such unit
pub part_absent : (s : ArrayState) (addr : Addr) (first : ℕ) → is_broken s ≡ false
    → has_unit s.store.book addr ≡ false → FlushesPart s addr first Absent s
part_absent s addr first sound none = record {
  ends = record {
    there = λ e. absurd (cc);
    done = λ e. absurd (cc);
    goes_on = λ next e. absurd (cc);
    few = λ next e. absurd (cc);
    absent = λ _. none;
  };
  empties = λ e. absurd (cc);
  stopped = λ e _. absurd (cc);
  idle = λ _. refl;
  units = units_refl s.store.book;
  accessed = accessed_refl s.store.disks;
  broken = (λ e. absurd (cc), λ e. absurd (true≢false (sym e ∙ sound)));
  unchanged = λ _. refl;
}

-- the array had failed before
pub part_lost : (s : ArrayState) (addr : Addr) (first : ℕ) → IsTrue (is_broken s) → FlushesPart s addr first Broken s
part_lost s addr first lost = record {
  ends = record {
    there = λ e. absurd (cc);
    done = λ e. absurd (cc);
    goes_on = λ next e. absurd (cc);
    few = λ next e. absurd (cc);
    absent = λ e. absurd (cc);
  };
  empties = λ e. absurd (cc);
  stopped = λ _ sound. absurd (true≢false (sym lost ∙ sound));
  idle = λ e. absurd (cc);
  units = units_refl s.store.book;
  accessed = accessed_refl s.store.disks;
  broken = (λ _. lost, λ _. refl);
  unchanged = λ _. refl;
}
