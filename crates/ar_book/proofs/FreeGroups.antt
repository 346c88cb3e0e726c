-- How many groups are free, before and after a change of one.
use Rattle.std.proofs.Common.{◌≡◌, ◌≢◌, ℕ, ◌+◌, ◌<◌, ◌≤◌, cond, Option, None, Some, List, length, set, count_by, refl}
use Rattle.std.proofs.Common.{arith}
use Rattle.std.proofs.lemmas.Bool.{cases_lt}
use Rattle.std.proofs.lemmas.List.{set_past}
use Rattle.std.proofs.lemmas.List.Sums.{sum_by-set}
use Rattle.ar_disks.specs.declared.address.Key.{Key}
use Rattle.ar_book.specs.declared.class.Class.{Class}
use Rattle.ar_book.specs.declared.class.Class.TheVariants.{Free, Mirrored, Parity}
use Rattle.ar_book.specs.declared.class.Slot.{Slot}
use Rattle.ar_book.specs.Tables.{GroupState, no_group, group_in, key_in, is_free}
use Rattle.ar_book.specs.Changes.{with_key, named, vacated}
use Rattle.ar_book.proofs.GroupLemmas.{put_same, freed_keeps, vacated_emptied}

-- how many of these groups are free
abbrev pub free_in : List GroupState → ℕ
free_in gs = count_by (λ g. is_free g.class) gs

-- 1 where the class is Free
abbrev pub one_if_free : Class → ℕ
one_if_free c = cond (is_free c) 1 0

at_most_one : (c : Class) → one_if_free c ≤ 1
at_most_one Free = omega arith
at_most_one Mirrored = omega arith
at_most_one Parity = omega arith

none_if_open : (c : Class) → c ≢ Free → one_if_free c ≡ 0
none_if_open Free ne = absurd (ne refl)
none_if_open Mirrored ne = refl
none_if_open Parity ne = refl

-- a group that is put counts in place of the former one
put_counts : (gs : List GroupState) (g : ℕ) (x : GroupState) → g < length gs
    → free_in (set gs g x) + one_if_free (group_in gs g).class ≡ free_in gs + one_if_free x.class
put_counts gs g x inside = sum_by-set (λ (y : GroupState). one_if_free y.class) gs g x no_group inside

-- where it has the class of the former one the count stays
pub put_free_same : (gs : List GroupState) (g : ℕ) (x : GroupState) → x.class ≡ (group_in gs g).class
    → free_in (set gs g x) ≡ free_in gs
put_free_same gs g x e = grind (arith, cases_lt, put_counts, set_past)

-- a free group that is put in the place of an open one is one more
pub put_free_more : (gs : List GroupState) (g : ℕ) (x : GroupState) → g < length gs → (group_in gs g).class ≢ Free
    → x.class ≡ Free
    → free_in (set gs g x) ≡ free_in gs + 1
put_free_more gs g x inside taken e = grind (arith, put_counts, none_if_open)

-- an open group that is put in the place of a free one is one less
pub put_free_less : (gs : List GroupState) (g : ℕ) (x : GroupState) → g < length gs → (group_in gs g).class ≡ Free
    → x.class ≢ Free
    → free_in (set gs g x) + 1 ≡ free_in gs
put_free_less gs g x inside e taken = grind (arith, put_counts, none_if_open)

-- naming a block frees no group and takes none
pub named_free : (gs : List GroupState) (s : Slot) (k : Key) → free_in (named gs s k) ≡ free_in gs
named_free gs s k = put_free_same gs s.group (with_key (group_in gs s.group) s.slot k) refl

-- vacating a slot takes no free group
pub vacated_free : (gs : List GroupState) (o : Option Slot) → free_in gs ≤ free_in (vacated gs o)
vacated_free gs None = omega arith
vacated_free gs (Some s) = grind (arith, cases_lt, freed_keeps, put_free_same, put_counts, at_most_one, set_past)

-- and as many are free where the slot's group keeps its class
pub vacated_free_same : (gs : List GroupState) (s : Slot) → s.group < length gs
    → (group_in (vacated gs (Some s)) s.group).class ≡ (group_in gs s.group).class
    → free_in (vacated gs (Some s)) ≡ free_in gs
vacated_free_same gs s inside e = grind (arith, put_free_same, put_same)

-- one more is free where an open group has no slot left that names a block
pub vacated_free_more : (gs : List GroupState) (s : Slot) → s.group < length gs → (group_in gs s.group).class ≢ Free
    → ((i : ℕ) → key_in (vacated gs (Some s)) (record { group = s.group; slot = i }) ≡ None)
    → free_in (vacated gs (Some s)) ≡ free_in gs + 1
vacated_free_more gs s inside taken empty = grind (arith, put_free_more, put_same, vacated_emptied)
