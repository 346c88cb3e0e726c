-- Rows of the extent that is rebuilt next, one after another.
use Rattle.std.proofs.Common.{◌≡◌, ◌⊎◌, inl, inr, ℕ, ◌+◌, ◌*◌, ◌/◌, ◌<◌, true, false, List, sym, ap, subst, ◌∙◌, arith}
use Rattle.std.proofs.lemmas.Bool.Decides.{eqb_tells}
use Rattle.ar_disks.specs.declared.geometry.Geometry.{Geometry}
use Rattle.ar_disks.specs.declared.address.Place.{Place}
use Rattle.ar_disks.specs.declared.address.Members.{Members}
use Rattle.ar_disks.specs.Geometry.{rows_of}
use Rattle.ar_disks.specs.Members.{member}
use Rattle.ar_extents.specs.Health.{IsRebuilding}
use Rattle.ar_extents.specs.Set.{SetState, content, IsSound}
use Rattle.ar_extents.specs.Access.{next_place}
use Rattle.ar_extents.specs.Groups.{IsGroup}
use Rattle.ar_extents.specs.Plans.{AttemptsAll}
use Rattle.ar_extents.proofs.GroupLemmas.{group_then}
use Rattle.ar_mirror.specs.Slots.{row_of, mirror_slots_of, partner_of}
use Rattle.ar_mirror.specs.Holds.{Holds as MirrorHolds}
use Rattle.ar_mirror.specs.Calls.{IsInPair}
use Rattle.ar_mirror.proofs.SlotLemmas.{pair_fits, row_fits, members_differ}
use Rattle.ar_mirror.proofs.Rebuilding.{rebuilt_has}
use Rattle.ar_mirror.proofs.Frames.{done_holds as mirror_done}
use Rattle.ar_parity.specs.Row.{Blocks, block, row_of as parity_row_of}
use Rattle.ar_parity.specs.Group.{RowAgrees, Holds as ParityHolds}
use Rattle.ar_parity.proofs.Frames.{done_holds as parity_done}
use Rattle.ar_book.specs.declared.class.Class.{Class}
use Rattle.ar_book.specs.declared.class.Class.TheVariants.{Free, Mirrored, Parity}
use Rattle.ar_store.proofs.Alike.{class_alike}
use Rattle.ar_rebuild.specs.Plans.{row_attempts, rows_attempts}
use Rattle.ar_rebuild.specs.Rows.{GroupIsWhole, StopsAtRow, IsRowWritten, RowIsWritten}
use Rattle.ar_rebuild.proofs.Writing.{next_same, row_kept, writes_alike}
use Rattle.ar_rebuild.proofs.Reported.{RowEffect, RowsEffect}

-- What the rows are written from is as it was: the partner is usable, and the stripes agree as they did.
abbrev pub KeepsSources : Class → SetState → SetState → Members → ℕ → ℕ → Type 0
KeepsSources Free a b m i rows = Unit {0}
KeepsSources Mirrored a b m i rows = 0 < rows → IsSound a (member m (partner_of i))
KeepsSources Parity a b m i rows = (r : ℕ) (blocks : Blocks) → RowAgrees a m r blocks → RowAgrees b m r blocks

-- The first `rows` rows of a member are written.
pub record AreWritten (class : Class) (a b : SetState) (m : Members) (i rows : ℕ) : Type 0 where
  pub rows_are : (r : ℕ) → r < rows → IsRowWritten class a b m i r
  pub sources : KeepsSources class a b m i rows

pub none_written : (class : Class) (s : SetState) (m : Members) (i : ℕ) → AreWritten class s s m i 0
none_written class s m i = record { rows_are = λ r lt. absurd (omega arith); sources = by class }
  where
    by : (d : Class) → KeepsSources d s s m i 0
    by Free = tt
    by Mirrored = λ some. absurd (omega arith)
    by Parity = λ r blocks has. has

pub written_health : (class : Class) (a b : SetState) (m : Members) (i row : ℕ) → RowIsWritten class a b m i row
    → b.health ≡ a.health
written_health Free a b m i row here = here
written_health Mirrored a b m i row here = here.health
written_health Parity a b m i row here = here.0.health

-- a row stays written where another one is
still_written : (class : Class) (a b c : SetState) (m : Members) (i r : ℕ)
    → content c (next_place a) r ≡ content b (next_place a) r → IsRowWritten class a b m i r
    → IsRowWritten class a c m i r
still_written Free a b c m i r kept was = tt
still_written Mirrored a b c m i r kept was = kept ∙ was
still_written Parity a b c m i r kept was = λ blocks has. kept ∙ was blocks has

module _ (class : Class) (a b c : SetState) (m : Members) (i row : ℕ) (effect : RowsEffect class m i row a b)
    (next : member m i ≡ next_place a) (before : AreWritten class a b m i row)
    (here : RowEffect class m i row b c) where
  -- one row more
  pub written_then : IsRebuilding a.health → RowIsWritten class b c m i row → AreWritten class a c m i (row + 1)
  written_then is one = record {
    rows_are = λ r lt. elim (eqb_tells r row) [
      | inl same ↦ subst (λ n. IsRowWritten class a c m i n) (sym same.1) (now class before.sources one)
      | inr apart ↦
          still_written class a b c m i r (row_kept a b c row r effect.health here.keeps apart.1)
          (before.rows_are r (let ne = apart.1 in omega arith))
    ];
    sources = after class before.sources one;
  }
    where
      now : (d : Class) → KeepsSources d a b m i row → RowIsWritten d b c m i row → IsRowWritten d a c m i row
      now Free kept one = tt
      now Mirrored kept one =
          ap (λ (p : Place). content c p row) (sym (next_same a b effect.health)) ∙ one.same
          ∙ (writes_alike a b is effect.writes).same (member m (partner_of i)) row one.was_sound
      now Parity kept one = λ blocks has.
          ap (λ (p : Place). content c p row) (sym next) ∙ one.0.agrees blocks (kept row blocks has)

      after : (d : Class) → KeepsSources d a b m i row → RowIsWritten d b c m i row → KeepsSources d a c m i (row + 1)
      after Free kept one = tt
      after Mirrored kept one = λ some. effect.writes.follows.usable (member m (partner_of i)) one.was_sound
      after Parity kept one = λ r blocks has. one.1 r blocks (kept r blocks has)

  -- the writing of a member's rows stopped at this one
  pub written_stops : row < rows_of a.geometry → AttemptsAll (rows_attempts class m i row) true a b
      → AttemptsAll (row_attempts class m i row) false b c → StopsAtRow class a c m i
  written_stops there made failed = record {
    row = row;
    there = there;
    below = λ r lt.
        still_written class a b c m i r
        (row_kept a b c row r effect.health here.keeps (λ same. absurd (omega arith))) (before.rows_are r lt);
    begun = b;
    made = made;
    failed = failed;
  }

-- Once all are, each slot of the group goes on holding its block when the extent counts as done.
copied_whole : (a b : SetState) (m : Members) (position : ℕ) → IsGroup a m → position < 4 → IsRebuilding a.health
    → member m position ≡ next_place a
    → RowsEffect Mirrored m position (rows_of a.geometry) a b
    → AreWritten Mirrored a b m position (rows_of a.geometry) → GroupIsWhole Mirrored a b m
copied_whole a b m position group below is next effect all = record {
  slots = λ i bytes inside has.
      mirror_done b m i bytes (group_then a b m effect.writes.follows group)
      (class_alike Mirrored a b m i bytes (writes_alike a b is effect.writes) has)
      (λ pair. rebuilt i bytes inside has (in_pair i (next_place b) (next_place a) (next_same a b effect.health) pair));
  health = effect.health;
}
  where
    in_pair : (i : ℕ) (p q : Place) → p ≡ q → IsInPair b.geometry m i p → IsInPair a.geometry m i q
    in_pair i p q same pair =
        let P : Place → Type 0 = λ x. IsInPair a.geometry m i x in
        subst P same (let Q : Geometry → Type 0 = λ g. IsInPair g m i p in subst Q effect.writes.follows.geometry pair)

    at : (i : ℕ) → i < mirror_slots_of a.geometry → IsInPair a.geometry m i (next_place a)
        → (position ≡ 2 * (i / rows_of a.geometry)) ⊎ (position ≡ 2 * (i / rows_of a.geometry) + 1)
    at i inside (inl one) =
        let fits = pair_fits a.geometry i inside in
        inl (members_differ m position (2 * (i / rows_of a.geometry)) group.apart below (omega arith) (next ∙ one))
    at i inside (inr other) =
        let fits = pair_fits a.geometry i inside in
        inr (members_differ m position (2 * (i / rows_of a.geometry) + 1) group.apart below (omega arith) (next
        ∙ other))

    rebuilt : (i : ℕ) (bytes : List ℕ) → i < mirror_slots_of a.geometry → MirrorHolds a m i bytes
        → IsInPair a.geometry m i (next_place a)
        → content b (next_place b) (row_of b.geometry i) ≡ bytes
    rebuilt i bytes inside has pair =
        ap (λ (p : Place). content b p (row_of b.geometry i)) (next_same a b effect.health)
        ∙ ap (λ (g : Geometry). content b (next_place a) (row_of g i)) effect.writes.follows.geometry
        ∙ rebuilt_has a b m i position bytes inside (at i inside pair) (record {
          same = all.rows_are (row_of a.geometry i) (row_fits a.geometry i);
          was_sound = all.sources (let lt = row_fits a.geometry i in omega arith);
          health = effect.health;
        }) has

summed_whole : (a b : SetState) (m : Members) (position : ℕ) → IsGroup a m → position < 4 → IsRebuilding a.health
    → member m position ≡ next_place a
    → RowsEffect Parity m position (rows_of a.geometry) a b
    → AreWritten Parity a b m position (rows_of a.geometry) → GroupIsWhole Parity a b m
summed_whole a b m position group below is next effect all = record {
  slots = λ i bytes inside has.
      parity_done b m i bytes (group_then a b m effect.writes.follows group)
      (record { blocks = has.blocks; agrees = all.sources (parity_row_of i) has.blocks has.agrees; here = has.here })
      (λ j lt same. rebuilt i bytes inside has j lt (same ∙ next_same a b effect.health));
  health = effect.health;
}
  where
    rebuilt : (i : ℕ) (bytes : List ℕ) → i < 3 * rows_of a.geometry → (has : ParityHolds a m i bytes) → (j : ℕ) → j < 4
        → member m j ≡ next_place a
        → content b (next_place b) (parity_row_of i) ≡ block has.blocks j
    rebuilt i bytes inside has j lt same =
        let position_is = members_differ m position j group.apart below lt (next ∙ sym same) in
        ap (λ (p : Place). content b p (parity_row_of i)) (next_same a b effect.health)
        ∙ all.rows_are (parity_row_of i) (omega arith) has.blocks has.agrees
        ∙ ap (λ n. block has.blocks n) position_is

pub written_whole : (class : Class) (a b : SetState) (m : Members) (i : ℕ) → IsGroup a m → i < 4
    → IsRebuilding a.health → member m i ≡ next_place a
    → RowsEffect class m i (rows_of a.geometry) a b
    → AreWritten class a b m i (rows_of a.geometry) → GroupIsWhole class a b m
written_whole Free a b m i group below is next effect all =
    record { slots = λ j bytes inside has. absurd (omega arith); health = effect.health }
written_whole Mirrored a b m i group below is next effect all = copied_whole a b m i group below is next effect all
written_whole Parity a b m i group below is next effect all = summed_whole a b m i group below is next effect all
