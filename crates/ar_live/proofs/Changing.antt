-- What an operation that was done, or not done, leaves of a history.
use Rattle.std.proofs.Common.{◌≡◌, ◌≢◌, ℕ, ◌<◌, ◌-◌, Bool, true, false, cond, not, ◌||◌, eqb, nat_lt, nat_le, Option}
use Rattle.std.proofs.Common.{Some, None, Result, Ok, Err, List, [], ◌∷◌, ◌++◌, length, refl, sym, ap, subst, ◌∙◌}
use Rattle.std.proofs.Common.{arith}
use Rattle.std.specs.Prelude.{option_map, count_by}
use Rattle.std.proofs.lemmas.Bool.{or_parts, ltb-false, leb-false, eqb-false, true≢false}
use Rattle.std.proofs.lemmas.List.Sums.{sum_by-append}
use Rattle.ar_disks.specs.declared.address.Addr.{Addr}
use Rattle.ar_unit.specs.Unit.{UnitEntry}
use Rattle.ar_unit.specs.Broken.{Shape, shape_of}
use Rattle.ar_book.specs.declared.refusal.Refusal.TheVariants.{BadLun, Exists, Size, NoRoom, Absent}
use Rattle.ar_book.specs.Tables.{has_unit, unit_in, blocks_of, room}
use Rattle.ar_book.specs.Refusals as book
use Rattle.ar_volume.specs.declared.refusal.Refusal.{Refusal}
use Rattle.ar_volume.specs.declared.refusal.Refusal.TheVariants.{Unit as UnitRefused, Broken}
use Rattle.ar_volume.specs.Sectors.{Address, address_of, same_address}
use Rattle.ar_volume.specs.Image.{ArrayState, is_broken, length_at, attention_at, image, image_at}
use Rattle.ar_volume.specs.Changes.{Makes, Grows, Removes}
use Rattle.ar_volume.proofs.Images.{image_here, shape_by, shape_here}
use Rattle.ar_core.specs.Events.{Event, Outcome}
use Rattle.ar_core.specs.Step.{Steps, Answers, is_quiet, entry_at}
use Rattle.ar_core.specs.declared.event.EventOf.TheVariants as events
use Rattle.ar_core.specs.declared.event.OutcomeOf.TheVariants as outcomes
use Rattle.ar_served.specs.declared.entry.Entry.{Entry}
use Rattle.ar_served.specs.declared.entry.Entry.TheVariants as entries
use Rattle.ar_served.specs.History.{address_in, replay, Fits, is_command}
use Rattle.ar_served.specs.Kept.{HistoryAgrees, history_entry}
use Rattle.ar_live.specs.Live.{entry_asked, is_done}
use Rattle.ar_live.proofs.Keeping.{one_at, kept_same, kept_more}

-- a quiet event is no entry
pub quiet_none : (event : Event) (outcome : Outcome) (a : Address) → is_quiet event ≡ true
    → entry_at a event outcome ≡ []
quiet_none (events.Make addr n) outcome a quiet = absurd (true≢false (sym quiet))
quiet_none (events.Grow addr n) outcome a quiet = absurd (true≢false (sym quiet))
quiet_none (events.Remove addr) outcome a quiet = absurd (true≢false (sym quiet))
quiet_none (events.Cmd host lun cdb payload) outcome a quiet = absurd (true≢false (sym quiet))
quiet_none (events.Unmap addr lba count) outcome a quiet = absurd (true≢false (sym quiet))
quiet_none events.Flush outcome a quiet = refl
quiet_none (events.FlushPart addr first) outcome a quiet = refl
quiet_none events.Demote outcome a quiet = refl
quiet_none events.Clean outcome a quiet = refl
quiet_none events.Balance outcome a quiet = refl
quiet_none (events.AddDisk disk) outcome a quiet = refl
quiet_none (events.DiskOut d) outcome a quiet = refl
quiet_none (events.Replace d disk) outcome a quiet = refl
quiet_none events.Rebuild outcome a quiet = refl

-- one entry more that is no command leaves their number
pub count_more : (history : List Entry) (entry : Entry) → is_command entry ≡ false
    → count_by is_command (history ++ entry ∷ []) ≡ count_by is_command history
count_more history entry none =
    let more = sum_by-append (λ (e : Entry). cond (is_command e) 1 0) history (entry ∷ []) in
    let one : cond {A = ℕ} (is_command entry) 1 0 ≡ 0 = ap (λ (b : Bool). cond {A = ℕ} b 1 0) none in
    omega (arith, more, one)

-- what is known where a change was done, of the array before it
record WasDone (old : ArrayState) (event : Event) (outcome : Outcome) (history : List Entry) (entry : Entry)
    : Type 0 where
  sound : is_broken old ≡ false
  at : (a : Address) → entry_at a event outcome ≡ one_at a entry
  fits : Fits (replay history (address_in entry)) entry
  recorded : history_entry event outcome ≡ entry ∷ []
  quiet : is_command entry ≡ false

-- and where it was not
record WasNotDone (event : Event) (outcome : Outcome) : Type 0 where
  at : (a : Address) → entry_at a event outcome ≡ []
  recorded : history_entry event outcome ≡ []

abbrev Tells : ArrayState → Event → Outcome → List Entry → Entry → Type 0
Tells old event outcome history entry =
    (is_done outcome ≡ true → WasDone old event outcome history entry)
    × (is_done outcome ≡ false → WasNotDone event outcome)

abbrev no_entry : List UnitEntry
no_entry = []

nothing_either : (b : Bool) → cond b no_entry no_entry ≡ no_entry
nothing_either true = refl
nothing_either false = refl

first_false : {A B : Type 0} (broken : Bool) (r : A) (f : B → A) (o : Option B)
    → cond broken (Some r) (option_map f o) ≡ None → (broken ≡ false) × (o ≡ None)
first_false true r f o none = absurd (cc)
first_false false r f None none = (refl, refl)
first_false false r f (Some x) none = absurd (cc)

make_parts : {A : Type 0} (a b c d : Bool) (x y z w : A)
    → cond a (Some x) (cond b (Some y) (cond c (Some z) (cond d (Some w) None))) ≡ None
    → (a ≡ false) × (b ≡ false) × (c ≡ false)
make_parts true b c d x y z w e = absurd (cc)
make_parts false true c d x y z w e = absurd (cc)
make_parts false false true d x y z w e = absurd (cc)
make_parts false false false d x y z w e = (refl, refl, refl)

grow_parts : {A : Type 0} (a b c : Bool) (x y z : A)
    → cond (not a) (Some x) (cond b (Some y) (cond c (Some z) None)) ≡ None → (a ≡ true) × (b ≡ false)
grow_parts false b c x y z e = absurd (cc)
grow_parts true true c x y z e = absurd (cc)
grow_parts true false c x y z e = (refl, refl)

remove_parts : {A : Type 0} (a b : Bool) (x y : A) → cond a (Some x) (cond b None (Some y)) ≡ None
    → (a ≡ false) × (b ≡ true)
remove_parts true b x y e = absurd (cc)
remove_parts false true x y e = (refl, refl)
remove_parts false false x y e = absurd (cc)

-- the shape of a unit that is there or not
abbrev shape_if : Bool → ℕ → Bool → Shape
shape_if there sectors mark =
    cond there (record { present = true; sectors = sectors; attention = mark })
    (record { present = false; sectors = 0; attention = false })

-- the tables' word for the replay
shape_at : (s : ArrayState) (addr : Addr) → shape_of (image s (address_of addr)) ≡ shape_by s.store.book addr
shape_at s addr = ap shape_of (image_here (image_at s) addr) ∙ shape_here s addr

there_at : (s : ArrayState) (history : List Entry) (addr : Addr) (b : Bool) → HistoryAgrees s history
    → has_unit s.store.book addr ≡ b
    → (shape_of (replay history (address_of addr))).present ≡ b
there_at s history addr true kept there =
    sym (kept.lengths (address_of addr)).present ∙ ap (λ (x : Shape). x.present) (shape_at s addr)
    ∙ ap (λ (b : Bool). (shape_if b (length_at s.store.book addr) (attention_at s.store.book addr)).present) there
there_at s history addr false kept there =
    sym (kept.lengths (address_of addr)).present ∙ ap (λ (x : Shape). x.present) (shape_at s addr)
    ∙ ap (λ (b : Bool). (shape_if b (length_at s.store.book addr) (attention_at s.store.book addr)).present) there

long_at : (s : ArrayState) (history : List Entry) (addr : Addr) → HistoryAgrees s history
    → has_unit s.store.book addr ≡ true
    → (shape_of (replay history (address_of addr))).sectors ≡ length_at s.store.book addr
long_at s history addr kept there =
    sym (kept.lengths (address_of addr)).sectors ∙ ap (λ (x : Shape). x.sectors) (shape_at s addr)
    ∙ ap (λ (b : Bool). (shape_if b (length_at s.store.book addr) (attention_at s.store.book addr)).sectors) there

made : (old new : ArrayState) (addr : Addr) (n : ℕ) (result : Result (Unit {0}) Refusal) (history : List Entry)
    → HistoryAgrees old history → Makes old addr n result new
    → Tells old (events.Make addr n) (outcomes.Make result) history (entries.Make addr n)
made old new addr n (Err refusal) history kept makes = (
  λ done. absurd (true≢false (sym done)),
  λ _. record { at = λ a. nothing_either (same_address (address_of addr) a); recorded = refl },
)
made old new addr n (Ok done) history kept makes =
    let granted =
    first_false (is_broken old) Broken UnitRefused (book.unit_make_refusal old.store.book addr n) makes.granted in
    let t = old.store.book in
    let parts = make_parts (nat_lt 7 addr.lun) (has_unit t addr) (eqb n 0 || nat_lt 1048576 n)
    (nat_lt (room t) (blocks_of t.geometry n)) BadLun Exists Size (NoRoom (room t)) granted.1 in
    let size = or_parts (eqb n 0) (nat_lt 1048576 n) parts.2 in
    let some : n ≢ 0 = eqb-false n 0 size.0 in (
      λ _. record {
        sound = granted.0;
        at = λ a. refl;
        fits = record {
          absent = there_at old history addr false kept parts.1;
          lun_known = ltb-false 7 addr.lun parts.0;
          some = omega arith;
          few = ltb-false 1048576 n size.1;
        };
        recorded = refl;
        quiet = refl;
      },
      λ not_done. absurd (true≢false not_done),
    )

grown : (old new : ArrayState) (addr : Addr) (n : ℕ) (result : Result (Unit {0}) Refusal) (history : List Entry)
    → HistoryAgrees old history → Grows old addr n result new
    → Tells old (events.Grow addr n) (outcomes.Grow result) history (entries.Grow addr n)
grown old new addr n (Err refusal) history kept grows = (
  λ done. absurd (true≢false (sym done)),
  λ _. record { at = λ a. nothing_either (same_address (address_of addr) a); recorded = refl },
)
grown old new addr n (Ok done) history kept grows =
    let granted =
    first_false (is_broken old) Broken UnitRefused (book.unit_grow_refusal old.store.book addr n) grows.granted in
    let t = old.store.book in
    let parts =
    grow_parts (has_unit t addr) (nat_le n (unit_in t.units addr).sectors || nat_lt 1048576 n)
    (nat_lt (room t) (blocks_of t.geometry n - length (unit_in t.units addr).homes)) Absent Size (NoRoom (room t))
    granted.1 in
    let size = or_parts (nat_le n (unit_in t.units addr).sectors) (nat_lt 1048576 n) parts.1 in
    let long = long_at old history addr kept parts.0 in
    let more : (unit_in t.units addr).sectors < n = leb-false n (unit_in t.units addr).sectors size.0 in (
      λ _. record {
        sound = granted.0;
        at = λ a. refl;
        fits = record {
          present = there_at old history addr true kept parts.0;
          more = omega (arith, long, more);
          few = ltb-false 1048576 n size.1;
        };
        recorded = refl;
        quiet = refl;
      },
      λ not_done. absurd (true≢false not_done),
    )

removed : (old new : ArrayState) (addr : Addr) (result : Result (Unit {0}) Refusal) (history : List Entry)
    → HistoryAgrees old history → Removes old addr result new
    → Tells old (events.Remove addr) (outcomes.Remove result) history (entries.Remove addr)
removed old new addr (Err refusal) history kept removes = (
  λ done. absurd (true≢false (sym done)),
  λ _. record { at = λ a. nothing_either (same_address (address_of addr) a); recorded = refl },
)
removed old new addr (Ok done) history kept removes =
    let parts = remove_parts (is_broken old) (has_unit old.store.book addr) Broken (UnitRefused Absent)
    removes.changes.granted in (
      λ _. record {
        sound = parts.0;
        at = λ a. refl;
        fits = there_at old history addr true kept parts.1;
        recorded = refl;
        quiet = refl;
      },
      λ not_done. absurd (true≢false not_done),
    )

-- each event that is an operation on a unit, by its answer
tells_by : (old new : ArrayState) (event : Event) (outcome : Outcome) (history : List Entry) (entry : Entry)
    → HistoryAgrees old history → Answers old event outcome new
    → entry_asked event ≡ Some entry → Tells old event outcome history entry
tells_by old new (events.Make addr n) (outcomes.Make result) history entry kept answers asked =
    subst (λ (x : Entry). Tells old (events.Make addr n) (outcomes.Make result) history x) (cc asked)
    (made old new addr n result history kept answers)
tells_by old new (events.Make addr n) (outcomes.Grow result) history entry kept answers asked = absurd answers
tells_by old new (events.Make addr n) (outcomes.Remove result) history entry kept answers asked = absurd answers
tells_by old new (events.Make addr n) (outcomes.Cmd result) history entry kept answers asked = absurd answers
tells_by old new (events.Make addr n) (outcomes.Flush result) history entry kept answers asked = absurd answers
tells_by old new (events.Make addr n) (outcomes.FlushPart result) history entry kept answers asked = absurd answers
tells_by old new (events.Make addr n) (outcomes.Unmap reply) history entry kept answers asked = absurd answers
tells_by old new (events.Make addr n) (outcomes.Demote result) history entry kept answers asked = absurd answers
tells_by old new (events.Make addr n) (outcomes.Clean result) history entry kept answers asked = absurd answers
tells_by old new (events.Make addr n) (outcomes.Balance result) history entry kept answers asked = absurd answers
tells_by old new (events.Make addr n) (outcomes.AddDisk result) history entry kept answers asked = absurd answers
tells_by old new (events.Make addr n) (outcomes.DiskOut result) history entry kept answers asked = absurd answers
tells_by old new (events.Make addr n) (outcomes.Replace result) history entry kept answers asked = absurd answers
tells_by old new (events.Make addr n) (outcomes.Rebuild result) history entry kept answers asked = absurd answers
tells_by old new (events.Grow addr n) (outcomes.Make result) history entry kept answers asked = absurd answers
tells_by old new (events.Grow addr n) (outcomes.Grow result) history entry kept answers asked =
    subst (λ (x : Entry). Tells old (events.Grow addr n) (outcomes.Grow result) history x) (cc asked)
    (grown old new addr n result history kept answers)
tells_by old new (events.Grow addr n) (outcomes.Remove result) history entry kept answers asked = absurd answers
tells_by old new (events.Grow addr n) (outcomes.Cmd result) history entry kept answers asked = absurd answers
tells_by old new (events.Grow addr n) (outcomes.Flush result) history entry kept answers asked = absurd answers
tells_by old new (events.Grow addr n) (outcomes.FlushPart result) history entry kept answers asked = absurd answers
tells_by old new (events.Grow addr n) (outcomes.Unmap reply) history entry kept answers asked = absurd answers
tells_by old new (events.Grow addr n) (outcomes.Demote result) history entry kept answers asked = absurd answers
tells_by old new (events.Grow addr n) (outcomes.Clean result) history entry kept answers asked = absurd answers
tells_by old new (events.Grow addr n) (outcomes.Balance result) history entry kept answers asked = absurd answers
tells_by old new (events.Grow addr n) (outcomes.AddDisk result) history entry kept answers asked = absurd answers
tells_by old new (events.Grow addr n) (outcomes.DiskOut result) history entry kept answers asked = absurd answers
tells_by old new (events.Grow addr n) (outcomes.Replace result) history entry kept answers asked = absurd answers
tells_by old new (events.Grow addr n) (outcomes.Rebuild result) history entry kept answers asked = absurd answers
tells_by old new (events.Remove addr) (outcomes.Make result) history entry kept answers asked = absurd answers
tells_by old new (events.Remove addr) (outcomes.Grow result) history entry kept answers asked = absurd answers
tells_by old new (events.Remove addr) (outcomes.Remove result) history entry kept answers asked =
    subst (λ (x : Entry). Tells old (events.Remove addr) (outcomes.Remove result) history x) (cc asked)
    (removed old new addr result history kept answers)
tells_by old new (events.Remove addr) (outcomes.Cmd result) history entry kept answers asked = absurd answers
tells_by old new (events.Remove addr) (outcomes.Flush result) history entry kept answers asked = absurd answers
tells_by old new (events.Remove addr) (outcomes.FlushPart result) history entry kept answers asked = absurd answers
tells_by old new (events.Remove addr) (outcomes.Unmap reply) history entry kept answers asked = absurd answers
tells_by old new (events.Remove addr) (outcomes.Demote result) history entry kept answers asked = absurd answers
tells_by old new (events.Remove addr) (outcomes.Clean result) history entry kept answers asked = absurd answers
tells_by old new (events.Remove addr) (outcomes.Balance result) history entry kept answers asked = absurd answers
tells_by old new (events.Remove addr) (outcomes.AddDisk result) history entry kept answers asked = absurd answers
tells_by old new (events.Remove addr) (outcomes.DiskOut result) history entry kept answers asked = absurd answers
tells_by old new (events.Remove addr) (outcomes.Replace result) history entry kept answers asked = absurd answers
tells_by old new (events.Remove addr) (outcomes.Rebuild result) history entry kept answers asked = absurd answers
tells_by old new (events.Cmd host lun cdb payload) outcome history entry kept answers asked = absurd (cc)
tells_by old new (events.Unmap addr lba count) outcome history entry kept answers asked = absurd (cc)
tells_by old new events.Flush outcome history entry kept answers asked = absurd (cc)
tells_by old new (events.FlushPart addr first) outcome history entry kept answers asked = absurd (cc)
tells_by old new events.Demote outcome history entry kept answers asked = absurd (cc)
tells_by old new events.Clean outcome history entry kept answers asked = absurd (cc)
tells_by old new events.Balance outcome history entry kept answers asked = absurd (cc)
tells_by old new (events.AddDisk disk) outcome history entry kept answers asked = absurd (cc)
tells_by old new (events.DiskOut d) outcome history entry kept answers asked = absurd (cc)
tells_by old new (events.Replace d disk) outcome history entry kept answers asked = absurd (cc)
tells_by old new events.Rebuild outcome history entry kept answers asked = absurd (cc)

-- a change that was done is the history's next entry, and the array wasn't broken
pub done_kept : (old new : ArrayState) (event : Event) (outcome : Outcome) (history : List Entry) (entry : Entry)
    → HistoryAgrees old history → Steps old event outcome new
    → entry_asked event ≡ Some entry → is_done outcome ≡ true → HistoryAgrees new (history ++ entry ∷ [])
done_kept old new event outcome history entry kept steps asked done =
    let was = (tells_by old new event outcome history entry kept steps.answers asked).0 done in
    kept_more old new event outcome history entry kept steps was.at was.fits

pub done_count : (old new : ArrayState) (event : Event) (outcome : Outcome) (history : List Entry) (entry : Entry)
    → HistoryAgrees old history → Steps old event outcome new
    → entry_asked event ≡ Some entry → is_done outcome ≡ true
    → count_by is_command (history ++ entry ∷ []) ≡ count_by is_command history
done_count old new event outcome history entry kept steps asked done =
    count_more history entry ((tells_by old new event outcome history entry kept steps.answers asked).0 done).quiet

-- one that was not leaves it
pub not_done_kept : (old new : ArrayState) (event : Event) (outcome : Outcome) (history : List Entry) (entry : Entry)
    → HistoryAgrees old history → Steps old event outcome new
    → entry_asked event ≡ Some entry → is_done outcome ≡ false → HistoryAgrees new history
not_done_kept old new event outcome history entry kept steps asked not_done =
    kept_same old new event outcome history kept steps
    ((tells_by old new event outcome history entry kept steps.answers asked).1 not_done).at
