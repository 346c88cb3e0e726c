-- What each event but a command makes of the units.
use Rattle.std.proofs.Common.{◌≡◌, ◌≢◌, ℕ, ◌-◌, ◌≤◌, Bool, true, false, cond, Option, Some, None, IsSome, is_some, List}
use Rattle.std.proofs.Common.{[], ◌∷◌, ◌++◌, length, Result, Ok, Err, refl, sym, ap, subst, ◌∙◌, inl, inr, arith}
use Rattle.std.proofs.Common.{true≢false}
use Rattle.std.specs.Prelude.{◌/◌, nat_le, option_map, OnOk}
use Rattle.ar_disks.specs.declared.geometry.Geometry.{Geometry}
use Rattle.std.specs.Map.{lookup}
use Rattle.std.specs.Option.{unwrap_or}
use Rattle.std.proofs.lemmas.Bool.Decides.{nat_tests}
use Rattle.ar_disks.specs.declared.address.Addr.{Addr}
use Rattle.ar_disks.specs.declared.address.Key.{Key}
use Rattle.ar_disks.specs.Block.{zeros}
use Rattle.ar_disks.specs.Geometry.{sectors_of, block_len_of}
use Rattle.ar_book.specs.Book.{TablesAgree}
use Rattle.ar_disks.specs.Addresses.{same_addr}
use Rattle.ar_book.specs.Tables.{UnitTableState, Tables, no_unit, has_unit, unit_in, reserved}
use Rattle.ar_book.specs.Changes.{made, grown, dropped, unmarked}
use Rattle.ar_book.specs.Refusals as book
use Rattle.ar_disks.proofs.Addresses.{addr_tells}
use Rattle.ar_book.proofs.AfterMake.{made_unit, made_unit_other, grown_unit, grown_unit_other, unmarked_sectors}
use Rattle.ar_book.proofs.DropLemmas.{dropped_unit_other}
use Rattle.ar_book.proofs.Presence.{make_fresh, grow_there, grow_shorter, made_there, made_there_other, grown_there}
use Rattle.ar_book.proofs.Presence.{dropped_there, dropped_there_other}
use Rattle.ar_store.specs.Placing.{SameUnits}
use Rattle.ar_store.proofs.Changes.{same_units_there}
use Rattle.ar_unit.specs.Sectors.{zero_sector, zero_sectors}
use Rattle.ar_unit.specs.Unit.{UnitState, Present, UnitEntry, Make, Grow, Remove, after, unit_run}
use Rattle.ar_unit.specs.Broken.{shape_of}
use Rattle.ar_core.specs.Events.{Event}
use Rattle.ar_core.specs.declared.event.EventOf.TheVariants.{Make as MakeEvent, Grow as GrowEvent}
use Rattle.ar_core.specs.declared.event.EventOf.TheVariants.{Remove as RemoveEvent}
use Rattle.ar_core.specs.Events.{Outcome}
use Rattle.ar_core.specs.declared.event.OutcomeOf.TheVariants.{Make as MakeOutcome, Grow as GrowOutcome}
use Rattle.ar_core.specs.declared.event.OutcomeOf.TheVariants.{Remove as RemoveOutcome}
use Rattle.ar_volume.specs.declared.refusal.Refusal.{Refusal}
use Rattle.ar_volume.specs.declared.refusal.Refusal.TheVariants.{Unit as UnitRefused, Broken}
use Rattle.ar_volume.specs.Sectors.{Address, address_of, same_address, sector_in, sectors_in, unit_block, key_of}
use Rattle.ar_volume.specs.Image.{ArrayState, is_broken, geometry_of, with_book, seen_at, length_at, unit_sectors}
use Rattle.ar_volume.specs.Image.{image_at, IsPadded}
use Rattle.ar_core.specs.Causes.{HasCause}
use Rattle.ar_core.specs.Quiet.{IsQuiet}
use Rattle.ar_volume.specs.Following.{ArrayFollows}
use Rattle.ar_volume.specs.Seen.{SameSeen}
use Rattle.ar_core.specs.Step.{Steps, Answers, entry_at, is_quiet}
use Rattle.ar_volume.specs.Changes.{Makes, Grows, Removes, removed}
use Rattle.ar_core.proofs.Causes.{was_sound, cause_same}
use Rattle.ar_volume.proofs.Breaking.{accessed_sound}
use Rattle.ar_volume.specs.Seen.{SameUnit}
use Rattle.ar_volume.proofs.Images.{same_address_of, other_address_of, image_present, image_absent, image_same}
use Rattle.ar_volume.proofs.Images.{shape_same, length-unit_sectors, map-constant, padded_sectors, padded_same}
use Rattle.ar_volume.proofs.Images.{sectors_same, sector_same, sector_in-zeros}
use Rattle.ar_core.proofs.Everywhere.{everywhere}

-- the tables say the same where they are
pub unit_refl : (t u : Tables) (b : Addr) → u ≡ t → SameUnit t u b
unit_refl t u b same =
    subst (λ (x : Tables). SameUnit t x b) (sym same) (record { there = refl; sectors = refl; mark = refl })

-- and after reads and writes of blocks
pub unit_follows : (t u : Tables) (b : Addr) → SameUnits t u → SameUnit t u b
unit_follows t u b same =
    record { there = same_units_there t u same b; sectors = same.sectors b; mark = same.attention b }

unit_made : (t : Tables) (a : Addr) (n : ℕ) (b : Addr) → b ≢ a → SameUnit t (made t a n) b
unit_made t a n b ne = record {
  there = made_there_other t a n b ne;
  sectors = ap (λ (u : UnitTableState). u.sectors) (made_unit_other t a n b ne);
  mark = ap (λ (u : UnitTableState). u.attention) (made_unit_other t a n b ne);
}

there_some : (t : Tables) (a : Addr) → has_unit t a ≡ true → IsSome (lookup (same_addr a) t.units)
there_some t a there = there

unit_grown : (t : Tables) (a : Addr) (n : ℕ) (b : Addr) → has_unit t a ≡ true → b ≢ a → SameUnit t (grown t a n) b
unit_grown t a n b there ne = record {
  there = grown_there t a n b;
  sectors = ap (λ (u : UnitTableState). u.sectors) (grown_unit_other t a n (there_some t a there) b ne);
  mark = ap (λ (u : UnitTableState). u.attention) (grown_unit_other t a n (there_some t a there) b ne);
}

unit_dropped : (t : Tables) (a : Addr) (b : Addr) → TablesAgree t → b ≢ a → SameUnit t (dropped t a) b
unit_dropped t a b ok ne = record {
  there = dropped_there_other t a ok b ne;
  sectors = ap (λ (u : UnitTableState). u.sectors) (dropped_unit_other t a ok b ne);
  mark = ap (λ (u : UnitTableState). u.attention) (dropped_unit_other t a ok b ne);
}

-- where no unit is its length is 0
pub absent_length : (t : Tables) (a : Addr) → has_unit t a ≡ false → length_at t a ≡ 0
absent_length t a none = by (lookup (same_addr a) t.units) none
  where
    by : (o : Option UnitTableState) → is_some o ≡ false → (unwrap_or o no_unit).sectors ≡ 0
    by None e = refl
    by (Some u) e = absurd (cc)

-- a step that leaves an array as it is is quiet
pub quiet_refl : (old new : ArrayState) → new ≡ old → IsQuiet old new
quiet_refl old new same = subst (λ (s : ArrayState). IsQuiet old s) (sym same) (record {
  units = λ addr. unit_refl old.store.book old.store.book addr refl;
  seen = λ _. record { same = λ k. refl };
  reserved_same = refl;
  groups = omega arith;
  capacity = refl;
})

-- reads and writes of blocks that nobody sees are quiet
pub quiet_follows : (old new : ArrayState) → ArrayFollows old new → (is_broken new ≡ false → SameSeen old new)
    → IsQuiet old new
quiet_follows old new follows seen = record {
  units = λ addr. unit_follows old.store.book new.store.book addr follows.store.units;
  seen = seen;
  reserved_same = follows.store.units.reserved;
  groups = (let same = follows.store.units.groups in omega arith);
  capacity = follows.capacity;
}

-- and so is what leaves the tables
pub quiet_tables : (old new : ArrayState) → new.store.book ≡ old.store.book → (is_broken new ≡ false → SameSeen old new)
    → new.cache.capacity ≡ old.cache.capacity → IsQuiet old new
quiet_tables old new tables seen capacity = record {
  units = λ addr. unit_refl old.store.book new.store.book addr tables;
  seen = seen;
  reserved_same = ap reserved tables;
  groups = (let same = ap (λ (t : Tables). length t.groups) tables in omega arith);
  capacity = capacity;
}

-- A maintenance event is a step: it has no entry of a unit, so each unit stays what its entries make of it.
pub steps_quiet : (old new : ArrayState) (event : Event) (outcome : Outcome) → Answers old event outcome new
    → ((a : Address) → entry_at a event outcome ≡ []) → IsQuiet old new → HasCause event old.store.disks new.store.disks
    → Steps old event outcome new
steps_quiet old new event outcome answers none quiet cause = record {
  answers = answers;
  images = λ now a.
      everywhere (λ (u : UnitState). u) (image_at old) (image_at new) event outcome
      (λ addr. image_same old new addr (quiet.units addr) cause.geometry (λ k _. (quiet.seen now).same k)
      ∙ ap (λ (es : List UnitEntry). unit_run (image_at old addr) es) (sym (none (address_of addr)))) a;
  shapes = λ a.
      everywhere shape_of (image_at old) (image_at new) event outcome
      (λ addr. shape_same old new addr (quiet.units addr)
      ∙ ap (λ (es : List UnitEntry). shape_of (unit_run (image_at old addr) es)) (sym (none (address_of addr)))) a;
  disks = cause;
  capacity = quiet.capacity;
  quiet = λ _. quiet;
}

-- one that changed nothing
steps_nothing : (old new : ArrayState) (event : Event) (outcome : Outcome) → Answers old event outcome new
    → ((a : Address) → entry_at a event outcome ≡ []) → new ≡ old → Steps old event outcome new
steps_nothing old new event outcome answers none same =
    steps_quiet old new event outcome answers none (quiet_refl old new same)
    (cause_same event old.store.disks new.store.disks (ap (λ (s : ArrayState). s.store.disks) same))

-- an event that was one entry of one unit
steps_entry : (old new : ArrayState) (event : Event) (outcome : Outcome) (addr : Addr) (entry : UnitEntry)
    → Answers old event outcome new
    → ((b : Addr) → entry_at (address_of b) event outcome
    ≡ cond (same_address (address_of addr) (address_of b)) (entry ∷ []) [])
    → image_at new addr ≡ after (image_at old addr) entry → ((b : Addr) → b ≢ addr → image_at new b ≡ image_at old b)
    → HasCause event old.store.disks new.store.disks → new.cache.capacity ≡ old.cache.capacity → is_quiet event ≡ false
    → Steps old event outcome new
steps_entry old new event outcome addr entry answers own here others cause capacity loud = record {
  answers = answers;
  images = λ now a. everywhere (λ (u : UnitState). u) (image_at old) (image_at new) event outcome each a;
  shapes = λ a. everywhere shape_of (image_at old) (image_at new) event outcome (λ b. ap shape_of (each b)) a;
  disks = cause;
  capacity = capacity;
  quiet = λ is. absurd (true≢false (sym is ∙ loud));
}
  where
    each : (b : Addr) → image_at new b ≡ unit_run (image_at old b) (entry_at (address_of b) event outcome)
    each b =
        elim (addr_tells b addr) [
          | inl same ↦
              (let one : entry_at (address_of b) event outcome ≡ entry ∷ [] =
              own b ∙ ap (λ t. cond t (entry ∷ []) []) (same_address_of addr b (sym same.1)) in
              ap (image_at new) same.1 ∙ here ∙ ap (λ (x : Addr). after (image_at old x) entry) (sym same.1)
              ∙ ap (λ (es : List UnitEntry). unit_run (image_at old b) es) (sym one))
          | inr other ↦
              (let none : entry_at (address_of b) event outcome ≡ [] =
              own b ∙ ap (λ t. cond t (entry ∷ []) []) (other_address_of addr b (λ same. other.1 (sym same))) in
              others b other.1 ∙ ap (λ (es : List UnitEntry). unit_run (image_at old b) es) (sym none))
        ]

-- a refusal of the core's own comes before those of the book
not_refused : {A B : Type 0} (broken : Bool) (r : A) (f : B → A) (o : Option B)
    → cond broken (Some r) (option_map f o) ≡ None → (broken ≡ false) × (o ≡ None)
not_refused true r f o none = absurd (cc)
not_refused false r f None none = (refl, refl)
not_refused false r f (Some x) none = absurd (cc)

abbrev no_entry : List UnitEntry
no_entry = []

nothing_either : (b : Bool) → cond b no_entry no_entry ≡ no_entry
nothing_either true = refl
nothing_either false = refl

none_found : {A : Type 0} (o : Option A) → is_some o ≡ false → o ≡ None
none_found None e = refl
none_found (Some x) e = absurd (cc)

-- a making
pub steps_made : (old new : ArrayState) (addr : Addr) (n : ℕ) (result : Result (Unit {0}) Refusal) → IsPadded old
    → Makes old addr n result new → SameSeen old new
    → Steps old (MakeEvent addr n) (MakeOutcome result) new
steps_made old new addr n (Err refusal) padded makes seen =
    steps_nothing old new (MakeEvent addr n) (MakeOutcome (Err refusal)) makes
    (λ a. nothing_either (same_address (address_of addr) a)) makes.unchanged
steps_made old new addr n (Ok done) padded makes seen =
    let granted =
    not_refused (is_broken old) Broken UnitRefused (book.unit_make_refusal old.store.book addr n) makes.granted in
    let fresh : has_unit old.store.book addr ≡ false = make_fresh old.store.book addr n granted.1 in
    let tables : new.store.book ≡ made old.store.book addr n = ap (λ (s : ArrayState). s.store.book) makes.changed in
    let disks : new.store.disks ≡ old.store.disks = ap (λ (s : ArrayState). s.store.disks) makes.changed in
    let shape : geometry_of new ≡ geometry_of old = ap (λ (s : ArrayState). geometry_of s) makes.changed in
    let unit : unit_in new.store.book.units addr ≡ unit_in (made old.store.book addr n).units addr =
    ap (λ (t : Tables). unit_in t.units addr) tables in
    let table = unit
    ∙ made_unit old.store.book addr n (none_found (lookup (same_addr addr) old.store.book.units) fresh) in
    let here : image_at new addr ≡ Present (zero_sectors n) false =
    image_present new addr (ap (λ (t : Tables). has_unit t addr) tables ∙ made_there old.store.book addr n fresh)
    ∙ ap (λ (u : UnitTableState). Present (sectors_in (geometry_of new) (unit_block (seen_at new) addr) 0 u.sectors)
    u.attention) table
    ∙ ap (λ l. Present l false)
    (sectors_same old new addr n shape (λ k _. seen.same k)
    ∙ map-constant (sector_in (geometry_of old) (unit_block (seen_at old) addr)) zero_sector 0 n
    (λ i low. padded.zeros granted.0 addr i (omega (arith, absent_length old.store.book addr fresh)))) in
    steps_entry old new (MakeEvent addr n) (MakeOutcome (Ok done)) addr (Make n) makes (λ b. refl) here
    (λ b ne. image_same old new b
    (subst (λ (t : Tables). SameUnit old.store.book t b) (sym tables) (unit_made old.store.book addr n b ne)) shape
    (λ k _. seen.same k))
    (cause_same (MakeEvent addr n) old.store.disks new.store.disks disks)
    (ap (λ (s : ArrayState). s.cache.capacity) makes.changed) refl

grew : (n m : ℕ) → nat_le n m ≡ false → m ≤ n
grew n m e = grind (arith, nat_tests)

-- a growth
pub steps_grown : (old new : ArrayState) (addr : Addr) (n : ℕ) (result : Result (Unit {0}) Refusal) → IsPadded old
    → Grows old addr n result new → SameSeen old new
    → Steps old (GrowEvent addr n) (GrowOutcome result) new
steps_grown old new addr n (Err refusal) padded grows seen =
    steps_nothing old new (GrowEvent addr n) (GrowOutcome (Err refusal)) grows
    (λ a. nothing_either (same_address (address_of addr) a)) grows.unchanged
steps_grown old new addr n (Ok done) padded grows seen =
    let granted =
    not_refused (is_broken old) Broken UnitRefused (book.unit_grow_refusal old.store.book addr n) grows.granted in
    let there : has_unit old.store.book addr ≡ true = grow_there old.store.book addr n granted.1 in
    let tables : new.store.book ≡ grown old.store.book addr n = ap (λ (s : ArrayState). s.store.book) grows.changed in
    let disks : new.store.disks ≡ old.store.disks = ap (λ (s : ArrayState). s.store.disks) grows.changed in
    let shape : geometry_of new ≡ geometry_of old = ap (λ (s : ArrayState). geometry_of s) grows.changed in
    let table = ap (λ (t : Tables). unit_in t.units addr) tables
    ∙ grown_unit old.store.book addr n (there_some old.store.book addr there) in
    let more : length_at old.store.book addr ≤ n =
    grew n (length_at old.store.book addr) (grow_shorter old.store.book addr n granted.1) in
    let sectors : sectors_in (geometry_of new) (unit_block (seen_at new) addr) 0 n
    ≡ unit_sectors old addr ++ zero_sectors (n - length (unit_sectors old addr)) =
    sectors_same old new addr n shape (λ k _. seen.same k)
    ∙ padded_sectors old addr n padded granted.0 more
    ∙ ap (λ m. unit_sectors old addr ++ zero_sectors (n - m)) (sym (length-unit_sectors old addr)) in
    let here : image_at new addr ≡ after (image_at old addr) (Grow n) =
    image_present new addr (ap (λ (t : Tables). has_unit t addr) tables ∙ grown_there old.store.book addr n addr
    ∙ there)
    ∙ ap (λ (u : UnitTableState). Present (sectors_in (geometry_of new) (unit_block (seen_at new) addr) 0 u.sectors)
    u.attention) table
    ∙ ap (λ l. Present l true) sectors
    ∙ ap (λ (u : UnitState). after u (Grow n)) (sym (image_present old addr there)) in
    steps_entry old new (GrowEvent addr n) (GrowOutcome (Ok done)) addr (Grow n) grows (λ b. refl) here
    (λ b ne. image_same old new b
    (subst (λ (t : Tables). SameUnit old.store.book t b) (sym tables) (unit_grown old.store.book addr n b there ne))
    shape (λ k _. seen.same k))
    (cause_same (GrowEvent addr n) old.store.disks new.store.disks disks)
    (ap (λ (s : ArrayState). s.cache.capacity) grows.changed) refl

-- a removal
pub steps_removed : (old new : ArrayState) (addr : Addr) (result : Result (Unit {0}) Refusal)
    → TablesAgree old.store.book → Removes old addr result new
    → ((k : Key) → k.addr ≢ addr → seen_at new k ≡ seen_at old k)
    → Steps old (RemoveEvent addr) (RemoveOutcome result) new
steps_removed old new addr (Err refusal) ok removes others =
    steps_nothing old new (RemoveEvent addr) (RemoveOutcome (Err refusal)) removes
    (λ a. nothing_either (same_address (address_of addr) a)) removes.changes.unchanged
steps_removed old new addr (Ok done) ok removes others =
    let is : new ≡ removed old addr = removes.changes.changed in
    let tables : new.store.book ≡ dropped old.store.book addr = ap (λ (s : ArrayState). s.store.book) is in
    steps_entry old new (RemoveEvent addr) (RemoveOutcome (Ok done)) addr Remove removes (λ b. refl)
    (image_absent new addr (ap (λ (t : Tables). has_unit t addr) tables ∙ dropped_there old.store.book addr ok))
    (λ b ne.
    image_same old new b
    (subst (λ (t : Tables). SameUnit old.store.book t b) (sym tables) (unit_dropped old.store.book addr b ok ne))
    (ap (λ (s : ArrayState). geometry_of s) is)
    (λ k at. others k (λ same. ne (sym at ∙ same))))
    (cause_same (RemoveEvent addr) old.store.disks new.store.disks (ap (λ (s : ArrayState). s.store.disks) is))
    (ap (λ (s : ArrayState). s.cache.capacity) is) refl

-- an array stays padded through a quiet step
pub padded_quiet : (old new : ArrayState) (event : Event) → IsPadded old → IsQuiet old new
    → HasCause event old.store.disks new.store.disks → IsPadded new
padded_quiet old new event padded quiet cause =
    padded_same old new padded (was_sound event old new cause) cause.geometry
    (λ addr. (let same = (quiet.units addr).sectors in omega arith)) (λ now. (quiet.seen now).same)

-- so a step of a quiet event keeps all that an array keeps
pub quiet_kept : (old new : ArrayState) (event : Event) (outcome : Outcome) (n : ℕ) → Steps old event outcome new
    → is_quiet event ≡ true
    → IsPadded old → n ≡ block_len_of (geometry_of old) → IsPadded new × (n ≡ block_len_of (geometry_of new))
quiet_kept old new event outcome n steps is padded len =
    (padded_quiet old new event padded (steps.quiet is) steps.disks, len ∙ ap block_len_of (sym steps.disks.geometry))

-- and through reads and writes of blocks that no one sees
pub padded_follows : (old new : ArrayState) → IsPadded old → ArrayFollows old new
    → (is_broken new ≡ false → SameSeen old new) → IsPadded new
padded_follows old new padded follows seen =
    padded_same old new padded (accessed_sound old.store.disks new.store.disks follows.store.accessed)
    follows.store.accessed.follows.geometry
    (λ addr. (let same = follows.store.units.sectors addr in omega arith)) (λ now. (seen now).same)

-- a refused call leaves it
padded_unchanged : (old new : ArrayState) → IsPadded old → new ≡ old → IsPadded new
padded_unchanged old new padded same = subst IsPadded (sym same) padded

-- a unit that is made or grows is zeros
pub padded_made : (old new : ArrayState) (addr : Addr) (n : ℕ) (result : Result (Unit {0}) Refusal) → IsPadded old
    → Makes old addr n result new → SameSeen old new → IsPadded new
padded_made old new addr n (Err refusal) padded makes seen = padded_unchanged old new padded makes.unchanged
padded_made old new addr n (Ok done) padded makes seen =
    let granted =
    not_refused (is_broken old) Broken UnitRefused (book.unit_make_refusal old.store.book addr n) makes.granted in
    let fresh : has_unit old.store.book addr ≡ false = make_fresh old.store.book addr n granted.1 in
    let tables : new.store.book ≡ made old.store.book addr n = ap (λ (s : ArrayState). s.store.book) makes.changed in
    padded_same old new padded (λ _. granted.0) (ap (λ (s : ArrayState). geometry_of s) makes.changed)
    (λ b.
    elim (addr_tells b addr) [
      | inl one ↦ (let none = ap (length_at old.store.book) one.1
          ∙ absent_length old.store.book addr fresh in omega arith)
      | inr two ↦ (let same = ap (λ (t : Tables). length_at t b) tables
          ∙ (unit_made old.store.book addr n b two.1).sectors in omega arith)
    ])
    (λ _. seen.same)

pub padded_grown : (old new : ArrayState) (addr : Addr) (n : ℕ) (result : Result (Unit {0}) Refusal) → IsPadded old
    → Grows old addr n result new → SameSeen old new → IsPadded new
padded_grown old new addr n (Err refusal) padded grows seen = padded_unchanged old new padded grows.unchanged
padded_grown old new addr n (Ok done) padded grows seen =
    let granted =
    not_refused (is_broken old) Broken UnitRefused (book.unit_grow_refusal old.store.book addr n) grows.granted in
    let there : has_unit old.store.book addr ≡ true = grow_there old.store.book addr n granted.1 in
    let tables : new.store.book ≡ grown old.store.book addr n = ap (λ (s : ArrayState). s.store.book) grows.changed in
    let table = ap (λ (t : Tables). unit_in t.units addr) tables
    ∙ grown_unit old.store.book addr n (there_some old.store.book addr there) in
    let more : length_at old.store.book addr ≤ n =
    grew n (length_at old.store.book addr) (grow_shorter old.store.book addr n granted.1) in
    padded_same old new padded (λ _. granted.0) (ap (λ (s : ArrayState). geometry_of s) grows.changed)
    (λ b.
    elim (addr_tells b addr) [
      | inl one ↦
          (let now : length_at new.store.book b ≡ n = ap (length_at new.store.book) one.1
          ∙ ap (λ (u : UnitTableState). u.sectors) table in
          let was : length_at old.store.book b ≡ length_at old.store.book addr = ap (length_at old.store.book) one.1 in
          omega arith)
      | inr two ↦ (let same = ap (λ (t : Tables). length_at t b) tables
          ∙ (unit_grown old.store.book addr n b there two.1).sectors in omega arith)
    ])
    (λ _. seen.same)

-- a unit that is gone leaves zeros
pub padded_removed : (old new : ArrayState) (addr : Addr) (result : Result (Unit {0}) Refusal) → IsPadded old
    → TablesAgree old.store.book → Removes old addr result new
    → ((k : Key) → k.addr ≢ addr → seen_at new k ≡ seen_at old k)
    → OnOk result ((k : Key) → k.addr ≡ addr → seen_at new k ≡ zeros (block_len_of (geometry_of old))) → IsPadded new
padded_removed old new addr (Err refusal) padded ok removes others gone =
    padded_unchanged old new padded removes.changes.unchanged
padded_removed old new addr (Ok done) padded ok removes others gone =
    let is : new ≡ removed old addr = removes.changes.changed in
    let tables : new.store.book ≡ dropped old.store.book addr = ap (λ (s : ArrayState). s.store.book) is in
    let shape : geometry_of new ≡ geometry_of old = ap (λ (s : ArrayState). geometry_of s) is in
    record {
      zeros = λ now b i past.
          elim (addr_tells b addr) [
            | inl one ↦
                sector_in-zeros (geometry_of new) (unit_block (seen_at new) b) i
                (gone (key_of b (i / sectors_of (geometry_of new))) one.1
                ∙ ap (λ (g : Geometry). zeros (block_len_of g)) (sym shape))
            | inr two ↦
                (let same = ap (λ (t : Tables). length_at t b) tables
                ∙ (unit_dropped old.store.book addr b ok two.1).sectors in
                sector_same old new b i shape (λ k at. others k (λ e. two.1 (sym at ∙ e)))
                ∙ padded.zeros (sym (ap is_broken is) ∙ now) b i (omega arith))
          ];
    }

-- a mark that is cleared leaves it
pub padded_cleared : (old new : ArrayState) (addr : Addr) → IsPadded old
    → new ≡ with_book old (unmarked old.store.book addr) → SameSeen old new → IsPadded new
padded_cleared old new addr padded is seen =
    padded_same old new padded (λ now. sym (ap is_broken is) ∙ now) (ap (λ (s : ArrayState). geometry_of s) is)
    (λ b. (let same = ap (λ (s : ArrayState). length_at s.store.book b) is
    ∙ unmarked_sectors old.store.book addr b in omega arith)) (λ _. seen.same)
