-- Records that are replayed on all units at once.
use Rattle.std.proofs.Common.{◌≡◌, ◌≢◌, ◌<◌, ◌≤◌, ℕ, Bool, true, false, cond, List, [], ◌∷◌, ◌++◌, length, get_or}
use Rattle.std.proofs.Common.{map, Option, Some, None}
use Rattle.std.proofs.Common.{refl, sym, ap, subst, ◌∙◌, arith, append_assoc, append-nil, length-append}
use Rattle.std.proofs.lemmas.Bool.{true≢false}
use Rattle.std.proofs.lemmas.Grind.{flat_map-append}
use Rattle.std.proofs.lemmas.List.{get_or_at, length-map, map_push}
use Rattle.std.specs.List.{flat_map}
use Rattle.ar_unit.specs.Unit.{Absent, UnitEntry, unit_run}
use Rattle.ar_log.specs.Codec.{Batch}
use Rattle.ar_log.proofs.Ahead.{reads_then}
use Rattle.ar_journal.specs.Reader.{ReadsActive}
use Rattle.ar_journal.specs.declared.reader.JournalReader.{JournalReader}
use Rattle.ar_record.specs.Reading.{all_decoded}
use Rattle.ar_record.specs.Record.{RecordData}
use Rattle.ar_record.specs.Replay.{own_of, unit_of}
use Rattle.ar_record.proofs.Records.{all_decoded-append}
use Rattle.ar_compaction.specs.Addresses.{AreAddresses, address_named, is_among, noted, noted_one}
use Rattle.ar_compaction.specs.Checkpoint.{added_disks}
use Rattle.ar_compaction.specs.Makes.{makes_after, makes_noted}
use Rattle.ar_compaction.specs.declared.makes.Makes.{Makes}
use Rattle.ar_compaction.specs.Replaying.{ReplayState, replayed, unit_address}
use Rattle.ar_compaction.proofs.Looping.{replay_more, replay_is}
use Rattle.ar_compaction.proofs.Creation.{added_disks-append}
use Rattle.ar_compaction.proofs.Noting.{one_noted}
use Rattle.ar_checkpoint.specs.LogReplay.{AreReplayed, IsReplayOf, replay_at}
use Rattle.ar_checkpoint.specs.Successor.{IsHeadAlone, batch_records, log_records}
use Rattle.ar_checkpoint.specs.declared.log_replay.LogReplay.{LogReplay}

-- ---- addresses

-- an address that records do not name has no entry
not_named : (l : List UnitEntry) (named : Bool) → (l ≢ [] → named ≡ true) → named ≡ false → l ≡ []
not_named [] named h e = refl
not_named (x ∷ l) named h e = absurd (true≢false (sym (h (λ f. cc)) ∙ e))

absent : (records : List RecordData) (addresses : List (ℕ × ℕ)) (a : ℕ × ℕ) → AreAddresses records addresses
    → is_among a addresses ≡ false → unit_of records a ≡ Absent
absent records addresses a are fresh =
    ap (λ (l : List UnitEntry). unit_run Absent l)
    (not_named (own_of a records) (is_among a addresses) (are.named a) fresh)

-- an address was appended, which was not there
record Grows (addresses now : List (ℕ × ℕ)) : Type 0 where
  pub a : ℕ × ℕ
  pub fresh : is_among a addresses ≡ false
  pub appended : now ≡ addresses ++ a ∷ []

grows_by : (addresses : List (ℕ × ℕ)) (a : ℕ × ℕ) (here : Bool) → is_among a addresses ≡ here
    → length addresses < length (cond here addresses (addresses ++ a ∷ []))
    → Grows addresses (cond here addresses (addresses ++ a ∷ []))
grows_by addresses a true is longer = absurd (omega (arith, longer))
grows_by addresses a false is longer = record { a = a; fresh = is; appended = refl }

grows : (addresses : List (ℕ × ℕ)) (found : Option (ℕ × ℕ)) → length addresses < length (noted_one addresses found)
    → Grows addresses (noted_one addresses found)
grows addresses None longer = absurd (omega (arith, longer))
grows addresses (Some a) longer = grows_by addresses a (is_among a addresses) refl longer

same_by : (addresses : List (ℕ × ℕ)) (a : ℕ × ℕ) (here : Bool)
    → length (cond here addresses (addresses ++ a ∷ [])) ≤ length addresses
    → cond here addresses (addresses ++ a ∷ []) ≡ addresses
same_by addresses a true short = refl
same_by addresses a false short = absurd (omega (arith, length-append addresses (a ∷ []), short))

same : (addresses : List (ℕ × ℕ)) (found : Option (ℕ × ℕ)) → length (noted_one addresses found) ≤ length addresses
    → noted_one addresses found ≡ addresses
same addresses None short = refl
same addresses (Some a) short = same_by addresses a (is_among a addresses) short

-- the units at the addresses with the one that a record names, if it is a new one
pub with_new : (records : List RecordData) (addresses now : List (ℕ × ℕ)) (r : RecordData)
    (units : List ReplayState) (a : ℕ × ℕ)
    → AreAddresses records addresses → AreReplayed records addresses units → now ≡ noted addresses r
    → length units < length now → a ≡ get_or now (length units) a
    → AreReplayed records now (units ++ record { addr = a; unit = Absent } ∷ [])
with_new records addresses now r units a are replayed is longer at =
    let count : length units ≡ length addresses = ap length replayed ∙ length-map addresses (replay_at records) in
    let more : Grows addresses (noted addresses r) =
    grows addresses (address_named r) (omega (arith, longer, count, ap (λ (l : List (ℕ × ℕ)). length l) is)) in
    let whole : now ≡ addresses ++ more.a ∷ [] = is ∙ more.appended in
    let here : a ≡ more.a =
    at ∙ ap (λ (l : List (ℕ × ℕ)). get_or l (length units) a) whole
    ∙ get_or_at addresses more.a [] a (length units) (sym count) in
    let unit : record { addr = a; unit = Absent } ≡ replay_at records more.a =
    replay_is (record { addr = a; unit = Absent }) more.a (unit_of records more.a) here
    (sym (absent records addresses more.a are more.fresh)) in
    ap (λ (l : List ReplayState). l ++ record { addr = a; unit = Absent } ∷ []) replayed
    ∙ ap (λ (u : ReplayState). map (replay_at records) addresses ++ u ∷ []) unit
    ∙ sym (map_push (replay_at records) addresses more.a)
    ∙ ap (map (replay_at records)) (sym whole)

pub without_new : (records : List RecordData) (addresses now : List (ℕ × ℕ)) (r : RecordData) (units : List ReplayState)
    → AreReplayed records addresses units → now ≡ noted addresses r → length now ≤ length units
    → AreReplayed records now units
without_new records addresses now r units replayed is short =
    let count : length units ≡ length addresses = ap length replayed ∙ length-map addresses (replay_at records) in
    replayed
    ∙ ap (map (replay_at records))
    (sym (is ∙ same addresses (address_named r) (omega (arith, short, count, ap (λ (l : List (ℕ × ℕ)). length l) is))))

-- ---- one record more

all_replayed : (records : List RecordData) (r : RecordData) (addresses : List (ℕ × ℕ))
    → map (λ (unit : ReplayState). replayed unit r) (map (replay_at records) addresses) ≡ map
    (replay_at (records ++ r ∷ [])) addresses
all_replayed records r [] = refl
all_replayed records r (a ∷ addresses) =
    ap (λ (u : ReplayState). u ∷ map (λ (unit : ReplayState). replayed unit r) (map (replay_at records) addresses))
    (replay_is (replayed (replay_at records a) r) a (unit_of (records ++ r ∷ []) a) refl
    (replay_more (replay_at records a) a records r refl refl))
    ∙ ap (λ (l : List ReplayState). replay_at (records ++ r ∷ []) a ∷ l) (all_replayed records r addresses)

-- units made by records and one more
makes_push : (bytes : List ℕ) (records : List RecordData) (r : RecordData)
    → makes_after bytes (records ++ r ∷ []) ≡ makes_noted (makes_after bytes records) r
makes_push bytes [] r = refl
makes_push bytes (q ∷ records) r = makes_push (makes_noted bytes q) records r

pub replays_more : (records : List RecordData) (r : RecordData) (old new : LogReplay) (units : List ReplayState)
    → new.disks.items ≡ old.disks.items ++ added_disks (r ∷ [])
    → map unit_address new.addresses.items ≡ noted (map unit_address old.addresses.items) r
    → ((before : List RecordData) → AreAddresses before (map unit_address old.addresses.items)
    → AreReplayed before (map unit_address old.addresses.items) old.units.items
    → AreReplayed before (map unit_address new.addresses.items) units)
    → new.units.items ≡ map (λ (unit : ReplayState). replayed unit r) units
    → new.makes.bytes ≡ makes_noted old.makes.bytes r → new.before ≡ old.before → IsReplayOf records old
    → IsReplayOf (records ++ r ∷ []) new
replays_more records r old new units disks addresses noted_units executed makes before is = record {
  addresses =
      subst (λ (l : List (ℕ × ℕ)). AreAddresses (records ++ r ∷ []) l) (sym addresses)
      (one_noted records (map unit_address old.addresses.items) r is.addresses);
  units =
      executed
      ∙ ap (map (λ (unit : ReplayState). replayed unit r)) (noted_units records is.addresses is.units)
      ∙ all_replayed records r (map unit_address new.addresses.items);
  disks =
      disks
      ∙ ap (λ (l : List ℕ). l ++ added_disks (r ∷ [])) is.disks
      ∙ sym (added_disks-append records (r ∷ []));
  makes =
      makes
      ∙ ap (λ (l : List ℕ). makes_noted l r) is.makes
      ∙ sym (makes_push old.before.bytes records r)
      ∙ ap (λ (m : Makes). makes_after m.bytes (records ++ r ∷ [])) (sym before);
}

-- ---- one batch more

pub replays_item : (records : List RecordData) (items : Batch) (item : List ℕ) (old middle new : LogReplay)
    → ((before : List RecordData) → IsReplayOf before old → IsReplayOf (before ++ all_decoded items) middle)
    → ((before : List RecordData) → IsReplayOf before middle → IsReplayOf (before ++ all_decoded (item ∷ [])) new)
    → IsReplayOf records old → IsReplayOf (records ++ all_decoded (items ++ item ∷ [])) new
replays_item records items item old middle new one two is =
    subst (λ (l : List RecordData). IsReplayOf l new)
    (append_assoc records (all_decoded items) (all_decoded (item ∷ []))
    ∙ ap (λ (l : List RecordData). records ++ l) (sym (all_decoded-append items (item ∷ []))))
    (two (records ++ all_decoded items) (one records is))

-- batches with a head, after which the records are those of a replay
pub record IsReplayed (batches : List Batch) (replay : LogReplay) : Type 0 where
  pub head : Batch
  pub more : List Batch
  pub batches_are : batches ≡ head ∷ more
  pub replayed : IsReplayOf (log_records batches) replay

pub batch_records-push : (batches : List Batch) (batch : Batch)
    → batch_records (batches ++ batch ∷ []) ≡ batch_records batches ++ all_decoded batch
batch_records-push batches batch =
    ap all_decoded
    (flat_map-append (λ (b : Batch). b) batches (batch ∷ [])
    ∙ ap (λ (l : Batch). flat_map (λ (b : Batch). b) batches ++ l) (append-nil batch))
    ∙ all_decoded-append (flat_map (λ (b : Batch). b) batches) batch

pub replayed_head : (batches : List Batch) (replay : LogReplay) → IsHeadAlone batches → IsReplayOf [] replay
    → IsReplayed batches replay
replayed_head batches replay only none = record {
  head = only.0;
  more = [];
  batches_are = only.1;
  replayed = subst (λ (l : List Batch). IsReplayOf (log_records l) replay) (sym only.1) none;
}

pub replayed_more : (batches now : List Batch) (batch : Batch) (old new : LogReplay) → IsReplayed batches old
    → now ≡ batches ++ batch ∷ []
    → ((before : List RecordData) → IsReplayOf before old → IsReplayOf (before ++ all_decoded batch) new)
    → IsReplayed now new
replayed_more batches now batch old new before is one =
    let whole : now ≡ before.head ∷ (before.more ++ batch ∷ []) =
    is ∙ ap (λ (l : List Batch). l ++ batch ∷ []) before.batches_are in
    let records : log_records now ≡ log_records batches ++ all_decoded batch =
    ap log_records whole
    ∙ batch_records-push before.more batch
    ∙ ap (λ (l : List Batch). log_records l ++ all_decoded batch) (sym before.batches_are) in
    record {
      head = before.head;
      more = before.more ++ batch ∷ [];
      batches_are = whole;
      replayed =
          subst (λ (l : List RecordData). IsReplayOf l new) (sym records) (one (log_records batches) before.replayed);
    }

-- one read of the active log after another
pub reads_on : {M : Type 0} (seen : M → List ℕ) (may_leave : M → List ℕ → Type 0) (moment : M → ℕ)
    (left_since : M → ℕ → List ℕ → Type 0) (is_clean : M → Bool) (old middle new : JournalReader M)
    → ReadsActive seen may_leave moment left_since is_clean old middle
    → ReadsActive seen may_leave moment left_since is_clean middle new
    → ReadsActive seen may_leave moment left_since is_clean old new
reads_on seen may_leave moment left_since is_clean old middle new one two = record {
  active =
      reads_then seen may_leave moment left_since is_clean old.active middle.active new.active one.active two.active;
  selector = two.selector ∙ one.selector;
  spare = two.spare ∙ one.spare;
  is_second = two.is_second ∙ one.is_second;
}
