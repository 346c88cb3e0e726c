-- Records that are appended, piece by piece.
use Rattle.std.proofs.Common.{◌≡◌, ◌≤◌, ◌*◌, ℕ, Bool, false, List, [], ◌∷◌, ◌++◌, length, map, take, get_or, IsTrue}
use Rattle.std.proofs.Common.{refl, sym, ap, subst, ◌∙◌, arith, append_assoc, append-nil, length-append}
use Rattle.std.proofs.lemmas.Grind.{flat_map-append}
use Rattle.std.proofs.lemmas.List.{get_or_at, length-map, take_at}
use Rattle.std.specs.List.{flat_map}
use Rattle.ar_log.specs.Codec.{Batch}
use Rattle.ar_log.specs.Log.{batches_of}
use Rattle.ar_log.specs.declared.log.Log.{Log}
use Rattle.ar_record.specs.Encoding.{encodings_of}
use Rattle.ar_record.specs.Reading.{all_decoded}
use Rattle.ar_record.specs.Record.{RecordData, Make, Grow, Remove, Command, Unmap, AddDisk, AreEncodable}
use Rattle.ar_record.proofs.Records.{all_again, all_decoded-append}
use Rattle.ar_compaction.specs.Addresses.{AreDistinct, is_among}
use Rattle.ar_compaction.specs.Checkpoint.{IsCheckpoint, added_disks}
use Rattle.ar_compaction.specs.Compaction.{Compacts, IsCompaction, disk_records}
use Rattle.ar_compaction.specs.Replaying.{ReplayState, unit_address}
use Rattle.ar_compaction.proofs.Building.{begins, ends, goes_on}
use Rattle.ar_compaction.proofs.Noting.{distinct_at}
use Rattle.ar_checkpoint.specs.LogReplay.{IsReplayOf, replay_at}
use Rattle.ar_checkpoint.specs.Successor.{AreFew, batch_records, most_records, log_records}
use Rattle.ar_checkpoint.specs.Writing.{AppendsRecords, AreCheckpoints, HasMore, IsAppendable, WritesReplay}
use Rattle.ar_checkpoint.specs.Writing.{WritesSuccessor, WritesUnits}
use Rattle.ar_checkpoint.specs.declared.log_replay.LogReplay.{LogReplay}

-- ---- batches

pub batch_records-append : (batches more : List Batch)
    → batch_records (batches ++ more) ≡ batch_records batches ++ batch_records more
batch_records-append batches more =
    ap all_decoded (flat_map-append (λ (b : Batch). b) batches more)
    ∙ all_decoded-append (flat_map (λ (b : Batch). b) batches) (flat_map (λ (b : Batch). b) more)

has_none : (batches : List Batch) → HasMore [] batches batches
has_none batches = record { more = []; batches = sym (append-nil batches); records_are = refl }

has_both : (records others : List RecordData) (old middle new : List Batch) → HasMore records old middle
    → HasMore others middle new → HasMore (records ++ others) old new
has_both records others old middle new one two = record {
  more = one.more ++ two.more;
  batches =
      two.batches
      ∙ ap (λ (l : List Batch). l ++ two.more) one.batches
      ∙ append_assoc old one.more two.more;
  records_are =
      batch_records-append one.more two.more
      ∙ ap (λ (l : List RecordData). l ++ batch_records two.more) one.records_are
      ∙ ap (λ (l : List RecordData). records ++ l) two.records_are;
}

-- the encodings of records, as one batch
pub has_one : (records : List RecordData) (batch : Batch) (old new : List Batch) → AreEncodable records
    → batch ≡ encodings_of records → new ≡ old ++ batch ∷ [] → HasMore records old new
has_one records batch old new fit encoded is = record {
  more = batch ∷ [];
  batches = is;
  records_are =
      ap all_decoded (append-nil batch)
      ∙ ap all_decoded encoded
      ∙ all_again records fit;
}

-- ---- compaction

all_disks : (records : List RecordData) → map AddDisk (added_disks records) ≡ disk_records records
all_disks [] = refl
all_disks (Make host lun sectors ∷ records) = all_disks records
all_disks (Grow host lun sectors ∷ records) = all_disks records
all_disks (Remove host lun ∷ records) = all_disks records
all_disks (Command host lun cdb payload ∷ records) = all_disks records
all_disks (Unmap host lun lba count ∷ records) = all_disks records
all_disks (AddDisk extents ∷ records) = ap (λ (l : List RecordData). AddDisk extents ∷ l) (all_disks records)

fresh_at : (done : List (ℕ × ℕ)) (a : ℕ × ℕ) (left : List (ℕ × ℕ)) → AreDistinct (done ++ a ∷ left)
    → is_among a done ≡ false
fresh_at done a left distinct =
    let at : get_or (done ++ a ∷ left) (length done) a ≡ a = get_or_at done a left a (length done) refl in
    let front : take (length done) (done ++ a ∷ left) ≡ done = take_at done (a ∷ left) (length done) refl in
    ap (is_among a) (sym front)
    ∙ ap (λ (x : ℕ × ℕ). is_among x (take (length done) (done ++ a ∷ left))) (sym at)
    ∙ distinct_at (done ++ a ∷ left) (length done) a (omega (arith, length-append done (a ∷ left))) distinct

compacts_all : (done left : List (ℕ × ℕ)) (old new parts : List RecordData) → AreDistinct (done ++ left)
    → Compacts done old new → AreCheckpoints (map (replay_at old) left) parts
    → Compacts (done ++ left) old (new ++ parts)
compacts_all done [] old new parts distinct compacts none =
    subst (λ (l : List (ℕ × ℕ)). Compacts l old (new ++ parts)) (sym (append-nil done))
    (subst (λ (l : List RecordData). Compacts done old l)
    (sym (append-nil new) ∙ ap (λ (l : List RecordData). new ++ l) (sym none)) compacts)
compacts_all done (a ∷ left) old new parts distinct compacts are =
    let next : (done ++ a ∷ []) ++ left ≡ done ++ a ∷ left = append_assoc done (a ∷ []) left in
    let one : Compacts (done ++ a ∷ []) old (new ++ are.0) =
    goes_on done a old new are.0 compacts (fresh_at done a left distinct) are.3 in
    let all : Compacts ((done ++ a ∷ []) ++ left) old ((new ++ are.0) ++ are.1) =
    compacts_all (done ++ a ∷ []) left old (new ++ are.0) are.1 (subst AreDistinct (sym next) distinct) one are.4 in
    subst (λ (l : List (ℕ × ℕ)). Compacts l old (new ++ parts)) next
    (subst (λ (l : List RecordData). Compacts ((done ++ a ∷ []) ++ left) old l)
    (append_assoc new are.0 are.1 ∙ ap (λ (l : List RecordData). new ++ l) (sym are.2)) all)

pub compaction_of : (old : List RecordData) (replay : LogReplay) (parts : List RecordData) → IsReplayOf old replay
    → AreCheckpoints replay.units.items parts → IsCompaction old (map AddDisk replay.disks.items ++ parts)
compaction_of old replay parts is are =
    let addresses : List (ℕ × ℕ) = map unit_address replay.addresses.items in
    let disks : disk_records old ≡ map AddDisk replay.disks.items = sym (all_disks old)
    ∙ ap (map AddDisk) (sym is.disks) in
    ends addresses old (map AddDisk replay.disks.items ++ parts)
    (subst (λ (l : List RecordData). Compacts addresses old (l ++ parts)) disks
    (compacts_all [] addresses old (disk_records old) parts is.addresses.distinct (begins old)
    (subst (λ (l : List ReplayState). AreCheckpoints l parts) is.units are)))
    is.addresses

-- ---- few records

few_parts : (old : List RecordData) (addresses : List (ℕ × ℕ)) (parts : List RecordData)
    → AreCheckpoints (map (replay_at old) addresses) parts → 128 * length parts ≤ most_records old addresses
few_parts old [] parts none = let count : length parts ≡ 0 =
    ap (λ (l : List RecordData). length l) none in omega (arith, count)
few_parts old (a ∷ addresses) parts are =
    let count : length parts ≡ length (are.0 ++ are.1) = ap (λ (l : List RecordData). length l) are.2 in
    omega (arith, count, length-append are.0 are.1, are.3.few, few_parts old addresses are.1 are.4)

few_of : (old : List RecordData) (replay : LogReplay) (parts : List RecordData) → IsReplayOf old replay
    → AreCheckpoints replay.units.items parts → AreFew old (map AddDisk replay.disks.items ++ parts)
few_of old replay parts is are =
    let addresses : List (ℕ × ℕ) = map unit_address replay.addresses.items in
    let disks : List ℕ = replay.disks.items in
    let units : 128 * length parts ≤ most_records old addresses =
    few_parts old addresses parts (subst (λ (l : List ReplayState). AreCheckpoints l parts) is.units are) in
    let count : length disks ≡ length (added_disks old) = ap (λ (l : List ℕ). length l) is.disks in
    record {
      addresses = addresses;
      named = is.addresses;
      few = omega (arith, length-append (map AddDisk disks) parts, length-map disks AddDisk, count, units);
    }

-- ---- appended records

module _ {M : Type 0} (seen : M → List ℕ) (may_leave : M → List ℕ → Type 0) (is_clean : M → Bool) where
  A : List RecordData → Log M → Log M → Type 0
  A records old new = AppendsRecords seen may_leave is_clean records old new

  pub appends_none : (records : List RecordData) (log : Log M) → records ≡ [] → IsAppendable seen may_leave is_clean log
      → AppendsRecords seen may_leave is_clean records log log
  unfolding A
  appends_none records log none appendable =
      subst (λ (l : List RecordData). A l log log) (sym none) (record {
        appendable = appendable;
        clean = refl;
        appended = λ clean. has_none (batches_of (seen log.media));
      })

  pub appends_both : (records others : List RecordData) (old middle new : Log M)
      → AppendsRecords seen may_leave is_clean records old middle
      → AppendsRecords seen may_leave is_clean others middle new
      → AppendsRecords seen may_leave is_clean (records ++ others) old new
  appends_both records others old middle new one two = record {
    appendable = two.appendable;
    clean = two.clean ∙ one.clean;
    appended = λ clean.
        has_both records others (batches_of (seen old.media)) (batches_of (seen middle.media))
        (batches_of (seen new.media))
        (one.appended clean) (two.appended (subst IsTrue (sym one.clean) clean));
  }

  -- all records but those that are left were appended
  pub record AppendsPart (all left : List RecordData) (old new : Log M) : Type 0 where
    pub records : List RecordData
    pub appends : AppendsRecords seen may_leave is_clean records old new
    pub all_are : records ++ left ≡ all

  pub part_none : (all : List RecordData) (log : Log M) → IsAppendable seen may_leave is_clean log
      → AppendsPart all all log log
  part_none all log appendable = record { records = []; appends = appends_none [] log refl appendable; all_are = refl }

  pub part_more : (all left records after : List RecordData) (old middle new : Log M) → AppendsPart all left old middle
      → left ≡ records ++ after → AppendsRecords seen may_leave is_clean records middle new
      → AppendsPart all after old new
  part_more all left records after old middle new before split one = record {
    records = before.records ++ records;
    appends = appends_both before.records records old middle new before.appends one;
    all_are =
        append_assoc before.records records after
        ∙ ap (λ (l : List RecordData). before.records ++ l) (sym split)
        ∙ before.all_are;
  }

  pub part_all : (all left : List RecordData) (old new : Log M) → AppendsPart all left old new → left ≡ []
      → AppendsRecords seen may_leave is_clean all old new
  unfolding A
  part_all all left old new part none =
      subst (λ (l : List RecordData). A l old new)
      (sym (append-nil part.records) ∙ ap (λ (l : List RecordData). part.records ++ l) (sym none) ∙ part.all_are)
      part.appends

  -- ---- units

  checkpoints_push : (units : List ReplayState) (records part : List RecordData) (unit : ReplayState)
      → AreCheckpoints units records → IsCheckpoint unit.addr unit.unit part
      → AreCheckpoints (units ++ unit ∷ []) (records ++ part)
  checkpoints_push [] records part unit none one =
      (part, [], ap (λ (l : List RecordData). l ++ part) none ∙ sym (append-nil part), one, refl)
  checkpoints_push (first ∷ units) records part unit are one = (
    are.0,
    are.1 ++ part,
    ap (λ (l : List RecordData). l ++ part) are.2 ∙ append_assoc are.0 are.1 part,
    are.3,
    checkpoints_push units are.1 part unit are.4 one,
  )

  pub units_none : (log : Log M) → IsAppendable seen may_leave is_clean log
      → WritesUnits seen may_leave is_clean [] log log
  units_none log appendable = record { records = []; appends = appends_none [] log refl appendable; checkpoints = refl }

  pub units_more : (units : List ReplayState) (unit : ReplayState) (part : List RecordData) (old middle new : Log M)
      → WritesUnits seen may_leave is_clean units old middle → IsCheckpoint unit.addr unit.unit part
      → AppendsRecords seen may_leave is_clean part middle new
      → WritesUnits seen may_leave is_clean (units ++ unit ∷ []) old new
  units_more units unit part old middle new before one appends = record {
    records = before.records ++ part;
    appends = appends_both before.records part old middle new before.appends appends;
    checkpoints = checkpoints_push units before.records part unit before.checkpoints one;
  }

  pub replay_written : (replay : LogReplay) (old middle new : Log M)
      → AppendsRecords seen may_leave is_clean (map AddDisk replay.disks.items) old middle
      → WritesUnits seen may_leave is_clean replay.units.items middle new
      → WritesReplay seen may_leave is_clean replay old new
  replay_written replay old middle new disks units = record {
    records = units.records;
    appends = appends_both (map AddDisk replay.disks.items) units.records old middle new disks units.appends;
    checkpoints = units.checkpoints;
  }

  -- ---- the whole successor

  pub successor_written : (head : List ℕ) (replay : LogReplay) (medium : M) (created new : Log M)
      → batches_of (seen created.media) ≡ (head ∷ []) ∷ [] → is_clean created.media ≡ is_clean medium
      → WritesReplay seen may_leave is_clean replay created new
      → WritesSuccessor seen may_leave is_clean head replay medium new
  successor_written head replay medium created new first clean writes =
      record {
        appendable = writes.appends.appendable;
        clean = writes.appends.clean ∙ clean;
        head_is = λ now. ((appended now).more, whole now);
        compaction = λ now old is.
            subst (λ (l : List RecordData). IsCompaction old l)
            (sym (ap log_records (whole now) ∙ (appended now).records_are))
            (compaction_of old replay writes.records is writes.checkpoints);
        few = λ now old is.
            subst (λ (l : List RecordData). AreFew old l)
            (sym (ap log_records (whole now) ∙ (appended now).records_are))
            (few_of old replay writes.records is writes.checkpoints);
      }
    where
      appended : IsTrue (is_clean new.media)
          → HasMore (map AddDisk replay.disks.items ++ writes.records) (batches_of (seen created.media))
          (batches_of (seen new.media))
      appended now = writes.appends.appended (subst IsTrue writes.appends.clean now)

      whole : (now : IsTrue (is_clean new.media)) → batches_of (seen new.media) ≡ (head ∷ []) ∷ (appended now).more
      whole now = (appended now).batches ∙ ap (λ (l : List Batch). l ++ (appended now).more) first

-- ---- encodable records

pub fit_front : (records more : List RecordData) → AreEncodable (records ++ more) → AreEncodable records
fit_front [] more fit = tt
fit_front (r ∷ records) more fit = (fit.0, fit_front records more fit.1)

pub fit_back : (records more : List RecordData) → AreEncodable (records ++ more) → AreEncodable more
fit_back [] more fit = fit
fit_back (r ∷ records) more fit = fit_back records more fit.1
