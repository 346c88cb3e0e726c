-- A crash leaves what was committed.
use Rattle.std.proofs.Common.{◌≡◌, ◌⊎◌, inl, inr, ℕ, Bool, true, false, List, [], ◌∷◌, ◌++◌, Option, Some, None}
use Rattle.std.proofs.Common.{IsTrue, Vec, zero, suc, if◌then◌else◌, slice_get, refl, sym, ◌∙◌, ap, subst}
use Rattle.std.proofs.Common.{append_assoc, append-nil}
use Rattle.std.specs.declared.alloc.Global.{Global}
use Rattle.ar_media.specs.Media.{LeavesOnly}
use Rattle.ar_media.proofs.Moments.{then_goes_on, weaker}
use Rattle.ar_volume.specs.Image.{image}
use Rattle.ar_volume.specs.Sectors.{Address}
use Rattle.ar_unit.specs.Unit.{UnitState}
use Rattle.ar_log.specs.Codec.{Batch}
use Rattle.ar_log.specs.Log.{HoldsBatches, IsBeforeOrAfter, batches_of}
use Rattle.ar_log.specs.Reading.{OnlyReads}
use Rattle.ar_log.proofs.Ahead.{not_read, reads_then}
use Rattle.ar_log.proofs.Standing.{batches_of_stands}
use Rattle.ar_log.proofs.Whole.{read_run}
use Rattle.ar_journal.specs.Journal.{IsReady, LeavesJournal, Names, batches_now, chosen, first_of, second_of}
use Rattle.ar_journal.specs.Reader.{IsReading, LeavesRead, ReadsActive}
use Rattle.ar_journal.specs.declared.journal.Journal.{Journal}
use Rattle.ar_journal.specs.declared.reader.JournalReader.{JournalReader}
use Rattle.ar_journal.specs.declared.files.JournalFiles.{JournalFiles}
use Rattle.ar_journal.proofs.Naming.{chosen_named}
use Rattle.ar_journal.proofs.Reading.{leaves_read}
use Rattle.ar_journal.proofs.Writing.{leaves_journal}
use Rattle.ar_served.specs.declared.entry.Entry.{Entry}
use Rattle.ar_served.specs.History.{IsLegal, replay}
use Rattle.ar_served.specs.Kept.{KeptState, SameLength}
use Rattle.ar_record.specs.Reading.{all_decoded}
use Rattle.ar_record.specs.Record.{RecordData}
use Rattle.ar_record.specs.Replay.{unit_of}
use Rattle.ar_recovery.specs.Recovering.{IsRecovered}
use Rattle.ar_recovery.proofs.Logging.{log_suffices}
use Rattle.ar_checkpoint.specs.Gradual.{HasFirstBatch, KeepsLog, LeavesLogs, is_other_clean}
use Rattle.ar_checkpoint.specs.Successor.{log_records}
use Rattle.ar_compaction.specs.Compaction.{IsCompaction}
use Rattle.ar_durable.specs.Crashes.{AreCalls, AreCommitted, HoldsPrefix, HoldsUnits, KeepsCommitted, LeavesPrefix}
use Rattle.ar_durable.specs.Crashes.{MakesPieces, MakesPrefix}
use Rattle.ar_recovery.specs.Stored.{AreRecords, MakesUnits}
use Rattle.ar_durable.specs.Durable.{DurableState, NotesIf}
use Rattle.ar_checkpoint.specs.Store.{AppendsOrKeeps, IsAllClean, KeepsMedia, KeepsRecords, KeepsStoredUnits, MayLeave}
use Rattle.ar_checkpoint.specs.Store.{RecordStore, closed_store, is_given_up, stored_records}
use Rattle.ar_checkpoint.proofs.Storing.{log_records-push, not_both}

-- the first part of a history is that of a longer one
pub prefix_grows : (records : List RecordData) (entries history more : List Entry) → MakesPrefix records entries history
    → MakesPrefix records entries (history ++ more)
prefix_grows records entries history more was = record {
  others = was.others;
  later = was.later ++ more;
  history_is =
      ap (λ (l : List Entry). l ++ more) was.history_is ∙ append_assoc (entries ++ was.others) was.later more;
  units = was.units;
}

-- the whole history has each entry that is committed
pub prefix_whole : (was now : List RecordData) (entries history : List Entry) → MakesPrefix was entries history
    → ((a : Address) → unit_of now a ≡ replay history a) → MakesPrefix now entries history
prefix_whole was now entries history prefix units =
    let whole : history ≡ entries ++ (prefix.others ++ prefix.later) =
    prefix.history_is ∙ append_assoc entries prefix.others prefix.later in
    record {
      others = prefix.others ++ prefix.later;
      later = [];
      history_is = whole ∙ sym (append-nil (entries ++ (prefix.others ++ prefix.later)));
      units = λ a. units a ∙ ap (λ (l : List Entry). replay l a) whole;
    }

pub prefix_all : (now : List RecordData) (history : List Entry) → ((a : Address) → unit_of now a ≡ replay history a)
    → MakesPrefix now history history
prefix_all now history units = record {
  others = [];
  later = [];
  history_is = sym (append-nil history) ∙ sym (append-nil (history ++ []));
  units = λ a. units a ∙ ap (λ (l : List Entry). replay l a) (sym (append-nil history));
}

-- records that make the same units
pub prefix_same : (was now : List RecordData) (entries history : List Entry) → MakesPrefix was entries history
    → ((a : Address) → unit_of now a ≡ unit_of was a) → MakesPrefix now entries history
prefix_same was now entries history prefix same = record {
  others = prefix.others;
  later = prefix.later;
  history_is = prefix.history_is;
  units = λ a. same a ∙ prefix.units a;
}

-- a file of these batches
pub holds_prefix : (batches : List Batch) (file : List ℕ) (entries history : List Entry) → HoldsBatches batches file
    → MakesPrefix (log_records batches) entries history → HoldsPrefix entries history file
holds_prefix batches file entries history held prefix =
    subst (λ (b : List Batch). MakesPrefix (log_records b) entries history) (sym (batches_of_stands batches file held))
    prefix

-- what a crash leaves of a journal has what follows from P
pub journal_weaker : {M : Type 0} (moment : M → ℕ) (left_since : M → ℕ → List ℕ → Type 0) (old new : Journal M)
    (P Q : List ℕ → Type 0) → LeavesJournal moment left_since old new P → ((c : List ℕ) → P c → Q c)
    → LeavesJournal moment left_since old new Q
journal_weaker moment left_since old new P Q run gives = record {
  each = λ s active spare named left.
      gives (chosen s (first_of old.is_second active spare) (second_of old.is_second active spare))
      (run.each s active spare named left);
  selector = run.selector;
  active = weaker moment left_since old.active.media new.active.media P Q run.active gives;
}

-- a note touches no medium
pub notes_media : {M : Type 0} (done : Bool) (encoded : Option (Vec ℕ Global)) (old new : RecordStore M)
    → NotesIf done encoded old new → KeepsMedia old new
notes_media true None old new is =
    subst (λ (s : RecordStore _). KeepsMedia old s) (sym is)
    (record { selector = refl; active = refl; is_second = refl; other = refl })
notes_media true (Some bytes) old new waits = elim waits [
  | inl is ↦ subst (λ (s : RecordStore _). KeepsMedia old s) (sym is)
      (record { selector = refl; active = refl; is_second = refl; other = refl })
  | inr is ↦ subst (λ (s : RecordStore _). KeepsMedia old s) (sym is)
      (record { selector = refl; active = refl; is_second = refl; other = refl })
]
notes_media false encoded old new is =
    subst (λ (s : RecordStore _). KeepsMedia old s) (sym is)
    (record { selector = refl; active = refl; is_second = refl; other = refl })

-- a store that is given up stays so
pub notes_given_up : {M : Type 0} (done : Bool) (encoded : Option (Vec ℕ Global)) (old new : RecordStore M)
    → NotesIf done encoded old new → is_given_up old ≡ true → is_given_up new ≡ true
notes_given_up true None old new is up = ap (λ (s : RecordStore _). is_given_up s) is
notes_given_up true (Some bytes) old new waits up = elim waits [
  | inl is ↦ ap (λ (s : RecordStore _). is_given_up s) is
  | inr is ↦ ap (λ (s : RecordStore _). is_given_up s) is ∙ up
]
notes_given_up false encoded old new is up = ap (λ (s : RecordStore _). is_given_up s) is ∙ up

module _ {M : Type 0} (seen : M → List ℕ) (may_leave : M → List ℕ → Type 0) (moment : M → ℕ)
    (left_since : M → ℕ → List ℕ → Type 0) (is_clean : M → Bool) where
  -- a log that is only read is left as it was
  pub read_leaves : ((m : M) (c : List ℕ) → left_since m (moment m) c → may_leave m c)
      → (old new : Journal M) (P : List ℕ → Type 0)
      → IsReady seen may_leave is_clean old → old.active.is_closed ≡ false → IsTrue (is_clean old.selector)
      → IsTrue (is_clean old.active.media) → new.selector ≡ old.selector
      → OnlyReads seen may_leave moment left_since is_clean old.active.media new.active.media
      → ((file : List ℕ) → HoldsBatches (batches_now seen old) file → P file)
      → LeavesJournal moment left_since old new P
  read_leaves only_now old new P ready going selector active same reads gives =
      let now : (c : List ℕ) → may_leave old.active.media c → P c =
      λ c left. gives c ((ready.log going active).durable c left) in
      leaves_journal moment left_since old new P same
      (λ s left. ready.named going selector s (only_now old.selector s left))
      (read_run seen may_leave moment left_since is_clean old.active.media new.active.media P reads
      (λ c left. now c (only_now old.active.media c left)) now)

  -- ---- commits

  -- the batches after a commit, or amidst one
  pub commit_prefix : (old : RecordStore M) (entries history : List Entry) (batches : List Batch)
      → HasFirstBatch seen is_clean old.journal → AreRecords seen is_clean old history → IsLegal history
      → HoldsPrefix entries history (seen old.journal.active.media) → is_given_up old ≡ false
      → IsAllClean is_clean old
      → (batches ≡ batches_now seen old.journal) ⊎ (batches ≡ batches_now seen old.journal ++ old.waiting ∷ [])
      → MakesPrefix (log_records batches) entries history
  commit_prefix old entries history batches first are legal prefix going clean either = elim either [
    | inl is ↦ subst (λ (b : List Batch). MakesPrefix (log_records b) entries history) (sym is) prefix
    | inr is ↦
        (let made : MakesUnits (stored_records seen old) history = are going clean in
        prefix_whole (log_records (batches_now seen old.journal)) (log_records batches) entries history prefix
        (λ a.
        ap (λ (l : List RecordData). unit_of l a)
        (ap log_records is
        ∙ log_records-push (batches_now seen old.journal) old.waiting (first going clean.active))
        ∙ made.same a
        ∙ log_suffices made.full history made.log legal a))
  ]

  pub commit_leaves : (old new : RecordStore M) (entries history : List Entry)
      → HasFirstBatch seen is_clean old.journal → AreRecords seen is_clean old history → IsLegal history
      → AreCommitted seen may_leave is_clean old entries history
      → MayLeave seen moment left_since is_clean old new
      → LeavesPrefix seen may_leave moment left_since is_clean old new entries history
  commit_leaves old new entries history first are legal committed may going selector clean =
      let B = batches_now seen old.journal in
      let gives : (file : List ℕ) → IsBeforeOrAfter B old.waiting file → HoldsPrefix entries history file =
      λ file either. commit_prefix old entries history (batches_of file) first are legal (committed.makes going clean)
      going clean
      (elim either [
        | inl held ↦ inl (batches_of_stands B file held)
        | inr held ↦ inr (batches_of_stands (B ++ old.waiting ∷ []) file held)
      ]) in
      inl (journal_weaker moment left_since old.journal new.journal (IsBeforeOrAfter B old.waiting)
      (HoldsPrefix entries history) (may going (record { selector = selector; active = clean.active })) gives)

  pub commit_stays : (old new : RecordStore M) (entries history : List Entry)
      → HasFirstBatch seen is_clean old.journal → AreRecords seen is_clean old history → IsLegal history
      → AreCommitted seen may_leave is_clean old entries history → IsReady seen may_leave is_clean new.journal
      → KeepsRecords seen is_clean old new
      → is_clean new.journal.active.media ≡ is_clean old.journal.active.media → new.other ≡ old.other
      → AppendsOrKeeps seen is_clean old new → AreCommitted seen may_leave is_clean new entries history
  commit_stays old new entries history first are legal committed ready kept same other log = record {
    ready = ready;
    makes = λ going clean.
        (let was : IsAllClean is_clean old = record {
          active = subst IsTrue same clean.active;
          other = subst (λ (o : Option M). IsTrue (is_other_clean is_clean o)) other clean.other;
        } in
        let open_then = (kept going was.active).0 in
        commit_prefix old entries history (batches_now seen new.journal) first are legal
        (committed.makes open_then was) open_then was (log going was.active));
  }

  pub records_after : (old new : RecordStore M) (history : List Entry) → KeepsRecords seen is_clean old new
      → is_clean new.journal.active.media ≡ is_clean old.journal.active.media → new.other ≡ old.other
      → AreRecords seen is_clean old history → AreRecords seen is_clean new history
  records_after old new history kept same other are = λ going all.
      (let was : IsAllClean is_clean old = record {
        active = subst IsTrue same all.active;
        other = subst (λ (o : Option M). IsTrue (is_other_clean is_clean o)) other all.other;
      } in
      let before = kept going was.active in
      subst (λ (l : List RecordData). MakesUnits l history) (sym before.1) (are before.0 was))

  -- where no record waits, all entries are committed
  pub all_committed : (store : RecordStore M) (history : List Entry) → IsReady seen may_leave is_clean store.journal
      → store.waiting ≡ [] → AreRecords seen is_clean store history → IsLegal history
      → AreCommitted seen may_leave is_clean store history history
  all_committed store history ready none are legal = record {
    ready = ready;
    makes = λ going clean.
        (let made : MakesUnits (stored_records seen store) history = are going clean in
        let log = log_records (batches_now seen store.journal) in
        prefix_all log history (λ a.
        ap (λ (l : List RecordData). unit_of l a) (sym (append-nil log))
        ∙ ap (λ (w : Batch). unit_of (log ++ all_decoded w) a) (sym none)
        ∙ made.same a
        ∙ log_suffices made.full history made.log legal a));
  }

  -- ---- notes

  pub closed_ready : (journal : Journal M) → journal.active.is_closed ≡ true → IsReady seen may_leave is_clean journal
  closed_ready journal is = record {
    log = λ now. absurd (not_both journal.active.is_closed is now);
    named = λ now. absurd (not_both journal.active.is_closed is now);
  }

  closed_committed : (old new : RecordStore M) (entries history : List Entry) → new ≡ closed_store old
      → AreCommitted seen may_leave is_clean new entries history
  closed_committed old new entries history is =
      let up : is_given_up new ≡ true = ap (λ (s : RecordStore M). is_given_up s) is in
      record {
        ready = closed_ready new.journal up;
        makes = λ going clean. absurd (not_both (is_given_up new) up going);
      }

  pub notes_committed : (done : Bool) (encoded : Option (Vec ℕ Global)) (old new : RecordStore M)
      (entries history more : List Entry)
      → NotesIf done encoded old new → AreCommitted seen may_leave is_clean old entries history
      → AreCommitted seen may_leave is_clean new entries (history ++ more)
  notes_committed true None old new entries history more is was =
      closed_committed old new entries (history ++ more) is
  notes_committed true (Some bytes) old new entries history more waits was = elim waits [
    | inl is ↦ closed_committed old new entries (history ++ more) is
    | inr is ↦ subst (λ (s : RecordStore M). AreCommitted seen may_leave is_clean s entries (history ++ more)) (sym is)
        (record {
          ready = was.ready;
          makes = λ going clean. prefix_grows (log_records (batches_now seen old.journal)) entries history more
              (was.makes going (record { active = clean.active; other = clean.other }));
        })
  ]
  notes_committed false encoded old new entries history more is was =
      subst (λ (s : RecordStore M). AreCommitted seen may_leave is_clean s entries (history ++ more)) (sym is)
      (record {
        ready = was.ready;
        makes = λ going clean. prefix_grows (log_records (batches_now seen old.journal)) entries history more
            (was.makes going clean);
      })

  -- ---- pieces of a checkpoint

  pub pieces_leave : ((m : M) (c : List ℕ) → left_since m (moment m) c → may_leave m c)
      → (old new : RecordStore M) (entries history : List Entry)
      → LeavesLogs seen may_leave moment left_since is_clean old.journal new.journal
      → AreCommitted seen may_leave is_clean old entries history
      → LeavesPrefix seen may_leave moment left_since is_clean old new entries history
  pieces_leave only_now old new entries history logs committed going selector clean =
      let P : List ℕ → Type 0 = HoldsPrefix entries history in
      let was = log_records (batches_now seen old.journal) in
      let prefix : MakesPrefix was entries history = committed.makes going clean in
      let reads : (read : Journal M) → KeepsLog seen may_leave moment left_since is_clean old.journal read
      → LeavesJournal moment left_since old.journal read P =
      λ read keeps. read_leaves only_now old.journal read P committed.ready going selector clean.active
      keeps.others.selector keeps.media
      (λ file held. holds_prefix (batches_now seen old.journal) file entries history held prefix) in
      elim logs [
        | inl keeps ↦ inl (reads new.journal keeps)
        | inr leaves ↦ inr (record {
          read = leaves.read;
          successor = leaves.successor;
          keeps = leaves.keeps;
          before = reads leaves.read leaves.keeps;
          during = λ all next_clean s active next named left left_next.
              (let file =
              chosen s (first_of leaves.read.is_second active next) (second_of leaves.read.is_second active next) in
              elim (leaves.either.each all next_clean s active next named left left_next) [
                | inl held ↦ holds_prefix (batches_now seen leaves.read) file entries history held
                    (subst (λ (b : List Batch). MakesPrefix (log_records b) entries history)
                    (sym (ap batches_of leaves.keeps.media.same)) prefix)
                | inr held ↦ holds_prefix (batches_of (seen leaves.successor.media)) file entries history held
                    (prefix_same was (log_records (batches_of (seen leaves.successor.media))) entries history prefix
                    (leaves.compaction all.active next_clean).units)
              ]);
        })
      ]

  pub pieces_committed : (old new : RecordStore M) (entries history : List Entry)
      → MakesPieces seen may_leave moment left_since is_clean old new
      → AreCommitted seen may_leave is_clean old entries history
      → AreCommitted seen may_leave is_clean new entries history
  pieces_committed old new entries history pieces was = record {
    ready = pieces.ready was.ready;
    makes = λ going clean.
        prefix_same (log_records (batches_now seen old.journal)) (log_records (batches_now seen new.journal)) entries
        history (was.makes (pieces.units.going going) (pieces.units.clean going clean))
        (pieces.units.units going clean);
  }

  -- a log that isn't touched
  pub kept_log : (j : Journal M) → KeepsLog seen may_leave moment left_since is_clean j j
  kept_log j = record {
    media = not_read seen may_leave moment left_since is_clean j.active.media;
    end = refl;
    number = refl;
    is_closed = refl;
    others = record { selector = refl; spare = refl; is_second = refl };
  }

  -- no piece was made
  pub no_piece : (store : RecordStore M) → MakesPieces seen may_leave moment left_since is_clean store store
  no_piece store = record {
    units = record {
      going = λ now. now;
      clean = λ now all. all;
      units = λ now all a. refl;
      waiting = refl;
    };
    logs = inl (kept_log store.journal);
    ready = λ is. is;
    untouched = λ up. (up, record { selector = refl; active = refl; is_second = refl; other = refl });
  }

  -- one piece of a store that isn't given up
  pub one_piece : (old new : RecordStore M) → is_given_up old ≡ false → KeepsStoredUnits seen is_clean old new
      → LeavesLogs seen may_leave moment left_since is_clean old.journal new.journal
      → IsReady seen may_leave is_clean new.journal
      → MakesPieces seen may_leave moment left_since is_clean old new
  one_piece old new going units logs ready = record {
    units = units;
    logs = logs;
    ready = λ was. ready;
    untouched = λ up. absurd (not_both (is_given_up old) up going);
  }

  -- pieces after some that only read the log
  pub kept_then : (old mid new : Journal M) → KeepsLog seen may_leave moment left_since is_clean old mid
      → KeepsLog seen may_leave moment left_since is_clean mid new
      → KeepsLog seen may_leave moment left_since is_clean old new
  kept_then old mid new first second = record {
    media =
        reads_then seen may_leave moment left_since is_clean old.active.media mid.active.media new.active.media
        first.media second.media;
    end = second.end ∙ first.end;
    number = second.number ∙ first.number;
    is_closed = second.is_closed ∙ first.is_closed;
    others = record {
      selector = second.others.selector ∙ first.others.selector;
      spare = refl;
      is_second = second.others.is_second ∙ first.others.is_second;
    };
  }

  logs_then : (old mid new : Journal M) → KeepsLog seen may_leave moment left_since is_clean old mid
      → LeavesLogs seen may_leave moment left_since is_clean mid new
      → LeavesLogs seen may_leave moment left_since is_clean old new
  logs_then old mid new first logs = elim logs [
    | inl second ↦ inl (kept_then old mid new first second)
    | inr leaves ↦ inr (record {
      read = leaves.read;
      successor = leaves.successor;
      keeps = kept_then old mid leaves.read first leaves.keeps;
      either = leaves.either;
      compaction = λ read_clean next_clean.
          subst
          (λ (b : List Batch). IsCompaction (log_records b) (log_records (batches_of (seen leaves.successor.media))))
          (ap batches_of first.media.same) (leaves.compaction read_clean next_clean);
    })
  ]

  pub pieces_then : (old mid new : RecordStore M)
      → KeepsLog seen may_leave moment left_since is_clean old.journal mid.journal
      → MakesPieces seen may_leave moment left_since is_clean old mid
      → MakesPieces seen may_leave moment left_since is_clean mid new
      → MakesPieces seen may_leave moment left_since is_clean old new
  pieces_then old mid new keeps first second = record {
    units = record {
      going = λ now. first.units.going (second.units.going now);
      clean = λ now all. first.units.clean (second.units.going now) (second.units.clean now all);
      units = λ now all a.
          second.units.units now all a
          ∙ first.units.units (second.units.going now) (second.units.clean now all) a;
      waiting = second.units.waiting ∙ first.units.waiting;
    };
    logs = logs_then old.journal mid.journal new.journal keeps second.logs;
    ready = λ was. second.ready (first.ready was);
    untouched = λ up.
        (let one = first.untouched up in
        let two = second.untouched one.0 in (
          two.0,
          record {
            selector = two.1.selector ∙ one.1.selector;
            active = two.1.active ∙ one.1.active;
            is_second = two.1.is_second ∙ one.1.is_second;
            other = two.1.other ∙ one.1.other;
          },
        ));
  }

  -- ---- a start

  pub start_leaves : ((m : M) (c : List ℕ) → left_since m (moment m) c → may_leave m c)
      → (reader mid : JournalReader M) (m : M) → IsReading seen may_leave is_clean reader
      → ReadsActive seen may_leave moment left_since is_clean reader mid
      → HoldsBatches (batches_of (seen reader.active)) (seen reader.active)
      → LeavesRead seen may_leave moment left_since is_clean mid m
      → LeavesRead seen may_leave moment left_since is_clean reader m
  start_leaves only_now reader mid m reading reads held later =
      let P : List ℕ → Type 0 = HoldsBatches (batches_of (seen reader.active)) in
      let all : (f : List ℕ) → may_leave reader.active f → P f =
      λ f left. subst P (sym (reading.durable f left)) held in
      let first = read_run seen may_leave moment left_since is_clean reader.active mid.active P reads.active
      (λ f left. all f (only_now reader.active f left)) all in
      let rest : LeavesOnly moment left_since mid.active m P =
      subst (λ (f : List ℕ). LeavesOnly moment left_since mid.active m (HoldsBatches (batches_of f))) reads.active.same
      later.active in
      leaves_read seen may_leave moment left_since is_clean reader m reading
      (then_goes_on moment left_since reader.active mid.active m P first rest)

  -- ---- calls of the array

  same_history : (old new : DurableState M) → new.kept ≡ old.kept → new.kept.history ≡ old.kept.history ++ []
  same_history old new same =
      ap (λ (k : KeptState). k.history) same ∙ sym (append-nil old.kept.history)

  committed_then : (store : RecordStore M) (entries was now : List Entry) → now ≡ was
      → AreCommitted seen may_leave is_clean store entries was → AreCommitted seen may_leave is_clean store entries now
  committed_then store entries was now same committed =
      subst (λ (h : List Entry). AreCommitted seen may_leave is_clean store entries h) (sym same) committed

  -- one that notes a record, if there is one
  pub noted_call : ((m : M) (c : List ℕ) → left_since m (moment m) c → may_leave m c)
      → (view old new : DurableState M) (done : Bool) (encoded : Option (Vec ℕ Global)) (more : List Entry)
      → old ≡ view → NotesIf done encoded old.store new.store → new.kept.history ≡ old.kept.history ++ more
      → KeepsCommitted seen may_leave moment left_since is_clean view new
  noted_call only_now view old new done encoded more is notes grown =
      let keeps = notes_media done encoded old.store new.store notes in
      subst (λ (s : DurableState M). KeepsCommitted seen may_leave moment left_since is_clean s new) is
      (record {
        more = more;
        grown = grown;
        stays = λ entries was. committed_then new.store entries (old.kept.history ++ more) new.kept.history grown
            (notes_committed done encoded old.store new.store entries old.kept.history more notes was);
        any_moment = λ entries was going selector clean. inl
            (read_leaves only_now old.store.journal new.store.journal (HoldsPrefix entries old.kept.history) was.ready
            going
            selector clean.active keeps.selector
            (subst (λ (m : M). OnlyReads seen may_leave moment left_since is_clean old.store.journal.active.media m)
            (sym keeps.active) (not_read seen may_leave moment left_since is_clean old.store.journal.active.media))
            (λ file held.
            holds_prefix (batches_now seen old.store.journal) file entries old.kept.history held
            (was.makes going clean)));
        untouched = λ up. (notes_given_up done encoded old.store new.store notes up, keeps);
      })

  -- a call that changes nothing
  pub same_call : ((m : M) (c : List ℕ) → left_since m (moment m) c → may_leave m c) → (state : DurableState M)
      → KeepsCommitted seen may_leave moment left_since is_clean state state
  same_call only_now state =
      noted_call only_now state state state false None [] refl refl (sym (append-nil state.kept.history))

  -- no piece was made of a state that has this view
  pub no_piece_of : (view old : DurableState M) → old ≡ view
      → MakesPieces seen may_leave moment left_since is_clean view.store old.store
  no_piece_of view old is =
      subst (λ (s : DurableState M). MakesPieces seen may_leave moment left_since is_clean s.store old.store) is
      (no_piece old.store)

  pub kept_log_of : (view old : DurableState M) → old ≡ view
      → KeepsLog seen may_leave moment left_since is_clean view.store.journal old.store.journal
  kept_log_of view old is =
      let now = old.store.journal in
      subst (λ (s : DurableState M). KeepsLog seen may_leave moment left_since is_clean s.store.journal now)
      is (kept_log now)

  -- one was made
  pub one_piece_of : (view old : DurableState M) (new : RecordStore M) → old ≡ view → is_given_up old.store ≡ false
      → KeepsStoredUnits seen is_clean old.store new
      → LeavesLogs seen may_leave moment left_since is_clean old.store.journal new.journal
      → IsReady seen may_leave is_clean new.journal
      → MakesPieces seen may_leave moment left_since is_clean view.store new
  one_piece_of view old new is going units logs ready =
      subst (λ (s : DurableState M). MakesPieces seen may_leave moment left_since is_clean s.store new) is
      (one_piece old.store new going units logs ready)

  pub log_of : (view old : DurableState M) (new : Journal M) → old ≡ view
      → KeepsLog seen may_leave moment left_since is_clean old.store.journal new
      → KeepsLog seen may_leave moment left_since is_clean view.store.journal new
  log_of view old new is keeps =
      subst (λ (s : DurableState M). KeepsLog seen may_leave moment left_since is_clean s.store.journal new) is keeps

  -- one that makes pieces of a checkpoint
  pub pieces_call : ((m : M) (c : List ℕ) → left_since m (moment m) c → may_leave m c)
      → (view old new : DurableState M)
      → old ≡ view → new.kept ≡ old.kept → MakesPieces seen may_leave moment left_since is_clean old.store new.store
      → KeepsCommitted seen may_leave moment left_since is_clean view new
  pieces_call only_now view old new is same pieces =
      subst (λ (s : DurableState M). KeepsCommitted seen may_leave moment left_since is_clean s new) is
      (record {
        more = [];
        grown = same_history old new same;
        stays = λ entries was.
            committed_then new.store entries old.kept.history new.kept.history (ap (λ (k : KeptState). k.history) same)
            (pieces_committed old.store new.store entries old.kept.history pieces was);
        any_moment = λ entries was.
            pieces_leave only_now old.store new.store entries old.kept.history pieces.logs was;
        untouched = pieces.untouched;
      })

  -- a commit
  pub commit_call : (view old new : DurableState M)
      → old ≡ view → new.kept ≡ old.kept → IsLegal old.kept.history
      → AreRecords seen is_clean old.store old.kept.history → HasFirstBatch seen is_clean old.store.journal
      → IsReady seen may_leave is_clean new.store.journal → KeepsRecords seen is_clean old.store new.store
      → is_clean new.store.journal.active.media ≡ is_clean old.store.journal.active.media
      → new.store.other ≡ old.store.other → AppendsOrKeeps seen is_clean old.store new.store
      → MayLeave seen moment left_since is_clean old.store new.store
      → (is_given_up old.store ≡ true → (is_given_up new.store ≡ true) × KeepsMedia old.store new.store)
      → KeepsCommitted seen may_leave moment left_since is_clean view new
  commit_call view old new is same legal are first ready kept clean other log may untouched =
      subst (λ (s : DurableState M). KeepsCommitted seen may_leave moment left_since is_clean s new) is
      (record {
        more = [];
        grown = same_history old new same;
        stays = λ entries was.
            committed_then new.store entries old.kept.history new.kept.history (ap (λ (k : KeptState). k.history) same)
            (commit_stays old.store new.store entries old.kept.history first are legal was ready kept clean other log);
        any_moment = λ entries was.
            commit_leaves old.store new.store entries old.kept.history first are legal was may;
        untouched = untouched;
      })

  -- ---- runs of calls

  pub runs_stay : (old : DurableState M) (states : List (DurableState M)) (entries : List Entry)
      → AreCalls seen may_leave moment left_since is_clean old states
      → AreCommitted seen may_leave is_clean old.store entries old.kept.history
      → (k : ℕ) (state : DurableState M) → slice_get (old ∷ states) k ≡ Some state
      → AreCommitted seen may_leave is_clean state.store entries state.kept.history
  runs_stay old states entries calls was zero state is =
      let e : Some old ≡ Some state = is in
      let same : old ≡ state = cc e in
      subst (λ (s : DurableState M). AreCommitted seen may_leave is_clean s.store entries s.kept.history) same was
  runs_stay old [] entries calls was (suc k) state is =
      absurd (let e : None ≡ Some state = is in cc e)
  runs_stay old (new ∷ states) entries calls was (suc k) state is =
      runs_stay new states entries calls.1 (calls.0.stays entries was) k state is

  pub runs_leave : (old : DurableState M) (states : List (DurableState M)) (entries : List Entry)
      → AreCalls seen may_leave moment left_since is_clean old states
      → AreCommitted seen may_leave is_clean old.store entries old.kept.history
      → (k : ℕ) (before after : DurableState M) → slice_get (old ∷ states) k ≡ Some before
      → slice_get states k ≡ Some after
      → LeavesPrefix seen may_leave moment left_since is_clean before.store after.store entries before.kept.history
  runs_leave old [] entries calls was k before after is next = absurd (let e : None ≡ Some after = next in cc e)
  runs_leave old (new ∷ states) entries calls was zero before after is next =
      let e : Some old ≡ Some before = is in
      let same : old ≡ before = cc e in
      let f : Some new ≡ Some after = next in
      let same_next : new ≡ after = cc f in
      subst (λ (s : DurableState M). LeavesPrefix seen may_leave moment left_since is_clean s.store after.store entries
      s.kept.history)
      same
      (subst (λ (s : DurableState M). LeavesPrefix seen may_leave moment left_since is_clean old.store s.store entries
      old.kept.history)
      same_next (calls.0.any_moment entries was))
  runs_leave old (new ∷ states) entries calls was (suc k) before after is next =
      runs_leave new states entries calls.1 (calls.0.stays entries was) k before after is next

-- an array that is recovered from records that make a first part of the history
pub prefix_recovered : (file : List ℕ) (entries history : List Entry) (live : KeptState)
    → HoldsPrefix entries history file → IsRecovered (log_records (batches_of file)) live
    → HoldsUnits live entries history
prefix_recovered file entries history live prefix recovered = record {
  others = prefix.others;
  later = prefix.later;
  history_is = prefix.history_is;
  units = λ working a. recovered.units working a ∙ prefix.units a;
  lengths = λ a. subst (λ (u : UnitState). SameLength (image live.array a) u) (prefix.units a) (recovered.lengths a);
}

-- the log that a selector names, among the files
pub chosen_file : {M : Type 0} (seen : M → List ℕ) (is_second : Bool) (files : JournalFiles M) (s active : List ℕ)
    → Names is_second s → active ≡ seen (if is_second then files.second else files.first)
    → active ≡ chosen s (seen files.first) (seen files.second)
chosen_file seen true files s active named is =
    is ∙ sym (chosen_named true s (seen files.second) (seen files.first) named)
chosen_file seen false files s active named is =
    is ∙ sym (chosen_named false s (seen files.first) (seen files.second) named)
