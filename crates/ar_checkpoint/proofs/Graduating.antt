-- Pieces of a checkpoint that is made while records are appended to the journal.
use Rattle.std.proofs.Common.{◌≡◌, ◌≤◌, ◌+◌, inl, inr, ℕ, zero, suc, Bool, true, false, List, [], ◌∷◌, ◌++◌, drop}
use Rattle.std.proofs.Common.{length, map, slice_index_or, take}
use Rattle.std.proofs.Common.{Result, Ok, Err, OnOk, IfOk, IfErr, length-append}
use Rattle.std.proofs.Common.{Option, None, Some, IsTrue, Vec, refl, sym, ap, subst, ◌∙◌, arith, append_assoc}
use Rattle.std.proofs.Common.{append-nil}
use Rattle.std.specs.declared.alloc.Global.{Global}
use Rattle.std.proofs.lemmas.List.{length-take-le, take_all}
use Rattle.ar_log.specs.Codec.{Batch, items_of}
use Rattle.ar_log.specs.Failure.{is_final}
use Rattle.ar_log.specs.Log.{Appends, KeepsBatches, batches_len, batches_of}
use Rattle.ar_log.specs.declared.error.LogError.{LogError}
use Rattle.ar_log.specs.declared.error.LogError.TheVariants.{Closed}
use Rattle.ar_log.specs.declared.log.Log.{Log}
use Rattle.ar_log.specs.declared.place.Place.{Place}
use Rattle.ar_journal.specs.Journal.{ClosesJournal, IsAfter, ReadsLog, ReadsNext, batches_now}
use Rattle.ar_journal.specs.Switch.{LeavesEither, Switches}
use Rattle.ar_journal.specs.declared.journal.Journal.{Journal}
use Rattle.ar_record.specs.Reading.{all_decoded}
use Rattle.ar_record.specs.Record.{RecordData, AddDisk, AreEncodable}
use Rattle.ar_record.specs.Replay.{unit_of}
use Rattle.ar_compaction.specs.Checkpoint.{IsCheckpoint}
use Rattle.ar_compaction.specs.Compaction.{IsCompaction}
use Rattle.ar_compaction.specs.Replaying.{ReplayState}
use Rattle.ar_compaction.proofs.Building.{takes_later}
use Rattle.ar_checkpoint.specs.Gradual.{MakesPiece, GoesWith, GivesUp, Continues, IsAtStage, IsCopying, IsReplaying}
use Rattle.ar_checkpoint.specs.Gradual.{IsWriting}
use Rattle.ar_checkpoint.specs.Gradual.{KeepsLog, KeepsLogUnits, LeavesLogs, LeavesSuccessor, ReplacesInPieces}
use Rattle.ar_checkpoint.specs.Gradual.{ReplaysBatch, StaysAt}
use Rattle.ar_checkpoint.specs.Gradual.{WritesFirst, is_other_clean, other_at, other_medium, records_before, rest_of}
use Rattle.ar_checkpoint.specs.LogReplay.{IsReplayOf}
use Rattle.ar_checkpoint.specs.Successor.{BeginsWithHead, batch_records, log_records}
use Rattle.ar_checkpoint.specs.Writing.{AppendsRecords, AreCheckpoints}
use Rattle.ar_checkpoint.specs.declared.gradual.GradualCheckpoint.{GradualCheckpoint}
use Rattle.ar_checkpoint.specs.declared.gradual.Progress.{Progress}
use Rattle.ar_checkpoint.specs.declared.gradual.Stage.{Stage}
use Rattle.ar_checkpoint.specs.declared.gradual.Stage.TheVariants.{Replaying, Replayed, Writing, Copying}
use Rattle.ar_checkpoint.specs.declared.gradual.Writer.{Writer}
use Rattle.ar_checkpoint.specs.declared.log_replay.LogReplay.{LogReplay}
use Rattle.ar_checkpoint.proofs.Appends.{batch_records-append, compaction_of, fit_back}
use Rattle.ar_checkpoint.proofs.Replays.{batch_records-push}

-- ---- the records of a log

-- those of batches with a head, and of more
pub log_records-append : (head : List ℕ) (batches more now : List Batch) → BeginsWithHead head batches
    → now ≡ batches ++ more → log_records now ≡ log_records batches ++ batch_records more
log_records-append head batches more now begins is =
    ap log_records (is ∙ ap (λ (l : List Batch). l ++ more) begins.1)
    ∙ batch_records-append begins.0 more
    ∙ ap (λ (l : List Batch). log_records l ++ batch_records more) (sym begins.1)

pub begins_more : (head : List ℕ) (batches more now : List Batch) → BeginsWithHead head batches
    → now ≡ batches ++ more → BeginsWithHead head now
begins_more head batches more now begins is =
    (begins.0 ++ more, is ∙ ap (λ (l : List Batch). l ++ more) begins.1)

-- those of some batches and one more
push_some : (batches : List Batch) (batch : Batch) → (length batches ≡ 0 → ⊥)
    → log_records (batches ++ batch ∷ []) ≡ log_records batches ++ all_decoded batch
push_some [] batch some = absurd (some refl)
push_some (head ∷ batches) batch some = batch_records-push batches batch

pub records_more : (all : List Batch) (batch : Batch) (place next : Place) → ReadsNext all batch place next
    → place.number ≤ length all → (place.number ≡ 0 → ⊥)
    → log_records (take next.number all) ≡ log_records (take place.number all) ++ all_decoded batch
records_more all batch place next reads within some =
    ap log_records reads.taken
    ∙ push_some (take place.number all) batch
    (λ none. some (sym (length-take-le place.number all within) ∙ none))

module _ {M : Type 0} (seen : M → List ℕ) (may_leave : M → List ℕ → Type 0) (moment : M → ℕ)
    (left_since : M → ℕ → List ℕ → Type 0) (is_clean : M → Bool) where
  -- ---- a journal that is only read

  reads_same : (j : Journal M) → ReadsLog seen may_leave moment left_since is_clean j j
  reads_same j = record {
    media = record {
      same = refl;
      crash = λ c left. left;
      later = omega arith;
      since = λ t c le left. inl left;
      clean = λ clean. clean;
    };
    end = refl;
    number = refl;
    is_closed = refl;
    others = record { selector = refl; spare = refl; is_second = refl };
  }

  pub keeps_read : (old mid new : Journal M) (spare : Option M)
      → ReadsLog seen may_leave moment left_since is_clean old mid → new ≡ record mid { spare = spare }
      → KeepsLog seen may_leave moment left_since is_clean old new
  keeps_read old mid new spare reads is =
      let here : KeepsLog seen may_leave moment left_since is_clean old (record mid { spare = spare }) = record {
        media = reads.media;
        end = reads.end;
        number = reads.number;
        is_closed = reads.is_closed;
        others = record { selector = reads.others.selector; spare = refl; is_second = reads.others.is_second };
      } in
      subst (λ (j : Journal M). KeepsLog seen may_leave moment left_since is_clean old j) (sym is) here

  pub keeps_all : (old new : Journal M) (spare : Option M) → new ≡ record old { spare = spare }
      → KeepsLog seen may_leave moment left_since is_clean old new
  keeps_all old new spare is = keeps_read old old new spare (reads_same old) is

  batches_same : (old new : Journal M) → ReadsLog seen may_leave moment left_since is_clean old new
      → batches_now seen new ≡ batches_now seen old
  batches_same old new reads = ap batches_of reads.media.same

  -- ---- replaying

  pub replaying_still : (old new : Journal M) (replay : LogReplay) (place : Place)
      → ReadsLog seen may_leave moment left_since is_clean old new
      → IsReplaying seen is_clean old replay place → IsReplaying seen is_clean new replay place
  replaying_still old new replay place reads is =
      let same = sym (batches_same old new reads) in
      record {
        place_is = λ clean. subst (λ (l : List Batch). IsAfter l place) same (is.place_is (reads.media.clean clean));
        replayed = λ clean.
            subst (λ (l : List Batch). IsReplayOf (log_records (take place.number l)) replay) same
            (is.replayed (reads.media.clean clean));
      }

  batch_replayed : (all : List Batch) (batch : List (Vec ℕ Global)) (place next : Place) (replay now : LogReplay)
      (number : ℕ)
      → place.number ≡ number → ReadsNext all (items_of batch) place next → place.number ≤ length all
      → ReplaysBatch replay place.number batch now
      → IsReplayOf (log_records (take place.number all)) replay → IsReplayOf (log_records (take next.number all)) now
  batch_replayed all batch place next replay now zero is reads within one before =
      let none : log_records (take place.number all) ≡ [] =
      ap (λ (n : ℕ). log_records (take n all)) is in
      let first : log_records (take next.number all) ≡ [] =
      ap log_records (reads.taken ∙ ap (λ (n : ℕ). take n all ++ items_of batch ∷ []) is) in
      subst (λ (l : List RecordData). IsReplayOf l now) (sym first)
      (one.head is (subst (λ (l : List RecordData). IsReplayOf l replay) none before))
  batch_replayed all batch place next replay now (suc n) is reads within one before =
      let some : place.number ≡ 0 → ⊥ = λ none. (let e : suc n ≡ 0 = sym is ∙ none in cc e) in
      subst (λ (l : List RecordData). IsReplayOf l now)
      (sym (records_more all (items_of batch) place next reads within some))
      (one.more some (log_records (take place.number all)) before)

  pub replaying_more : (old new : Journal M) (batch : List (Vec ℕ Global)) (place next : Place)
      (replay now : LogReplay)
      → ReadsLog seen may_leave moment left_since is_clean old new
      → (IsTrue (is_clean new.active.media) → ReadsNext (batches_now seen old) (items_of batch) place next)
      → ReplaysBatch replay place.number batch now → IsReplaying seen is_clean old replay place
      → IsReplaying seen is_clean new now next
  replaying_more old new batch place next replay now reads read one is =
      let same = sym (batches_same old new reads) in
      record {
        place_is = λ clean. subst (λ (l : List Batch). IsAfter l next) same (read clean).place;
        replayed = λ clean.
            (let was = reads.media.clean clean in
            subst (λ (l : List Batch). IsReplayOf (log_records (take next.number l)) now) same
            (batch_replayed (batches_now seen old) batch place next replay now place.number refl (read clean)
            (is.place_is was).within one (is.replayed was)));
      }

  -- ---- writing

  pub first_written : (head disks : List ℕ) (medium : M) (created log : Log M)
      → batches_of (seen created.media) ≡ (head ∷ []) ∷ [] → is_clean created.media ≡ is_clean medium
      → AppendsRecords seen may_leave is_clean (map AddDisk disks) created log
      → WritesFirst seen may_leave is_clean head disks medium log
  first_written head disks medium created log first clean appends =
      let begins : BeginsWithHead head (batches_of (seen created.media)) = ([], first) in
      record {
        appendable = appends.appendable;
        clean = appends.clean ∙ clean;
        head_is = λ now.
            (let more = appends.appended (subst IsTrue appends.clean now) in
            begins_more head (batches_of (seen created.media)) more.more (batches_of (seen log.media)) begins
            more.batches);
        records_are = λ now.
            (let more = appends.appended (subst IsTrue appends.clean now) in
            log_records-append head (batches_of (seen created.media)) more.more (batches_of (seen log.media)) begins
            more.batches
            ∙ ap (λ (l : List Batch). log_records l ++ batch_records more.more) first
            ∙ more.records_are);
      }

  pub writing_begun : (old new : Journal M) (head : List ℕ) (replay : LogReplay) (writer : Writer M) (medium : M)
      (place : Place)
      → batches_now seen new ≡ batches_now seen old → new.active.media ≡ old.active.media
      → (place.number ≡ 0 → ⊥) → writer.rest ≡ None → writer.units ≡ replay.units
      → WritesFirst seen may_leave is_clean head replay.disks.items medium writer.log
      → IsReplaying seen is_clean old replay place → IsWriting seen may_leave is_clean new head writer place
  writing_begun old new head replay writer medium place same media some none units written is =
      let was : IsTrue (is_clean new.active.media) → IsTrue (is_clean old.active.media) =
      λ clean. subst (λ (m : M). IsTrue (is_clean m)) media clean in
      record {
        place_is = λ clean. subst (λ (l : List Batch). IsAfter l place) (sym same) (is.place_is (was clean));
        after_head = λ clean. some;
        appendable = written.appendable;
        fit = subst (λ (r : Option (List RecordData)). AreEncodable (rest_of r)) (sym none) tt;
        head_is = written.head_is;
        compacts = λ clean now parts are.
            (let before = log_records (take place.number (batches_now seen old)) in
            let new_is : records_before seen new place ≡ before =
            ap (λ (l : List Batch). log_records (take place.number l)) same in
            let records : log_records (batches_of (seen writer.log.media)) ++ (rest_of writer.rest ++ parts)
            ≡ map AddDisk replay.disks.items ++ parts =
            ap (λ (l : List RecordData). l ++ (rest_of writer.rest ++ parts)) (written.records_are now)
            ∙ ap (λ (r : Option (List RecordData)). map AddDisk replay.disks.items ++ (rest_of r ++ parts)) none in
            subst (λ (l : List RecordData). IsCompaction l
            (log_records (batches_of (seen writer.log.media)) ++ (rest_of writer.rest ++ parts))) (sym new_is)
            (subst (λ (l : List RecordData). IsCompaction before l) (sym records)
            (compaction_of before replay parts (is.replayed (was clean))
            (subst (λ (u : Vec ReplayState Global). AreCheckpoints u.items parts) units are))));
      }

  -- all units were written
  pub units_end : (log : Log M) (units : Vec ReplayState Global) → units.items ≡ []
      → StaysAt seen may_leave is_clean (record { log = log; rest = None; units = units }) (Copying log)
  units_end log units none = record {
    stays = λ journal head place is. record {
      place_is = is.place_is;
      after_head = is.after_head;
      appendable = is.appendable;
      head_is = is.head_is;
      compaction = λ clean now.
          subst (λ (l : List RecordData). IsCompaction (records_before seen journal place) l)
          (append-nil (log_records (batches_of (seen log.media))))
          (is.compacts clean now [] (subst (λ (l : List ReplayState). AreCheckpoints l []) (sym none) refl));
    };
    clean = λ spare. refl;
  }

  -- the next unit is to be written
  pub unit_next : (log : Log M) (units left : Vec ReplayState Global) (unit : ReplayState) (records : List RecordData)
      → units.items ≡ unit ∷ left.items → IsCheckpoint unit.addr unit.unit records
      → StaysAt seen may_leave is_clean (record { log = log; rest = None; units = units })
      (Writing (record { log = log; rest = Some records; units = left }))
  unit_next log units left unit records split one = record {
    stays = λ journal head place is. record {
      place_is = is.place_is;
      after_head = is.after_head;
      appendable = is.appendable;
      fit = one.fit;
      head_is = is.head_is;
      compacts = λ clean now parts are.
          is.compacts clean now (records ++ parts)
          (subst (λ (l : List ReplayState). AreCheckpoints l (records ++ parts)) (sym split)
          (records, parts, refl, one, are));
    };
    clean = λ spare. refl;
  }

  -- a unit was written
  pub rest_end : (log : Log M) (rest : List RecordData) (units : Vec ReplayState Global) → rest ≡ []
      → StaysAt seen may_leave is_clean (record { log = log; rest = Some rest; units = units })
      (Writing (record { log = log; rest = None; units = units }))
  rest_end log rest units none = record {
    stays = λ journal head place is. record {
      place_is = is.place_is;
      after_head = is.after_head;
      appendable = is.appendable;
      fit = tt;
      head_is = is.head_is;
      compacts = λ clean now parts are.
          subst (λ (l : List RecordData). IsCompaction (records_before seen journal place)
          (log_records (batches_of (seen log.media)) ++ (l ++ parts))) none
          (is.compacts clean now parts are);
    };
    clean = λ spare. refl;
  }

  -- some records of a unit were written
  pub rest_more : (old new : Log M) (rest records left : List RecordData) (units : Vec ReplayState Global)
      → rest ≡ records ++ left → AppendsRecords seen may_leave is_clean records old new
      → StaysAt seen may_leave is_clean (record { log = old; rest = Some rest; units = units })
      (Writing (record { log = new; rest = Some left; units = units }))
  rest_more old new rest records left units split appends = record {
    stays = λ journal head place is. record {
      place_is = is.place_is;
      after_head = is.after_head;
      appendable = appends.appendable;
      fit = fit_back records left (subst AreEncodable split is.fit);
      head_is = λ now.
          (let was = subst IsTrue appends.clean now in
          let more = appends.appended was in
          begins_more head (batches_of (seen old.media)) more.more (batches_of (seen new.media)) (is.head_is was)
          more.batches);
      compacts = λ clean now parts are.
          (let was = subst IsTrue appends.clean now in
          let more = appends.appended was in
          let done = log_records (batches_of (seen old.media)) in
          let now_done : log_records (batches_of (seen new.media)) ≡ done ++ records =
          log_records-append head (batches_of (seen old.media)) more.more (batches_of (seen new.media))
          (is.head_is was) more.batches
          ∙ ap (λ (l : List RecordData). done ++ l) more.records_are in
          let whole : done ++ (rest ++ parts) ≡ log_records (batches_of (seen new.media)) ++ (left ++ parts) =
          ap (λ (l : List RecordData). done ++ (l ++ parts)) split
          ∙ ap (λ (l : List RecordData). done ++ l) (append_assoc records left parts)
          ∙ sym (append_assoc done records (left ++ parts))
          ∙ ap (λ (l : List RecordData). l ++ (left ++ parts)) (sym now_done) in
          subst (λ (l : List RecordData). IsCompaction (records_before seen journal place) l) whole
          (is.compacts clean was parts are));
    };
    clean = λ spare. appends.clean;
  }

  -- ---- copying

  pub copying_more : (old new : Journal M) (head : List ℕ) (log copied : Log M) (batch : List (Vec ℕ Global))
      (place next : Place)
      → ReadsLog seen may_leave moment left_since is_clean old new
      → (IsTrue (is_clean new.active.media) → ReadsNext (batches_now seen old) (items_of batch) place next)
      → copied.is_closed ≡ false → is_clean copied.media ≡ is_clean log.media
      → (IsTrue (is_clean log.media) → Appends seen may_leave (items_of batch) log copied)
      → IsCopying seen may_leave is_clean old head log place
      → IsCopying seen may_leave is_clean new head copied next
  copying_more old new head log copied batch place next reads read is_open clean_is appends is =
      let same = sym (batches_same old new reads) in
      let later : Batch → List RecordData = λ b. batch_records (b ∷ []) in
      record {
        place_is = λ clean. subst (λ (l : List Batch). IsAfter l next) same (read clean).place;
        after_head = λ clean none. absurd (omega (arith, (read clean).number, none));
        appendable = record { is_open = is_open; synced = λ now. (appends (subst IsTrue clean_is now)).settled };
        head_is = λ now.
            (let was = subst IsTrue clean_is now in
            begins_more head (batches_of (seen log.media)) (items_of batch ∷ []) (batches_of (seen copied.media))
            (is.head_is was) (appends was).batches);
        compaction = λ clean now.
            (let was = subst IsTrue clean_is now in
            let clean_old = reads.media.clean clean in
            let before = log_records (take place.number (batches_now seen old)) in
            let records_now : log_records (take next.number (batches_now seen new))
            ≡ before ++ all_decoded (items_of batch) =
            ap (λ (l : List Batch). log_records (take next.number l)) (sym same)
            ∙ records_more (batches_now seen old) (items_of batch) place next (read clean)
            (is.place_is clean_old).within (is.after_head clean_old) in
            let copied_now : log_records (batches_of (seen copied.media))
            ≡ log_records (batches_of (seen log.media)) ++ all_decoded (items_of batch) =
            log_records-append head (batches_of (seen log.media)) (items_of batch ∷ [])
            (batches_of (seen copied.media)) (is.head_is was) (appends was).batches
            ∙ ap (λ (l : Batch). log_records (batches_of (seen log.media)) ++ all_decoded l)
            (append-nil (items_of batch)) in
            subst (λ (l : List RecordData). IsCompaction l (log_records (batches_of (seen copied.media))))
            (sym records_now)
            (subst (λ (l : List RecordData). IsCompaction (before ++ all_decoded (items_of batch)) l) (sym copied_now)
            (takes_later before (log_records (batches_of (seen log.media))) (all_decoded (items_of batch))
            (is.compaction clean_old was))));
      }

-- ---- a journal that has got a batch

take_front : (n : ℕ) (xs more : List Batch) → n ≤ length xs → take n (xs ++ more) ≡ take n xs
take_front zero xs more le = refl
take_front (suc n) [] more le = absurd (omega (arith, le))
take_front (suc n) (x ∷ xs) more le = ap (λ (l : List Batch). x ∷ l) (take_front n xs more (omega (arith, le)))

module _ {M : Type 0} (seen : M → List ℕ) (may_leave : M → List ℕ → Type 0) (is_clean : M → Bool)
    (old new : Journal M)
    (clean : is_clean new.active.media ≡ is_clean old.active.media)
    (grows : IsTrue (is_clean old.active.media)
    → (more : List Batch) × (batches_now seen new ≡ batches_now seen old ++ more)) where
  was : IsTrue (is_clean new.active.media) → IsTrue (is_clean old.active.media)
  was now = subst IsTrue clean now

  -- what is before a place stays
  front : (place : Place) (c : IsTrue (is_clean old.active.media)) → place.number ≤ length (batches_now seen old)
      → take place.number (batches_now seen new) ≡ take place.number (batches_now seen old)
  front place c within =
      ap (λ (l : List Batch). take place.number l) (grows c).1
      ∙ take_front place.number (batches_now seen old) (grows c).0 within

  place_still : (place : Place) (c : IsTrue (is_clean old.active.media)) → IsAfter (batches_now seen old) place
      → IsAfter (batches_now seen new) place
  place_still place c is = record {
    within =
        (let count : length (batches_now seen new) ≡ length (batches_now seen old ++ (grows c).0) =
        ap (λ (l : List Batch). length l) (grows c).1 in
        omega (arith, is.within, count, length-append (batches_now seen old) (grows c).0));
    at = is.at ∙ ap (λ (l : List Batch). 8 + batches_len l) (sym (front place c is.within));
  }

  records_still : (place : Place) (c : IsTrue (is_clean old.active.media)) → IsAfter (batches_now seen old) place
      → records_before seen new place ≡ records_before seen old place
  records_still place c is = ap log_records (front place c is.within)

  replaying_on : (replay : LogReplay) (place : Place) → IsReplaying seen is_clean old replay place
      → IsReplaying seen is_clean new replay place
  replaying_on replay place is = record {
    place_is = λ now. place_still place (was now) (is.place_is (was now));
    replayed = λ now.
        subst (λ (l : List RecordData). IsReplayOf l replay)
        (sym (records_still place (was now) (is.place_is (was now)))) (is.replayed (was now));
  }

  stage_still : (head : List ℕ) (stage : Stage M) (place : Place)
      → IsAtStage seen may_leave is_clean old head stage place → IsAtStage seen may_leave is_clean new head stage place
  stage_still head (Replaying replay count) place is = replaying_on replay place is
  stage_still head (Replayed replay) place is = replaying_on replay place is
  stage_still head (Writing writer) place is = record {
    place_is = λ now. place_still place (was now) (is.place_is (was now));
    after_head = λ now. is.after_head (was now);
    appendable = is.appendable;
    fit = is.fit;
    head_is = is.head_is;
    compacts = λ now other parts are.
        subst (λ (l : List RecordData). IsCompaction l
        (log_records (batches_of (seen writer.log.media)) ++ (rest_of writer.rest ++ parts)))
        (sym (records_still place (was now) (is.place_is (was now)))) (is.compacts (was now) other parts are);
  }
  stage_still head (Copying log) place is = record {
    place_is = λ now. place_still place (was now) (is.place_is (was now));
    after_head = λ now. is.after_head (was now);
    appendable = is.appendable;
    head_is = is.head_is;
    compaction = λ now other.
        subst (λ (l : List RecordData). IsCompaction l (log_records (batches_of (seen log.media))))
        (sym (records_still place (was now) (is.place_is (was now)))) (is.compaction (was now) other);
  }

-- an append, by how it ended: a checkpoint goes with the journal still
module _ {M : Type 0} (seen : M → List ℕ) (may_leave : M → List ℕ → Type 0) (is_clean : M → Bool) (batch : Batch)
    (old new : Journal M) where
  grown : (result : Result Unit LogError) → new.active.is_closed ≡ false → old.active.is_closed ≡ false
      → OnOk result (IsTrue (is_clean old.active.media) → Appends seen may_leave batch old.active new.active)
      → IfErr result (λ e. is_final e ≡ false → old.active.is_closed ≡ false → IsTrue (is_clean old.active.media)
      → KeepsBatches seen may_leave old.active new.active)
      → IfErr result (λ e. new.active.is_closed ≡ is_final e)
      → IsTrue (is_clean old.active.media)
      → (more : List Batch) × (batches_now seen new ≡ batches_now seen old ++ more)
  grown (Ok x) now before acknowledged kept closes clean = (batch ∷ [], (acknowledged clean).batches)
  grown (Err e) now before acknowledged kept closes clean =
      ([], (kept (sym closes ∙ now) before clean).batches ∙ sym (append-nil (batches_now seen old)))

  still_open : (result : Result Unit LogError) (was_closed : Bool) → old.active.is_closed ≡ was_closed
      → (old.active.is_closed ≡ true → (result ≡ Err Closed) × (new ≡ old)) → new.active.is_closed ≡ false
      → old.active.is_closed ≡ false
  still_open result true is closed now =
      absurd (let e : true ≡ false =
      sym is ∙ ap (λ (j : Journal M). j.active.is_closed) (sym (closed is).1) ∙ now in cc e)
  still_open result false is closed now = is

  pub follows_appended : (result : Result Unit LogError) (checkpoint : GradualCheckpoint M)
      → ClosesJournal old new result
      → OnOk result (IsTrue (is_clean old.active.media) → Appends seen may_leave batch old.active new.active)
      → IfErr result (λ e. is_final e ≡ false → old.active.is_closed ≡ false → IsTrue (is_clean old.active.media)
      → KeepsBatches seen may_leave old.active new.active)
      → is_clean new.active.media ≡ is_clean old.active.media
      → GoesWith seen may_leave is_clean old checkpoint → GoesWith seen may_leave is_clean new checkpoint
  follows_appended result checkpoint closes acknowledged kept clean follows = λ now.
      (let before = still_open result old.active.is_closed refl closes.closed now in
      stage_still seen may_leave is_clean old new clean
      (grown result now before acknowledged kept (closes.closes before))
      checkpoint.head.items checkpoint.stage checkpoint.place (follows before))

-- ---- pieces

pub other_of_spare : {M : Type 0} (old new : Journal M) (checkpoint : Option (GradualCheckpoint M))
    → new.spare ≡ old.spare → other_medium new checkpoint ≡ other_medium old checkpoint
other_of_spare old new None same = same
other_of_spare old new (Some checkpoint) same = ap (λ s. other_at s checkpoint.stage) same

module _ {M : Type 0} (seen : M → List ℕ) (may_leave : M → List ℕ → Type 0) (moment : M → ℕ)
    (left_since : M → ℕ → List ℕ → Type 0) (is_clean : M → Bool) (old new : Journal M)
    (checkpoint : GradualCheckpoint M) where
  kept_batches : KeepsLog seen may_leave moment left_since is_clean old new
      → batches_now seen new ≡ batches_now seen old
  kept_batches keeps = ap batches_of keeps.media.same

  -- a piece was made
  pub going_units : (next : GradualCheckpoint M)
      → Continues seen may_leave moment left_since is_clean old checkpoint next new
      → KeepsLogUnits seen is_clean old (Some checkpoint) (Some next) new
  going_units next goes = record {
    was_open = λ now. sym goes.keeps.is_closed ∙ now;
    active = λ now clean other. goes.keeps.media.clean clean;
    other = λ now clean other. subst IsTrue goes.clean other;
    units = λ now clean other a. ap (λ (l : List Batch). unit_of (log_records l) a) (kept_batches goes.keeps);
  }

  pub done_units : ReplacesInPieces seen may_leave moment left_since is_clean old checkpoint new
      → KeepsLogUnits seen is_clean old (Some checkpoint) None new
  done_units done =
      let spare : new.spare ≡ Some done.read.active.media = done.switches.spare in
      let was : IsTrue (is_other_clean is_clean new.spare) → IsTrue (is_clean done.read.active.media) =
      λ other. subst (λ (s : Option M). IsTrue (is_other_clean is_clean s)) spare other in
      record {
        was_open = λ now. done.was_open;
        active = λ now clean other. done.keeps.media.clean (was other);
        other = λ now clean other. subst IsTrue done.clean clean;
        units = λ now clean other a. (done.compaction (was other) clean).units a;
      }

  pub given_up_units : GivesUp seen may_leave moment left_since is_clean old checkpoint new
      → KeepsLogUnits seen is_clean old (Some checkpoint) None new
  given_up_units gives = record {
    was_open = λ now. sym (gives.keeps now).is_closed ∙ now;
    active = λ now clean other. (gives.keeps now).media.clean clean;
    other = λ now clean other. subst IsTrue (gives.clean now) other;
    units = λ now clean other a. ap (λ (l : List Batch). unit_of (log_records l) a) (kept_batches (gives.keeps now));
  }

  -- what a crash leaves where the successor became the active log
  pub done_leaves : ReplacesInPieces seen may_leave moment left_since is_clean old checkpoint new
      → LeavesSuccessor seen may_leave moment left_since is_clean old new
  done_leaves done =
      let active : new.active ≡ done.successor = done.switches.active in
      record {
        read = done.read;
        successor = done.successor;
        keeps = done.keeps;
        either = done.either;
        compaction = λ was now.
            subst (λ (l : Log M). IsCompaction (log_records (batches_now seen old))
            (log_records (batches_of (seen l.media)))) active
            (done.compaction was (subst (λ (l : Log M). IsTrue (is_clean l.media)) (sym active) now));
      }

-- what holds whatever the error is
pub always_err : {T E : Type 0} (result : Result T E) (X : Type 0) → X → IfErr result (λ _. X)
always_err (Ok x) X holds = tt
always_err (Err e) X holds = holds

-- ---- lists

pub nothing_of : {X : Type 0} (l : List X) → length l ≡ 0 → l ≡ []
nothing_of [] none = refl
nothing_of (x ∷ l) none = absurd (omega (arith, none))

pub first_of_all : {X : Type 0} (l left : List X) (x : X) → (length l ≡ 0 → ⊥) → x ≡ slice_index_or l 0 x
    → left ≡ drop 1 l → l ≡ x ∷ left
first_of_all [] left x some is rest = absurd (some refl)
first_of_all (y ∷ l) left x some is rest = ap (λ z. z ∷ l) (sym is) ∙ ap (λ t. x ∷ t) (sym rest)

-- ---- the switch

pub replaced : {M : Type 0} (seen : M → List ℕ) (may_leave : M → List ℕ → Type 0) (moment : M → ℕ)
    (left_since : M → ℕ → List ℕ → Type 0) (is_clean : M → Bool) (old read new : Journal M) (head : Vec ℕ Global)
    (log : Log M) (place : Place)
    → ReadsLog seen may_leave moment left_since is_clean old read → Switches read log new
    → LeavesEither seen may_leave moment left_since is_clean read log new → old.active.is_closed ≡ false
    → (IsTrue (is_clean read.active.media) → place.number ≡ length (batches_now seen old))
    → IsCopying seen may_leave is_clean old head.items log place
    → ReplacesInPieces seen may_leave moment left_since is_clean old
    (record { head = head; stage = Copying log; place = place }) new
replaced seen may_leave moment left_since is_clean old read new head log place reads switches either was_open last is =
    let here : batches_now seen new ≡ batches_of (seen log.media) =
    ap (λ (l : Log _). batches_of (seen l.media)) switches.active in
    let medium : is_clean new.active.media ≡ is_clean log.media =
    ap (λ (l : Log _). is_clean l.media) switches.active in
    record {
      read = read;
      successor = log;
      keeps = keeps_read seen may_leave moment left_since is_clean old read read read.spare reads refl;
      switches = switches;
      either = either;
      was_open = was_open;
      is_open = ap (λ (l : Log _). l.is_closed) switches.active ∙ is.appendable.is_open;
      head_is = λ now.
          subst (λ (l : List Batch). BeginsWithHead head.items l) (sym here) (is.head_is (subst IsTrue medium now));
      compaction = λ was now.
          (let all : take place.number (batches_now seen old) ≡ batches_now seen old =
          take_all place.number (batches_now seen old) (omega (arith, last was)) in
          subst (λ (l : List Batch). IsCompaction (log_records (batches_now seen old)) (log_records l)) (sym here)
          (subst (λ (l : List Batch). IsCompaction (log_records l) (log_records (batches_of (seen log.media)))) all
          (is.compaction (reads.media.clean was) (subst IsTrue medium now))));
      clean = medium;
    }

-- what is done at a checkpoint's stage
pub comes_at : {M E : Type 0} (seen : M → List ℕ) (may_leave : M → List ℕ → Type 0) (moment : M → ℕ)
    (left_since : M → ℕ → List ℕ → Type 0) (is_clean : M → Bool) (old new : Journal M)
    (checkpoint : GradualCheckpoint M) (stage : Stage M) (result : Result (Progress M) E)
    → checkpoint.stage ≡ stage
    → IfOk result (λ progress. MakesPiece seen may_leave moment left_since is_clean old
    (record { head = checkpoint.head; stage = stage; place = checkpoint.place }) progress new)
    → IfOk result (λ progress. MakesPiece seen may_leave moment left_since is_clean old checkpoint progress new)
comes_at {M = M} seen may_leave moment left_since is_clean old new checkpoint stage result is done =
    let P : Stage M → Type 0 = λ s. IfOk result (λ progress. MakesPiece seen may_leave moment left_since is_clean old
    (record { head = checkpoint.head; stage = s; place = checkpoint.place }) progress new) in
    subst P (sym is) done

-- a successor that is whole leaves the old log or itself, however the switch ends
pub copied_leaves : {M : Type 0} (seen : M → List ℕ) (may_leave : M → List ℕ → Type 0) (moment : M → ℕ)
    (left_since : M → ℕ → List ℕ → Type 0) (is_clean : M → Bool) (old read new : Journal M) (head : List ℕ)
    (log : Log M) (place : Place)
    → ReadsLog seen may_leave moment left_since is_clean old read
    → LeavesEither seen may_leave moment left_since is_clean read log new
    → (IsTrue (is_clean read.active.media) → place.number ≡ length (batches_now seen old))
    → IsCopying seen may_leave is_clean old head log place
    → LeavesLogs seen may_leave moment left_since is_clean old new
copied_leaves seen may_leave moment left_since is_clean old read new head log place reads either last is = inr (record {
  read = read;
  successor = log;
  keeps = keeps_read seen may_leave moment left_since is_clean old read read read.spare reads refl;
  either = either;
  compaction = λ was now.
      (let all : take place.number (batches_now seen old) ≡ batches_now seen old =
      take_all place.number (batches_now seen old) (omega (arith, last was)) in
      subst (λ (l : List Batch). IsCompaction (log_records l) (log_records (batches_of (seen log.media)))) all
      (is.compaction (reads.media.clean was) now));
})
