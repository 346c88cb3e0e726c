-- A successor that becomes the active log.
use Rattle.std.proofs.Common.{◌≡◌, ◌⊎◌, inl, inr, ℕ, Bool, true, false, if◌then◌else◌, List, Option, None, Result, Ok}
use Rattle.std.proofs.Common.{Err, IfOk, IfErr, IfSome, map}
use Rattle.std.proofs.Common.{IsTrue, refl, sym, ap, subst, ◌∙◌}
use Rattle.ar_media.specs.Media.{LeavesOnly}
use Rattle.ar_media.proofs.Moments.{then_goes_on}
use Rattle.ar_log.specs.Codec.{Batch}
use Rattle.ar_log.specs.Log.{HoldsBatches, batches_of}
use Rattle.ar_log.specs.declared.error.LogError.{LogError}
use Rattle.ar_log.specs.declared.log.Log.{Log}
use Rattle.ar_log.proofs.Whole.{read_run}
use Rattle.ar_journal.specs.Journal.{HoldsJournal, IsReady, batches_now, first_of, second_of}
use Rattle.ar_journal.specs.Reader.{IsReading, KeepsFiles, LeavesRead, ReadsActive, Resumes}
use Rattle.ar_journal.specs.Switch.{LeavesEither, Switches}
use Rattle.ar_journal.specs.declared.files.JournalFiles.{JournalFiles}
use Rattle.ar_journal.specs.declared.journal.Journal.{Journal}
use Rattle.ar_journal.specs.declared.reader.JournalReader.{JournalReader}
use Rattle.ar_journal.proofs.Reading.{leaves_read}
use Rattle.ar_record.specs.Record.{RecordData}
use Rattle.ar_compaction.specs.Head.{HeadData, head_encoding}
use Rattle.ar_compaction.specs.Makes.{makes_after, makes_before_all}
use Rattle.ar_compaction.specs.Replaying.{unit_address}
use Rattle.ar_checkpoint.specs.LogReplay.{IsReplayOf, replay_makes}
use Rattle.ar_checkpoint.specs.Failing.{IsBeforeSwitch}
use Rattle.ar_checkpoint.specs.Replacing.{FailsToReplace, FailsToSwitch, LeavesFailed, LeavesOld, LeavesOldOrNew}
use Rattle.ar_checkpoint.specs.Replacing.{LeavesSwitch, ReplacesLog, SwitchesLog}
use Rattle.ar_checkpoint.specs.Replacing.{new_of, old_of}
use Rattle.ar_checkpoint.specs.declared.error.CheckpointError.{CheckpointError}
use Rattle.ar_checkpoint.specs.declared.error.CheckpointError.TheVariants.{NoMemory, Log as LogFails}
use Rattle.ar_checkpoint.specs.declared.error.CheckpointError.TheVariants.{Record as RecordFails, LastGeneration}
use Rattle.ar_checkpoint.specs.declared.error.CheckpointError.TheVariants.{Successor, Switch}
use Rattle.ar_checkpoint.specs.Successor.{BeginsWithHead, IsNextHead, IsSuccessor, next_head, log_records}
use Rattle.ar_checkpoint.specs.Writing.{WritesSuccessor}
use Rattle.ar_checkpoint.specs.declared.log_replay.LogReplay.{LogReplay}

module _ {M : Type 0} (seen : M → List ℕ) (may_leave : M → List ℕ → Type 0) (moment : M → ℕ)
    (left_since : M → ℕ → List ℕ → Type 0) (is_clean : M → Bool) where
  S : List ℕ → LogReplay → Journal M → Journal M → Type 0
  S head replay journal now = SwitchesLog seen may_leave moment left_since is_clean head replay journal now

  pub log_switched : {E : Type 0} (head : List ℕ) (replay : LogReplay) (journal without : Journal M) (spare : M)
      (successor : Log M)
      (result : Result (Journal M) E)
      → without ≡ record journal { spare = None } → WritesSuccessor seen may_leave is_clean head replay spare successor
      → IfOk result (λ now. IsReady seen may_leave is_clean now) → IfOk result (λ now. Switches without successor now)
      → IfOk result (λ now. LeavesEither seen may_leave moment left_since is_clean without successor now)
      → IfOk result (λ now. SwitchesLog seen may_leave moment left_since is_clean head replay journal now)
  log_switched head replay journal without spare successor (Ok now) is writes ready switches either = record {
    spare = spare;
    successor = successor;
    writes = writes;
    ready = ready;
    switches = subst (λ (j : Journal M). Switches j successor now) is switches;
    either =
        subst (λ (j : Journal M). LeavesEither seen may_leave moment left_since is_clean j successor now) is either;
  }
  log_switched head replay journal without spare successor (Err e) is writes ready switches either = tt

  -- the next head counts the units that the replay of a log has made
  next_is : (head : HeadData) (replay : LogReplay) (records : List RecordData) → replay.before.bytes ≡ head.makes
      → IsReplayOf records replay → IsNextHead head records (next_head head (replay_makes replay))
  next_is head replay records begun is =
      let addresses = map unit_address replay.addresses.items in
      record {
        addresses = addresses;
        named = is.addresses;
        is =
            ap (next_head head)
            (ap (λ (m : List ℕ). makes_before_all m replay.units.items)
            (is.makes ∙ ap (λ (m : List ℕ). makes_after m records) begun)
            ∙ ap (makes_before_all (makes_after head.makes records)) is.units);
      }

  -- what was written of a replay is a successor of the log that it is a replay of
  successor_is : (head : HeadData) (bytes : List ℕ) (replay : LogReplay) (old : List Batch) (spare : M)
      (successor : Log M)
      → bytes ≡ head_encoding (next_head head (replay_makes replay)) → replay.before.bytes ≡ head.makes
      → IsReplayOf (log_records old) replay
      → WritesSuccessor seen may_leave is_clean bytes replay spare successor → IsTrue (is_clean successor.media)
      → IsSuccessor head old (batches_of (seen successor.media))
  successor_is head bytes replay old spare successor encoded begun is writes sound = record {
    next = next_head head (replay_makes replay);
    next_is = next_is head replay (log_records old) begun is;
    head_is =
        subst (λ (b : List ℕ). BeginsWithHead b (batches_of (seen successor.media))) encoded (writes.head_is sound);
    compaction = writes.compaction sound (log_records old) is;
    few = writes.few sound (log_records old) is;
  }

  pub log_replaced : (head : HeadData) (bytes : List ℕ) (replay : LogReplay) (reader mid : JournalReader M)
      (journal now : Journal M)
      → bytes ≡ head_encoding (next_head head (replay_makes replay)) → replay.before.bytes ≡ head.makes
      → (IsTrue (is_clean mid.active) → IsReplayOf (log_records (batches_of (seen reader.active))) replay)
      → (IsTrue (is_clean journal.active.media) → IsTrue (is_clean mid.active))
      → SwitchesLog seen may_leave moment left_since is_clean bytes replay journal now
      → ReplacesLog seen is_clean head reader now
  log_replaced head bytes replay reader mid journal now encoded begun replayed clean switched =
      let successor = switched.successor in
      let here : now.active ≡ successor = switched.switches.active in
      record {
        old = journal.active.media;
        spare = switched.switches.spare;
        successor = λ old_clean new_clean.
            subst (λ (l : Log M). IsSuccessor head (batches_of (seen reader.active)) (batches_of (seen l.media)))
            (sym here)
            (successor_is head bytes replay (batches_of (seen reader.active)) switched.spare successor encoded begun
            (replayed (clean old_clean)) switched.writes
            (subst (λ (l : Log M). IsTrue (is_clean l.media)) here new_clean));
      }

  -- ---- what a crash leaves

  reads_only : (reader mid : JournalReader M) → IsReading seen may_leave is_clean reader
      → ((m : M) (c : List ℕ) → left_since m (moment m) c → may_leave m c)
      → ReadsActive seen may_leave moment left_since is_clean reader mid
      → HoldsBatches (batches_of (seen reader.active)) (seen reader.active)
      → LeavesOnly moment left_since reader.active mid.active (HoldsBatches (batches_of (seen reader.active)))
  reads_only reader mid reading only_now reads held =
      let P : List ℕ → Type 0 = HoldsBatches (batches_of (seen reader.active)) in
      let all : (f : List ℕ) → may_leave reader.active f
      → P f = λ f left. subst P (sym (reading.durable f left)) held in
      read_run seen may_leave moment left_since is_clean reader.active mid.active P reads.active
      (λ f left. all f (only_now reader.active f left)) all

  -- the old log is read, and then what was torn is cut off
  leaves_old : (reader mid : JournalReader M) (old : M) → IsReading seen may_leave is_clean reader
      → ((m : M) (c : List ℕ) → left_since m (moment m) c → may_leave m c)
      → ReadsActive seen may_leave moment left_since is_clean reader mid
      → HoldsBatches (batches_of (seen reader.active)) (seen reader.active)
      → LeavesOnly moment left_since mid.active old (HoldsBatches (batches_of (seen mid.active)))
      → LeavesRead seen may_leave moment left_since is_clean reader old
  leaves_old reader mid old reading only_now reads held cut =
      let P : List ℕ → Type 0 = HoldsBatches (batches_of (seen reader.active)) in
      let one : LeavesOnly moment left_since reader.active mid.active P =
      reads_only reader mid reading only_now reads held in
      let two : LeavesOnly moment left_since mid.active old P =
      subst (λ (f : List ℕ). LeavesOnly moment left_since mid.active old (HoldsBatches (batches_of f)))
      reads.active.same cut in
      leaves_read seen may_leave moment left_since is_clean reader old reading
      (then_goes_on moment left_since reader.active mid.active old P one two)

  failed_before : (head : HeadData) (reader : JournalReader M) (error : CheckpointError) (files : JournalFiles M)
      → IsBeforeSwitch error
      → LeavesOld seen may_leave moment left_since is_clean reader files
      → LeavesFailed seen may_leave moment left_since is_clean head reader error files
  failed_before head reader NoMemory files is leaves = leaves
  failed_before head reader (LogFails reason) files is leaves = leaves
  failed_before head reader (RecordFails number) files is leaves = leaves
  failed_before head reader LastGeneration files is leaves = leaves
  failed_before head reader (Successor reason) files is leaves = leaves
  failed_before head reader (Switch reason) files is leaves = absurd is

  -- the active medium among the files of a reader
  old_is : (is_second : Bool) (active spare : M) (files : JournalFiles M)
      → files.first ≡ (if is_second then spare else active)
      → files.second ≡ (if is_second then active else spare) → old_of is_second files ≡ active
  old_is true active spare files first second = second
  old_is false active spare files first second = first

  -- the old log can't be read
  pub fails_to_read : (head : HeadData) (reader mid : JournalReader M) (error : CheckpointError)
      (files : JournalFiles M)
      → IsReading seen may_leave is_clean reader
      → ((m : M) (c : List ℕ) → left_since m (moment m) c → may_leave m c)
      → ReadsActive seen may_leave moment left_since is_clean reader mid → IsBeforeSwitch error
      → files.selector ≡ mid.selector → files.first ≡ (if mid.is_second then mid.spare else mid.active)
      → files.second ≡ (if mid.is_second then mid.active else mid.spare)
      → LeavesFailed seen may_leave moment left_since is_clean head reader error files
  fails_to_read head reader mid error files reading only_now reads is selector first second =
      let at : old_of reader.is_second files ≡ mid.active =
      ap (λ (b : Bool). old_of b files) (sym reads.is_second)
      ∙ old_is mid.is_second mid.active mid.spare files first second in
      failed_before head reader error files is (record {
        selector = selector ∙ reads.selector;
        before = λ clean held.
            subst (λ (m : M). LeavesRead seen may_leave moment left_since is_clean reader m) (sym at)
            (leaves_read seen may_leave moment left_since is_clean reader mid.active reading
            (reads_only reader mid reading only_now reads held));
      })

  -- what was torn can't be cut off
  pub fails_to_cut : (head : HeadData) (reader mid last : JournalReader M) (error : CheckpointError)
      (files : JournalFiles M)
      → IsReading seen may_leave is_clean reader
      → ((m : M) (c : List ℕ) → left_since m (moment m) c → may_leave m c)
      → ReadsActive seen may_leave moment left_since is_clean reader mid → KeepsFiles mid last
      → (IsTrue (is_clean last.active) → HoldsBatches (batches_of (seen mid.active)) (seen mid.active)
      → LeavesRead seen may_leave moment left_since is_clean mid last.active) → IsBeforeSwitch error
      → files.selector ≡ last.selector → files.first ≡ (if last.is_second then last.spare else last.active)
      → files.second ≡ (if last.is_second then last.active else last.spare)
      → LeavesFailed seen may_leave moment left_since is_clean head reader error files
  fails_to_cut head reader mid last error files reading only_now reads keeps any_moment is selector first second =
      let at : old_of reader.is_second files ≡ last.active =
      ap (λ (b : Bool). old_of b files) (sym (keeps.is_second ∙ reads.is_second))
      ∙ old_is last.is_second last.active last.spare files first second in
      failed_before head reader error files is (record {
        selector = selector ∙ keeps.selector ∙ reads.selector;
        before = λ clean held.
            subst (λ (m : M). LeavesRead seen may_leave moment left_since is_clean reader m) (sym at)
            (leaves_old reader mid last.active reading only_now reads held
            (any_moment (subst (λ (m : M). IsTrue (is_clean m)) at clean)
            (subst (λ (f : List ℕ). HoldsBatches (batches_of f) f) (sym reads.active.same) held)).active);
      })

  -- while the selector is written, either log is whole
  Either : M → ℕ → Bool → List Batch → M → M → Type 0
  Either old t is_second batches new selector =
      (s active next : List ℕ) → left_since selector t s → may_leave old active → may_leave new next
      → HoldsJournal batches s (first_of is_second active next) (second_of is_second active next)
      ⊎ HoldsJournal (batches_of (seen new)) s (first_of is_second active next) (second_of is_second active next)

  pub switch_failed : (journal new : Journal M) (successor back : Log M) (reason : LogError) (files : JournalFiles M)
      → LeavesEither seen may_leave moment left_since is_clean journal successor new → back ≡ successor
      → new.active.media ≡ journal.active.media → files.selector ≡ new.selector
      → old_of journal.is_second files ≡ new.active.media → new_of journal.is_second files ≡ back.media
      → FailsToSwitch seen may_leave moment left_since is_clean journal successor (Switch reason) files
  unfolding Either
  switch_failed journal new successor back reason files either same media selector old_at new_at =
      let at : new_of journal.is_second files ≡ successor.media = new_at ∙ ap (λ (l : Log M). l.media) same in
      let E : M → M
      → Type 0 =
      λ m s. Either journal.active.media (moment journal.selector) journal.is_second
      (batches_now seen journal) m s in
      record {
        reason = reason;
        error_is = refl;
        old = old_at ∙ media;
        new = at;
        during = λ selector_clean sound new_clean.
            subst (λ (m : M). E m files.selector) (sym at)
            (subst (λ (m : M). E successor.media m) (sym selector)
            (either.each (record { selector = selector_clean; active = sound })
            (subst (λ (m : M). IsTrue (is_clean m)) at new_clean)));
      }

  pub replace_failed : {T : Type 0} (head : List ℕ) (replay : LogReplay) (journal without : Journal M) (spare : M)
      (successor : Log M)
      (result : Result T (CheckpointError × JournalFiles M))
      → without ≡ record journal { spare = None } → WritesSuccessor seen may_leave is_clean head replay spare successor
      → IfErr result (λ e. FailsToSwitch seen may_leave moment left_since is_clean without successor e.0 e.1)
      → IfErr result (λ e. FailsToReplace seen may_leave moment left_since is_clean head replay journal e.0 e.1)
  replace_failed head replay journal without spare successor (Ok x) is writes failed = tt
  replace_failed head replay journal without spare successor (Err e) is writes failed =
      let here : FailsToSwitch seen may_leave moment left_since is_clean
      (record journal { spare = None }) successor e.0 e.1 =
      subst (λ (j : Journal M). FailsToSwitch seen may_leave moment left_since is_clean j successor e.0 e.1) is
      failed in
      inr (
        spare,
        successor,
        writes,
        record {
          reason = here.reason;
          error_is = here.error_is;
          old = here.old;
          new = here.new;
          during = here.during;
        },
      )

  -- seen from the reader with which the call began
  either_read : (reader mid : JournalReader M) (journal : Journal M) (new selector : M)
      → ReadsActive seen may_leave moment left_since is_clean reader mid → Resumes mid journal
      → batches_now seen journal ≡ batches_of (seen mid.active)
      → Either journal.active.media (moment journal.selector) journal.is_second (batches_now seen journal) new selector
      → Either journal.active.media (moment reader.selector) reader.is_second
      (batches_of (seen reader.active)) new selector
  either_read reader mid journal new selector reads resumes batches either =
      let old = journal.active.media in
      let all : List Batch = batches_of (seen reader.active) in
      let same : batches_now seen journal ≡ all = batches ∙ ap batches_of reads.active.same in
      subst (λ (l : List Batch). Either old (moment reader.selector) reader.is_second l new selector) same
      (subst (λ (b : Bool). Either old (moment reader.selector) b (batches_now seen journal) new selector)
      (resumes.is_second ∙ reads.is_second)
      (subst (λ (m : M). Either old (moment m) journal.is_second (batches_now seen journal) new selector)
      (resumes.selector ∙ reads.selector) either))

  module _ (reader mid : JournalReader M) (journal : Journal M) (reading : IsReading seen may_leave is_clean reader)
      (only_now : (m : M) (c : List ℕ) → left_since m (moment m) c → may_leave m c)
      (reads : ReadsActive seen may_leave moment left_since is_clean reader mid)
      (whole : IsTrue (is_clean mid.active) → HoldsBatches (batches_of (seen reader.active)) (seen reader.active))
      (clean : IsTrue (is_clean journal.active.media) → IsTrue (is_clean mid.active))
      (batches : IsTrue (is_clean journal.active.media) → batches_now seen journal ≡ batches_of (seen mid.active))
      (resumes : Resumes mid journal)
      (any_moment : IsTrue (is_clean journal.active.media)
      → LeavesRead seen may_leave moment left_since is_clean mid journal.active.media) where
    before : IsTrue (is_clean journal.active.media)
        → LeavesRead seen may_leave moment left_since is_clean reader journal.active.media
    before sound =
        leaves_old reader mid journal.active.media reading only_now reads (whole (clean sound))
        (any_moment sound).active

    pub leaves_either : (bytes : List ℕ) (replay : LogReplay) (now : Journal M)
        → SwitchesLog seen may_leave moment left_since is_clean bytes replay journal now
        → IfSome now.spare
        (λ old. LeavesOldOrNew seen may_leave moment left_since is_clean reader now.selector old now.active.media)
    unfolding Either
    leaves_either bytes replay now switched =
        let here : now.active ≡ switched.successor = switched.switches.active in
        let P : M
        → Type 0 =
        λ old. LeavesOldOrNew seen may_leave moment left_since is_clean reader now.selector old now.active.media
        in
        subst (λ (o : Option M). IfSome o P) (sym switched.switches.spare) (record {
          before = before;
          during = λ selector_clean sound new_clean.
              let either = switched.either.each (record {
                selector =
                    subst (λ (m : M). IsTrue (is_clean m)) (sym (resumes.selector ∙ reads.selector)) selector_clean;
                active = sound;
              }) (subst (λ (l : Log M). IsTrue (is_clean l.media)) here new_clean) in
              subst
              (λ (l : Log M). Either journal.active.media (moment reader.selector) reader.is_second
              (batches_of (seen reader.active)) l.media now.selector)
              (sym here)
              (either_read reader mid journal switched.successor.media now.selector reads resumes
              (batches sound) either);
        })

    pub fails_to_replace : (head : HeadData) (bytes : List ℕ) (replay : LogReplay) (error : CheckpointError)
        (files : JournalFiles M)
        → bytes ≡ head_encoding (next_head head (replay_makes replay)) → replay.before.bytes ≡ head.makes
        → (IsTrue (is_clean mid.active) → IsReplayOf (log_records (batches_of (seen reader.active))) replay)
        → FailsToReplace seen may_leave moment left_since is_clean bytes replay journal error files
        → LeavesFailed seen may_leave moment left_since is_clean head reader error files
    unfolding Either
    fails_to_replace head bytes replay error files encoded begun replayed (inl kept) =
        let at : old_of reader.is_second files ≡ journal.active.media =
        ap (λ (b : Bool). old_of b files) (sym (resumes.is_second ∙ reads.is_second)) ∙ kept.1.old in
        failed_before head reader error files kept.0 (record {
          selector = kept.1.selector ∙ resumes.selector ∙ reads.selector;
          before = λ sound held.
              subst (λ (m : M). LeavesRead seen may_leave moment left_since is_clean reader m) (sym at)
              (before (subst (λ (m : M). IsTrue (is_clean m)) at sound));
        })
    fails_to_replace head bytes replay error files encoded begun replayed (inr found) =
        let successor = found.1 in
        let failed = found.3 in
        let is_second : journal.is_second ≡ reader.is_second = resumes.is_second ∙ reads.is_second in
        let old_at : old_of reader.is_second files ≡ journal.active.media =
        ap (λ (b : Bool). old_of b files) (sym is_second) ∙ failed.old in
        let new_at : new_of journal.is_second files ≡ new_of reader.is_second files =
        ap (λ (b : Bool). new_of b files) is_second in
        let at : successor.media ≡ new_of reader.is_second files = sym failed.new ∙ new_at in
        subst (λ (e : CheckpointError). LeavesFailed seen may_leave moment left_since is_clean head reader e files)
        (sym failed.error_is)
        (subst
        (λ (m : M). LeavesSwitch seen may_leave moment left_since is_clean head reader files.selector m
        (new_of reader.is_second files))
        (sym old_at) (record {
          successor = λ sound new_clean.
              subst (λ (m : M). IsSuccessor head (batches_of (seen reader.active)) (batches_of (seen m))) at
              (successor_is head bytes replay (batches_of (seen reader.active)) found.0 successor encoded begun
              (replayed (clean sound)) found.2
              (subst (λ (m : M). IsTrue (is_clean m)) (sym at) new_clean));
          leaves = record {
            before = before;
            during = λ selector_clean sound new_clean.
                let either = failed.during
                (subst (λ (m : M). IsTrue (is_clean m)) (sym (resumes.selector ∙ reads.selector)) selector_clean) sound
                (subst (λ (m : M). IsTrue (is_clean m)) (sym new_at) new_clean) in
                either_read reader mid journal (new_of reader.is_second files) files.selector reads resumes
                (batches sound)
                (subst
                (λ (m : M). Either journal.active.media (moment journal.selector) journal.is_second
                (batches_now seen journal) m files.selector)
                new_at either);
          };
        }))
