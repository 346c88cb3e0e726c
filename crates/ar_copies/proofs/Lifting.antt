-- What a call of the copies does is what the call of the file does.
use Rattle.std.proofs.Common.{◌≡◌, ◌≢◌, inl, ℕ, Bool, true, false, ◌&&◌, List, ◌∷◌, length}
use Rattle.std.proofs.Common.{take, drop, Some, Result, Ok, Err, OnOk, IfOk, IfErr, IsTrue, is_ok}
use Rattle.std.proofs.Common.{refl, sym, ◌∙◌, ap, subst, arith, take_all, length-take}
use Rattle.std.specs.Prelude.{⊤}
use Rattle.std.proofs.lemmas.Bool.{eqb-true}
use Rattle.std.proofs.lemmas.Slice.Eq.{bytes_eq-Decides}
use Rattle.ar_media.specs.Media.{Only, OutcomesFollow, Elapses, ReportsFaults, ClosesFor, Torn, Cut, is_fault}
use Rattle.ar_media.specs.Calls.{overlaid, seen_after, LeftAfter, is_honest}
use Rattle.ar_media.specs.CallLaws.{Torn-overlaid, Torn-refl, Cut-padded, Cut-refl}
use Rattle.ar_media.proofs.Files.{overlaid_within, padded_within}
use Rattle.ar_media.specs.declared.error.MediaError.{MediaError}
use Rattle.ar_media.specs.declared.error.MediaError.TheVariants.{Memory, Failed, Full, Closed}
use Rattle.ar_media.specs.declared.record.Call.{Call}
use Rattle.ar_media.specs.declared.record.Call.TheVariants.{Measured, Read, Wrote, Resized, Synced, Failed as Missed}
use Rattle.ar_copies.specs.Copies.{agrees, seen_first, OneLeaves, copies_faults, copies_clean, copies_usable}
use Rattle.ar_copies.specs.Copied.{history, copied_seen, copied_may_leave, copied_is_clean, copied_faults}
use Rattle.ar_copies.specs.Copied.{copied_is_usable, Noted}
use Rattle.ar_copies.specs.Laws.{not_both, contents_stay}
use Rattle.ar_copies.specs.Model.{Entry, contents, FileLeaves, LeavesSince, clean_since}
use Rattle.ar_copies.specs.Recorded.{measured, read, wrote, resized, synced}
use Rattle.ar_copies.specs.Steps.{ChangesFile, Syncs, ReadsFile, WritesAt, CutsTo}
use Rattle.ar_copies.specs.declared.copies.Copies.{Copies}
use Rattle.ar_copies.specs.declared.copied.CopiedFile.{CopiedFile}
use Rattle.ar_copies.proofs.Modelling.{then_contents, then_clean, then_was_clean, then_reads, then_follows, then_left}
use Rattle.ar_copies.proofs.Modelling.{then_only, then_elapses, zip_more}

closed_is_no_fault : IsTrue (is_fault Closed) → ⊥
closed_is_no_fault is = not_both false is refl

no_more : {T : Type 0} (P : MediaError → Type 0) (r : Result T MediaError) → r ≡ Err Closed → P Closed → IfErr r P
no_more P r is p = subst (λ (k : Result _ MediaError). IfErr k P) (sym is) p

none_ok : {T : Type 0} (P : T → Type 0) (r : Result T MediaError) → r ≡ Err Closed → IfOk r P
none_ok P r is = subst (λ (k : Result _ MediaError). IfOk k P) (sym is) tt

module _ {M : Type 0} (seen : M → List ℕ) (may : M → List ℕ → Type 0) (faults : M → ℕ) (clean usable : M → Bool)
    (stay : (m : M) → may m (seen m)) (old new : CopiedFile M) (k : Copies M) (past : List (Copies M)) (bytes : List ℕ)
    (was : past ≡ old.copies ∷ old.past.items) where
  abbrev mid : CopiedFile M
  mid = record old { copies = k }

  abbrev H : List (Entry M)
  H = history old

  abbrev S : List ℕ
  S = contents seen old.copies H

  abbrev L : List ℕ → Type 0
  L = FileLeaves seen may old.copies H

  abbrev TimeTo : CopiedFile M → Type 0
  TimeTo n = Elapses (length H) (length (history n)) (LeavesSince seen may old.copies H)
      (LeavesSince seen may n.copies (history n)) (FileLeaves seen may n.copies (history n))

  abbrev ChangesTo : (List ℕ → List ℕ → Type 0) → (List ℕ → List ℕ → Type 0) → CopiedFile M → Result ⊤ MediaError
      → Type 0
  ChangesTo Whole Part n r = ChangesFile ⊤ (copied_seen seen) (copied_may_leave seen may) (copied_faults faults)
      (copied_is_clean seen clean) (copied_is_usable usable) Whole Part old n r

  abbrev SyncsTo : CopiedFile M → Result ⊤ MediaError → Type 0
  SyncsTo n r = Syncs ⊤ (copied_seen seen) (copied_may_leave seen may) (copied_faults faults)
      (copied_is_clean seen clean) (copied_is_usable usable) old n r

  abbrev ReadsTo : {T : Type 0} → (List ℕ → T → Type 0) → CopiedFile M → Result T MediaError → Type 0
  ReadsTo Value n r = ReadsFile ⊤ (copied_seen seen) (copied_may_leave seen may) (copied_faults faults)
      (copied_is_clean seen clean) (copied_is_usable usable) Value old n r

  abbrev Changed : (List ℕ → List ℕ → Type 0) → (List ℕ → List ℕ → Type 0) → Result ⊤ MediaError → Type 0
  Changed Whole Part r = ChangesFile (agrees seen old.copies ≡ true) (seen_first seen) (OneLeaves may)
      (copies_faults faults) (copies_clean clean) (copies_usable usable) Whole Part old.copies k r

  abbrev DidSync : Result ⊤ MediaError → Type 0
  DidSync r = Syncs (agrees seen old.copies ≡ true) (seen_first seen) (OneLeaves may) (copies_faults faults)
      (copies_clean clean) (copies_usable usable) old.copies k r

  abbrev DidRead : {T : Type 0} → (List ℕ → T → Type 0) → Result T MediaError → Type 0
  DidRead Value r = ReadsFile (agrees seen old.copies ≡ true) (seen_first seen) (OneLeaves may) (copies_faults faults)
      (copies_clean clean) (copies_usable usable) Value old.copies k r

  no_time : TimeTo old
  no_time = record { later = omega arith; nothing_else = λ t x le left. inl left; keeps = λ t x le before. before }

  back : {T : Type 0} (r : Result T MediaError) → ClosesFor (copies_usable usable) old.copies k r → r ≡ Err Closed
      → new ≡ mid → new ≡ old
  back r closes is same = same ∙ ap (λ x. record old { copies = x }) (closes.closed (closes.no_other is)).1

  closes_none : {T : Type 0} (r : Result T MediaError) → ClosesFor (copies_usable usable) old.copies k r
      → r ≡ Err Closed → ClosesFor (copied_is_usable usable) old old r
  closes_none r closes is = record { closed = λ shut. (is, refl); no_other = λ also. closes.no_other is }

  no_fault : {T : Type 0} (r : Result T MediaError) → r ≡ Err Closed
      → ReportsFaults (copied_faults faults old) (copied_faults faults old) r
  no_fault r is = record { later = omega arith; failed = no_more _ r is (λ f. absurd (closed_is_no_fault f)) }

  changes_none : (Whole Part : List ℕ → List ℕ → Type 0) (r : Result ⊤ MediaError) → Changed Whole Part r
      → r ≡ Err Closed → new ≡ mid → ((s : List ℕ) → Part s s) → ChangesTo Whole Part new r × TimeTo new
  changes_none Whole Part r step is note alike =
      let none : ChangesTo Whole Part old r = record {
        whole = λ u. none_ok _ r is;
        part = λ u. alike S;
        crash = λ x left. (x, left, alike x);
        cause = no_fault r is;
        clean = refl;
        closed = closes_none r step.closed is;
        usable = refl;
      } in
      subst (λ n. ChangesTo Whole Part n r × TimeTo n) (sym (back r step.closed is note)) (none, no_time)

  syncs_none : (r : Result ⊤ MediaError) → DidSync r → r ≡ Err Closed → new ≡ mid → SyncsTo new r × TimeTo new
  syncs_none r step is note =
      let shut = step.closed.no_other is in
      let none : SyncsTo old r = record {
        durable = λ u. none_ok _ r is;
        same = λ u. refl;
        crash = λ x left. left;
        cause = no_fault r is;
        clean = refl;
        closed = closes_none r step.closed is;
        usable = shut ∙ sym (ap (λ b. b && is_ok r) shut);
      } in
      subst (λ n. SyncsTo n r × TimeTo n) (sym (back r step.closed is note)) (none, no_time)

  reads_none : {T : Type 0} (Value : List ℕ → T → Type 0) (r : Result T MediaError) → DidRead Value r
      → r ≡ Err Closed → new ≡ mid → ReadsTo Value new r × TimeTo new
  reads_none Value r step is note =
      let none : ReadsTo Value old r = record {
        read = λ u. none_ok _ r is;
        same = λ u. refl;
        crash = λ x left. left;
        cause = no_fault r is;
        clean = λ now. now;
        closed = closes_none r step.closed is;
        usable = refl;
      } in
      subst (λ n. ReadsTo Value n r × TimeTo n) (sym (back r step.closed is note)) (none, no_time)

  module _ (call : Call) (note : Noted past (Some call) bytes mid new) where
    abbrev more : List (Entry M)
    more = (old.copies, (call, bytes)) ∷ H

    to_new : (F : Copies M → List (Entry M) → Type 0) → F k more → F new.copies (history new)
    to_new F x =
        let grown : history new ≡ more =
        zip_more old.past.items new.past.items old.calls.calls new.calls.calls old.copies (call, bytes)
        (note.1 ∙ was) note.2 in
        subst (λ c. F c (history new)) (sym note.0) (subst (λ h. F k h) (sym grown) x)

    time : TimeTo new
    time = to_new (λ n h. Elapses (length H) (length h) (LeavesSince seen may old.copies H) (LeavesSince seen may n h)
        (FileLeaves seen may n h)) (then_elapses seen old.copies k H (call, bytes) may)

    opened : {T : Type 0} (r : Result T MediaError) → ClosesFor (copies_usable usable) old.copies k r
        → (r ≢ Err Closed) → ClosesFor (copied_is_usable usable) old new r
    opened r closes apart = record {
      closed = λ shut. absurd (apart (closes.closed shut).0);
      no_other = λ is. absurd (apart is);
    }

    caused : {T : Type 0} (r : Result T MediaError)
        → ReportsFaults (copies_faults faults old.copies) (copies_faults faults k) r
        → ReportsFaults (copied_faults faults old) (copied_faults faults new) r
    caused r cause = subst (λ n. ReportsFaults (copies_faults faults old.copies) (copies_faults faults n) r)
        (sym note.0) cause

    changes_some : (Whole Part : List ℕ → List ℕ → Type 0) (r : Result ⊤ MediaError) → Changed Whole Part r
        → (r ≢ Err Closed) → OnOk r (Whole S (seen_after call bytes S)) → Part S (seen_after call bytes S)
        → OutcomesFollow Part L (LeftAfter call bytes S L) → is_honest call bytes S ≡ true
        → ChangesTo Whole Part new r × TimeTo new
    changes_some Whole Part r step apart whole part crash honest =
        let all : ChangesTo Whole Part new r = record {
          whole = λ u. to_new (λ n h. OnOk r (Whole S (contents seen n h)))
              (then_contents seen old.copies k H (call, bytes) (λ s t. OnOk r (Whole s t)) step.whole whole);
          part = λ u. to_new (λ n h. Part S (contents seen n h))
              (then_contents seen old.copies k H (call, bytes) Part step.part part);
          crash = to_new (λ n h. OutcomesFollow Part L (FileLeaves seen may n h))
              (then_follows seen old.copies k H (call, bytes) may Part step.crash crash);
          cause = caused r step.cause;
          clean = to_new (λ n h. clean_since seen clean n h ≡ clean_since seen clean old.copies H)
              (then_clean seen old.copies k H (call, bytes) clean step.clean honest);
          closed = opened r step.closed apart;
          usable = subst (λ n. copies_usable usable n ≡ copies_usable usable old.copies) (sym note.0) step.usable;
        } in
        (all, time)

    lasts : (r : Result ⊤ MediaError)
        → (agrees seen old.copies ≡ true → OnOk r (Only (seen_first seen old.copies) (OneLeaves may k)))
        → OnOk r ((x : List ℕ) → LeftAfter call bytes S L x → x ≡ S)
        → OnOk r (Only S (copied_may_leave seen may new))
    lasts (Ok u) copied noted =
        to_new (λ n h. Only S (FileLeaves seen may n h)) (then_only seen old.copies k H (call, bytes) may copied noted)
    lasts (Err e) copied noted = tt

    reads_value : {T : Type 0} (Value : List ℕ → T → Type 0) (r : Result T MediaError)
        → (agrees seen old.copies ≡ true
        → IfOk r (λ v. IsTrue (copies_clean clean k) → Value (seen_first seen old.copies) v))
        → IfOk r (λ v. is_honest call bytes S ≡ true → Value S v)
        → IfOk r (λ v. IsTrue (copied_is_clean seen clean new) → Value S v)
    reads_value Value (Ok v) copied noted =
        to_new (λ n h. clean_since seen clean n h ≡ true → Value S v)
        (then_reads seen old.copies k H (call, bytes) clean (λ s. Value s v) copied noted)
    reads_value Value (Err e) copied noted = tt

    syncs_some : (r : Result ⊤ MediaError) → DidSync r → (r ≢ Err Closed)
        → OnOk r ((x : List ℕ) → LeftAfter call bytes S L x → x ≡ S) → seen_after call bytes S ≡ S
        → ((x : List ℕ) → LeftAfter call bytes S L x → L x) → is_honest call bytes S ≡ true
        → SyncsTo new r × TimeTo new
    syncs_some r step apart only kept crash honest =
        let all : SyncsTo new r = record {
          durable = λ u. lasts r step.durable only;
          same = λ u. to_new (λ n h. contents seen n h ≡ S)
              (then_contents seen old.copies k H (call, bytes) (λ s t. t ≡ s) step.same kept);
          crash = to_new (λ n h. (x : List ℕ) → FileLeaves seen may n h x → L x)
              (then_left seen old.copies k H (call, bytes) may step.crash crash);
          cause = caused r step.cause;
          clean = to_new (λ n h. clean_since seen clean n h ≡ clean_since seen clean old.copies H)
              (then_clean seen old.copies k H (call, bytes) clean step.clean honest);
          closed = opened r step.closed apart;
          usable = subst (λ n. copies_usable usable n ≡ (copies_usable usable old.copies && is_ok r)) (sym note.0)
              step.usable;
        } in
        (all, time)

    reads_some : {T : Type 0} (Value : List ℕ → T → Type 0) (r : Result T MediaError) → DidRead Value r
        → (r ≢ Err Closed) → IfOk r (λ v. is_honest call bytes S ≡ true → Value S v) → seen_after call bytes S ≡ S
        → ((x : List ℕ) → LeftAfter call bytes S L x → L x) → ReadsTo Value new r × TimeTo new
    reads_some Value r step apart honest kept crash =
        let all : ReadsTo Value new r = record {
          read = λ u. reads_value Value r step.read honest;
          same = λ u. to_new (λ n h. contents seen n h ≡ S)
              (then_contents seen old.copies k H (call, bytes) (λ s t. t ≡ s) step.same kept);
          crash = to_new (λ n h. (x : List ℕ) → FileLeaves seen may n h x → L x)
              (then_left seen old.copies k H (call, bytes) may step.crash crash);
          cause = caused r step.cause;
          clean = to_new (λ n h. clean_since seen clean n h ≡ true → clean_since seen clean old.copies H ≡ true)
              (then_was_clean seen old.copies k H (call, bytes) clean);
          closed = opened r step.closed apart;
          usable = subst (λ n. copies_usable usable n ≡ copies_usable usable old.copies) (sym note.0) step.usable;
        } in
        (all, time)

  pub write_lifts : (at : ℕ) (r : Result ⊤ MediaError) → Changed (WritesAt at bytes) (Torn at (length bytes)) r
      → Noted past (wrote at (length bytes) r) bytes mid new
      → ChangesTo (WritesAt at bytes) (Torn at (length bytes)) new r × TimeTo new
  write_lifts at (Ok u) step note =
      let all : take (length bytes) bytes ≡ bytes = take_all (length bytes) bytes (omega arith) in
      changes_some (Wrote at (length bytes)) note _ _ _ step (λ is. cc is)
      (λ within. ap (overlaid S at) all ∙ overlaid_within S at bytes within)
      (Torn-overlaid S at (length bytes) _ (omega (arith, length-take (length bytes) bytes))) (λ x left. left) refl
  write_lifts at (Err Memory) step note =
      changes_some (Wrote at 0) note _ _ _ step (λ is. cc is) tt
      (Torn-overlaid S at (length bytes) _ (omega (arith, length-take 0 bytes))) (λ x left. left) refl
  write_lifts at (Err (Failed kind)) step note =
      changes_some (Wrote at 0) note _ _ _ step (λ is. cc is) tt
      (Torn-overlaid S at (length bytes) _ (omega (arith, length-take 0 bytes))) (λ x left. left) refl
  write_lifts at (Err Full) step note =
      changes_some (Wrote at 0) note _ _ _ step (λ is. cc is) tt
      (Torn-overlaid S at (length bytes) _ (omega (arith, length-take 0 bytes))) (λ x left. left) refl
  write_lifts at (Err Closed) step note = changes_none _ _ _ step refl note (Torn-refl at (length bytes))

  pub cut_lifts : (len : ℕ) (r : Result ⊤ MediaError) → Changed (CutsTo len) (Cut len) r
      → Noted past (resized len r) bytes mid new → ChangesTo (CutsTo len) (Cut len) new r × TimeTo new
  cut_lifts len (Ok u) step note =
      changes_some (Resized len true) note _ _ _ step (λ is. cc is) (padded_within S len) (Cut-padded S len)
      (λ x left. left) refl
  cut_lifts len (Err Memory) step note =
      changes_some (Resized len false) note _ _ _ step (λ is. cc is) tt (Cut-refl len S) (λ x left. left) refl
  cut_lifts len (Err (Failed kind)) step note =
      changes_some (Resized len false) note _ _ _ step (λ is. cc is) tt (Cut-refl len S) (λ x left. left) refl
  cut_lifts len (Err Full) step note =
      changes_some (Resized len false) note _ _ _ step (λ is. cc is) tt (Cut-refl len S) (λ x left. left) refl
  cut_lifts len (Err Closed) step note = changes_none _ _ _ step refl note (Cut-refl len)

  pub sync_lifts : (r : Result ⊤ MediaError) → DidSync r → Noted past (synced r) bytes mid new
      → SyncsTo new r × TimeTo new
  sync_lifts (Ok u) step note =
      syncs_some Synced note _ step (λ is. cc is) (λ x is. is) refl
      (λ x is. subst L (sym is) (contents_stay seen may stay old.copies H)) refl
  sync_lifts (Err Memory) step note = syncs_some Missed note _ step (λ is. cc is) tt refl (λ x left. left) refl
  sync_lifts (Err (Failed kind)) step note = syncs_some Missed note _ step (λ is. cc is) tt refl (λ x left. left) refl
  sync_lifts (Err Full) step note = syncs_some Missed note _ step (λ is. cc is) tt refl (λ x left. left) refl
  sync_lifts (Err Closed) step note = syncs_none _ step refl note

  pub len_lifts : (r : Result ℕ MediaError) → DidRead (λ s n. n ≡ length s) r → Noted past (measured r) bytes mid new
      → ReadsTo (λ s n. n ≡ length s) new r × TimeTo new
  len_lifts (Ok n) step note =
      reads_some (Measured n) note _ _ step (λ is. cc is) (λ honest. eqb-true n (length S) honest) refl (λ x left. left)
  len_lifts (Err Memory) step note = reads_some Missed note _ _ step (λ is. cc is) tt refl (λ x left. left)
  len_lifts (Err (Failed kind)) step note = reads_some Missed note _ _ step (λ is. cc is) tt refl (λ x left. left)
  len_lifts (Err Full) step note = reads_some Missed note _ _ step (λ is. cc is) tt refl (λ x left. left)
  len_lifts (Err Closed) step note = reads_none _ _ step refl note

  pub read_lifts : (at size : ℕ) (r : Result ⊤ MediaError) → length bytes ≡ size
      → DidRead (λ s _. bytes ≡ take size (drop at s)) r → Noted past (read at r) bytes mid new
      → ReadsTo (λ s _. bytes ≡ take size (drop at s)) new r × TimeTo new
  read_lifts at size (Ok u) fits step note =
      reads_some (Read at) note _ _ step (λ is. cc is)
      (λ honest. (bytes_eq-Decides bytes (take (length bytes) (drop at S))).0 honest
      ∙ ap (λ n. take n (drop at S)) fits) refl (λ x left. left)
  read_lifts at size (Err Memory) fits step note =
      reads_some Missed note _ _ step (λ is. cc is) tt refl (λ x left. left)
  read_lifts at size (Err (Failed kind)) fits step note =
      reads_some Missed note _ _ step (λ is. cc is) tt refl (λ x left. left)
  read_lifts at size (Err Full) fits step note = reads_some Missed note _ _ step (λ is. cc is) tt refl (λ x left. left)
  read_lifts at size (Err Closed) fits step note = reads_none _ _ step refl note
