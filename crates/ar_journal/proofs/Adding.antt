-- Calls that keep a journal's active log, whatever its spare becomes.
use Rattle.std.proofs.Common.{◌≡◌, ◌⊎◌, inl, inr, ⊎_elim, ℕ, ◌≤◌, Bool, false, List, Option, Some, None, IsTrue}
use Rattle.std.proofs.Common.{refl, sym, subst, arith}
use Rattle.ar_media.specs.Media.{Elapses, LeavesOnly}
use Rattle.ar_log.specs.Log.{HoldsBatches}
use Rattle.ar_log.specs.Reading.{OnlyReads}
use Rattle.ar_log.proofs.Ahead.{not_read}
use Rattle.ar_log.proofs.Whole.{read_run}
use Rattle.ar_journal.specs.Joins.{KeepsJournal, SpareStaysClean}
use Rattle.ar_journal.specs.Journal.{Names, batches_now}
use Rattle.ar_journal.specs.declared.journal.Journal.{Journal}
use Rattle.ar_journal.proofs.Naming.{of_named}
use Rattle.ar_journal.proofs.Reading.{synced_read}

pub same_spare : {M : Type 0} (is_clean : M → Bool) (old new : Option M) → new ≡ old → SpareStaysClean is_clean old new
same_spare is_clean None new is = subst (SpareStaysClean is_clean None) (sym is) tt
same_spare is_clean (Some m) new is = subst (SpareStaysClean is_clean (Some m)) (sym is) (λ c. c)

pub spare_then : {M : Type 0} (is_clean : M → Bool) (old mid new : Option M) → SpareStaysClean is_clean old mid
    → SpareStaysClean is_clean mid new → SpareStaysClean is_clean old new
spare_then is_clean None None None one other = tt
spare_then is_clean None None (Some new) one other = absurd other
spare_then is_clean None (Some mid) new one other = absurd one
spare_then is_clean (Some old) None new one other = absurd one
spare_then is_clean (Some old) (Some mid) None one other = absurd other
spare_then is_clean (Some old) (Some mid) (Some new) one other = λ c. one (other c)

module _ {M : Type 0} (seen : M → List ℕ) (may_leave : M → List ℕ → Type 0) (moment : M → ℕ)
    (left_since : M → ℕ → List ℕ → Type 0) (is_clean : M → Bool)
    (only_now : (m : M) (c : List ℕ) → left_since m (moment m) c → may_leave m c) where
  -- what a crash leaves of a selector: what it left before, or a name of the same log
  abbrev StaysNamed : Journal M → List ℕ → Type 0
  StaysNamed old c = may_leave old.selector c ⊎ Names old.is_second c

  pub keeps : (old new : Journal M)
      → (IsTrue (is_clean new.selector) → IsTrue (is_clean old.selector))
      → ((c : List ℕ) → may_leave new.selector c → StaysNamed old c)
      → moment old.selector ≤ moment new.selector
      → ((t : ℕ) (c : List ℕ) → t ≤ moment old.selector → left_since new.selector t c
      → left_since old.selector t c ⊎ StaysNamed old c)
      → OnlyReads seen may_leave moment left_since is_clean old.active.media new.active.media
      → new.active.end ≡ old.active.end → new.active.number ≡ old.active.number → new.is_second ≡ old.is_second
      → (new.active.is_closed ≡ false → old.active.is_closed ≡ false) → SpareStaysClean is_clean old.spare new.spare
      → KeepsJournal seen may_leave moment left_since is_clean old new
  keeps old new clean crash later since reads end number which going spare = record {
    same = reads.same;
    is_second = which;
    going = going;
    active = reads.clean;
    selector = clean;
    spare = spare;
    ready = λ ready. record {
      log = λ now c. synced_read seen may_leave moment left_since is_clean old.active new.active reads end number
          (ready.log (going now) (reads.clean c));
      named = λ now c s left. subst (λ (w : Bool). Names w s) (sym which)
          (⊎_elim (λ was. ready.named (going now) (clean c) s was) (λ named. named) (crash s left));
    };
    any_moment = λ ready is_open clean_now.
        (let name : (c : List ℕ) → StaysNamed old c → Names old.is_second c =
        λ c stays. ⊎_elim (λ was. ready.named is_open clean_now.selector c was) (λ named. named) stays in
        let P : List ℕ → Type 0 = HoldsBatches (batches_now seen old) in
        let whole = (ready.log is_open clean_now.active).durable in
        let selector : LeavesOnly moment left_since old.selector new.selector (Names old.is_second) = record {
          later = later;
          each = λ c left. ⊎_elim (λ was. name c (inl (only_now old.selector c was))) (λ stays. name c stays)
              (since (moment old.selector) c (omega arith) left);
          before = λ t c le left. ⊎_elim (λ was. inl was) (λ stays. inr (name c stays)) (since t c le left);
        } in
        let active = read_run seen may_leave moment left_since is_clean old.active.media new.active.media P reads
        (λ c left. whole c (only_now old.active.media c left)) whole in
        record {
          each = λ s log other left was. of_named old.is_second s log other P (selector.each s left)
              (active.each log was);
          selector = selector;
          active = active;
        });
  }

  -- a selector that is read
  pub reads_selector : (old new : Journal M)
      → OnlyReads seen may_leave moment left_since is_clean old.selector new.selector
      → OnlyReads seen may_leave moment left_since is_clean old.active.media new.active.media
      → new.active.end ≡ old.active.end → new.active.number ≡ old.active.number → new.is_second ≡ old.is_second
      → (new.active.is_closed ≡ false → old.active.is_closed ≡ false) → new.spare ≡ old.spare
      → KeepsJournal seen may_leave moment left_since is_clean old new
  reads_selector old new selector active end number which going spare =
      keeps old new selector.clean (λ c left. inl (selector.crash c left)) selector.later
      (λ t c le left. ⊎_elim (λ was. inl was) (λ now. inr (inl now)) (selector.since t c le left)) active end number
      which going (same_spare is_clean old.spare new.spare spare)

  -- a journal that isn't touched
  pub keeps_itself : (j : Journal M) → KeepsJournal seen may_leave moment left_since is_clean j j
  keeps_itself j =
      reads_selector j j (not_read seen may_leave moment left_since is_clean j.selector)
      (not_read seen may_leave moment left_since is_clean j.active.media) refl refl refl (λ now. now) refl

  -- a selector that a copy joins which names the same log
  pub joins_selector : (old : Journal M) (m : M) → (IsTrue (is_clean m) → IsTrue (is_clean old.selector))
      → ((c : List ℕ) → may_leave m c → StaysNamed old c)
      → Elapses (moment old.selector) (moment m) (left_since old.selector) (left_since m) (may_leave m)
      → KeepsJournal seen may_leave moment left_since is_clean old (record old { selector = m })
  joins_selector old m clean crash time =
      keeps old (record old { selector = m }) clean crash time.later
      (λ t c le left. ⊎_elim (λ was. inl was) (λ now. inr (crash c now)) (time.nothing_else t c le left))
      (not_read seen may_leave moment left_since is_clean old.active.media) refl refl refl (λ now. now)
      (same_spare is_clean old.spare old.spare refl)

  -- a call that keeps the log, and then one of the spare alone
  pub keeps_and_spare : (old mid new : Journal M) → KeepsJournal seen may_leave moment left_since is_clean old mid
      → new ≡ record mid { spare = new.spare } → SpareStaysClean is_clean mid.spare new.spare
      → KeepsJournal seen may_leave moment left_since is_clean old new
  keeps_and_spare old mid new kept is clean =
      subst (KeepsJournal seen may_leave moment left_since is_clean old) (sym is)
      (record {
        same = kept.same;
        is_second = kept.is_second;
        going = kept.going;
        active = kept.active;
        selector = kept.selector;
        spare = spare_then is_clean old.spare mid.spare new.spare kept.spare clean;
        ready = λ ready. (let now = kept.ready ready in record { log = now.log; named = now.named });
        any_moment = λ ready is_open clean_now. (let run = kept.any_moment ready is_open clean_now in
            record { each = run.each; selector = run.selector; active = run.active });
      })
