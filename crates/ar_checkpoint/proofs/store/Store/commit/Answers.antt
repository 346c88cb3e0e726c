use Rattle.std.proofs.Common.{◌≡◌, ◌⊎◌, inl, inr, false, List, [], ◌∷◌, ◌++◌, ℕ, Vec, IsTrue, refl, ap, subst, ◌∙◌}
use Rattle.std.specs.declared.alloc.Global.{Global}
use Rattle.std.proofs.lemmas.Bool.{cases_Bool}
use Rattle.ar_media.proofs.Moments.{started}
use Rattle.ar_log.specs.Codec.{items_of}
use Rattle.ar_log.specs.Log.{IsBeforeOrAfter}
use Rattle.ar_journal.specs.Journal.{IsClean, LeavesJournal, batches_now}
use Rattle.ar_journal.proofs.Writing.{leaves_journal}
use Rattle.ar_record.specs.Reading.{all_decoded}
use Rattle.ar_checkpoint.specs.Gradual.{other_medium}
use Rattle.ar_checkpoint.specs.Successor.{log_records}
use Rattle.ar_checkpoint.specs.Store.{RecordStore, is_given_up, stored_records}
use Rattle.ar_checkpoint.proofs.Storing.{committed, first_appended, goes_with_appended}
use Rattle.ar_checkpoint.proofs.store.Store.commit.Goals as goal

pub returns-clause-records : goal.returns-clause-records
returns-clause-records g c =
    let seen = g.M.Media.seen in
    let S = RecordStore g.row.M.Denot in
    let journal = c.self.inside.journal in
    let done = c.in_ok-append.ensures in
    let waiting = items_of c.self.inside.waiting.items in
    let going : journal.active.is_closed ≡ false = elim (cases_Bool journal.active.is_closed) [
      | inl is ↦ absurd (let e = (done.closes.closed is).0 in cc e)
      | inr not ↦ not
    ] in
    let checkpoint = c.self.inside.checkpoint in
    let now : S = record {
      journal = c.append.new.self;
      waiting = items_of c.clear.new.self.items;
      other = other_medium c.append.new.self checkpoint;
    } in
    subst
    (λ (s : S). is_given_up now ≡ false → IsTrue (g.M.Media.is_clean s.journal.active.media)
    → is_given_up s ≡ false × (stored_records seen now ≡ stored_records seen s))
    c.self.view_is
    (λ open_now clean. (
      going,
      ap (λ (w : List (Vec ℕ Global)). log_records (batches_now seen c.append.new.self) ++ all_decoded (items_of w))
          c.clear.ensures.items
          ∙ committed seen g.M.Media.is_clean journal c.append.new.self waiting c.self.invariant.1 going
          clean
          ((done.acknowledged clean).batches
          ∙ ap (λ (v : List (Vec ℕ Global)). batches_now seen journal ++ items_of v ∷ []) c.deref.ensures.value),
    ))

pub invariant_of-self : goal.invariant_of-self
invariant_of-self g c = (
  c.append.ensures.ready,
  first_appended g.M.Media.seen g.M.Media.may_leave g.M.Media.is_clean (items_of c.deref.result.now)
      c.self.inside.journal c.append.new.self c.append.result c.append.ensures.closes
      c.append.ensures.acknowledged c.append.ensures.kept c.append.ensures.clean c.self.invariant.1,
  goes_with_appended g.M.Media.seen g.M.Media.may_leave g.M.Media.is_clean (items_of c.deref.result.now)
      c.self.inside.journal c.append.new.self c.append.result c.self.inside.checkpoint c.append.ensures.closes
      c.append.ensures.acknowledged c.append.ensures.kept c.append.ensures.clean c.self.invariant.2,
)

pub invariant_of-self-2 : goal.invariant_of-self-2
invariant_of-self-2 g c = (
  c.append.ensures.ready,
  first_appended g.M.Media.seen g.M.Media.may_leave g.M.Media.is_clean (items_of c.deref.result.now)
      c.self.inside.journal c.append.new.self c.append.result c.append.ensures.closes
      c.append.ensures.acknowledged c.append.ensures.kept c.append.ensures.clean c.self.invariant.1,
  goes_with_appended g.M.Media.seen g.M.Media.may_leave g.M.Media.is_clean (items_of c.deref.result.now)
      c.self.inside.journal c.append.new.self c.append.result c.self.inside.checkpoint c.append.ensures.closes
      c.append.ensures.acknowledged c.append.ensures.kept c.append.ensures.clean c.self.invariant.2,
)

pub returns-then-not-is_closed-clause-any_moment : goal.returns-then-not-is_closed-clause-any_moment
returns-then-not-is_closed-clause-any_moment g c =
    let seen = g.M.Media.seen in
    let moment = g.M.Media.moment in
    let left_since = g.M.Media.left_since in
    let journal = c.self.inside.journal in
    let waiting = items_of c.self.inside.waiting.items in
    let ready = c.self.invariant.0 in
    subst
    (λ (s : RecordStore g.row.M.Denot). is_given_up s ≡ false → IsClean g.M.Media.is_clean s.journal
    → LeavesJournal moment left_since s.journal s.journal (IsBeforeOrAfter (batches_now seen s.journal) s.waiting))
    c.self.view_is
    (λ going clean.
    let P : List ℕ → Type 0 = IsBeforeOrAfter (batches_now seen journal) waiting in
    leaves_journal moment left_since journal journal P refl
    (λ s left. ready.named going clean.selector s (g.met.M.Media.only_now journal.selector s left))
    (started moment left_since journal.active.media P
    (λ f left. inl ((ready.log going clean.active).durable f (g.met.M.Media.only_now journal.active.media f left)))))

pub returns-clause-log : goal.returns-clause-log
returns-clause-log g c =
    let seen = g.M.Media.seen in
    let S = RecordStore g.row.M.Denot in
    let journal = c.self.inside.journal in
    let done = c.in_ok-append.ensures in
    let B = batches_now seen c.append.new.self in
    subst
    (λ (s : S). c.append.new.self.active.is_closed ≡ false → IsTrue (g.M.Media.is_clean s.journal.active.media)
    → (B ≡ batches_now seen s.journal) ⊎ (B ≡ batches_now seen s.journal ++ s.waiting ∷ []))
    c.self.view_is
    (λ open_now clean. inr ((done.acknowledged clean).batches
    ∙ ap (λ (v : List (Vec ℕ Global)). batches_now seen journal ++ items_of v ∷ []) c.deref.ensures.value))
