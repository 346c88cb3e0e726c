use Rattle.std.proofs.Common.{inl, inr, if◌then◌else◌, Bool, sym, ◌∙◌, ap, subst}
use Rattle.std.proofs.lemmas.Bool.{cases_Bool}
use Rattle.ar_copies.specs.Copied.{copied_is_clean, copied_seen}
use Rattle.ar_log.proofs.Ahead.{then_ok}
use Rattle.ar_journal.specs.Copying.{files_batches, HasOneOf, IsAsFar, ShowsFiles, is_copy_taken, is_unread}
use Rattle.ar_journal.specs.Journal.{batches_now}
use Rattle.ar_journal.specs.declared.journal.Journal.{Journal}
use Rattle.ar_journal.proofs.Further.{are_compared, far_now}
use Rattle.ar_journal.proofs.Showing.{all_clean, has_one_of, show_batches}
use Rattle.ar_journal.proofs.Taking.{first_is, second_is, first_is_left}
use Rattle.ar_journal.proofs.Writing.{not_both}
use Rattle.ar_journal.proofs.copied.open_copies.Goals as goal

pub returns-in-GivenUp-default-clause-batches : goal.returns-in-GivenUp-default-clause-batches
returns-in-GivenUp-default-clause-batches g c =
    let start = c.in_ok-start.start in
    let seen = g.M.Media.seen in
    let is_clean = g.M.Media.is_clean in
    let has = second_is (HasOneOf seen is_clean c.args.first c.args.second) start
    (ap is_copy_taken c.in-GivenUp-default.is-0) c.in_ok-start.ensures.taken.taken in
    then_ok _ _ _ c.alone.result c.alone.ensures.shows c.alone.ensures.shows
    (λ made shows _ is. has_one_of seen is_clean (copied_seen seen) (copied_is_clean seen is_clean)
    g.M.Media.may_leave c.args.first c.args.second start.journal.second c.in_ok-other.other made.files
    g.met.M.Media.seen_may_stay c.in_ok-start.ensures.starts.ready.second has c.in_ok-other.ensures shows is)

pub returns-in_default-GivenUp : goal.returns-in_default-GivenUp
returns-in_default-GivenUp g c =
    let start = c.in_ok-start.start in
    let seen = g.M.Media.seen in
    let is_clean = g.M.Media.is_clean in
    let has = first_is_left (HasOneOf seen is_clean c.args.first c.args.second) start
    (ap is_copy_taken c.in_default-GivenUp.is-1) c.in_ok-start.ensures.taken.taken in
    record {
      durable = c.alone-in_default-GivenUp.ensures.durable;
      batches = then_ok _ _ _ c.alone-in_default-GivenUp.result c.alone-in_default-GivenUp.ensures.shows
          c.alone-in_default-GivenUp.ensures.shows
          (λ made shows _ is. has_one_of seen is_clean (copied_seen seen) (copied_is_clean seen is_clean)
          g.M.Media.may_leave c.args.first c.args.second start.journal.first c.in_ok-one.one made.files
          g.met.M.Media.seen_may_stay c.in_ok-start.ensures.starts.ready.first has c.in_ok-one.ensures shows
          is);
      further = then_ok _ _ _ c.alone-in_default-GivenUp.result c.alone-in_default-GivenUp.ensures.states
          c.alone-in_default-GivenUp.ensures.states
          (λ made states _ _ read _. absurd (not_both (is_unread made.second)
          (ap is_unread states.1 ∙ ap is_unread c.in_default-GivenUp.is-1) read));
    }

pub returns-in-GivenUp-default-clause-further : goal.returns-in-GivenUp-default-clause-further
returns-in-GivenUp-default-clause-further g c =
    then_ok _ _ _ c.alone.result c.alone.ensures.states c.alone.ensures.states
    (λ made states _ read _ _. absurd (not_both (is_unread made.first)
    (ap is_unread states.0 ∙ ap is_unread c.in-GivenUp-default.is-0) read))

pub returns-in_default : goal.returns-in_default
returns-in_default g c =
    let start = c.in_ok-start.start in
    let seen = g.M.Media.seen in
    let is_clean = g.M.Media.is_clean in
    let seen_now = copied_seen seen in
    let clean_now = copied_is_clean seen is_clean in
    record {
      durable = c.both.ensures.durable;
      batches = then_ok _ _ _ c.both.result c.both.ensures.shows c.both.ensures.shows
          (λ made shows _ is.
          let S : Bool → Type 0 =
          λ b. ShowsFiles seen is_clean seen_now clean_now (if b then c.in_ok-one.one else c.in_ok-other.other)
          made.files in
          elim (cases_Bool (is_copy_taken start.first)) [
            | inl first ↦ has_one_of seen is_clean seen_now clean_now g.M.Media.may_leave c.args.first
                c.args.second start.journal.first c.in_ok-one.one made.files g.met.M.Media.seen_may_stay
                c.in_ok-start.ensures.starts.ready.first
                (first_is (HasOneOf seen is_clean c.args.first c.args.second) start first
                c.in_ok-start.ensures.taken.taken) c.in_ok-one.ensures
                (subst S first shows) is
            | inr not ↦ has_one_of seen is_clean seen_now clean_now g.M.Media.may_leave c.args.first
                c.args.second start.journal.second c.in_ok-other.other made.files
                g.met.M.Media.seen_may_stay c.in_ok-start.ensures.starts.ready.second
                (second_is (HasOneOf seen is_clean c.args.first c.args.second) start not
                c.in_ok-start.ensures.taken.taken) c.in_ok-other.ensures
                (subst S not shows) is
          ]);
      further = then_ok _ _ _ c.both.result c.both.ensures.kept c.both.ensures.shows
          (λ made kept shows first second is.
          let goes_on = kept first second in
          let both = are_compared seen is_clean c.args.first c.args.second start c.in_ok-start.ensures.taken
          (sym (ap is_unread goes_on.first_state) ∙ first) (sym (ap is_unread goes_on.second_state) ∙ second) in
          let far = c.in_ok-start.ensures.taken.further both (record {
            first = all_clean seen is_clean seen_now clean_now start.journal.first c.in_ok-one.one c.in_ok-one.ensures
                (goes_on.first is);
            second = all_clean seen is_clean seen_now clean_now start.journal.second c.in_ok-other.other
                c.in_ok-other.ensures (goes_on.second is);
          }) in
          let F : Journal g.row.M.Denot → Type 0 =
          λ j. IsAsFar (batches_now seen j) (files_batches seen c.args.first) (files_batches seen c.args.second) in
          let taken = c.in_ok-start.ensures.taken.taken in
          let S : Bool → Type 0 =
          λ b. ShowsFiles seen is_clean seen_now clean_now (if b then c.in_ok-one.one else c.in_ok-other.other)
          made.files in
          elim (cases_Bool (is_copy_taken start.first)) [
            | inl is_first ↦ far_now _ _ _ _
                (show_batches seen is_clean seen_now clean_now g.M.Media.may_leave start.journal.first
                c.in_ok-one.one made.files g.met.M.Media.seen_may_stay c.in_ok-start.ensures.starts.ready.first
                (first_is (HasOneOf seen is_clean c.args.first c.args.second) start is_first taken).goes_on
                c.in_ok-one.ensures (subst S is_first shows) is)
                (first_is F start is_first far)
            | inr not ↦ far_now _ _ _ _
                (show_batches seen is_clean seen_now clean_now g.M.Media.may_leave start.journal.second
                c.in_ok-other.other made.files g.met.M.Media.seen_may_stay c.in_ok-start.ensures.starts.ready.second
                (second_is (HasOneOf seen is_clean c.args.first c.args.second) start not taken).goes_on
                c.in_ok-other.ensures (subst S not shows) is)
                (second_is F start not far)
          ]);
    }
