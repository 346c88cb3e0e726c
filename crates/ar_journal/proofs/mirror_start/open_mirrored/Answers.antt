use Rattle.std.proofs.Common.{inl, inr, ⊎_elim}
use Rattle.ar_log.proofs.Ahead.{then_ok}
use Rattle.ar_journal.proofs.Further.{compared_files}
use Rattle.ar_journal.proofs.Starting.{starts_with}
use Rattle.ar_journal.proofs.Taking.{takes_one, takes_other}
use Rattle.ar_journal.proofs.Writing.{not_both}
use Rattle.ar_journal.proofs.mirror_start.open_mirrored.Goals as goal

pub returns-in-Ok-start_copy-clause-starts : goal.returns-in-Ok-start_copy-clause-starts
returns-in-Ok-start_copy-clause-starts g c =
    then_ok _ _ _ c.start_both.result c.start_both.ensures.starts c.start_both.ensures.starts
    (λ start how _. record {
      ready = ⊎_elim (λ s. s.ready) (λ s. s.ready) how;
      goes_on = ⊎_elim (λ s. s.goes_on) (λ s. s.goes_on) how;
      has = λ sound. ⊎_elim
          (λ s. inl
          (starts_with g.M.Media.seen g.M.Media.may_leave g.M.Media.is_clean c.in-Ok.one start.journal _
          c.in-Ok.ensures.batches s sound))
          (λ s. inr
          (starts_with g.M.Media.seen g.M.Media.may_leave g.M.Media.is_clean c.in-Ok-start_copy.other start.journal
          _ c.in-Ok-start_copy.ensures.batches s sound))
          how;
    })

pub returns-in-Ok-start_copy-clause-taken : goal.returns-in-Ok-start_copy-clause-taken
returns-in-Ok-start_copy-clause-taken g c =
    then_ok _ _ _ c.start_both.result c.start_both.ensures.taken c.start_both.ensures.further
    (λ start how further. compared_files g.M.Media.seen g.M.Media.is_clean c.args.first c.args.second c.in-Ok.one
    c.in-Ok-start_copy.other start c.in-Ok.ensures.batches c.in-Ok-start_copy.ensures.batches
    (⊎_elim
    (λ t. takes_one g.M.Media.seen g.M.Media.is_clean c.args.first c.args.second c.in-Ok.one start
    c.in-Ok.ensures.batches t)
    (λ t. takes_other g.M.Media.seen g.M.Media.is_clean c.args.first c.args.second c.in-Ok-start_copy.other
    start c.in-Ok-start_copy.ensures.batches t)
    how)
    further)

pub returns-in-Err-start_copy-clause-starts : goal.returns-in-Err-start_copy-clause-starts
returns-in-Err-start_copy-clause-starts g c =
    then_ok _ _ _ c.restore_second.result c.restore_second.ensures.starts c.restore_second.ensures.starts
    (λ start s _. record {
      ready = s.ready;
      goes_on = s.goes_on;
      has = λ sound. inl
          (starts_with g.M.Media.seen g.M.Media.may_leave g.M.Media.is_clean c.in-Ok.one start.journal _
          c.in-Ok.ensures.batches s sound);
    })

pub returns-in-Err-start_copy-clause-taken : goal.returns-in-Err-start_copy-clause-taken
returns-in-Err-start_copy-clause-taken g c =
    then_ok _ _ _ c.restore_second.result c.restore_second.ensures.taken c.restore_second.ensures.unread
    (λ start t unread. record {
      taken = takes_one g.M.Media.seen g.M.Media.is_clean c.args.first c.args.second c.in-Ok.one start
          c.in-Ok.ensures.batches t;
      further = λ is. absurd (not_both start.are_compared is unread.0);
      compared = λ _. inr unread.1;
    })
