use Rattle.std.proofs.Common.{◌≡◌, false, ⊎_elim, [], sym, ◌∙◌, ap}
use Rattle.std.proofs.lemmas.List.{append-nil}
use Rattle.ar_log.specs.Failure.{is_final}
use Rattle.ar_journal.proofs.Mirroring.{not_final_before, then_errs, leaves_stays, copy_stays}
use Rattle.ar_journal.proofs.mirrored.MirroredJournal.append_both.Goals as goal

pub returns-else-is_of_caller-clause-first_moment : goal.returns-else-is_of_caller-clause-first_moment
returns-else-is_of_caller-clause-first_moment g c is_open clean =
    leaves_stays g.M.Media.seen g.M.Media.moment g.M.Media.left_since g.M.Media.is_clean c.args.self.now.first
    c.append.new.self c.append_second.new.self.first _ c.append_second.ensures.first
    (c.append.ensures.any_moment is_open clean)

pub returns-else-is_of_caller-clause-kept : goal.returns-else-is_of_caller-clause-kept
returns-else-is_of_caller-clause-kept g c =
    then_errs _ _ _ c.append_second.result c.append_second.ensures.kept c.append_second.ensures.error
    (λ e kept which not_final.
    let error = c.in-Err.error in
    let first_not : is_final error ≡ false = ⊎_elim
    (λ same. sym (ap is_final same) ∙ not_final)
    (λ same. not_final_before error (sym (ap is_final same) ∙ not_final))
    which in (
      copy_stays g.M.Media.seen g.M.Media.moment g.M.Media.left_since g.M.Media.is_clean c.args.self.now.first
          c.append.new.self c.append_second.new.self.first [] c.append_second.ensures.first
          (λ was now clean. (c.in-Err.ensures.kept first_not was clean.active).batches ∙ sym (append-nil _)),
      kept not_final,
    ))
