use Rattle.std.proofs.Common.{ℕ, List, [], ◌∷◌, sym, subst}
use Rattle.ar_log.specs.Log.{HoldsBatches}
use Rattle.ar_journal.proofs.Naming.{none_or_both}
use Rattle.ar_journal.proofs.new_journal.write_files.Goals as goal

pub returns-in_err-write_selector-clause-any_moment : goal.returns-in_err-write_selector-clause-any_moment
returns-in_err-write_selector-clause-any_moment g c empty s first second left one other =
    let P : List ℕ → Type 0 = HoldsBatches ((c.args.head.now ∷ []) ∷ []) in
    none_or_both s first second P
    (subst P (sym (c.in_ok-end.ensures.durable first one)) c.in_ok-end.ensures.stands)
    (subst P (sym (c.in_ok-_second.ensures.durable second other)) c.in_ok-_second.ensures.stands)

pub returns-clause-any_moment : goal.returns-clause-any_moment
returns-clause-any_moment g c empty s first second left one other =
    let P : List ℕ → Type 0 = HoldsBatches ((c.args.head.now ∷ []) ∷ []) in
    none_or_both s first second P
    (subst P (sym (c.in_ok-end.ensures.durable first one)) c.in_ok-end.ensures.stands)
    (subst P (sym (c.in_ok-_second.ensures.durable second other)) c.in_ok-_second.ensures.stands)
