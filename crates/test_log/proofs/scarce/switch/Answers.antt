use Rattle.std.proofs.Common.{inl, inr, sym, subst}
use Rattle.std.proofs.lemmas.Bool.{cases_Bool}
use Rattle.ar_journal.specs.Journal.{IsReady}
use Rattle.ar_journal.specs.declared.journal.Journal.{Journal}
use Rattle.test_log.proofs.scarce.switch.Goals as goal

pub switch-requires-clause-ready : goal.switch-requires-clause-ready
switch-requires-clause-ready g c =
    let R : Journal g.row.M.Denot → Type 0 =
    λ j. IsReady g.M.Media.seen g.M.Media.may_leave g.M.Media.is_clean j in
    elim (cases_Bool c.args.journal.now.active.is_closed) [
      | inl is ↦ subst R (sym (c.take_spare.ensures.closed is).1) c.requires
      | inr not ↦ subst R (sym (c.take_spare.ensures.taken not).1)
          (record { log = c.requires.log; named = c.requires.named })
    ]
