use Rattle.std.proofs.Common.{List, ℕ, IsTrue, sym, ◌∙◌, ap, subst}
use Rattle.ar_log.specs.Log.{batches_of}
use Rattle.ar_journal.specs.Journal.{Names}
use Rattle.ar_journal.proofs.Starting.{chosen_is}
use Rattle.ar_journal.proofs.mirror_start.start_copy.Goals as goal

pub returns-in-Ok-finish-clause-batches : goal.returns-in-Ok-finish-clause-batches
returns-in-Ok-finish-clause-batches g c clean =
    let reader = c.in-Ok.reader in
    let files = c.in-Ok.ensures.files in
    let C : g.row.M.Denot → Type 0 = λ m. IsTrue (g.M.Media.is_clean m) in
    let N : List ℕ → Type 0 = λ s. Names reader.is_second s in
    let named = c.in-Ok.ensures.reading.named (subst C c.in-Ok-finish.ensures.files.selector clean.selector)
    (g.M.Media.seen reader.selector) (g.met.M.Media.seen_may_stay reader.selector) in
    c.in-Ok-finish.ensures.batches clean.active
    ∙ ap (λ (f : List ℕ). batches_of f) (
    files.active.same
    ∙ sym (chosen_is g.M.Media.seen reader.is_second (g.M.Media.seen c.args.files.selector) c.args.files.first
    c.args.files.second (subst N files.selector.same named))
    )
