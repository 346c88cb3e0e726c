use Rattle.std.proofs.Common.{ℕ, List, refl}
use Rattle.ar_log.specs.Codec.{items_of}
use Rattle.ar_log.specs.Log.{IsBeforeOrAfter, batches_of}
use Rattle.ar_journal.proofs.Writing.{leaves_journal}
use Rattle.ar_journal.proofs.journal.Journal.append.Goals as goal

pub returns-clause-any_moment : goal.returns-clause-any_moment
returns-clause-any_moment g c is_open clean =
    let journal = c.args.self.now in
    let P : List ℕ → Type 0 =
    IsBeforeOrAfter (batches_of (g.M.Media.seen journal.active.media)) (items_of c.args.records.now) in
    leaves_journal g.M.Media.moment g.M.Media.left_since journal _ P refl
    (λ s left. c.requires.named is_open clean.selector s (g.met.M.Media.only_now journal.selector s left))
    (c.append.ensures.any_moment is_open clean.active)
