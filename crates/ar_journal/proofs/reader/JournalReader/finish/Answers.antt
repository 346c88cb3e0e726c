use Rattle.std.proofs.Common.{IsTrue, ◌∙◌, ap, subst}
use Rattle.ar_log.specs.Log.{batches_of}
use Rattle.ar_log.proofs.Standing.{batches_of_stands}
use Rattle.ar_journal.proofs.reader.JournalReader.finish.Goals as goal

pub returns-in-Ok-clause-batches : goal.returns-in-Ok-clause-batches
returns-in-Ok-clause-batches g c clean =
    let reader = c.cut_rest.new.self in
    let C : g.row.M.Denot → Type 0 = λ m. IsTrue (g.M.Media.is_clean m) in
    let cut = c.in-Ok.ensures.cut (subst C c.resume.ensures.media clean) in
    ap (λ (m : g.row.M.Denot). batches_of (g.M.Media.seen m)) c.resume.ensures.media
    ∙ batches_of_stands (batches_of (g.M.Media.seen c.args.self.active)) (g.M.Media.seen reader.active)
    (cut.durable (g.M.Media.seen reader.active) (g.met.M.Media.seen_may_stay reader.active))
