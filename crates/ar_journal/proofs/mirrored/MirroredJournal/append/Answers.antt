use Rattle.std.proofs.Common.{◌∙◌}
use Rattle.ar_log.proofs.Ahead.{then_err}
use Rattle.ar_journal.proofs.Mirroring.{was_open}
use Rattle.ar_journal.proofs.mirrored.MirroredJournal.append.Goals as goal

pub returns-then-self-clause-kept : goal.returns-then-self-clause-kept
returns-then-self-clause-kept g c =
    then_err _ _ c.append.result c.append.ensures.kept
    (λ e kept not_final batches sound has. record {
      first = λ now.
          let was =
          was_open g.M.Media.seen g.M.Media.moment g.M.Media.left_since g.M.Media.is_clean c.args.self.now.first
          c.append.new.self (λ is. (c.append.ensures.closes.closed is).1) now in
          (kept not_final was (sound.first was).active).batches ∙ has.first was;
      second = has.second;
    })
