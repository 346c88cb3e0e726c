use Rattle.std.proofs.Common.{[], Some, subst}
use Rattle.ar_media.specs.declared.record.Call.TheVariants.{Failed as Missed}
use Rattle.ar_copies.specs.Copied.{Noted}
use Rattle.ar_copies.proofs.Adding.{joins_copy}
use Rattle.ar_copies.proofs.copied.CopiedFile.put.Goals as goal

pub returns : goal.returns
returns g c =
    joins_copy g.M.Media.seen g.M.Media.may_leave g.M.Media.is_clean c.args.self.now c.note.new.self c.args.copy
    c.with-past.result.items c.with-past.ensures
    (subst (λ k. Noted c.with-past.result.items (Some Missed) [] (record c.args.self.now { copies = k })
    c.note.new.self) c.join.ensures c.note.ensures)
