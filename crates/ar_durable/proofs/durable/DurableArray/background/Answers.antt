use Rattle.std.proofs.Common.{false, None, [], refl, sym, ◌∙◌, append-nil}
use Rattle.ar_durable.proofs.Crashing.{noted_call}
use Rattle.ar_durable.proofs.durable.DurableArray.background.Goals as goal

pub returns-clause-keeps : goal.returns-clause-keeps
returns-clause-keeps g c =
    noted_call g.M.Media.seen g.M.Media.may_leave g.M.Media.moment g.M.Media.left_since g.M.Media.is_clean
    g.met.M.Media.only_now _ _ _ false None [] c.self.view_is refl
    (c.background.ensures.history ∙ sym (append-nil _))
