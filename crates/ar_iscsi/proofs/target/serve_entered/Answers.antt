use Rattle.std.proofs.Common.{refl}
use Rattle.ar_iscsi.specs.Target.{at_port, at_no_units, no_refusals, no_resets, no_units}
use Rattle.ar_iscsi.proofs.Beginning.{feature_from}
use Rattle.ar_iscsi.proofs.target.serve_entered.Goals as goal

pub returns-in-Normal : goal.returns-in-Normal
returns-in-Normal g c =
    at_port c.serve.new.self c.in-Normal.is
    (feature_from g.P.Port.commands g.P.Port.refuses g.P.ResetPort.resets _ _ _ _ _ _ _ _ _ _
    c.normal_limits.ensures c.new-session.ensures c.serve.ensures)

pub returns : goal.returns
returns g c =
    at_no_units c.serve-in_default.new.self _ _ c.in_default.not-Normal
    (feature_from no_units no_refusals no_resets _ _ _ _ _ _ _ _ _ _ refl c.new-session.ensures
    c.serve-in_default.ensures) refl
