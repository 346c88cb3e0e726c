use Rattle.ar_extents.specs.Plans.{stops, falls_back}
use Rattle.ar_extents.proofs.Asking.{unread}
use Rattle.ar_mirror.proofs.Plans.{copied_row}
use Rattle.ar_mirror.proofs.rebuild.copy_row.Goals as goal

pub returns-in-Written-clause-plan : goal.returns-in-Written-clause-plan
returns-in-Written-clause-plan g c =
    copied_row c.args.from c.args.row _ _ _ _ c.in-Read.ensures.made c.put_new.ensures.made

pub returns-in-GivenUp-clause-plan : goal.returns-in-GivenUp-clause-plan
returns-in-GivenUp-clause-plan g c =
    copied_row c.args.from c.args.row _ _ _ _ c.in-Read.ensures.made c.put_new.ensures.made

pub returns-in-Missing-clause-plan : goal.returns-in-Missing-clause-plan
returns-in-Missing-clause-plan g c =
    falls_back _ _ _ _ _ _ (unread _ _ _ _ c.in-Missing.is c.get.ensures.made) (stops _)
