use Rattle.ar_extents.proofs.Asking.{unread}
use Rattle.ar_balance.proofs.Copying.{row_made, row_unread, row_unwritten}
use Rattle.ar_balance.proofs.copy.copy_row.Goals as goal

pub returns-in-Written-clause-made : goal.returns-in-Written-clause-made
returns-in-Written-clause-made g c =
    λ done. row_made c.args.from c.args.to c.args.row _ _ _ c.in-Read.ensures.made c.in-Written.ensures.made

pub returns-in-Missing-put-clause-failed : goal.returns-in-Missing-put-clause-failed
returns-in-Missing-put-clause-failed g c = λ cut.
    row_unwritten c.args.from c.args.to c.args.row _ _ _ _ c.in-Missing-put.is c.in-Read.ensures.made c.put.ensures.made

pub returns-in-Missing-clause-failed : goal.returns-in-Missing-clause-failed
returns-in-Missing-clause-failed g c =
    λ cut. row_unread c.args.from c.args.to c.args.row _ _ (unread _ _ _ _ c.in-Missing.is c.get.ensures.made)
