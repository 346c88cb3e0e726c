use Rattle.ar_unit.proofs.Serving.{served_write}
use Rattle.ar_unit.proofs.plain.obey.Goals as goal

pub returns-in-Write-clause-served : goal.returns-in-Write-clause-served
returns-in-Write-clause-served c attention =
    served_write _ _ attention _ _ _ _ c.args.command _ c.in-Write.is (c.write.ensures.served attention)
