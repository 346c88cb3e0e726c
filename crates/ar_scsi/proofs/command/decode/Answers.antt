use Rattle.ar_scsi.proofs.Blocks.{result_says, result_faults}
use Rattle.ar_scsi.proofs.command.decode.Goals as goal

pub returns-clause-command : goal.returns-clause-command
returns-clause-command c = result_says _ _ c.read_block.ensures

pub returns-clause-refused : goal.returns-clause-refused
returns-clause-refused c = result_faults _ _ c.read_block.ensures
