use Rattle.ar_record.proofs.Replaying.{no_other_changes}
use Rattle.ar_record.proofs.other_commands_change_nothing.Goals as goal

pub returns : goal.returns
returns c = no_other_changes
