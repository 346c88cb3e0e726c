use Rattle.ar_record.proofs.Replaying.{unit_of-append}
use Rattle.ar_record.proofs.replays_go_on.Goals as goal

pub returns : goal.returns
returns c = λ a records more. unit_of-append a records more
