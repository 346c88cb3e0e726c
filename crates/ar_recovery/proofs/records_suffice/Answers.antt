use Rattle.ar_recovery.proofs.Logging.{log_suffices}
use Rattle.ar_recovery.proofs.records_suffice.Goals as goal

pub returns : goal.returns
returns c = log_suffices
