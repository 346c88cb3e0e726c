use Rattle.ar_sessions.proofs.Asking.{asks}
use Rattle.ar_sessions.proofs.port.ask_once.Goals as goal

pub returns-clause-asks : goal.returns-clause-asks
returns-clause-asks g c = asks _ _ _ _ _ _ _ _ _ _ c.ask_with.ensures.answers
