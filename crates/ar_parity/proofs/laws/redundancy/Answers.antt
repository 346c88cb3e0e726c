use Rattle.ar_parity.proofs.Frames.{holds_without}
use Rattle.ar_parity.proofs.Standing.{holds_one}
use Rattle.ar_parity.proofs.laws.redundancy.Goals as goal

pub returns : goal.returns
returns c = record { kept = holds_without; one = holds_one }
