use Rattle.ar_balance.proofs.Costs.{shift_made, free_shift_made}
use Rattle.ar_balance.proofs.laws.shift_accesses.Goals as goal

pub returns : goal.returns
returns c = record { used = shift_made; free = free_shift_made }
