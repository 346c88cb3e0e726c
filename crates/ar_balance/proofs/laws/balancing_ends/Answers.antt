use Rattle.ar_balance.proofs.Falling.{balances_fall}
use Rattle.ar_balance.proofs.laws.balancing_ends.Goals as goal

pub returns : goal.returns
returns c = balances_fall
