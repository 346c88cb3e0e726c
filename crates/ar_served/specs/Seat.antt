-- The state of a seat.
use Rattle.std.specs.Prelude.{ℕ, List}
use Rattle.ar_disks.specs.declared.address.Host.{Host}
use Rattle.ar_served.specs.declared.entry.Exchange.{Exchange}

-- A host, its commands with their replies in order, the capacity of their list, and the seat's share of the ledger: how
-- many of the host's commands are in the history. A live array stores no transcript, and counts all the same.
pub record SeatState : Type 0 where
  pub host : Host
  pub transcript : List Exchange
  pub room : ℕ
  pub commands : ℕ
