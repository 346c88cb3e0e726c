-- A command that is refused at a session's port.
use Rattle.std.specs.Prelude.{◌≡◌, ℕ, List, Option, Some}
use Rattle.ar_served.specs.Kept.{KeptState}
use Rattle.ar_served.specs.Seat.{SeatState}
use Rattle.ar_served.specs.Served.{after_refusal}

-- A reply BUSY to a command of this host was counted at one moment: there are a state of an array before it and one
-- after it, which differ by that alone. That these are states of the array behind the lock is not specified.
pub record CountedAtOneMoment (host : ℕ) (cdb : List ℕ) : Type 0 where
  pub old : KeptState
  pub new : KeptState
  pub counted : new ≡ after_refusal old host cdb

-- a refusal of a command of the seat's host: the seat stays, and the reply BUSY was counted
pub record RefusesSeat (old : Option SeatState) (cdb : List ℕ) (new : Option SeatState) : Type 0 where
  pub same : new ≡ old
  pub counted : (seat : SeatState) → old ≡ Some seat → CountedAtOneMoment seat.host.number cdb
