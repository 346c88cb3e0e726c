-- The seats on a desk.
use Rattle.std.specs.Prelude.{◌≡◌, ℕ, Bool, true, false, if◌then◌else◌, List, length, get_or}
use Rattle.std.specs.Prelude.{Option, Some, None}
use Rattle.std.specs.Prelude.{is_some, option_map, set}
use Rattle.ar_disks.specs.declared.address.Host.{Host}
use Rattle.ar_scsi.specs.declared.reply.Reply.{Reply}
use Rattle.ar_unit.specs.Broken.{is_good}
use Rattle.ar_served.specs.Seat.{SeatState}
use Rattle.ar_latency.specs.Latency.{saturated}
use Rattle.ar_sessions.specs.declared.desk.SessionCounts.{SessionCounts}

-- a place for each host, in order: its seat, or none while that is missing
abbrev pub Places : Type 0
Places = List (Option SeatState)

-- what is in a host's place, by the host's number
abbrev pub seat_at : Places → ℕ → Option SeatState
seat_at places number = get_or places number None

-- there are four places, each with its own host's seat or none
pub record AreOwn (places : Places) : Type 0 where
  pub four : length places ≡ 4
  pub own : (number : ℕ) (seat : SeatState) → seat_at places number ≡ Some seat → seat.host.number ≡ number

-- at some moment this was in a host's place on a desk, where each place has its own host's seat or none: its seat, or
-- none
pub record IsFound (number : ℕ) (found : Option SeatState) : Type 0 where
  pub places : Places
  pub own : AreOwn places
  pub is : found ≡ seat_at places number

-- there is a seat of this host, as it was found in its place
pub record HasSeat (finds : ℕ → Option SeatState → Type 0) (host : ℕ) (held : Option SeatState) : Type 0 where
  pub seat : SeatState
  pub is : held ≡ Some seat
  pub own : seat.host.number ≡ host
  pub found : finds host held

-- no seat was found in the host's place, and what is held is unchanged
pub record FindsNoSeat (finds : ℕ → Option SeatState → Type 0) (host : ℕ) (old new : Option SeatState) : Type 0 where
  pub same : new ≡ old
  pub found : finds host None

-- a host's seat was lent from its place, if it was there, as the result says
abbrev pub Lends : (ℕ → Option SeatState → Type 0) → ℕ → Option SeatState → Bool → Option SeatState → Type 0
Lends finds host old true new = HasSeat finds host new
Lends finds host old false new = FindsNoSeat finds host old new

-- A host's seat was handed out exactly if it was in its place, which is empty afterwards; no other place has changed.
pub record HandsOut (host : ℕ) (old : Places) (before : Option SeatState) (lent : Bool) (new : Places)
    (after : Option SeatState) : Type 0 where
  pub lent_is : lent ≡ is_some (seat_at old host)
  pub after_is : after ≡ (if lent then seat_at old host else before)
  pub left : new ≡ set old host None

-- a receipt: whose seat was returned, and the number of commands in its transcript then
pub record ReceiptState : Type 0 where
  pub host : Host
  pub commands : ℕ

-- the receipt for a seat
abbrev pub receipt_of : SeatState → ReceiptState
receipt_of seat = record { host = seat.host; commands = length seat.transcript }

-- the receipt for a port's seat, or none for a port without one
abbrev pub receipt_for : Option SeatState → Option ReceiptState
receipt_for port = option_map receipt_of port

-- a session's counts after a command with `sent` bytes of data: they count as written only with GOOD
abbrev pub session_after : SessionCounts → ℕ → Reply → SessionCounts
session_after counts sent reply = record {
  frames = saturated counts.frames 1;
  read = saturated counts.read (length reply.payload);
  written = saturated counts.written (if is_good reply.status then sent else 0);
}
