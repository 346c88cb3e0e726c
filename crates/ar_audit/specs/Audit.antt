-- The audit: transcripts compared with a history.
use Rattle.std.specs.Prelude.{◌≡◌, ◌≢◌, ℕ, ◌<◌, ◌≤◌, Bool, true, false, ◌==◌, if◌then◌else◌, Option, Some, None, List}
use Rattle.std.specs.Prelude.{◌∷◌, ◌++◌, take, slice_get, length}
use Rattle.ar_disks.specs.declared.address.Host.{Host}
use Rattle.ar_unit.specs.Unit.{answer}
use Rattle.ar_served.specs.declared.entry.Exchange.{Exchange}
use Rattle.ar_served.specs.declared.entry.Entry.{Entry}
use Rattle.ar_served.specs.declared.entry.Entry.TheVariants.{Make, Grow, Remove, Cmd, Unmap}
use Rattle.ar_served.specs.History.{part, replay}
use Rattle.ar_served.specs.Seat.{SeatState}

-- the first position where two lists differ; it can be the end of one of them
pub record DiffersAt (position : ℕ) (one other : List Exchange) : Type 0 where
  pub before : take position one ≡ take position other
  pub there : slice_get one position ≢ slice_get other position

-- a seat's transcript is its host's part of the history
abbrev pub IsHostsPart : List Entry → SeatState → Type 0
IsHostsPart history seat = seat.transcript ≡ part seat.host.number history

-- of the seats of hosts 0, 1 and so on, the one of this number is the first whose transcript isn't its host's part, and
-- it differs first at this position
pub record IsFirstMismatch (history : List Entry) (seats : List SeatState) (number position : ℕ) : Type 0 where
  pub there : number < length seats
  pub before : (k : ℕ) (seat : SeatState) → slice_get seats k ≡ Some seat → k < number → IsHostsPart history seat
  pub differs : (seat : SeatState) → slice_get seats number ≡ Some seat
      → DiffersAt position seat.transcript (part number history)

-- the command of an entry, if it is one of this host
abbrev pub command_of : ℕ → Entry → Option Exchange
command_of number (Make addr sectors) = None
command_of number (Grow addr sectors) = None
command_of number (Remove addr) = None
command_of number (Cmd host exchange) = if host.number == number then Some exchange else None
command_of number (Unmap addr lba count) = None

-- a transcript agrees with an entry at this position and continues at the next one, whatever follows the entry
pub record Agrees (number : ℕ) (entry : Entry) (transcript : List Exchange) (at next : ℕ) : Type 0 where
  pub within : next ≤ length transcript
  pub goes_on :
      (rest : List Entry)
      → take at transcript ++ part number (entry ∷ rest) ≡ take next transcript ++ part number rest

-- it differs from the entry there, whatever follows the entry
pub record Departs (number : ℕ) (entry : Entry) (transcript : List Exchange) (at : ℕ) : Type 0 where
  pub differs : (rest : List Entry) → DiffersAt at transcript (take at transcript ++ part number (entry ∷ rest))

-- a test of whether two commands are the same
pub record IsSame (test : Bool) (one other : Exchange) : Type 0 where
  pub same : test ≡ true → one ≡ other
  pub others : test ≡ false → one ≢ other

-- A command of a host's part is in the history at `place`, after `position` others of the part, and its reply is that
-- of its unit, as the unit's own create, resize, delete, I/O commands and discards before it have made it.
pub record IsExecutedAt (history : List Entry) (number position : ℕ) (exchange : Exchange) (place : ℕ) (host : Host)
    : Type 0 where
  pub entry : slice_get history place ≡ Some (Cmd host exchange)
  pub host_is : host.number ≡ number
  pub before : part number (take place history) ≡ take position (part number history)
  pub reply : exchange.reply
      ≡ (answer (replay (take place history) (number, exchange.lun)) exchange.cdb exchange.payload).reply

-- each command of a transcript is in the history so
abbrev pub IsTranscriptIsolated : List Entry → SeatState → Type 0
IsTranscriptIsolated history seat =
    (position : ℕ) (exchange : Exchange) → slice_get seat.transcript position ≡ Some exchange
    → (place : ℕ) × (host : Host) × IsExecutedAt history seat.host.number position exchange place host
