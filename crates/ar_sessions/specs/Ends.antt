-- How connections end.
use Rattle.std.specs.Prelude.{◌≡◌, ◌⊎◌, Bool, None, Some, Option}
use Rattle.ar_served.specs.Seat.{SeatState}
use Rattle.ar_frames.specs.declared.end.SessionEnd.{SessionEnd}
use Rattle.ar_frames.specs.declared.end.EndReason.TheVariants.{Read}
use Rattle.ar_frames.specs.Stream.{SourceState, SinkState}
use Rattle.ar_frames.specs.Session.{Session}
use Rattle.ar_sessions.specs.declared.sessions.AsServed.{AsServed}
use Rattle.ar_sessions.specs.declared.sessions.ConnectionEnd.{ConnectionEnd}
use Rattle.ar_sessions.specs.declared.sessions.ConnectionEnd.TheVariants.{Served, NoThread}
use Rattle.ar_sessions.specs.declared.sessions.Pending.{Pending}
use Rattle.ar_sessions.specs.declared.sessions.Pending.TheVariants as pending
use Rattle.ar_sessions.specs.declared.pool.Next.{Next}
use Rattle.ar_sessions.specs.declared.pool.Next.TheVariants as next
use Rattle.ar_sessions.specs.Desk.{IsFound, ReceiptState, receipt_for}
use Rattle.ar_sessions.specs.Port.{TakesSeat, AsksArray, AsksSeat}

-- A session over streams in these states ended with `end`. It began at a port without a seat, and its logins and
-- commands were those of a port to the shared array, which stores transcripts or doesn't,
-- and has a store for what it has done or hasn't.
pub record IsSessionEnd (stores persists : Bool) (source : SourceState) (sink : SinkState)
    (end : SessionEnd) : Type 0 where
  pub source' : SourceState
  pub sink' : SinkState
  pub port : Option SeatState
  pub session :
      Session (TakesSeat IsFound) (AsksSeat (AsksArray stores persists)) source source' sink sink' None port end

-- The same, and this is the receipt for the seat that the port had in the end, or none if it had none.
pub record GivesBack (stores persists : Bool) (source : SourceState) (sink : SinkState) (end : SessionEnd)
    (receipt : Option ReceiptState) : Type 0 where
  pub served : IsSessionEnd stores persists source sink end
  pub receipt_is : receipt ≡ receipt_for served.port

-- The same, and these are the states in which the session left the streams: nothing has used them since.
pub record LeavesOff (stores persists : Bool) (source source' : SourceState) (sink sink' : SinkState)
    (end : SessionEnd) (receipt : Option ReceiptState) : Type 0 where
  pub port : Option SeatState
  pub session :
      Session (TakesSeat IsFound) (AsksSeat (AsksArray stores persists)) source source' sink sink' None port end
  pub receipt_is : receipt ≡ receipt_for port

-- A session over a connection's two streams, as they were when it was opened, ended with `end`.
abbrev pub IsServedOver : {S W : Type 0} → Bool → Bool → (S → SourceState) → (W → SinkState) → S × W → SessionEnd
    → Type 0
IsServedOver stores persists source sink pair end = IsSessionEnd stores persists (source pair.0) (sink pair.1) end

-- a session over the two streams in its thread's promise ended with `end`
abbrev pub IsPromised : {A L S W : Type 0} → Bool → Bool → (S → SourceState) → (W → SinkState) → AsServed A L S W
    → SessionEnd → Type 0
IsPromised stores persists source sink promise end =
    IsSessionEnd stores persists (source promise.reader.value) (sink promise.writer.value) end

-- the end of a connection that could not be opened
abbrev pub unopened : SessionEnd
unopened = record { frames = 0; reason = Read }

-- a door opened its next connection, as its own `opens` specifies
pub record HasAccepted {D P : Type 0} (opens : D → Option P → D → Type 0) (old new : D) : Type 0 where
  pub pair : P
  pub opened : opens old (Some pair) new

-- a door opened its next connection, and this is the end of a session over it
pub record HasEnded {D P : Type 0} (opens : D → Option P → D → Type 0) (served : P → SessionEnd → Type 0)
    (old : D) (end : SessionEnd) (new : D) : Type 0 where
  pub pair : P
  pub opened : opens old (Some pair) new
  pub ended : served pair end

-- a door opened its next connection, and any end that its thread may return is one of a session over it
pub record HasThread {D P H : Type 0} (opens : D → Option P → D → Type 0) (keeps : H → SessionEnd → Type 0)
    (served : P → SessionEnd → Type 0) (old : D) (handle : H) (new : D) : Type 0 where
  pub pair : P
  pub opened : opens old (Some pair) new
  pub kept : (end : SessionEnd) → keeps handle end → served pair end

-- a connection's thread was started, and this holds of its handle, or no thread could be started
abbrev pub IsBegun : {H : Type 0} → (H → Type 0) → Pending H → Type 0
IsBegun is (pending.Served handle) = is handle
IsBegun is pending.Unopened = ⊥
IsBegun is pending.NoThread = Unit {0}

-- the state of a door's next connection: opened, with a thread or without one, or not opened
abbrev pub Becomes : {D P H : Type 0} → (D → Option P → D → Type 0) → (H → SessionEnd → Type 0)
    → (P → SessionEnd → Type 0) → D
    → Pending H → D → Type 0
Becomes opens keeps served old (pending.Served handle) new = HasThread opens keeps served old handle new
Becomes opens keeps served old pending.Unopened new = opens old None new
Becomes opens keeps served old pending.NoThread new = HasAccepted opens old new

-- How a door's next connection ended: with a session over it if it was opened, and with `unopened` if it couldn't be;
-- or it was opened and got no thread.
abbrev pub ConnectionEnds : {D P : Type 0} → (D → Option P → D → Type 0) → (P → SessionEnd → Type 0) → D → ConnectionEnd
    → D → Type 0
ConnectionEnds opens served old (Served end) new =
    HasEnded opens served old end new ⊎ (opens old None new × (end ≡ unopened))
ConnectionEnds opens served old NoThread new = HasAccepted opens old new

-- a connection ended with its session
abbrev pub IsOfSession : (SessionEnd → Type 0) → ConnectionEnd → Type 0
IsOfSession served (Served end) = served end
IsOfSession served NoThread = ⊥

-- how a connection ended, by its state: with a thread, not opened, or without a thread
abbrev pub EndOf : {H : Type 0} → (H → SessionEnd → Type 0) → Pending H → ConnectionEnd → Type 0
EndOf keeps (pending.Served handle) end = IsOfSession (keeps handle) end
EndOf keeps pending.Unopened end = end ≡ Served unopened
EndOf keeps pending.NoThread end = end ≡ NoThread

-- what waiting at a door did: its next connection was opened, or couldn't be, or the door was not used
abbrev pub TakesNext : {D S W : Type 0} → (D → Option (S × W) → D → Type 0) → D → Next S W → D → Type 0
TakesNext opens old (next.Opened number reader writer) new = opens old (Some (reader, writer)) new
TakesNext opens old next.Unopened new = opens old None new
TakesNext opens old next.Closed new = new ≡ old

-- what came of waiting at a door was handled: a connection once, to an end that `ends` allows it, and nothing else
abbrev pub HandlesNext : {S W E : Type 0} → (S → W → E → Type 0) → Next S W → Option E → Type 0
HandlesNext ends (next.Opened number reader writer) (Some end) = ends reader writer end
HandlesNext ends (next.Opened number reader writer) None = ⊥
HandlesNext ends next.Unopened end = end ≡ None
HandlesNext ends next.Closed end = end ≡ None
