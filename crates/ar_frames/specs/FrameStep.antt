-- One step of a session: a frame is read, executed at the port, and its reply written, before and after an observer.
use Rattle.std.specs.Prelude.{◌≡◌, ◌⊎◌, ◌<◌, ◌+◌, ℕ, zero, suc, false, List, [], ◌++◌, length}
use Rattle.ar_disks.specs.declared.address.Host.{Host}
use Rattle.ar_scsi.specs.declared.reply.Reply.{Reply}
use Rattle.ar_scsi.specs.Reply.{busy}
use Rattle.ar_frames.specs.declared.frame.Request.{Request}
use Rattle.ar_frames.specs.declared.transfer.Sent.{Sent}
use Rattle.ar_frames.specs.declared.transfer.Sent.TheVariants as sent
use Rattle.ar_frames.specs.declared.receive.Incoming.{Incoming}
use Rattle.ar_frames.specs.declared.receive.Incoming.TheVariants.{Whole, Lost, Ended}
use Rattle.ar_frames.specs.declared.frame_step.FrameResult.{FrameResult}
use Rattle.ar_frames.specs.declared.frame_step.FrameResult.TheVariants.{Answered, Unsent, Ended as ResultEnded}
use Rattle.ar_frames.specs.declared.end.EndReason.{EndReason}
use Rattle.ar_frames.specs.declared.end.EndReason.TheVariants as reason
use Rattle.ar_frames.specs.declared.end.SessionEnd.{SessionEnd}
use Rattle.ar_frames.specs.Stream.{SourceState, SinkState, Reading, Writing, Sending}
use Rattle.ar_frames.specs.Frame.{IsFrame, IsReplyFrame}
use Rattle.ar_frames.specs.Conversation.{Commands, RepliesTo, Conversation, last_len}
use Rattle.ar_frames.specs.Observer.{Announces, Reports}
use Rattle.ar_frames.specs.Port.{CommandRefusals}
use Rattle.ar_frames.specs.Session.{admitted, most_frames, Closes, EndsInput, WritesAnswers, WritesPart, is_read_fault}

-- the rest of the request's frame was read, after its first bytes `front`
pub record ReadsFrame (front : List ℕ) (source source' : SourceState) (request : Request) : Type 0 where
  pub body : List ℕ
  pub is_frame : IsFrame request (front ++ body)
  pub read : Reading source source' body false

-- The rest of a frame with this tag and this command block was read, after `front`, and its data, at least one byte,
-- couldn't be allocated.
pub record LosesData (front : List ℕ) (source source' : SourceState) (tag : ℕ) (cdb : List ℕ) : Type 0 where
  pub request : Request
  pub tag_is : request.tag ≡ tag
  pub cdb_is : request.cdb ≡ cdb
  pub some : 0 < length request.payload
  pub reads : ReadsFrame front source source' request

-- after `front` no whole frame came, so that the session ends for this reason, whatever was written before
pub record StopsAfter (front : List ℕ) (source source' : SourceState) (end : EndReason) : Type 0 where
  pub body : List ℕ
  pub closes : (frames : ℕ) → frames < most_frames → Closes end admitted frames (front ++ body)
  pub read : Reading source source' body (is_read_fault end)
  pub ended : EndsInput end source'.left
  pub unwritten : (sink : SinkState) (last : ℕ) → WritesAnswers end sink sink [] last

-- what was read after `front`, the first bytes of a frame
abbrev pub Receives : List ℕ → SourceState → SourceState → Incoming → Type 0
Receives front source source' (Whole request) = ReadsFrame front source source' request
Receives front source source' (Lost tag cdb) = LosesData front source source' tag cdb
Receives front source source' (Ended end) = StopsAfter front source source' end

-- a reply frame was written, whole or up to a write fault
pub record SendsReply (sink sink' : SinkState) (tag : ℕ) (reply : Reply) (sent : Sent) : Type 0 where
  pub frame : List ℕ
  pub is_frame : IsReplyFrame tag reply frame
  pub sending : Sending sink sink' frame sent

-- a request frame was written, whole or up to a write fault
pub record SendsRequest (sink sink' : SinkState) (request : Request) (sent : Sent) : Type 0 where
  pub frame : List ℕ
  pub is_frame : IsFrame request frame
  pub sending : Sending sink sink' frame sent

-- how far a reply frame was written, by the step's result
abbrev pub WritesReply : SinkState → SinkState → List ℕ → FrameResult → Type 0
WritesReply sink sink' frame Answered = Writing sink sink' frame false
WritesReply sink sink' frame Unsent = WritesPart sink sink' frame
WritesReply sink sink' frame (ResultEnded end) = ⊥

-- the result of a step whose reply was written this far
abbrev pub result_after : Sent → FrameResult
result_after sent.Whole = Answered
result_after (sent.Part n) = Unsent

-- The calls of an observer for one command, the n-th of the host's session: it was announced with its request, and
-- reported with its reply, of which as much was written as the step's result says.
pub record Observes {O : Type 0} (announces : Announces O) (reports : Reports O) (host : Host) (n : ℕ)
    (request : Request) (result : FrameResult) (old new : O) : Type 0 where
  pub mid : O
  pub sent : Sent
  pub announced : announces old host n request mid
  pub reported : reports mid host n sent new
  pub sent_is : result ≡ result_after sent

-- a command given to the port is counted; one that the port refused by BUSY isn't, and the observer isn't called
abbrev pub Counts : {P O : Type 0} → Commands P → CommandRefusals P → Announces O → Reports O → Host → P → P → O → O
    → Request → Reply → FrameResult → ℕ → ℕ → Type 0
Counts commands refuses announces reports host port port' observer observer' request reply result given given' =
    (commands port request.lun request.cdb request.payload reply port' × (given' ≡ given + 1)
    × Observes announces reports host given' request result observer observer')
    ⊎ ((0 < length request.payload) × (reply ≡ busy) × refuses port request.cdb port' × (port' ≡ port)
    × (given' ≡ given) × (observer' ≡ observer))

-- the port refused a command and stayed as it was, and BUSY was written under this tag, whole or up to a write fault
pub record RefusesRequest {P : Type 0} (refuses : CommandRefusals P) (sink sink' : SinkState) (port port' : P) (tag : ℕ)
    (cdb : List ℕ) (result : FrameResult) : Type 0 where
  pub refused : refuses port cdb port'
  pub same_port : port' ≡ port
  pub frame : List ℕ
  pub is_frame : IsReplyFrame tag busy frame
  pub written : WritesReply sink sink' frame result

-- a request got a reply, which was written whole or up to a write fault
pub record AnswersRequest {P O : Type 0} (commands : Commands P) (refuses : CommandRefusals P) (announces : Announces O)
    (reports : Reports O) (host : Host) (sink sink' : SinkState) (port port' : P) (observer observer' : O)
    (request : Request) (result : FrameResult) (given given' : ℕ) : Type 0 where
  pub reply : Reply
  pub frame : List ℕ
  pub answers : RepliesTo commands port request reply port'
  pub is_frame : IsReplyFrame request.tag reply frame
  pub written : WritesReply sink sink' frame result
  pub counts : Counts commands refuses announces reports host port port' observer observer' request reply result given
      given'

-- a whole frame was read, and its reply written whole or up to a write fault
pub record ServesFrame {P O : Type 0} (commands : Commands P) (refuses : CommandRefusals P) (announces : Announces O)
    (reports : Reports O) (host : Host) (source source' : SourceState) (sink sink' : SinkState)
    (port port' : P) (observer observer' : O) (given given' : ℕ) (result : FrameResult) : Type 0 where
  pub request : Request
  pub reads : ReadsFrame [] source source' request
  pub answers : AnswersRequest commands refuses announces reports host sink sink' port port' observer observer' request
      result given given'

-- no whole frame came; the sink, the port, the observer and the number of commands are unchanged
pub record EndsStep {P O : Type 0} (source source' : SourceState) (sink sink' : SinkState) (port port' : P)
    (observer observer' : O) (given given' : ℕ) (end : EndReason) : Type 0 where
  pub stops : StopsAfter [] source source' end
  pub same_sink : sink' ≡ sink
  pub same_port : port' ≡ port
  pub same_observer : observer' ≡ observer
  pub same_given : given' ≡ given

-- one step of a session, by its result; `given` and `given'` are the numbers of commands given to the port
abbrev pub FrameStep : {P O : Type 0} → Commands P → CommandRefusals P → Announces O → Reports O → Host → SourceState
    → SourceState → SinkState → SinkState → P → P → O → O → ℕ → ℕ → FrameResult → Type 0
FrameStep commands refuses announces reports host source source' sink sink' port port' observer observer' given given'
    Answered
    = ServesFrame commands refuses announces reports host source source' sink sink' port port' observer observer' given
    given' Answered
FrameStep commands refuses announces reports host source source' sink sink' port port' observer observer' given given'
    Unsent
    = ServesFrame commands refuses announces reports host source source' sink sink' port port' observer observer' given
    given' Unsent
FrameStep commands refuses announces reports host source source' sink sink' port port' observer observer' given given'
    (ResultEnded end) = EndsStep source source' sink sink' port port' observer observer' given given' end

-- `count` frames were read and answered whole
pub record Served {P : Type 0} (commands : Commands P) (source source' : SourceState) (sink sink' : SinkState)
    (port port' : P) (count : ℕ) : Type 0 where
  pub frames : List ℕ
  pub answers : List ℕ
  pub conversation : Conversation commands port port' frames answers count
  pub read : Reading source source' frames false
  pub written : Writing sink sink' answers false

-- a session from its first frame to its end
pub record ServesAll {P : Type 0} (commands : Commands P) (source source' : SourceState) (sink sink' : SinkState)
    (port port' : P) (end : SessionEnd) : Type 0 where
  pub frames : List ℕ
  pub answers : List ℕ
  pub rest : List ℕ
  pub conversation : Conversation commands port port' frames answers end.frames
  pub closes : Closes end.reason admitted end.frames rest
  pub read : Reading source source' (frames ++ rest) (is_read_fault end.reason)
  pub ended : EndsInput end.reason source'.left
  pub written : WritesAnswers end.reason sink sink' answers (last_len 0 conversation.replies)

-- a moment between two frames: the streams, the port, the observer, and the number of commands given to the port
pub record Moment (P O : Type 0) : Type 0 where
  pub source : SourceState
  pub sink : SinkState
  pub port : P
  pub observer : O
  pub given : ℕ

-- one step of a host's session, from one moment to the next
abbrev pub StepsTo : {P O : Type 0} → Commands P → CommandRefusals P → Announces O → Reports O → Host → Moment P O
    → Moment P O → FrameResult → Type 0
StepsTo commands refuses announces reports host old new result =
    FrameStep commands refuses announces reports host old.source new.source old.sink new.sink old.port new.port
    old.observer new.observer old.given new.given result

-- this many frames were answered, each from the moment that the one before left
abbrev pub HasStepped : {P O : Type 0} → Commands P → CommandRefusals P → Announces O → Reports O → Host → ℕ
    → Moment P O → Moment P O → Type 0
HasStepped commands refuses announces reports host zero first last = last ≡ first
HasStepped {P = P} {O = O} commands refuses announces reports host (suc n) first last =
    (between : Moment P O) × HasStepped commands refuses announces reports host n first between
    × StepsTo commands refuses announces reports host between last Answered

-- the end of a session after `count` answered frames, and its last moment, from the one that they left
pub data Finishes {P O : Type 0} (commands : Commands P) (refuses : CommandRefusals P) (announces : Announces O)
    (reports : Reports O) (host : Host) (count : ℕ) (between last : Moment P O) : SessionEnd → Type 0 where
  -- the limit of frames is reached: nothing more was done
  full : count ≡ most_frames → last ≡ between
      → Finishes commands refuses announces reports host count between last
      (record { frames = count; reason = reason.Bound })
  -- one more frame came, whose reply wasn't written whole
  unsent : StepsTo commands refuses announces reports host between last Unsent
      → Finishes commands refuses announces reports host count between last
      (record { frames = count + 1; reason = reason.Write })
  -- no whole frame came, for this reason
  stopped : (end : EndReason) → StepsTo commands refuses announces reports host between last (ResultEnded end)
      → Finishes commands refuses announces reports host count between last (record { frames = count; reason = end })

-- a host's session step by step: nothing but steps leads from its first moment to its last
pub record RunsInSteps {P O : Type 0} (commands : Commands P) (refuses : CommandRefusals P) (announces : Announces O)
    (reports : Reports O) (host : Host) (first last : Moment P O) (end : SessionEnd) : Type 0 where
  pub count : ℕ
  pub between : Moment P O
  pub answered : HasStepped commands refuses announces reports host count first between
  pub finish : Finishes commands refuses announces reports host count between last end

-- A host's session after its login, step by step, from the observer that it was given to the one that it left. No
-- command is counted before the first step, so that they have the numbers 1, 2, 3 ..
pub record RunsObserved {P O : Type 0} (commands : Commands P) (refuses : CommandRefusals P) (announces : Announces O)
    (reports : Reports O) (host : Host) (source source' : SourceState) (sink sink' : SinkState)
    (port port' : P) (observer observer' : O) (end : SessionEnd) : Type 0 where
  pub given : ℕ
  pub given' : ℕ
  pub uncounted : given ≡ 0
  pub runs :
      RunsInSteps commands refuses announces reports host
      (record { source = source; sink = sink; port = port; observer = observer; given = given })
      (record { source = source'; sink = sink'; port = port'; observer = observer'; given = given' }) end
