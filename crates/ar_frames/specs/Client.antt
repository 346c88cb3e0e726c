-- The client's side: what a login and a command write and read, by their result.
use Rattle.std.specs.Prelude.{◌≡◌, ◌≢◌, ◌<◌, ◌≤◌, ◌⊎◌, ◌+◌, ℕ, Bool, true, false, if◌then◌else◌, List, [], ◌∷◌, ◌++◌}
use Rattle.std.specs.Prelude.{length, Result, Ok, Err}
use Rattle.std.specs.Io.KnownBytes.{IsAtEnd}
use Rattle.byteorder.specs.Endian.{big_number}
use Rattle.ar_scsi.specs.declared.reply.Reply.{Reply}
use Rattle.ar_frames.specs.declared.client.AskFault.{AskFault}
use Rattle.ar_frames.specs.declared.client.AskFault.TheVariants as fault
use Rattle.ar_frames.specs.declared.frame.Request.{Request}
use Rattle.ar_frames.specs.Stream.{SourceState, SinkState, Reading, Writing}
use Rattle.ar_frames.specs.Frame.{IsFrame, IsReplyFrame, IsReply, IsCutReply, status_byte, sense_bytes, most_data}
use Rattle.ar_frames.specs.Session.{WritesPart}

-- the one byte that replies to a login
abbrev pub login_answer : Bool → ℕ
login_answer taken = if taken then 0x00 else 0x01

-- a byte was read that is no reply to a login
pub record OtherAnswer (old new : SourceState) : Type 0 where
  pub byte : ℕ
  pub not_taken : byte ≢ 0x00
  pub not_refused : byte ≢ 0x01
  pub read : Reading old new (byte ∷ []) false

-- the result of a login, by the byte that replies to it
abbrev pub Means : ℕ → Result Bool AskFault → Type 0
Means byte (Ok taken) = byte ≡ login_answer taken
Means byte (Err fault.Read) = ⊥
Means byte (Err fault.Write) = ⊥
Means byte (Err fault.Cut) = ⊥
Means byte (Err fault.WrongTag) = ⊥
Means byte (Err fault.BadFrame) = (byte ≢ 0x00) × (byte ≢ 0x01)
Means byte (Err fault.NoMemory) = ⊥

-- what is read after a login was written, by the result
abbrev pub ReadsGreeting : SourceState → SourceState → Result Bool AskFault → Type 0
ReadsGreeting source source' (Ok taken) = Reading source source' (login_answer taken ∷ []) false
ReadsGreeting source source' (Err fault.Read) = Reading source source' [] true
ReadsGreeting source source' (Err fault.Write) = ⊥
ReadsGreeting source source' (Err fault.Cut) = Reading source source' [] false × IsAtEnd source'.left
ReadsGreeting source source' (Err fault.WrongTag) = ⊥
ReadsGreeting source source' (Err fault.BadFrame) = OtherAnswer source source'
ReadsGreeting source source' (Err fault.NoMemory) = ⊥

-- what a login writes and reads, by the result: all of it is written, or a proper prefix, and then nothing is read
abbrev pub Greets : SourceState → SourceState → SinkState → SinkState → List ℕ → Result Bool AskFault → Type 0
Greets source source' sink sink' login (Err fault.Write) = WritesPart sink sink' login × (source' ≡ source)
Greets source source' sink sink' login answer = Writing sink sink' login false × ReadsGreeting source source' answer

-- as many bytes as their N says, with an N that a reply may have, that are no reply frame
pub record IsNoReply (bytes : List ℕ) : Type 0 where
  pub low : 10 ≤ big_number 4 bytes
  pub high : big_number 4 bytes ≤ 10 + most_data
  pub whole : length bytes ≡ 4 + big_number 4 bytes
  pub none : (tag : ℕ) (reply : Reply) → IsReplyFrame tag reply bytes → ⊥

-- the bytes are no reply frame: an N out of range and nothing after it, or as many bytes as N says
abbrev pub IsBadReply : List ℕ → Type 0
IsBadReply bytes =
    ((length bytes ≡ 4) × ((big_number 4 bytes < 10) ⊎ (10 + most_data < big_number 4 bytes))) ⊎ IsNoReply bytes

-- only sense data and payload are allocated: of a reply that has some, the head was read or the whole frame
pub record IsHeldUp (bytes : List ℕ) : Type 0 where
  pub counted : 4 ≤ length bytes
  pub low : 10 < big_number 4 bytes
  pub high : big_number 4 bytes ≤ 10 + most_data
  pub at : (length bytes ≡ 14) ⊎ (length bytes ≡ 4 + big_number 4 bytes)

-- bytes of this kind were read, and the last read faulted or none did
pub record ReadsOf (old new : SourceState) (Is : List ℕ → Type 0) (faulted : Bool) : Type 0 where
  pub bytes : List ℕ
  pub are : Is bytes
  pub read : Reading old new bytes faulted

-- a whole reply frame with another tag
pub record IsOthers (tag : ℕ) (bytes : List ℕ) : Type 0 where
  pub other : ℕ
  pub reply : Reply
  pub not_this : other ≢ tag
  pub frame : IsReplyFrame other reply bytes

-- what is read of a reply after its first bytes `front`, by the result
abbrev pub ReadsReply : List ℕ → SourceState → SourceState → ℕ → Result Reply AskFault → Type 0
ReadsReply front source source' tag (Ok reply) =
    ReadsOf source source' (λ body. IsReplyFrame tag reply (front ++ body)) false
ReadsReply front source source' tag (Err fault.Read) = ReadsOf source source' (λ body. IsCutReply (front ++ body)) true
ReadsReply front source source' tag (Err fault.Write) = ⊥
ReadsReply front source source' tag (Err fault.Cut) =
    ReadsOf source source' (λ body. IsCutReply (front ++ body)) false × IsAtEnd source'.left
ReadsReply front source source' tag (Err fault.WrongTag) =
    ReadsOf source source' (λ body. IsOthers tag (front ++ body)) false
ReadsReply front source source' tag (Err fault.BadFrame) =
    ReadsOf source source' (λ body. IsBadReply (front ++ body)) false
ReadsReply front source source' tag (Err fault.NoMemory) =
    ReadsOf source source' (λ body. IsHeldUp (front ++ body)) false

-- what a command writes and reads, by the result: the whole frame is written, or a proper prefix, and then nothing is
-- read
abbrev pub Obtains : SourceState → SourceState → SinkState → SinkState → ℕ → List ℕ → Result Reply AskFault → Type 0
Obtains source source' sink sink' tag frame (Err fault.Write) = WritesPart sink sink' frame × (source' ≡ source)
Obtains source source' sink sink' tag frame answer =
    Writing sink sink' frame false × ReadsReply [] source source' tag answer

-- the result for a whole reply
abbrev pub Judges : ℕ → List ℕ → Result Reply AskFault → Type 0
Judges tag bytes (Ok reply) = IsReplyFrame tag reply bytes
Judges tag bytes (Err fault.Read) = ⊥
Judges tag bytes (Err fault.Write) = ⊥
Judges tag bytes (Err fault.Cut) = ⊥
Judges tag bytes (Err fault.WrongTag) = IsOthers tag bytes
Judges tag bytes (Err fault.BadFrame) = (other : ℕ) (reply : Reply) → IsReplyFrame other reply bytes → ⊥
Judges tag bytes (Err fault.NoMemory) = ⊥

-- a reply with this status byte and sense length, whose sense data and payload are these bytes
pub record Parses (status sense_len : ℕ) (body : List ℕ) (reply : Reply) : Type 0 where
  pub suits : IsReply reply
  pub status_is : status ≡ status_byte reply.status
  pub sense_is : sense_len ≡ length (sense_bytes reply.sense)
  pub body_is : body ≡ sense_bytes reply.sense ++ reply.payload

-- a command: the request's one frame is written, and what replies to it is read
pub record Asks (source source' : SourceState) (sink sink' : SinkState) (request : Request)
    (answer : Result Reply AskFault) : Type 0 where
  pub frame : List ℕ
  pub is_frame : IsFrame request frame
  pub obtains : Obtains source source' sink sink' request.tag frame answer
