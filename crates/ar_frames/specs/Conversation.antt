-- The requests and replies of a session, frame by frame.
use Rattle.std.specs.Prelude.{◌≡◌, ◌<◌, ◌⊎◌, ◌+◌, ℕ, List, [], ◌∷◌, ◌++◌, length}
use Rattle.ar_scsi.specs.declared.reply.Reply.{Reply}
use Rattle.ar_scsi.specs.Reply.{busy}
use Rattle.ar_frames.specs.declared.frame.Request.{Request}
use Rattle.ar_frames.specs.Frame.{IsFrame, IsReplyFrame, sense_bytes}

-- what a command may do at a port: the port before, the LUN, the command block, the data, the reply, the port after
abbrev pub Commands : Type 0 → Type 1
Commands P = P → ℕ → List ℕ → List ℕ → Reply → P → Type 0

-- one reply: the port's to the command, or BUSY from a port that stays as it is, which only a request with data gets
abbrev pub RepliesTo : {P : Type 0} → Commands P → P → Request → Reply → P → Type 0
RepliesTo commands old request reply new =
    commands old request.lun request.cdb request.payload reply new
    ⊎ ((0 < length request.payload) × (reply ≡ busy) × (new ≡ old))

-- these are replies to these requests, in order, each from the port that the one before left
abbrev pub RepliesToAll : {P : Type 0} → Commands P → P → List Request → List Reply → P → Type 0
RepliesToAll commands old [] [] new = new ≡ old
RepliesToAll {P = P} commands old (request ∷ requests) (reply ∷ replies) new =
    (mid : P) × RepliesTo commands old request reply mid × RepliesToAll commands mid requests replies new
RepliesToAll commands old [] (reply ∷ replies) new = ⊥
RepliesToAll commands old (request ∷ requests) [] new = ⊥

-- the bytes are the frames of these requests, one after the other
abbrev pub AreFrames : List Request → List ℕ → Type 0
AreFrames [] bytes = bytes ≡ []
AreFrames (request ∷ requests) bytes =
    (frame : List ℕ) × (rest : List ℕ) × (bytes ≡ frame ++ rest) × IsFrame request frame × AreFrames requests rest

-- the bytes are the frames of these replies, each with the tag of its request
abbrev pub AreReplyFrames : List Request → List Reply → List ℕ → Type 0
AreReplyFrames [] [] bytes = bytes ≡ []
AreReplyFrames (request ∷ requests) (reply ∷ replies) bytes =
    (frame : List ℕ) × (rest : List ℕ) × (bytes ≡ frame ++ rest) × IsReplyFrame request.tag reply frame
    × AreReplyFrames requests replies rest
AreReplyFrames [] (reply ∷ replies) bytes = ⊥
AreReplyFrames (request ∷ requests) [] bytes = ⊥

-- the length of a reply's frame in bytes
abbrev pub reply_len : Reply → ℕ
reply_len reply = 14 + (length (sense_bytes reply.sense) + length reply.payload)

-- the length of the last reply's frame, or `len` if there is no reply
abbrev pub last_len : ℕ → List Reply → ℕ
last_len len [] = len
last_len len (reply ∷ replies) = last_len (reply_len reply) replies

-- `frames` whole frames were read and answered: `read` is their bytes, `answers` those of the reply frames.
pub record Conversation {P : Type 0} (commands : Commands P) (old new : P)
    (read answers : List ℕ) (frames : ℕ) : Type 0 where
  pub requests : List Request
  pub replies : List Reply
  pub replied : RepliesToAll commands old requests replies new
  pub read_is : AreFrames requests read
  pub answers_are : AreReplyFrames requests replies answers
  pub frames_is : frames ≡ length requests
