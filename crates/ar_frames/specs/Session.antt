-- A session: what it reads, gives to its port and writes, and when each end comes.
use Rattle.std.specs.Prelude.{◌≡◌, ◌≢◌, ◌<◌, ◌≤◌, ◌+◌, ℕ, Bool, true, false, List, [], ◌∷◌, ◌++◌, length, take, Option}
use Rattle.std.specs.Prelude.{⊤}
use Rattle.std.specs.Io.KnownBytes.{IsAtEnd}
use Rattle.byteorder.specs.Endian.{big_number}
use Rattle.ar_frames.specs.declared.port.Login.TheVariants.{Taken, BadHost, InUse}
use Rattle.ar_frames.specs.declared.end.EndReason.{EndReason}
use Rattle.ar_frames.specs.declared.end.EndReason.TheVariants as reason
use Rattle.ar_frames.specs.declared.end.SessionEnd.{SessionEnd}
use Rattle.ar_frames.specs.Stream.{SourceState, SinkState, Reading, Writing}
use Rattle.ar_frames.specs.Frame.{IsCutRequest, most_data}
use Rattle.ar_frames.specs.Conversation.{Commands, Conversation, last_len}
use Rattle.ar_frames.specs.Port.{Logins}

-- the most frames of a session
abbrev pub most_frames : ℕ
most_frames = 1000000

-- the first eight bytes of a login: ARAIDHO1
abbrev pub login_name : List ℕ
login_name = 0x41 ∷ 0x52 ∷ 0x41 ∷ 0x49 ∷ 0x44 ∷ 0x48 ∷ 0x4F ∷ 0x31 ∷ []

-- the nine bytes of a host's login
abbrev pub login_bytes : ℕ → List ℕ
login_bytes host = login_name ++ host ∷ []

-- the result of the login: not read whole, refused, of a host in use, or accepted
pub data Stage : Type 0 where
  silent : Stage
  refused : Stage
  in_use : Stage
  admitted : Stage

-- A login: the port before, the bytes that were read of it, the reply that is due, the result, and the port after.
pub data Opening {P : Type 0} (logins : Logins P) (old : P) : List ℕ → List ℕ → Stage → P → Type 0 where
  cut : (login : List ℕ) → length login < 9 → Opening logins old login [] silent old
  other_name : (login : List ℕ) → length login ≡ 9 → take 8 login ≢ login_name
      → Opening logins old login (0x01 ∷ []) refused old
  bad_host : (host : ℕ) (new : P) → 3 < host → logins old host BadHost new
      → Opening logins old (login_bytes host) (0x01 ∷ []) refused new
  host_in_use : (host : ℕ) (new : P) → host ≤ 3 → logins old host InUse new
      → Opening logins old (login_bytes host) (0x01 ∷ []) in_use new
  taken : (host : ℕ) (new : P) → host ≤ 3 → logins old host Taken new
      → Opening logins old (login_bytes host) (0x00 ∷ []) admitted new

-- the login wasn't read whole, or the frame after `frames` whole ones wasn't, of which `rest` was read
abbrev pub IsInside : Stage → ℕ → List ℕ → Type 0
IsInside silent frames rest = (frames ≡ 0) × (rest ≡ [])
IsInside refused frames rest = ⊥
IsInside in_use frames rest = ⊥
IsInside admitted frames rest = (frames < most_frames) × IsCutRequest rest

-- a reply wasn't written whole: the one to the login, or the one to the last frame
abbrev pub IsUnsent : Stage → ℕ → Type 0
IsUnsent silent frames = ⊥
IsUnsent refused frames = frames ≡ 0
IsUnsent in_use frames = frames ≡ 0
IsUnsent admitted frames = frames ≤ most_frames

-- the login was accepted, and the limit of frames isn't reached
pub record IsWaiting (stage : Stage) (frames : ℕ) : Type 0 where
  pub taken : stage ≡ admitted
  pub below : frames < most_frames

-- just the N of the next frame was read, and it is `n`
pub record CountCame (rest : List ℕ) (n : ℕ) : Type 0 where
  pub len : length rest ≡ 4
  pub is : n ≡ big_number 4 rest

-- when each end comes: by the stage, the number of whole frames, and what was read after them
abbrev pub Closes : EndReason → Stage → ℕ → List ℕ → Type 0
-- input ended right after the login or a whole frame
Closes reason.End stage frames rest = IsWaiting stage frames × (rest ≡ [])
-- the name or the host's number is wrong
Closes reason.BadLogin stage frames rest = (stage ≡ refused) × (frames ≡ 0) × (rest ≡ [])
-- the port reported that the host is in use
Closes reason.HostInUse stage frames rest = (stage ≡ in_use) × (frames ≡ 0) × (rest ≡ [])
-- N is too small or too large: nothing after it is read
Closes (reason.TooShort n) stage frames rest = IsWaiting stage frames × CountCame rest n × (n < 25)
Closes (reason.TooLong n) stage frames rest = IsWaiting stage frames × CountCame rest n × (25 + most_data < n)
-- input ended inside the login or a frame
Closes reason.Cut stage frames rest = IsInside stage frames rest × (stage ≡ admitted → 0 < length rest)
-- a read faulted, before or inside the login or a frame
Closes reason.Read stage frames rest = IsInside stage frames rest
-- a write of the last reply faulted
Closes reason.Write stage frames rest = IsUnsent stage frames × (rest ≡ [])
-- the limit of frames is reached, and all were answered
Closes reason.Bound stage frames rest = (stage ≡ admitted) × (frames ≡ most_frames) × (rest ≡ [])

-- the session ended at a read fault
abbrev pub is_read_fault : EndReason → Bool
is_read_fault reason.End = false
is_read_fault reason.BadLogin = false
is_read_fault reason.HostInUse = false
is_read_fault (reason.TooShort n) = false
is_read_fault (reason.TooLong n) = false
is_read_fault reason.Cut = false
is_read_fault reason.Read = true
is_read_fault reason.Write = false
is_read_fault reason.Bound = false

-- an end that reports the end of input comes only if no input is left
abbrev pub EndsInput : EndReason → Option (List ℕ) → Type 0
EndsInput reason.End left = IsAtEnd left
EndsInput reason.BadLogin left = ⊤
EndsInput reason.HostInUse left = ⊤
EndsInput (reason.TooShort n) left = ⊤
EndsInput (reason.TooLong n) left = ⊤
EndsInput reason.Cut left = IsAtEnd left
EndsInput reason.Read left = ⊤
EndsInput reason.Write left = ⊤
EndsInput reason.Bound left = ⊤

-- a proper prefix was written, and then a write faulted
pub record WritesPart (old new : SinkState) (answers : List ℕ) : Type 0 where
  pub n : ℕ
  pub proper : n < length answers
  pub written : Writing old new (take n answers) true

-- the same for several replies: all but the last, which has `last` bytes, were written whole
pub record WritesAllButLast (old new : SinkState) (answers : List ℕ) (last : ℕ) : Type 0 where
  pub part : WritesPart old new answers
  pub whole : length answers ≤ part.n + last

-- all replies are written or, at a write fault, a proper prefix that lacks only bytes of the last reply, which has
-- `last` bytes
abbrev pub WritesAnswers : EndReason → SinkState → SinkState → List ℕ → ℕ → Type 0
WritesAnswers reason.End old new answers last = Writing old new answers false
WritesAnswers reason.BadLogin old new answers last = Writing old new answers false
WritesAnswers reason.HostInUse old new answers last = Writing old new answers false
WritesAnswers (reason.TooShort n) old new answers last = Writing old new answers false
WritesAnswers (reason.TooLong n) old new answers last = Writing old new answers false
WritesAnswers reason.Cut old new answers last = Writing old new answers false
WritesAnswers reason.Read old new answers last = Writing old new answers false
WritesAnswers reason.Write old new answers last = WritesAllButLast old new answers last
WritesAnswers reason.Bound old new answers last = Writing old new answers false

-- A whole session, from the streams and the port before it to those after it: it reads a login, `end.frames` frames and
-- a rest, and writes the reply to the login and the reply frames.
pub record Session {P : Type 0} (logins : Logins P) (commands : Commands P) (source source' : SourceState)
    (sink sink' : SinkState)
    (port port' : P) (end : SessionEnd) : Type 0 where
  pub stage : Stage
  pub login : List ℕ
  pub greeting : List ℕ
  pub mid : P
  pub frames : List ℕ
  pub answers : List ℕ
  pub rest : List ℕ
  pub opening : Opening logins port login greeting stage mid
  pub conversation : Conversation commands mid port' frames answers end.frames
  pub closes : Closes end.reason stage end.frames rest
  pub read : Reading source source' (login ++ (frames ++ rest)) (is_read_fault end.reason)
  pub ended : EndsInput end.reason source'.left
  pub written : WritesAnswers end.reason sink sink' (greeting ++ answers)
      (last_len (length greeting) conversation.replies)
