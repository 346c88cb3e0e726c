-- Frames on the wire. Fields of several bytes are big-endian, and a field's value is the number that its bytes read as.
use Rattle.std.specs.Prelude.{◌≡◌, ◌<◌, ◌≤◌, ◌⊎◌, ◌+◌, ℕ, List, [], ◌∷◌, ◌++◌, length, Option, Some, None}
use Rattle.byteorder.specs.Endian.{big_number}
use Rattle.ar_scsi.specs.declared.reply.Reply.{Reply}
use Rattle.ar_scsi.specs.declared.reply.Status.{Status}
use Rattle.ar_scsi.specs.declared.reply.Status.TheVariants.{Good, CheckCondition, Busy}
use Rattle.ar_frames.specs.declared.frame.Request.{Request}

-- the most bytes of data that a frame has: 65,535 sectors of 512 bytes
abbrev pub most_data : ℕ
most_data = 33553920

-- a request frame: N, the tag, the LUN, the command block and the data, where N counts the bytes that follow it
pub record IsFrame (request : Request) (bytes : List ℕ) : Type 0 where
  pub count : List ℕ
  pub tag : List ℕ
  pub layout : bytes ≡ count ++ (tag ++ (request.lun ∷ (request.cdb ++ request.payload)))
  pub count_len : length count ≡ 4
  pub count_is : big_number 4 count ≡ 25 + length request.payload
  pub tag_len : length tag ≡ 8
  pub tag_is : big_number 8 tag ≡ request.tag
  pub cdb_len : length request.cdb ≡ 16
  pub data_fits : length request.payload ≤ most_data

-- the status code (SAM-3, Status)
abbrev pub status_byte : Status → ℕ
status_byte Good = 0x00
status_byte CheckCondition = 0x02
status_byte Busy = 0x08

-- the bytes of the sense data, empty if there are none
abbrev pub sense_bytes : Option (List ℕ) → List ℕ
sense_bytes None = []
sense_bytes (Some sense) = sense

-- what a reply carries, by its status: sense data with CHECK CONDITION alone, a payload with GOOD alone
abbrev pub Suits : Status → Option (List ℕ) → List ℕ → Type 0
Suits Good sense payload = (sense ≡ None) × (length payload ≤ most_data)
Suits CheckCondition sense payload = (length (sense_bytes sense) ≡ 18) × (payload ≡ [])
Suits Busy sense payload = (sense ≡ None) × (payload ≡ [])

-- a reply that a frame can carry
abbrev pub IsReply : Reply → Type 0
IsReply reply = Suits reply.status reply.sense reply.payload

-- a reply frame: N, the tag of the request, the status, the length of the sense data, the sense data, the payload
pub record IsReplyFrame (tag : ℕ) (reply : Reply) (bytes : List ℕ) : Type 0 where
  pub count : List ℕ
  pub name : List ℕ
  pub layout : bytes ≡ count ++ (name ++ (status_byte reply.status ∷ (length (sense_bytes reply.sense)
      ∷ (sense_bytes reply.sense ++ reply.payload))))
  pub count_len : length count ≡ 4
  pub count_is : big_number 4 count ≡ 10 + (length (sense_bytes reply.sense) + length reply.payload)
  pub name_len : length name ≡ 8
  pub name_is : big_number 8 name ≡ tag
  pub suits : IsReply reply

-- an incomplete frame: fewer bytes than N has, or fewer than an N from `low` to `high` says
abbrev pub IsCutFrame : ℕ → ℕ → List ℕ → Type 0
IsCutFrame low high bytes =
    (length bytes < 4)
    ⊎ ((4 ≤ length bytes) × (low ≤ big_number 4 bytes) × (big_number 4 bytes ≤ high)
    × (length bytes < 4 + big_number 4 bytes))

-- an incomplete request frame
abbrev pub IsCutRequest : List ℕ → Type 0
IsCutRequest bytes = IsCutFrame 25 (25 + most_data) bytes

-- an incomplete reply frame
abbrev pub IsCutReply : List ℕ → Type 0
IsCutReply bytes = IsCutFrame 10 (10 + most_data) bytes

-- a request frame that is a prefix of another is equal to it, and so are the requests
abbrev pub NoneBeginsAnother : Type 0
NoneBeginsAnother =
    (first second : Request) (bytes more : List ℕ) → IsFrame first bytes → IsFrame second (bytes ++ more)
    → (more ≡ []) × (first ≡ second)

-- a reply frame that is a prefix of another is equal to it, and so are the tags and replies
abbrev pub NoReplyBeginsAnother : Type 0
NoReplyBeginsAnother =
    (tag other : ℕ) (first second : Reply) (bytes more : List ℕ) → IsReplyFrame tag first bytes
    → IsReplyFrame other second (bytes ++ more)
    → (more ≡ []) × (tag ≡ other) × (first ≡ second)
