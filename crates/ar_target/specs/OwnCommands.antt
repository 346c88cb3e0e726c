-- What a port tells in answer to a command of the device server's own, and what follows from it.
use Rattle.std.specs.Prelude.{◌≡◌, ◌≢◌, ◌⊎◌, ℕ, ◌/◌, ◌^◌, ◌==◌, Bool, true, false, not, nat_lt, if◌then◌else◌, List, []}
use Rattle.std.specs.Prelude.{◌∷◌, length, slice_index, Option, Some, None}
use Rattle.byteorder.specs.Endian.{big_number}
use Rattle.ar_scsi.specs.declared.reply.Reply.{Reply}
use Rattle.ar_scsi.specs.declared.reply.Status.{Status}
use Rattle.ar_scsi.specs.declared.reply.Status.TheVariants.{Good, CheckCondition, Busy}
use Rattle.ar_scsi.specs.Reply.{check, busy}
use Rattle.ar_scsi.specs.Sense.{internal_target_failure}
use Rattle.ar_frames.specs.Conversation.{Commands}

-- the CDB of a TEST UNIT READY
abbrev pub ready_cdb : List ℕ
ready_cdb =
    0x00 ∷ 0x00 ∷ 0x00 ∷ 0x00 ∷ 0x00 ∷ 0x00 ∷ 0x00 ∷ 0x00 ∷ 0x00 ∷ 0x00 ∷ 0x00 ∷ 0x00 ∷ 0x00 ∷ 0x00 ∷ 0x00 ∷ 0x00 ∷ []

-- the CDB of an INQUIRY for the standard data, with an allocation length of 36
abbrev pub inquiry_cdb : List ℕ
inquiry_cdb =
    0x12 ∷ 0x00 ∷ 0x00 ∷ 0x00 ∷ 0x24 ∷ 0x00 ∷ 0x00 ∷ 0x00 ∷ 0x00 ∷ 0x00 ∷ 0x00 ∷ 0x00 ∷ 0x00 ∷ 0x00 ∷ 0x00 ∷ 0x00 ∷ []

-- the CDB of a READ CAPACITY (10)
abbrev pub capacity_cdb : List ℕ
capacity_cdb =
    0x25 ∷ 0x00 ∷ 0x00 ∷ 0x00 ∷ 0x00 ∷ 0x00 ∷ 0x00 ∷ 0x00 ∷ 0x00 ∷ 0x00 ∷ 0x00 ∷ 0x00 ∷ 0x00 ∷ 0x00 ∷ 0x00 ∷ 0x00 ∷ []

-- the number in the first four bytes, if there are as many
abbrev pub first_number : List ℕ → Option ℕ
first_number bytes = if nat_lt (length bytes) 4 then None else Some (big_number 4 bytes)

-- the same of GOOD alone
abbrev pub last_block_by : Status → List ℕ → Option ℕ
last_block_by Good payload = first_number payload
last_block_by CheckCondition payload = None
last_block_by Busy payload = None

-- the address of the last block that a reply to READ CAPACITY (10) states (SBC-2, READ CAPACITY (10) command)
unfoldable pub last_block : Reply → Option ℕ
last_block own_reply = last_block_by own_reply.status own_reply.payload

-- PERIPHERAL QUALIFIER, bits 7 to 5 of the first byte, isn't 011b: there may be a unit (SPC-3, Standard INQUIRY data)
abbrev pub shows_unit : List ℕ → Option Bool
shows_unit bytes = if length bytes == 0 then None else Some (not (slice_index bytes 0 / 2 ^ 5 == 3))

-- the same of GOOD alone
abbrev pub presence_by : Status → List ℕ → Option Bool
presence_by Good payload = shows_unit payload
presence_by CheckCondition payload = None
presence_by Busy payload = None

-- whether a reply to INQUIRY states that there is a unit
unfoldable pub presence_of : Reply → Option Bool
presence_of own_reply = presence_by own_reply.status own_reply.payload

-- the answer where a reply doesn't tell what was asked: that reply or, if it is GOOD, a failure of the target
abbrev pub handed_on_by : Status → Reply → Reply
handed_on_by Good own_reply = check internal_target_failure
handed_on_by CheckCondition own_reply = own_reply
handed_on_by Busy own_reply = own_reply

-- the same by the reply alone
unfoldable pub handed_on : Reply → Reply
handed_on own_reply = handed_on_by own_reply.status own_reply

-- `answer` from the last block, or the reply itself where it doesn't state one
abbrev pub from_last_block : (ℕ → Reply) → Option ℕ → Reply → Reply
from_last_block answer None own_reply = handed_on own_reply
from_last_block answer (Some last) own_reply = answer last

-- the status is GOOD
abbrev pub is_good : Status → Bool
is_good Good = true
is_good CheckCondition = false
is_good Busy = false

-- the reply is `table`, or BUSY in place of one with data, whose allocation may fail
abbrev pub IsReturned : Reply → Reply → Type 0
IsReturned table reply = (reply ≡ table) ⊎ ((reply ≡ busy) × (table.payload ≢ []))

-- The port was given this command of the device server's own, without data, and the reply is what `answer` makes of
-- what the port returned.
pub record ReturnsBy {P : Type 0} (commands : Commands P) (cdb : List ℕ) (answer : Reply → Reply) (old : P) (lun : ℕ)
    (reply : Reply) (new : P) : Type 0 where
  pub own_reply : Reply
  pub asked : commands old lun cdb [] own_reply new
  pub returned : IsReturned (answer own_reply) reply

-- INQUIRY at a LUN stated whether there is a unit
pub record LooksFor {P : Type 0} (commands : Commands P) (old : P) (lun : ℕ) (there : Bool) (new : P) : Type 0 where
  pub own_reply : Reply
  pub asked : commands old lun inquiry_cdb [] own_reply new
  pub stated : presence_of own_reply ≡ Some there
