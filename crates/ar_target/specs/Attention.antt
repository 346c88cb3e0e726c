-- The UNIT ATTENTION of a new session or a reset, and of a change of the host's units (SPC-3, Unit attention condition;
-- SAM-3, Unit attention conditions): each unit reports it once, to the first command that isn't exempt.
use Rattle.std.specs.Prelude.{◌≡◌, ◌≢◌, ℕ, ◌==◌, Bool, true, false, ◌&&◌, ◌||◌, not, List, [], take, slice_get}
use Rattle.std.specs.Prelude.{slice_set}
use Rattle.std.specs.Prelude.{nat_lt, if◌then◌else◌, replicate, unwrap_or, None, ⊤}
use Rattle.ar_scsi.specs.declared.reply.Reply.{Reply}
use Rattle.ar_scsi.specs.declared.reply.Status.{Status}
use Rattle.ar_scsi.specs.declared.sense.Sense.{Sense}
use Rattle.ar_scsi.specs.Field.{operation_code}
use Rattle.ar_scsi.specs.Reply.{good, check, busy}
use Rattle.ar_scsi.specs.Sense.{fixed_sense}
use Rattle.ar_frames.specs.Conversation.{Commands}
use Rattle.ar_frames.specs.Frame.{IsReply}
use Rattle.ar_target.specs.declared.attention.Pending.{Pending}
use Rattle.ar_target.specs.declared.attention.Report.{Report}
use Rattle.ar_target.specs.declared.attention.Report.TheVariants.{Made, Due, NoUnit}
use Rattle.ar_target.specs.declared.request.Request.{Request}
use Rattle.ar_target.specs.declared.request.Request.TheVariants as request
use Rattle.ar_target.specs.OwnCommands.{inquiry_cdb, presence_of, handed_on, is_good, LooksFor}

-- UNIT ATTENTION, POWER ON, RESET, OR BUS DEVICE RESET OCCURRED (SPC-3, ASC and ASCQ assignments)
abbrev pub reset_occurred : Sense
reset_occurred = record { key = 0x06; asc = 0x29; ascq = 0x00 }

-- UNIT ATTENTION, REPORTED LUNS DATA HAS CHANGED (SPC-3, ASC and ASCQ assignments)
abbrev pub luns_changed : Sense
luns_changed = record { key = 0x06; asc = 0x3F; ascq = 0x0E }

-- each LUN that a host's unit may have is marked, or none is
abbrev pub all_marked : Bool → List Bool
all_marked mark = replicate 8 mark

-- of a new session, before which the inventory has changed `count` times: each unit has to report that it is new, which
-- covers those changes
abbrev pub of_new_session : ℕ → Pending
of_new_session count = record { resets = all_marked true; changes = all_marked false; seen = count }

-- the inventory has changed `count` times so far: each unit has to report it, unless the session has seen this count
-- (SPC-3, REPORT LUNS command)
abbrev pub looked : Pending → ℕ → Pending
looked pending count =
    if count == pending.seen then pending
    else record { resets = pending.resets; changes = all_marked true; seen = count }

-- a LUN is marked
abbrev pub is_marked : List Bool → ℕ → Bool
is_marked marks lun = unwrap_or (slice_get marks lun) false

-- what the unit at a LUN reports first: a new session, or a reset, before a change of the inventory (SAM-4, Unit
-- attention condition precedence level)
abbrev pub sense_due : Pending → ℕ → Sense
sense_due pending lun = if is_marked pending.resets lun then reset_occurred else luns_changed

-- INQUIRY and REPORT LUNS don't report a UNIT ATTENTION, nor does a REQUEST SENSE that is refused (SPC-3, INQUIRY,
-- REPORT LUNS and REQUEST SENSE commands)
abbrev pub reports : Request → List ℕ → Bool
reports request.Given cdb = not (operation_code cdb == 0x12)
reports (request.StandardData len) cdb = false
reports (request.InvalidAtTarget sense) cdb = false
reports (request.Vpd page len) cdb = false
reports (request.ReportLuns len) cdb = false
reports (request.ReportWellKnown len) cdb = false
reports other cdb = true

-- a command has to make a report, if there is a unit
abbrev pub owes_report : Pending → ℕ → Request → List ℕ → Bool
owes_report pending lun request cdb =
    (is_marked pending.resets lun || is_marked pending.changes lun) && reports request cdb

-- the mark of a LUN is taken away
abbrev pub without_mark : List Bool → ℕ → List Bool
without_mark marks lun = if nat_lt lun 8 then slice_set marks lun false else marks

-- the unit at a LUN has to report a reset
abbrev pub due : Pending → ℕ → Pending
due pending lun =
    record pending { resets = if nat_lt lun 8 then slice_set pending.resets lun true else pending.resets }

-- each unit has to report a reset
abbrev pub all_due : Pending → Pending
all_due pending = record pending { resets = all_marked true }

-- the unit at a LUN has made its report: one of a reset covers a change of the inventory that was due too (SAM-4, Unit
-- attention condition precedence level)
abbrev pub settled : Pending → ℕ → Pending
settled pending lun =
    record { resets = without_mark pending.resets lun; changes = without_mark pending.changes lun; seen = pending.seen }

-- a command with this status has shown the inventory: a REPORT LUNS, whatever it selects, at whatever LUN
abbrev pub shows_inventory : Request → Status → Bool
shows_inventory (request.ReportLuns len) status = is_good status
shows_inventory (request.ReportWellKnown len) status = is_good status
shows_inventory other status = false

-- after a command that made no report: REPORT LUNS clears the report of a change at all LUNs (SPC-4, REPORT LUNS
-- command)
abbrev pub after_reply : Pending → Request → Status → Pending
after_reply pending request status =
    if shows_inventory request status then record pending { changes = all_marked false } else pending

-- the reply that reports a sense: REQUEST SENSE returns it as data, any other command ends in CHECK CONDITION
abbrev pub attention_reply : Sense → Request → Reply
attention_reply sense (request.RequestSense len) = good (take len (fixed_sense sense))
attention_reply sense other = check sense

-- The report stays due: INQUIRY didn't state whether there is a unit, and its reply is the answer; or memory for the
-- data of a REQUEST SENSE ran out.
pub data KeepsReport {P : Type 0} (commands : Commands P) (old : P) (lun : ℕ) (request : Request) (sense : Sense)
    : Reply → P → Type 0 where
  unstated :
      (own_reply : Reply) (new : P) → commands old lun inquiry_cdb [] own_reply new → presence_of own_reply ≡ None
      → KeepsReport commands old lun request sense (handed_on own_reply) new
  unheld :
      (new : P) → LooksFor commands old lun true new → (attention_reply sense request).payload ≢ []
      → KeepsReport commands old lun request sense busy new

-- what came of a report that was due, by whether INQUIRY states that there is a unit
abbrev pub AttemptsReport : {P : Type 0} → Commands P → P → ℕ → Request → Sense → Report → P → Type 0
AttemptsReport commands old lun request sense NoUnit new = LooksFor commands old lun false new
AttemptsReport commands old lun request sense (Made reply) new =
    LooksFor commands old lun true new × (reply ≡ attention_reply sense request)
AttemptsReport commands old lun request sense (Due reply) new = KeepsReport commands old lun request sense reply new

-- the report of a unit: it is made or, out of memory for its data, still due
abbrev pub IsReport : Request → Sense → Report → Type 0
IsReport request sense NoUnit = ⊥
IsReport request sense (Made reply) = reply ≡ attention_reply sense request
IsReport request sense (Due reply) = (reply ≡ busy) × ((attention_reply sense request).payload ≢ [])

-- a reply in it can be returned
abbrev pub HasReply : Report → Type 0
HasReply NoUnit = ⊤
HasReply (Made reply) = IsReply reply
HasReply (Due reply) = IsReply reply
