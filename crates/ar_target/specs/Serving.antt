-- What a device server does with a command, request by request.
use Rattle.std.specs.Prelude.{◌≡◌, ℕ, ◌+◌, ◌-◌, Bool, nat_lt, IsTrue, false, List, [], take, Some, None}
use Rattle.ar_scsi.specs.declared.reply.Reply.{Reply}
use Rattle.ar_scsi.specs.Reply.{good, check}
use Rattle.ar_scsi.specs.Sense.{logical_block_address_out_of_range, logical_unit_not_supported, internal_target_failure}
use Rattle.ar_frames.specs.Conversation.{Commands}
use Rattle.ar_target.specs.declared.attributes.Attributes.{Attributes}
use Rattle.ar_target.specs.declared.flush_port.FlushOutcome.{FlushOutcome}
use Rattle.ar_target.specs.declared.flush_port.FlushOutcome.TheVariants.{Done, NoUnit, ArrayFailed}
use Rattle.ar_target.specs.declared.request.Request.{Request}
use Rattle.ar_target.specs.declared.request.Request.TheVariants as request
use Rattle.ar_target.specs.Answer.{invalid_answer, vpd_answer, mode_answer, long_capacity_answer, sense_answer}
use Rattle.ar_target.specs.Answer.{ready_answer, report_answer, standard_answer, verify_answer}
use Rattle.ar_target.specs.DiscardPort.{ThinUnits}
use Rattle.ar_target.specs.LbaStatus.{GetsLbaStatus}
use Rattle.ar_target.specs.Discarding.{Unmaps, WritesSame}
use Rattle.ar_target.specs.FlushPort.{UnitFlushes}
use Rattle.ar_target.specs.Luns.{ReportsLuns, lun_list}
use Rattle.ar_target.specs.Request.{request_of}
use Rattle.ar_target.specs.OwnCommands.{ready_cdb, inquiry_cdb, capacity_cdb, last_block, handed_on, IsReturned}
use Rattle.ar_target.specs.OwnCommands.{ReturnsBy}

-- `count` blocks from `lba` on, or all from `lba` on if `count` is 0, aren't on a unit whose last block is `last`
-- (SBC-2, SYNCHRONIZE CACHE (10) command)
abbrev pub is_after : ℕ → ℕ → ℕ → Bool
is_after last lba count = nat_lt last (lba + (count - 1))

-- the reply by the outcome of a flush
abbrev pub flush_reply : FlushOutcome → Reply
flush_reply Done = good []
flush_reply NoUnit = check logical_unit_not_supported
flush_reply ArrayFailed = check internal_target_failure

-- a unit was flushed, and the reply is that of the outcome
pub record FlushesAtPort {P : Type 0} (flushes : UnitFlushes P) (old : P) (lun : ℕ) (reply : Reply) (new : P) : Type 0
  where
    pub outcome : FlushOutcome
    pub flushed : flushes old lun outcome new
    pub own_reply : reply ≡ flush_reply outcome

-- SYNCHRONIZE CACHE: READ CAPACITY (10) is asked for first. Where it doesn't state the last block, its reply is the
-- answer; a range that isn't on the unit is refused; otherwise the whole unit is flushed.
pub data Synchronizes {P : Type 0} (commands : Commands P) (flushes : UnitFlushes P) (lba count : ℕ) (old : P)
    (lun : ℕ) : Reply → P → Type 0 where
  unit_unready :
      (own_reply : Reply) (new : P) → commands old lun capacity_cdb [] own_reply new → last_block own_reply ≡ None
      → Synchronizes commands flushes lba count old lun (handed_on own_reply) new
  range_after :
      (own_reply : Reply) (last : ℕ) (new : P) → commands old lun capacity_cdb [] own_reply new
      → last_block own_reply ≡ Some last
      → IsTrue (is_after last lba count)
      → Synchronizes commands flushes lba count old lun (check logical_block_address_out_of_range) new
  unit_flushed :
      (own_reply : Reply) (last : ℕ) (mid : P) (reply : Reply) (new : P)
      → commands old lun capacity_cdb [] own_reply mid
      → last_block own_reply ≡ Some last → is_after last lba count ≡ false → FlushesAtPort flushes mid lun reply new
      → Synchronizes commands flushes lba count old lun reply new

-- an INQUIRY of the standard data was given to the port as it came, and the reply is what is made of what the port
-- returned
pub record ReturnsStandard {P : Type 0} (commands : Commands P) (len : ℕ) (cdb payload : List ℕ) (old : P)
    (lun : ℕ) (reply : Reply) (new : P) : Type 0 where
  pub own_reply : Reply
  pub given : commands old lun cdb payload own_reply new
  pub returned : IsReturned (standard_answer len own_reply) reply

-- What is done with each request at the port, and its reply: at a LUN, whose unit is of this generation.
abbrev pub MeetsRequest : {P : Type 0} → Commands P → UnitFlushes P → ThinUnits P → Attributes → Request → P
    → ℕ → ℕ → List ℕ → List ℕ → Reply → P → Type 0
MeetsRequest commands flushes thin attributes request.Given old lun generation cdb payload reply new =
    commands old lun cdb payload reply new
MeetsRequest commands flushes thin attributes (request.StandardData len) old lun generation cdb payload reply new =
    ReturnsStandard commands len cdb payload old lun reply new
MeetsRequest commands flushes thin attributes (request.Transfer own) old lun generation cdb payload reply new =
    commands old lun own payload reply new
MeetsRequest commands flushes thin attributes (request.Verify read compares) old lun generation cdb payload reply new =
    ReturnsBy commands read (verify_answer compares payload) old lun reply new
MeetsRequest commands flushes thin attributes (request.InvalidAtTarget sense) old lun generation cdb payload reply new =
    (reply ≡ check sense) × (new ≡ old)
MeetsRequest commands flushes thin attributes (request.InvalidAtUnit sense) old lun generation cdb payload reply new =
    ReturnsBy commands capacity_cdb (invalid_answer sense) old lun reply new
MeetsRequest commands flushes thin attributes (request.Vpd page len) old lun generation cdb payload reply new =
    ReturnsBy commands inquiry_cdb (vpd_answer attributes lun generation page len) old lun reply new
MeetsRequest commands flushes thin attributes (request.ReportLuns len) old lun generation cdb payload reply new =
    ReportsLuns commands len old reply new
MeetsRequest commands flushes thin attributes (request.ReportWellKnown len) old lun generation cdb payload reply new =
    IsReturned (good (take len (lun_list []))) reply × (new ≡ old)
MeetsRequest commands flushes thin attributes (request.ModeSense sense) old lun generation cdb payload reply new =
    ReturnsBy commands capacity_cdb (mode_answer attributes.write_back sense) old lun reply new
MeetsRequest commands flushes thin attributes (request.RequestSense len) old lun generation cdb payload reply new =
    ReturnsBy commands ready_cdb (sense_answer len) old lun reply new
MeetsRequest commands flushes thin attributes (request.LongCapacity len) old lun generation cdb payload reply new =
    ReturnsBy commands capacity_cdb (long_capacity_answer attributes.block_sectors len) old lun reply new
MeetsRequest commands flushes thin attributes (request.LbaStatus lba len) old lun generation cdb payload reply new =
    GetsLbaStatus commands thin.runs attributes.block_sectors lba len old lun reply new
MeetsRequest commands flushes thin attributes (request.Synchronize lba count) old lun generation cdb payload reply new =
    Synchronizes commands flushes lba count old lun reply new
MeetsRequest commands flushes thin attributes (request.Unmap len) old lun generation cdb payload reply new =
    Unmaps commands thin.discards attributes.block_sectors len old lun payload reply new
MeetsRequest commands flushes thin attributes (request.WriteSame same) old lun generation cdb payload reply new =
    WritesSame commands thin.discards attributes.block_sectors same old lun payload reply new
MeetsRequest commands flushes thin attributes request.StartStop old lun generation cdb payload reply new =
    ReturnsBy commands ready_cdb ready_answer old lun reply new
MeetsRequest commands flushes thin attributes request.SelfTest old lun generation cdb payload reply new =
    ReturnsBy commands ready_cdb ready_answer old lun reply new
MeetsRequest commands flushes thin attributes (request.Report report len) old lun generation cdb payload reply new =
    ReturnsBy commands capacity_cdb (report_answer report len) old lun reply new

-- what a device server does with a command: what its CDB asks for
abbrev pub MeetsCommand : {P : Type 0} → Commands P → UnitFlushes P → ThinUnits P → Attributes → P → ℕ → ℕ → List ℕ
    → List ℕ → Reply → P → Type 0
MeetsCommand commands flushes thin attributes old lun generation cdb payload reply new =
    MeetsRequest commands flushes thin attributes (request_of cdb) old lun generation cdb payload reply new
