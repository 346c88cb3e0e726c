-- What a device server does with a command, by the request that its CDB is.
use Rattle.std.proofs.Common.{◌≡◌, ℕ, Bool, true, false, List, [], Some, subst}
use Rattle.ar_scsi.specs.declared.reply.Reply.{Reply}
use Rattle.ar_scsi.specs.declared.sense.Sense.{Sense}
use Rattle.ar_frames.specs.Conversation.{Commands}
use Rattle.ar_target.specs.declared.attention.Pending.{Pending}
use Rattle.ar_target.specs.declared.request.Request.{Request}
use Rattle.ar_target.specs.declared.attention.Report.{Report}
use Rattle.ar_target.specs.declared.attention.Report.TheVariants.{Made, Due, NoUnit}
use Rattle.ar_target.specs.Attention.{AttemptsReport, IsReport, KeepsReport, after_reply, attention_reply, owes_report}
use Rattle.ar_target.specs.Attention.{sense_due, settled, unheld}
use Rattle.ar_target.specs.DeviceServer.{ServerState, ServesAsDevice, nothing_due, no_unit, reported, still_due}
use Rattle.ar_target.specs.DiscardPort.{ThinUnits}
use Rattle.ar_target.specs.FlushPort.{UnitFlushes}
use Rattle.ar_target.specs.Request.{request_of}
use Rattle.ar_target.specs.Serving.{MeetsRequest}
use Rattle.ar_target.specs.OwnCommands.{LooksFor, inquiry_cdb, presence_of}

-- nothing is due
pub serves_at_once :
    {P : Type 0} {commands : Commands P} {flushes : UnitFlushes P} {thin : ThinUnits P}
    (old : ServerState P) {lun generation : ℕ} {cdb payload : List ℕ}
    {reply : Reply} {port : P} (pending : Pending) (request : Request) → request ≡ request_of cdb
    → owes_report old.pending lun request cdb ≡ false
    → MeetsRequest commands flushes thin old.attributes request old.port lun generation cdb payload reply port
    → pending ≡ after_reply old.pending request reply.status
    → ServesAsDevice commands flushes thin old lun generation cdb payload reply
    (record old { pending = pending; port = port })
serves_at_once {commands = commands} {flushes = flushes} {thin = thin} old {lun = lun} {generation = generation}
    {cdb = cdb} {payload = payload} {reply = reply} {port = port} pending request is due meets same =
    rw (same, is)
    (nothing_due reply port (subst (λ (r : Request). owes_report old.pending lun r cdb ≡ false) is due)
    (subst (λ (r : Request). MeetsRequest commands flushes thin old.attributes r old.port lun generation cdb payload
    reply port) is meets))

-- it is due, and there is no unit
pub serves_without_unit :
    {P : Type 0} {commands : Commands P} {flushes : UnitFlushes P} {thin : ThinUnits P}
    (old : ServerState P) {lun generation : ℕ} {cdb payload : List ℕ}
    {reply : Reply} {mid port : P} (pending : Pending) (request : Request) → request ≡ request_of cdb
    → owes_report old.pending lun request cdb ≡ true → LooksFor commands old.port lun false mid
    → MeetsRequest commands flushes thin old.attributes request mid lun generation cdb payload reply port
    → pending ≡ after_reply old.pending request reply.status
    → ServesAsDevice commands flushes thin old lun generation cdb payload reply
    (record old { pending = pending; port = port })
serves_without_unit {commands = commands} {flushes = flushes} {thin = thin} old {lun = lun} {generation = generation}
    {cdb = cdb} {payload = payload} {reply = reply} {mid = mid} {port = port} pending request is due seeks meets same =
    rw (same, is)
    (no_unit reply mid port (subst (λ (r : Request). owes_report old.pending lun r cdb ≡ true) is due) seeks
    (subst (λ (r : Request). MeetsRequest commands flushes thin old.attributes r mid lun generation cdb payload
    reply port) is meets))

-- it is reported
pub serves_attention :
    {P : Type 0} {commands : Commands P} {flushes : UnitFlushes P} {thin : ThinUnits P}
    (old : ServerState P) {lun generation : ℕ} {cdb payload : List ℕ}
    {reply : Reply} {port : P} (pending : Pending) (request : Request) (sense : Sense) → request ≡ request_of cdb
    → owes_report old.pending lun request cdb ≡ true → sense ≡ sense_due old.pending lun
    → LooksFor commands old.port lun true port
    → reply ≡ attention_reply sense request → pending ≡ settled old.pending lun
    → ServesAsDevice commands flushes thin old lun generation cdb payload reply
    (record { attributes = old.attributes; pending = pending; port = port })
serves_attention {commands = commands} {flushes = flushes} {thin = thin} old {lun = lun} {generation = generation}
    {cdb = cdb} {payload = payload} {reply = reply} {port = port} pending request sense is due first looks made same =
    rw (same, made, first, is)
    (reported port (subst (λ (r : Request). owes_report old.pending lun r cdb ≡ true) is due) looks)

-- it is still due
pub serves_due :
    {P : Type 0} {commands : Commands P} {flushes : UnitFlushes P} {thin : ThinUnits P}
    (old : ServerState P) {lun generation : ℕ} {cdb payload : List ℕ}
    {reply : Reply} {port : P} (request : Request) (sense : Sense) → request ≡ request_of cdb
    → owes_report old.pending lun request cdb ≡ true → sense ≡ sense_due old.pending lun
    → KeepsReport commands old.port lun request sense reply port
    → ServesAsDevice commands flushes thin old lun generation cdb payload reply (record old { port = port })
serves_due {commands = commands} {flushes = flushes} {thin = thin} old {lun = lun} {generation = generation}
    {cdb = cdb} {payload = payload} {reply = reply} {port = port} request sense is due first keeps =
    still_due reply port (subst (λ (r : Request). owes_report old.pending lun r cdb ≡ true) is due)
    (subst (λ (s : Sense). KeepsReport commands old.port lun (request_of cdb) s reply port) first
    (subst (λ (r : Request). KeepsReport commands old.port lun r sense reply port) is keeps))

-- what came of a report, where the port states that there is a unit
pub attempted_at_unit :
    {P : Type 0} (commands : Commands P) {old new : P} {lun : ℕ} {own_reply : Reply} (request : Request)
    (sense : Sense) (report : Report)
    → commands old lun inquiry_cdb [] own_reply new → presence_of own_reply ≡ Some true → IsReport request sense report
    → AttemptsReport commands old lun request sense report new
attempted_at_unit commands request sense NoUnit asked stated is = absurd is
attempted_at_unit commands {own_reply = own_reply} request sense (Made reply) asked stated is =
    (record { own_reply = own_reply; asked = asked; stated = stated }, is)
attempted_at_unit commands {new = new} {own_reply = own_reply} request sense (Due reply) asked stated is =
    rw is.0 (unheld new (record { own_reply = own_reply; asked = asked; stated = stated }) is.1)
