-- The replies to a command (SPC-3 and SAM-3, Status).
use Rattle.std.specs.Prelude.{ℕ, List, [], Some, None}
use Rattle.ar_scsi.specs.declared.reply.Reply.{Reply}
use Rattle.ar_scsi.specs.declared.reply.Status.TheVariants.{Good, CheckCondition, Busy}
use Rattle.ar_scsi.specs.declared.sense.Sense.{Sense}
use Rattle.ar_scsi.specs.Sense.{fixed_sense}

-- GOOD, with this payload
abbrev pub good : List ℕ → Reply
good payload = record { status = Good; sense = None; payload = payload }

-- CHECK CONDITION, with this sense and no payload
abbrev pub check : Sense → Reply
check sense = record { status = CheckCondition; sense = Some (fixed_sense sense); payload = [] }

-- BUSY, without sense data or payload
abbrev pub busy : Reply
busy = record { status = Busy; sense = None; payload = [] }
