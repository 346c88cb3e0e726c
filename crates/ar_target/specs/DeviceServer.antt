-- A device server as a port: what a login and a command do at it.
use Rattle.std.specs.Prelude.{◌≡◌, ℕ, Bool, true, false, List, [], Option, Some, None}
use Rattle.ar_scsi.specs.declared.reply.Reply.{Reply}
use Rattle.ar_frames.specs.declared.port.Login.{Login}
use Rattle.ar_frames.specs.Conversation.{Commands}
use Rattle.ar_frames.specs.Port.{Logins}
use Rattle.ar_target.specs.declared.attributes.Attributes.{Attributes}
use Rattle.ar_target.specs.declared.reset_port.ResetOutcome.{ResetOutcome}
use Rattle.ar_target.specs.declared.reset_port.ResetOutcome.TheVariants.{Done, NoUnit}
use Rattle.ar_target.specs.declared.attention.Pending.{Pending}
use Rattle.ar_target.specs.Attention.{KeepsReport, after_reply, all_due, attention_reply, due, looked, of_new_session}
use Rattle.ar_target.specs.Attention.{owes_report, sense_due, settled}
use Rattle.ar_target.specs.DiscardPort.{ThinUnits}
use Rattle.ar_target.specs.FlushPort.{UnitFlushes}
use Rattle.ar_target.specs.InventoryPort.{InventoryChanges, UnitInventory}
use Rattle.ar_target.specs.Request.{request_of}
use Rattle.ar_target.specs.Serving.{MeetsCommand}
use Rattle.ar_target.specs.OwnCommands.{LooksFor, inquiry_cdb, presence_of}

-- a device server's state: what it reports of the array and of the host, what the units have yet to report, and the
-- port
pub record ServerState (P : Type 0) : Type 0 where
  pub attributes : Attributes
  pub pending : Pending
  pub port : P

-- a login is the port's, whose units are named after the host from then on, and have yet to report that the session is
-- new (SAM-3, Unit attention conditions); changes of the inventory count from then on
pub record LogsInAs {P : Type 0} (logins : Logins P) (counts : InventoryChanges P) (old : ServerState P) (host : ℕ)
    (login : Login) (new : ServerState P) : Type 0 where
  pub asked : logins old.port host login new.port
  pub named : new.attributes ≡ record old.attributes { host = host }
  pub count : ℕ
  pub counted : counts new.port count
  pub reset : new.pending ≡ of_new_session count

-- A command is answered by what its CDB asks for, unless its unit has a report to make, and the command makes it. Where
-- the report can't be made, it stays due, and nothing else is done.
pub data ServesAsDevice {P : Type 0} (commands : Commands P) (flushes : UnitFlushes P) (thin : ThinUnits P)
    (old : ServerState P) (lun generation : ℕ) (cdb payload : List ℕ) : Reply → ServerState P → Type 0 where
  nothing_due :
      (reply : Reply) (port : P) → owes_report old.pending lun (request_of cdb) cdb ≡ false
      → MeetsCommand commands flushes thin old.attributes old.port lun generation cdb payload reply port
      → ServesAsDevice commands flushes thin old lun generation cdb payload reply
      (record old { pending = after_reply old.pending (request_of cdb) reply.status; port = port })
  no_unit :
      (reply : Reply) (mid port : P) → owes_report old.pending lun (request_of cdb) cdb ≡ true
      → LooksFor commands old.port lun false mid
      → MeetsCommand commands flushes thin old.attributes mid lun generation cdb payload reply port
      → ServesAsDevice commands flushes thin old lun generation cdb payload reply
      (record old { pending = after_reply old.pending (request_of cdb) reply.status; port = port })
  reported :
      (port : P) → owes_report old.pending lun (request_of cdb) cdb ≡ true → LooksFor commands old.port lun true port
      → ServesAsDevice commands flushes thin old lun generation cdb payload
      (attention_reply (sense_due old.pending lun) (request_of cdb))
      (record old { pending = settled old.pending lun; port = port })
  still_due :
      (reply : Reply) (port : P) → owes_report old.pending lun (request_of cdb) cdb ≡ true
      → KeepsReport commands old.port lun (request_of cdb) (sense_due old.pending lun) reply port
      → ServesAsDevice commands flushes thin old lun generation cdb payload reply (record old { port = port })

-- a command, before which the device server looks whether the inventory of the host's units has changed, and of which
-- generation the unit is
pub record ServesAfterLook {P : Type 0} (commands : Commands P) (flushes : UnitFlushes P) (thin : ThinUnits P)
    (inventory : UnitInventory P) (old : ServerState P) (lun : ℕ) (cdb payload : List ℕ) (reply : Reply)
    (new : ServerState P) : Type 0 where
  pub count : ℕ
  pub counted : inventory.counts old.port count
  pub generation : ℕ
  pub generated : inventory.generations old.port lun generation
  pub serves :
      ServesAsDevice commands flushes thin (record old { pending = looked old.pending count }) lun generation cdb
      payload reply new

-- the outcome of a reset by whether INQUIRY states that there is a unit: one that can't be asked may be there
abbrev pub reset_outcome : Option Bool → ResetOutcome
reset_outcome (Some false) = NoUnit
reset_outcome (Some true) = Done
reset_outcome None = Done

-- a reset of the unit at a LUN: from then on it has to report that, if there is one
pub record ResetsUnit {P : Type 0} (commands : Commands P) (old : ServerState P) (lun : ℕ) (outcome : ResetOutcome)
    (new : ServerState P) : Type 0 where
  pub own_reply : Reply
  pub asked : commands old.port lun inquiry_cdb [] own_reply new.port
  pub outcome_is : outcome ≡ reset_outcome (presence_of own_reply)
  pub attributes : new.attributes ≡ old.attributes
  pub pending : new.pending ≡ due old.pending lun

-- a reset of the unit at a LUN, or of all units of the host, which have to report that from then on (SAM-3, Unit
-- attention conditions)
abbrev pub ResetsUnits : {P : Type 0} → Commands P → ServerState P → Option ℕ → ResetOutcome → ServerState P → Type 0
ResetsUnits commands old (Some lun) outcome new = ResetsUnit commands old lun outcome new
ResetsUnits commands old None outcome new = (outcome ≡ Done) × (new ≡ record old { pending = all_due old.pending })
