-- The audit at the end of a service.
use Rattle.std.specs.Prelude.{◌≡◌, ℕ, false, List, Some, is_some, All, length, map, sum, count_by}
use Rattle.std.specs.List.{list_all}
use Rattle.ar_audit.specs.Audit.{IsFirstMismatch, IsHostsPart}
use Rattle.ar_served.specs.History.{is_command}
use Rattle.ar_served.specs.Seat.{SeatState}
use Rattle.ar_audit.specs.declared.audit.Mismatch.{Mismatch}
use Rattle.ar_audit.specs.declared.audit.Report.{Report}
use Rattle.ar_served.specs.declared.entry.Entry.{Entry}
use Rattle.ar_plan.specs.declared.plan.ServiceFault.{ServiceFault}
use Rattle.ar_plan.specs.declared.plan.ServiceFault.TheVariants as faults
use Rattle.ar_sessions.specs.Desk.{Places}

-- The seats of the four hosts came back, and each transcript is its host's part of the history, which has no other
-- command.
pub record IsAudited (history : List Entry) (places : Places) (report : Report) : Type 0 where
  pub seats : List SeatState
  pub back : places ≡ map Some seats
  pub parts : All (IsHostsPart history) seats
  pub commands : report.commands ≡ map (λ (seat : SeatState). length seat.transcript) seats
  pub none_else : sum report.commands ≡ count_by is_command history

-- the seats came back, and this is the first transcript that differs from its host's part of the history, and where
pub record Differs (history : List Entry) (places : Places) (mismatch : Mismatch) : Type 0 where
  pub seats : List SeatState
  pub back : places ≡ map Some seats
  pub first : IsFirstMismatch history seats mismatch.host.number mismatch.position

-- why the audit fails: a seat is missing, or a transcript differs
abbrev pub FailsAudit : List Entry → Places → ServiceFault → Type 0
FailsAudit history places faults.SeatOut = list_all is_some places ≡ false
FailsAudit history places (faults.Mismatch mismatch) = Differs history places mismatch
FailsAudit history places fault = ⊥
