use Rattle.std.proofs.Common.{ℕ, List, sym, subst}
use Rattle.ar_core.specs.Events.{Event}
use Rattle.ar_core.specs.declared.event.OutcomeOf.TheVariants.{Cmd as CmdOutcome}
use Rattle.ar_core.specs.Served.{ExecutesCommand}
use Rattle.ar_core.specs.Step.{Steps, addr_in}
use Rattle.ar_core.proofs.Commanding.{steps_command}
use Rattle.ar_core.proofs.array.Array.step.Goals as goal

pub returns-in-Cmd : goal.returns-in-Cmd
returns-in-Cmd g c =
    subst (λ (e : Event). Steps c.args.self.now e (CmdOutcome c.command.result) c.command.new.self) (sym c.in-Cmd.is)
    (steps_command c.args.self.now c.command.new.self c.in-Cmd.host c.in-Cmd.lun c.in-Cmd.cdb c.in-Cmd.payload
    c.command.result
    (subst (λ (b : List ℕ). ExecutesCommand c.args.self.now (addr_in c.in-Cmd.host c.in-Cmd.lun) c.in-Cmd.cdb b
    c.command.result c.command.new.self) c.as_slice.ensures c.command.ensures))
