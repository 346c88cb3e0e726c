use Rattle.std.proofs.Common.{refl, length, subst}
use Rattle.ar_core.specs.declared.event.EventOf.TheVariants.{Balance as BalanceEvent}
use Rattle.ar_core.specs.declared.event.OutcomeOf.TheVariants.{Balance as BalanceOutcome}
use Rattle.ar_volume.specs.Image.{ArrayState}
use Rattle.ar_core.specs.Step.{Steps}
use Rattle.ar_core.proofs.Balancing.{steps_balanced}
use Rattle.ar_core.proofs.Events.{quiet_kept}
use Rattle.ar_core.proofs.array.Array.balance_one.Goals as goal

pub invariant_of-self : goal.invariant_of-self
invariant_of-self g c =
    quiet_kept c.self.inside.blocks c.balance_one.new.self BalanceEvent (BalanceOutcome c.balance_one.result)
    (length c.self.inside.block)
    (steps_balanced c.self.inside.blocks c.balance_one.new.self c.balance_one.result c.balance_one.ensures.balances
    c.balance_one.ensures.seen) refl
    c.self.invariant.0 c.self.invariant.1

pub returns : goal.returns
returns g c =
    subst (λ (s : ArrayState). Steps s BalanceEvent (BalanceOutcome c.balance_one.result) c.balance_one.new.self)
    c.self.view_is
    (steps_balanced c.self.inside.blocks c.balance_one.new.self c.balance_one.result c.balance_one.ensures.balances
    c.balance_one.ensures.seen)
