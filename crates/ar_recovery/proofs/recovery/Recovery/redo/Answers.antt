use Rattle.ar_recovery.proofs.Recovering.{redoes_same, redoes_make, redoes_grow, redoes_remove, redoes_command}
use Rattle.ar_recovery.proofs.Recovering.{redoes_unmap}
use Rattle.ar_recovery.proofs.recovery.Recovery.redo.Goals as goal

pub returns-in-Make : goal.returns-in-Make
returns-in-Make g c =
    record { done = λ done. redoes_same _ _ _ _ c.in-Make.is (redoes_make _ _ _ _ (c.make.ensures done)) }

pub returns-in-Grow : goal.returns-in-Grow
returns-in-Grow g c =
    record { done = λ done. redoes_same _ _ _ _ c.in-Grow.is (redoes_grow _ _ _ _ (c.grow.ensures done)) }

pub returns-in-Remove : goal.returns-in-Remove
returns-in-Remove g c =
    record { done = λ done. redoes_same _ _ _ _ c.in-Remove.is (redoes_remove _ _ _ (c.remove.ensures done)) }

pub returns-in-Command : goal.returns-in-Command
returns-in-Command g c =
    record { done = λ done. redoes_same _ _ _ _ c.in-Command.is (redoes_command _ _ _ _ _ (c.command.ensures done)) }

pub returns-in-Unmap : goal.returns-in-Unmap
returns-in-Unmap g c =
    record { done = λ done. redoes_same _ _ _ _ c.in-Unmap.is (redoes_unmap _ _ _ _ _ (c.unmap.ensures done)) }
