use Rattle.ar_live.proofs.Unmapping.{unmap_not_busy}
use Rattle.ar_live.proofs.live.LiveArray.discard.Goals as goal

pub returns-clause-done : goal.returns-clause-done
returns-clause-done g c = unmap_not_busy _ _ _ _ _ _ _ _ c.unmap-reply.ensures.serves
