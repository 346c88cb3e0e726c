use Rattle.ar_durable.proofs.Keeping.{records_kept}
use Rattle.ar_durable.proofs.durable.DurableArray.advance.Goals as goal

pub invariant_of-self : goal.invariant_of-self
invariant_of-self g c =
    records_kept g.M.Media.seen g.M.Media.is_clean c.self.inside.store c.advance-done.new.self
    c.self.inside.counted.history c.advance-done.ensures.units c.self.invariant

pub invariant_of-self-in-Ok-false : goal.invariant_of-self-in-Ok-false
invariant_of-self-in-Ok-false g c =
    records_kept g.M.Media.seen g.M.Media.is_clean c.self.inside.store c.advance-done.new.self
    c.self.inside.counted.history c.advance-done.ensures.units c.self.invariant

pub invariant_of-self-in-Err : goal.invariant_of-self-in-Err
invariant_of-self-in-Err g c =
    records_kept g.M.Media.seen g.M.Media.is_clean c.self.inside.store c.advance-done.new.self
    c.self.inside.counted.history c.advance-done.ensures.units c.self.invariant
